use Rattle.std.proofs.Common.{◌≡◌, ◌++◌, flat_map, map, take, ap, sym, subst, ◌∙◌}
use Rattle.jg_explain.specs.Explained.{AreWithin, causes, watches_of}
use Rattle.jg_explain.specs.Texts.{explanations_text}
use Rattle.jg_explain.specs.Watched.{watched}
use Rattle.jg_explain.proofs.Causing.{all_watched}
use Rattle.jg_explain.proofs.explaining.explain_first.Goals as goal

pub returns-in-Ok : goal.returns-in-Ok
returns-in-Ok g c =
    let whole = c.args.guard.now in
    let told = take c.args.most (causes whole.setup whole.journal) in
    let end = c.journal_len-end.result in
    let ask = watched whole.setup whole.journal end in
    let within = subst (λ n. AreWithin n told) (sym c.journal_len-end.ensures.len) c.in_ok-denials.ensures.within in
    let seen : c.deref-2.result.now ≡ map ask (flat_map watches_of told) =
    c.deref-2.ensures.value ∙ c.in_ok-watches.ensures ∙ ap (map ask) c.in_ok-denials.ensures.watches in
    let denials = c.deref.ensures.value ∙ c.in_ok-denials.ensures.denials in
    c.in-Ok.ensures told denials (seen ∙ all_watched whole.setup whole.journal end c.args.most within)
    ∙ ap (λ l. l ++ explanations_text whole.setup whole.journal c.args.most) c.new-text.ensures.bytes
