use Rattle.std.proofs.Common.{◌≡◌, ◌≤◌, ◌++◌, flat_map, length, map, ap, ◌∙◌, arith}
use Rattle.jg_explain.specs.Explained.{cause_at, watches_of}
use Rattle.jg_explain.specs.Texts.{cause_text}
use Rattle.jg_explain.specs.Watched.{watched}
use Rattle.jg_explain.proofs.Causing.{every_known}
use Rattle.jg_explain.proofs.Newest.{newest_told}
use Rattle.jg_explain.proofs.Single.{cause_within}
use Rattle.jg_explain.proofs.explaining.explain_newest.Goals as goal

pub returns-in-Ok : goal.returns-in-Ok
returns-in-Ok g c =
    let whole = c.args.guard.now in
    let place = c.in-Some.place in
    let ask = watched whole.setup whole.journal place in
    let told = cause_at whole.setup whole.journal place in
    let below : place ≤ length whole.journal = omega (arith, c.in-Some.ensures.below) in
    let within = cause_within whole.setup whole.journal place below in
    let seen : c.deref-2.result.now ≡ map ask (flat_map watches_of told) =
    c.deref-2.ensures.value ∙ c.in_ok-watches.ensures ∙ ap (map ask) c.in_ok-denials.ensures.watches in
    let denials = c.deref.ensures.value ∙ c.in_ok-denials.ensures.denials in
    let text = c.in-Ok.ensures told denials (seen ∙ every_known whole.setup whole.journal place told within)
    ∙ ap (λ l. l ++ flat_map (cause_text whole.setup whole.journal) told) c.new-text.ensures.bytes in
    newest_told whole.setup whole.journal place _ c.in-Some.ensures.newest text
