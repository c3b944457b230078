use Rattle.std.proofs.Common.{◌≡◌, map, ap, sym, ◌∙◌}
use Rattle.jg_explain.specs.Left.{watch_of}
use Rattle.jg_explain.specs.Watched.{watched}
use Rattle.jg_explain.proofs.Leaving.{all_left_known}
use Rattle.jg_explain.proofs.left.explain_leaks.Goals as goal

pub push_lines-requires : goal.push_lines-requires
push_lines-requires g c =
    let whole = c.args.guard.now in
    let end = c.journal_len-end.result in
    let ask = watched whole.setup whole.journal end in
    let things = c.deref-2.result.now in
    let same : c.deref.result.now ≡ things = c.deref.ensures.value ∙ sym c.deref-2.ensures.value in
    let seen : c.deref-3.result.now ≡ map ask (map (watch_of end) things) =
    c.deref-3.ensures.value ∙ c.in_ok-watches.ensures ∙ ap (map ask) (c.in-Ok-watches_of.ensures ∙ ap (map (watch_of end)) same) in
    seen ∙ all_left_known whole.setup whole.journal end c.journal_len-end.ensures.len things
