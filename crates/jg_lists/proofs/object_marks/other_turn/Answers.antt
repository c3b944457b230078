use Rattle.std.proofs.Common.{◌∙◌, ap, get_or, false, not, sym, ℕ, Bool, zero-add}
use Rattle.std.specs.Prelude.{◌==◌, ◌&&◌, ◌||◌}
use Rattle.std.specs.List.{list_any, range_with_len}
use Rattle.jg_lists.proofs.Lists.{any_more}
use Rattle.jg_lists.proofs.object_marks.other_turn.Goals as goal

pub loop-at-preserved : goal.loop-at-preserved
loop-at-preserved c =
    let p : ℕ → Bool = λ i. get_or c.args.wanted.now i false && not (get_or c.args.turns.now i 0 == c.args.turn) in
    let at = c.loop-at.at in
    ap (λ b. b || p at) c.loop-at.invariant ∙ ap (λ (i : ℕ). list_any p (range_with_len 0 at) || p i) (sym (zero-add at)) ∙ sym (any_more p 0 at)
