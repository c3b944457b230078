use Rattle.std.proofs.Common.{◌∙◌, ◌+◌, ◌-◌, ap, arith, drop, get_or, false, length, not, take, ℕ, List, Bool}
use Rattle.std.specs.Prelude.{◌==◌, ◌&&◌}
use Rattle.std.specs.List.{list_any, range_with_len}
use Rattle.jg_lists.proofs.Lists.{any_agree}
use Rattle.jg_lists.proofs.Marks.{set_from}
use Rattle.jg_lists.proofs.object_marks.ObjectMarks.misses.Goals as goal

pub returns-clause-within : goal.returns-clause-within
returns-clause-within g c marked =
    let n = length c.args.wanted.now in
    let turns = c.self.inside.turns.items in
    c.other_turn.ensures
    ∙ ap (λ (ts : List ℕ). list_any
    (λ i. get_or c.args.wanted.now i false && not (get_or (take (c.args.first + n - c.args.first) (drop c.args.first ts)) i 0 == c.self.inside.turn))
    (range_with_len 0 n)) c.deref.ensures.value
    ∙ any_agree (λ i. get_or c.args.wanted.now i false
    && not (get_or (take (c.args.first + n - c.args.first) (drop c.args.first turns)) i 0 == c.self.inside.turn))
    (λ i. get_or c.args.wanted.now i false && not (get_or c.args.self.now (c.args.first + i) false)) 0 n
    (λ i h. ap (λ b. get_or c.args.wanted.now i false && not b)
    (set_from turns c.self.inside.turn c.args.first n i (omega (arith, h))
    (omega (arith, c.if-first-count.false, c.if-wanted-count.false, c.saturating_sub-count.ensures, c.len.ensures, c.self.inside.turns.ok.0))
    ∙ ap (λ (ms : List Bool). get_or ms (c.args.first + i) false) c.self.view_is))
