use Rattle.std.proofs.Common.{◌≡◌, false, not, slice_index_or}
use Rattle.std.specs.Prelude.{◌==◌, ◌&&◌}
use Rattle.std.specs.List.{list_any, range_with_len}
use Rattle.jg_lists.proofs.object_marks.other_turn.Given as goal

-- one of the places so far has another turn
abbrev pub invariant-loop-at : goal.invariant-loop-at
invariant-loop-at l = l.other ≡ list_any (λ i. slice_index_or l.wanted i false && not (slice_index_or l.turns i 0 == l.turn)) (range_with_len 0 l.at)
