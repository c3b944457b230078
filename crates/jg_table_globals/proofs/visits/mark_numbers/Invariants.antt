use Rattle.std.proofs.Common.{take}
use Rattle.std.specs.Prelude.{◌==◌}
use Rattle.std.specs.List.{list_any}
use Rattle.jg_lists.specs.Marks.{Marks}
use Rattle.jg_table_globals.proofs.visits.mark_numbers.Given as goal

-- the objects so far are marked
abbrev pub invariant-loop-seat : goal.invariant-loop-seat
invariant-loop-seat g l =
    Marks (λ o. list_any (λ seat. seat.value.0 == o) (take l.seat-index l.numbers)) (g.M.Marking.mark_of l.initial.marks) (g.M.Marking.mark_of l.marks)
