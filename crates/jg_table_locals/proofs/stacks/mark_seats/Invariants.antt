use Rattle.std.proofs.Common.{take}
use Rattle.std.specs.Prelude.{◌==◌}
use Rattle.std.specs.List.{list_any}
use Rattle.jg_lists.specs.Marks.{Marks}
use Rattle.jg_table_locals.proofs.stacks.mark_seats.Given as goal

-- the objects of the stacks so far are marked
abbrev pub invariant-loop-seat : goal.invariant-loop-seat
invariant-loop-seat g l =
    Marks (λ o. list_any (λ seat. list_any (λ s. s.object == o) seat.value.locals) (take l.seat-index l.seats)) (g.M.Marking.mark_of l.initial.marks)
    (g.M.Marking.mark_of l.marks)
