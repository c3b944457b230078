use Rattle.std.proofs.Common.{take}
use Rattle.std.specs.List.{list_any}
use Rattle.jg_lists.specs.Marks.{Marks}
use Rattle.jg_table_threads.specs.History.{is_object}
use Rattle.jg_table_threads.proofs.rows.mark_seats.Given as goal

-- the exceptions of the seats so far are marked
abbrev pub invariant-loop-seat : goal.invariant-loop-seat
invariant-loop-seat g l =
    Marks (λ o. list_any (λ seat. is_object o seat.value.pending) (take l.seat-index l.seats)) (g.M.Marking.mark_of l.initial.marks)
    (g.M.Marking.mark_of l.marks)
