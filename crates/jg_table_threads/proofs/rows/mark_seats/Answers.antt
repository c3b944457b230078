use Rattle.jg_lists.specs.declared.by_number.Numbered.{Numbered}
use Rattle.jg_lists.proofs.Marks.{marks_item}
use Rattle.jg_table_threads.specs.declared.row.Row.{Row}
use Rattle.jg_table_threads.specs.History.{is_object}
use Rattle.jg_table_threads.proofs.rows.mark_seats.Goals as goal

pub loop-seat-preserved : goal.loop-seat-preserved
loop-seat-preserved g c =
    marks_item (λ (seat : Numbered Row) o. is_object o seat.value.pending) c.args.seats.now c.loop-seat.seat-index _ (g.M.Marking.mark_of c.args.marks.now)
    (g.M.Marking.mark_of c.loop-seat.marks) _ c.loop-seat-test.true
    c.loop-seat.invariant c.mark_pending.ensures
