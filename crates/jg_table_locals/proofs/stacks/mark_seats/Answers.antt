use Rattle.std.proofs.Common.{subst}
use Rattle.std.specs.Prelude.{◌==◌}
use Rattle.std.specs.List.{list_any}
use Rattle.jg_lists.specs.declared.by_number.Numbered.{Numbered}
use Rattle.jg_lists.specs.Marks.{Marks}
use Rattle.jg_lists.proofs.Marks.{marks_item}
use Rattle.jg_table_locals.specs.Seen.{StackRows}
use Rattle.jg_table_locals.proofs.stacks.mark_seats.Goals as goal

pub loop-seat-preserved : goal.loop-seat-preserved
loop-seat-preserved g c =
    let of = g.M.Marking.mark_of in
    marks_item (λ (seat : Numbered StackRows) o. list_any (λ s. s.object == o) seat.value.locals) c.args.seats.now c.loop-seat.seat-index c.seat-item.result
    (of c.args.marks.now)
    (of c.loop-seat.marks) (of c.mark_held.new.marks) c.loop-seat-test.true c.loop-seat.invariant
    (subst (λ (seat : Numbered StackRows). Marks (λ o. list_any (λ s. s.object == o) seat.value.locals) (of c.loop-seat.marks) (of c.mark_held.new.marks))
    c.seat-item.is c.mark_held.ensures)
