use Rattle.std.specs.Prelude.{◌==◌}
use Rattle.std.specs.List.{list_any}
use Rattle.jg_lists.proofs.Values.{marks_value}
use Rattle.jg_table_locals.specs.Seen.{StackRows}
use Rattle.jg_table_locals.proofs.stacks.mark_named_in.Goals as goal

pub returns : goal.returns
returns g c =
    marks_value (λ (v : StackRows) o. list_any (λ s. s.object == o) v.locals) c.seats.result.now c.args.stacks.now (g.M.Marking.mark_of c.args.marks.now) _
    c.seats.ensures.seats c.mark_seats.ensures
