use Rattle.std.specs.Prelude.{◌==◌}
use Rattle.jg_table_buffers.specs.declared.pinned.Pinned.{Pinned}
use Rattle.jg_lists.proofs.Visited.{any_table, marks_alike}
use Rattle.jg_table_buffers.proofs.visits.mark_objects.Goals as goal

pub returns : goal.returns
returns g c =
    marks_alike _ _ (g.M.Marking.mark_of c.args.marks.now) _
    (λ o. any_table (λ (w : Pinned). w.object == o) c.seats.result.now c.args.pins.now c.seats.ensures.seats) c.mark_tables.ensures
