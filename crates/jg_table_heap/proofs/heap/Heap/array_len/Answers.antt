use Rattle.std.proofs.Common.{ap, ◌∙◌, length, ◌+◌}
use Rattle.jg_table_heap.specs.Rows.{Row, Rows}
use Rattle.jg_table_heap.proofs.Objects.{kept_body}
use Rattle.jg_table_heap.proofs.Told.{length_stands}
use Rattle.jg_table_heap.proofs.heap.Heap.array_len.Goals as goal

pub returns-clause-rows : goal.returns-clause-rows
returns-clause-rows g c =
    c.len.ensures.len ∙ ap (λ (r : Row). length r.units + length r.slots)
    (kept_body c.self.inside.objects.items c.self.inside.there.items c.args.self.now.objects c.args.object.0
    c.index.result.now c.self.invariant.0.same (ap (λ (r : Rows). r.objects) c.self.view_is) c.requires
    c.index.ensures)

pub returns-clause-history : goal.returns-clause-history
returns-clause-history g c e s = returns-clause-rows g c ∙ length_stands c.args.self.now e c.args.object.0 s c.requires
