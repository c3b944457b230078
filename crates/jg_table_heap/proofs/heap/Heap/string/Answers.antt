use Rattle.std.proofs.Common.{ap, ◌∙◌, length}
use Rattle.jg_table_heap.specs.Rows.{Row, Rows}
use Rattle.jg_table_heap.proofs.Objects.{kept_body, object_at}
use Rattle.jg_table_heap.proofs.Told.{units_stand, text_length}
use Rattle.jg_table_heap.proofs.heap.Heap.string.Goals as goal

pub returns-clause-history : goal.returns-clause-history
returns-clause-history g c e s =
    c.units.ensures.units
    ∙ ap (λ (r : Row). r.units)
    (kept_body c.self.inside.objects.items c.self.inside.there.items c.args.self.now.objects c.args.object.0
    c.index.result.now c.self.invariant.0.same (ap (λ (r : Rows). r.objects) c.self.view_is) c.requires
    c.index.ensures)
    ∙ units_stand c.args.self.now e c.args.object.0 s c.requires

pub returns-clause-rows : goal.returns-clause-rows
returns-clause-rows g c =
    c.units.ensures.units
    ∙ ap (λ (r : Row). r.units)
    (kept_body c.self.inside.objects.items c.self.inside.there.items c.args.self.now.objects c.args.object.0
    c.index.result.now c.self.invariant.0.same (ap (λ (r : Rows). r.objects) c.self.view_is) c.requires
    c.index.ensures)

pub returns-clause-len : goal.returns-clause-len
returns-clause-len g c text =
    ap length (returns-clause-rows g c)
    ∙ text_length c.args.self.now c.args.object.0 (object_at c.self.inside.there.items c.args.object.0 c.index.result.now)
    (kept_body c.self.inside.objects.items c.self.inside.there.items c.args.self.now.objects c.args.object.0
    c.index.result.now c.self.invariant.0.same (ap (λ (r : Rows). r.objects) c.self.view_is) c.requires
    c.index.ensures) text
