use Rattle.std.proofs.Common.{ap, ◌∙◌}
use Rattle.jg_table_heap.specs.Rows.{Rows, row_in}
use Rattle.jg_table_heap.proofs.Objects.{gone_of, made_body}
use Rattle.jg_table_heap.proofs.Told.{gone_stands}
use Rattle.jg_table_heap.proofs.heap.Heap.is_gone.Goals as goal

pub returns : goal.returns
returns g c e s =
    let view = ap (λ (r : Rows). r.objects) c.self.view_is in
    gone_of c.self.inside.objects.items c.self.inside.there.items c.args.object.0 c.index.result.now c.self.invariant.0.same
    (made_body c.self.inside.objects.items c.self.inside.there.items c.args.self.now.objects c.args.object.0 c.self.invariant.0.same view c.requires)
    c.index.ensures
    ∙ ap (λ (r : Rows). (row_in r.objects c.args.object.0).gone) c.self.view_is ∙ gone_stands c.args.self.now e c.args.object.0 s c.requires
