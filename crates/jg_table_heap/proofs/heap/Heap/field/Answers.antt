use Rattle.std.proofs.Common.{ap, arith, length, sym, ◌∙◌}
use Rattle.std.specs.Prelude.{slice_get}
use Rattle.jg_table_heap.specs.Rows.{Row, Rows, row_in}
use Rattle.jg_table_heap.proofs.Objects.{kept_body, object_at}
use Rattle.jg_table_heap.proofs.Told.{slots_within, value_stands, slot_there}
use Rattle.jg_table_heap.proofs.heap.Heap.field.Goals as goal

pub slot-requires : goal.slot-requires
slot-requires g c =
    let row =
    kept_body c.self.inside.objects.items c.self.inside.there.items c.args.self.now.objects c.args.object.0
    c.index.result.now c.self.invariant.0.same (ap (λ (r : Rows). r.objects) c.self.view_is) c.requires.made
    c.index.ensures in
    omega (
      arith,
      slots_within c.args.self.now c.args.object.0 c.args.index
          (object_at c.self.inside.there.items c.args.object.0 c.index.result.now) row (λ text. omega arith)
          c.requires.within,
      ap (λ (r : Row). length r.slots) row,
    )

pub returns-clause-history : goal.returns-clause-history
returns-clause-history g c e s =
    let row =
    kept_body c.self.inside.objects.items c.self.inside.there.items c.args.self.now.objects c.args.object.0
    c.index.result.now c.self.invariant.0.same (ap (λ (r : Rows). r.objects) c.self.view_is) c.requires.made
    c.index.ensures in
    value_stands c.args.self.now e c.args.object.0 c.args.index c.slot.result s c.requires.made
    (ap (λ (r : Row). slice_get r.slots c.args.index) (sym row) ∙ c.slot.ensures.read)

pub returns-clause-rows : goal.returns-clause-rows
returns-clause-rows g c =
    let row =
    kept_body c.self.inside.objects.items c.self.inside.there.items c.args.self.now.objects c.args.object.0
    c.index.result.now c.self.invariant.0.same (ap (λ (r : Rows). r.objects) c.self.view_is) c.requires.made
    c.index.ensures in
    slot_there (row_in c.args.self.now.objects c.args.object.0) c.args.index c.slot.result
    (ap (λ (r : Row). slice_get r.slots c.args.index) (sym row) ∙ c.slot.ensures.read)
