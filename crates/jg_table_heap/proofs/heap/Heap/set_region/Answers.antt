use Rattle.std.proofs.Common.{subst, sym, arith, length, ap, ◌≡◌, map}
use Rattle.std.proofs.lemmas.List.{length-map}
use Rattle.jg_table_heap.specs.declared.object.Slot.TheVariants.{Number}
use Rattle.jg_table_heap.specs.Making.{IsPrimitiveArray}
use Rattle.jg_table_heap.specs.Rows.{Row, Rows, length_at, row_in}
use Rattle.jg_table_heap.proofs.Objects.{kept_body, made_body, object_at, stored_written}
use Rattle.jg_table_heap.proofs.Told.{length_of_slots}
use Rattle.jg_table_heap.proofs.Calls.{rows_overwritten, shapes_overwritten}
use Rattle.jg_table_heap.proofs.heap.Heap.set_region.Goals as goal

pub set_region-requires : goal.set_region-requires
set_region-requires g c =
    let row =
    kept_body c.self.inside.objects.items c.self.inside.there.items c.args.self.now.objects c.args.object.0
    c.index_mut.result.now c.self.invariant.0.same (ap (λ (r : Rows). r.objects) c.self.view_is) c.requires.made
    c.index_mut.ensures.value in
    record {
      array = subst (IsPrimitiveArray) (ap (λ (r : Row). r.class) (sym row)) c.requires.array;
      within =
          omega (
            arith,
            length_of_slots c.args.self.now c.args.object.0
                (object_at c.self.inside.there.items c.args.object.0 c.index_mut.result.now) row (λ text. omega arith),
            ap (λ (r : Row). length r.slots) row,
          );
    }

pub returns-clause-stands : goal.returns-clause-stands
returns-clause-stands g c e s =
    let view = ap (λ (r : Rows). r.objects) c.self.view_is in
    let row =
    kept_body c.self.inside.objects.items c.self.inside.there.items c.args.self.now.objects c.args.object.0
    c.index_mut.result.now c.self.invariant.0.same view c.requires.made c.index_mut.ensures.value in
    let n : length_at c.args.self.now c.args.object.0 ≡ length (row_in c.args.self.now.objects c.args.object.0).slots =
    length_of_slots c.args.self.now c.args.object.0 (object_at c.self.inside.there.items c.args.object.0 c.index_mut.result.now) row (λ text. omega arith) in
    rows_overwritten c.self.inside.objects.items c.self.inside.there.items c.args.self.now c.self.inside.class_count
    c.args.object.0 c.index_mut.result.now c.set_region.new.self c.self.invariant.0.same view c.requires.made
    c.index_mut.ensures.value
    c.set_region.ensures.class c.set_region.ensures.units e c.args.start c.args.values.now (ap (λ (r : Rows). r.classes) c.self.view_is) s
    (omega arith) c.set_region.ensures.slots

pub returns-clause-shapes : goal.returns-clause-shapes
returns-clause-shapes g c =
    let view = ap (λ (r : Rows). r.objects) c.self.view_is in
    let row =
    kept_body c.self.inside.objects.items c.self.inside.there.items c.args.self.now.objects c.args.object.0
    c.index_mut.result.now c.self.invariant.0.same view c.requires.made c.index_mut.ensures.value in
    let n : length_at c.args.self.now c.args.object.0 ≡ length (row_in c.args.self.now.objects c.args.object.0).slots =
    length_of_slots c.args.self.now c.args.object.0 (object_at c.self.inside.there.items c.args.object.0 c.index_mut.result.now) row (λ text. omega arith) in
    let m : length (map Number c.args.values.now) ≡ length c.args.values.now = length-map c.args.values.now Number in
    shapes_overwritten c.self.inside.objects.items c.self.inside.there.items c.args.self.now c.self.inside.class_count
    c.args.object.0 c.index_mut.result.now c.set_region.new.self c.self.invariant.0.same view c.requires.made
    c.index_mut.ensures.value
    c.set_region.ensures.class c.set_region.ensures.units c.args.start (map Number c.args.values.now) (omega arith) c.set_region.ensures.slots

pub invariant_of-self : goal.invariant_of-self
invariant_of-self g c = (
  stored_written c.self.inside.objects.items c.self.inside.there.items _ _ _ c.args.object.0 c.index_mut.result.now c.set_region.new.self c.self.invariant.0
      (made_body c.self.inside.objects.items c.self.inside.there.items c.args.self.now.objects c.args.object.0
      c.self.invariant.0.same (ap (λ (r : Rows). r.objects) c.self.view_is) c.requires.made)
      c.index_mut.ensures.value c.set_region.ensures.kind,
  c.self.invariant.1,
  c.self.invariant.2,
)
