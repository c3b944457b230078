use Rattle.std.proofs.Common.{subst, sym, arith, length, ap}
use Rattle.jg_table_heap.specs.Making.{HasFields}
use Rattle.jg_table_heap.specs.Rows.{Row, Rows}
use Rattle.jg_table_heap.proofs.Objects.{kept_body, made_body, object_at, stored_written}
use Rattle.jg_table_heap.proofs.Told.{slots_within}
use Rattle.jg_table_heap.proofs.Calls.{rows_written, shapes_written}
use Rattle.jg_table_heap.proofs.heap.Heap.set_field.Goals as goal

pub set_field-requires : goal.set_field-requires
set_field-requires g c =
    let row =
    kept_body c.self.inside.objects.items c.self.inside.there.items c.args.self.now.objects c.args.object.0
    c.index_mut.result.now c.self.invariant.0.same (ap (λ (r : Rows). r.objects) c.self.view_is) c.requires.made
    c.index_mut.ensures.value in
    record {
      fields = subst (HasFields) (ap (λ (r : Row). r.class) (sym row)) c.requires.fields;
      within =
          omega (
            arith,
            slots_within c.args.self.now c.args.object.0 c.args.index
                (object_at c.self.inside.there.items c.args.object.0 c.index_mut.result.now) row (λ text. omega arith)
                c.requires.within,
            ap (λ (r : Row). length r.slots) row,
          );
    }

pub returns-clause-stands : goal.returns-clause-stands
returns-clause-stands g c e s =
    let view = ap (λ (r : Rows). r.objects) c.self.view_is in
    let row =
    kept_body c.self.inside.objects.items c.self.inside.there.items c.args.self.now.objects c.args.object.0
    c.index_mut.result.now c.self.invariant.0.same view c.requires.made c.index_mut.ensures.value in
    rows_written c.self.inside.objects.items c.self.inside.there.items c.args.self.now c.self.inside.class_count
    c.args.object.0 c.index_mut.result.now c.set_field.new.self c.self.invariant.0.same view c.requires.made
    c.index_mut.ensures.value
    c.set_field.ensures.class c.set_field.ensures.units e c.args.index c.args.value (ap (λ (r : Rows). r.classes) c.self.view_is) s
    (slots_within c.args.self.now c.args.object.0 c.args.index
    (object_at c.self.inside.there.items c.args.object.0 c.index_mut.result.now) row (λ text. omega arith)
    c.requires.within) c.set_field.ensures.slots

pub returns-clause-shapes : goal.returns-clause-shapes
returns-clause-shapes g c =
    shapes_written c.self.inside.objects.items c.self.inside.there.items c.args.self.now c.self.inside.class_count
    c.args.object.0 c.index_mut.result.now c.set_field.new.self c.self.invariant.0.same
    (ap (λ (r : Rows). r.objects) c.self.view_is) c.requires.made
    c.index_mut.ensures.value c.set_field.ensures.class c.set_field.ensures.units c.args.index c.args.value c.set_field.ensures.slots

pub invariant_of-self : goal.invariant_of-self
invariant_of-self g c = (
  stored_written c.self.inside.objects.items c.self.inside.there.items _ _ _ c.args.object.0 c.index_mut.result.now c.set_field.new.self c.self.invariant.0
      (made_body c.self.inside.objects.items c.self.inside.there.items c.args.self.now.objects c.args.object.0
      c.self.invariant.0.same (ap (λ (r : Rows). r.objects) c.self.view_is) c.requires.made)
      c.index_mut.ensures.value c.set_field.ensures.kind,
  c.self.invariant.1,
  c.self.invariant.2,
)
