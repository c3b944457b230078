use Rattle.std.proofs.Common.{List, length, ap, sym, ◌∙◌, arith}
use Rattle.std.proofs.lemmas.List.{length-map}
use Rattle.jg_table_heap.specs.declared.object.Slot.{Slot}
use Rattle.jg_table_heap.specs.declared.object.Slot.TheVariants.{Number}
use Rattle.jg_table_heap.specs.Rows.{Row, Rows}
use Rattle.jg_table_heap.proofs.Objects.{kept_body, object_at}
use Rattle.jg_table_heap.proofs.Told.{length_of_slots, slots_by_length}
use Rattle.jg_table_heap.proofs.heap.Heap.items.Goals as goal

pub numbers-requires : goal.numbers-requires
numbers-requires g c =
    let class =
    ap (λ (r : Row). r.class)
    (kept_body c.self.inside.objects.items c.self.inside.there.items c.args.self.now.objects c.args.object.0
    c.index.result.now c.self.invariant.0.same (ap (λ (r : Rows). r.objects) c.self.view_is) c.requires.made
    c.index.ensures) in (omega (arith, class), omega (arith, class))

pub returns-clause-len : goal.returns-clause-len
returns-clause-len g c =
    let row =
    kept_body c.self.inside.objects.items c.self.inside.there.items c.args.self.now.objects c.args.object.0
    c.index.result.now c.self.invariant.0.same (ap (λ (r : Rows). r.objects) c.self.view_is) c.requires.made
    c.index.ensures in
    sym (length-map c.numbers.result.now Number) ∙ ap (λ (xs : List Slot). length xs) (sym c.numbers.ensures) ∙ ap (λ (r : Row). length r.slots) row
    ∙ sym (length_of_slots c.args.self.now c.args.object.0 (object_at c.self.inside.there.items c.args.object.0 c.index.result.now) row (λ text. omega arith))

pub returns-clause-items : goal.returns-clause-items
returns-clause-items g c e s =
    let row =
    kept_body c.self.inside.objects.items c.self.inside.there.items c.args.self.now.objects c.args.object.0
    c.index.result.now c.self.invariant.0.same (ap (λ (r : Rows). r.objects) c.self.view_is) c.requires.made
    c.index.ensures in
    sym c.numbers.ensures ∙ ap (λ (r : Row). r.slots) row ∙ slots_by_length c.args.self.now e c.args.object.0 s c.requires.made (λ text. omega arith)
