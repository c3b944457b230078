use Rattle.std.proofs.Common.{◌∙◌, ◌≡◌, ◌||◌, ap, arith, false, get_or, length, map, refl, subst, sym, ℕ, Bool, List}
use Rattle.jg_lists.proofs.Marks.{marks_length}
use Rattle.std.specs.List.{list_any}
use Rattle.jg_table_heap.specs.declared.body.Body.{Body}
use Rattle.jg_table_heap.specs.Kept.{AreWhole, objects_of, row_of_body, slot_of_row_holds}
use Rattle.jg_table_heap.proofs.Objects.{any_slot_of_object, length-objects_of}
use Rattle.jg_table_heap.proofs.Sweeping.{pointing_within}
use Rattle.jg_table_heap.proofs.Collecting.{marks_of, listed, list_goes}
use Rattle.jg_table_heap.proofs.Marking.{mark_is}
use Rattle.jg_table_heap.proofs.heap.Heap.find_unheld.Goals as goal

pub mark_pointed-requires : goal.mark_pointed-requires
mark_pointed-requires g c =
    let objects = objects_of c.self.inside.objects.items c.self.inside.there.items in
    let all =
    pointing_within objects objects c.self.inside.there.items c.self.inside.blocks.items c.self.inside.loose
    c.deref-2.result.now c.self.inside.pointing.items refl c.deref-2.ensures.value c.self.invariant.0.keeps in
    λ i d h. omega (
      arith,
      all i d h,
      length-objects_of c.self.inside.objects.items c.self.inside.there.items c.self.invariant.0.same,
      ap (λ (bs : List (Body g.row.A.Denot)). length bs) c.deref.ensures.value,
    )

pub returns-clause-marks : goal.returns-clause-marks
returns-clause-marks g c e roots stands was =
    let objects = objects_of c.self.inside.objects.items c.self.inside.there.items in
    marks_of objects objects c.self.inside.there.items c.self.inside.blocks.items c.self.inside.loose
    c.deref-2.result.now c.self.inside.pointing.items c.args.self.now c.self.inside.class_count e roots c.args.marks.now
    c.mark_classes.new.marks c.mark_pointed.new.marks
    refl c.deref-2.ensures.value c.self.invariant.0.keeps c.self.view_is stands
    (marks_length _ _ _ c.mark_classes.ensures) (marks_length _ _ _ c.mark_pointed.ensures)
    (mark_is _ _ _ c.mark_classes.ensures)
    (λ o h. mark_is _ _ _ c.mark_pointed.ensures o h
    ∙ ap (λ (bs : List (Body g.row.A.Denot)). get_or c.mark_classes.new.marks o false
    || list_any (slot_of_row_holds (map row_of_body bs) o) c.deref-2.result.now) c.deref.ensures.value
    ∙ ap (λ b. get_or c.mark_classes.new.marks o false || b)
    (any_slot_of_object c.self.inside.objects.items c.self.inside.there.items o c.deref-2.result.now c.self.invariant.0.same))
    was

pub list_unheld-requires : goal.list_unheld-requires
list_unheld-requires g c =
    let count : length c.self.inside.there.items ≡ length c.deref-3.result.now = ap (λ (bs : List Bool). length bs) (sym c.deref-3.ensures.value) in
    record {
      whole = subst (λ (bs : List ℕ). AreWhole bs (length c.deref-3.result.now)) (sym c.deref-4.ensures.value)
          (subst (AreWhole c.self.inside.blocks.items) count c.self.invariant.0.keeps.whole);
      loose = omega (arith, c.self.invariant.0.keeps.order, count);
    }

pub returns-clause-listed : goal.returns-clause-listed
returns-clause-listed g c =
    c.in_ok-list_unheld.ensures
    ∙ listed (objects_of c.self.inside.objects.items c.self.inside.there.items) c.self.inside.there.items
    c.deref-3.result.now c.self.inside.blocks.items c.deref-4.result.now c.self.inside.loose
    c.self.inside.pointing.items c.args.self.now c.self.inside.class_count c.mark_pointed.new.marks
    c.deref-3.ensures.value c.deref-4.ensures.value c.self.invariant.0.keeps c.self.view_is

pub returns-clause-unheld : goal.returns-clause-unheld
returns-clause-unheld g c e roots stands was =
    returns-clause-listed g c ∙ list_goes c.args.self.now e roots c.mark_pointed.new.marks stands (returns-clause-marks g c e roots stands was)
