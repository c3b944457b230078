use Rattle.std.proofs.Common.{ℕ, ◌≡◌, ◌<◌, ◌≤◌, ◌-◌, ◌∙◌, ◌||◌, ap, arith, sym, subst, refl, get_or, false, eqb, ltb, length, map, List, Bool}
use Rattle.std.specs.Prelude.{filter}
use Rattle.std.specs.List.{list_any}
use Rattle.std.proofs.lemmas.List.{with_items_is, length-map}
use Rattle.jg_lists.proofs.Marks.{marks_length}
use Rattle.jg_table_heap.specs.declared.body.Body.{Body}
use Rattle.jg_table_heap.specs.Rows.{Row, Rows, KeepsShapes, row_in}
use Rattle.jg_table_heap.specs.Kept.{objects_of, row_of, row_of_body, slot_of_row_holds, ended_row, numbers_in, AreWhole, LetsGo, marked_or_root, trues, Stored}
use Rattle.jg_table_heap.proofs.Calls.{shapes_swept}
use Rattle.jg_table_heap.proofs.Letting.{unheld, ended, stored_let, rows_let, went}
use Rattle.jg_table_heap.proofs.Marking.{mark_is}
use Rattle.jg_table_heap.proofs.Objects.{any_slot_of_object, length-objects_of}
use Rattle.jg_table_heap.proofs.Sweeping.{pointing_within}
use Rattle.jg_table_heap.proofs.heap.Heap.collect.Goals as goal

pub mark_pointed-requires : goal.mark_pointed-requires
mark_pointed-requires g c =
    let objects = objects_of c.self.inside.objects.items c.self.inside.there.items in
    let all =
    pointing_within objects objects c.self.inside.there.items c.self.inside.blocks.items c.self.inside.loose
    c.deref-2.result.now c.self.inside.pointing.items refl c.deref-2.ensures.value c.self.invariant.0.keeps in
    λ i d h. omega (
      arith,
      all i d h,
      length-objects_of c.self.inside.objects.items c.self.inside.there.items c.self.invariant.0.same,
      ap (λ (bs : List (Body g.row.A.Denot)). length bs) c.deref.ensures.value,
    )

pub let_unheld_go-went-requires-clause-whole : goal.let_unheld_go-went-requires-clause-whole
let_unheld_go-went-requires-clause-whole g c =
    let count : length c.self.inside.there.items ≡ length c.deref_mut.result.now = ap (λ (bs : List Bool). length bs) (sym c.deref_mut.ensures.value) in
    subst (λ (bs : List ℕ). AreWhole bs (length c.deref_mut.result.now)) (sym c.deref-3.ensures.value)
    (subst (AreWhole c.self.inside.blocks.items) count c.self.invariant.0.keeps.whole)

pub close_up_if-self-inside-requires : goal.close_up_if-self-inside-requires
close_up_if-self-inside-requires g c =
    let flags = c.let_unheld_go-went.new.there in
    let count : length flags ≡ length c.self.inside.there.items = c.let_unheld_go-went.auto.there ∙ ap (λ (bs : List Bool). length bs) c.deref_mut.ensures.value
    in
    let seen : c.deref-4.result.now ≡ flags = c.deref-4.ensures.value ∙ with_items_is c.self.inside.there flags (count ∙ sym c.self.inside.there.ok.0) in
    subst (AreWhole c.self.inside.blocks.items) (sym (ap (λ (bs : List Bool). length bs) seen ∙ count)) c.self.invariant.0.keeps.whole

pub invariant_of-self : goal.invariant_of-self
invariant_of-self g c =
    let bodies = c.self.inside.objects.items in
    let there = c.self.inside.there.items in
    let flags = c.let_unheld_go-went.new.there in
    let marks = c.mark_pointed.new.marks in
    let root = g.R.Roots.is_root c.args.roots.now in
    let blocks = c.self.inside.blocks.items in
    let loose = c.self.inside.loose in
    let pointing = c.self.inside.pointing.items in
    let count : length flags ≡ length there = c.let_unheld_go-went.auto.there ∙ ap (λ (bs : List Bool). length bs) c.deref_mut.ensures.value in
    let flagged : flags ≡ _ = sym (with_items_is c.self.inside.there flags (count ∙ sym c.self.inside.there.ok.0)) in
    let lets : LetsGo (marked_or_root marks root) (numbers_in blocks loose (length there)) there flags =
    rw (c.deref-3.ensures.value, c.deref_mut.ensures.value) at c.let_unheld_go-went.ensures.there in
    let after = c.close_up_if-self-inside.new.blocks.items in
    let points = c.retain_held.new.numbers.items in
    let seen : c.deref-4.result.now ≡ flags = c.deref-4.ensures.value ∙ sym flagged in
    let many : length marks ≡ length c.self.inside.marks = marks_length _ _ _ c.mark_pointed.ensures ∙ marks_length _ _ _ c.mark_classes.ensures
    ∙ c.unset_all.ensures.many in (
      subst (λ (bs : List Bool). Stored bodies bs after loose points) flagged
          (stored_let bodies there flags marks root blocks loose pointing c.self.invariant.0 count lets after points
          (subst (λ (bs : List Bool). filter (λ o. get_or bs o false) (numbers_in after loose (length bs))
          ≡ filter (λ o. get_or bs o false) (numbers_in blocks loose (length bs))) seen
          (c.close_up_if-self-inside.ensures.there loose))
          (subst (λ (bs : List Bool). AreWhole after (length bs)) seen c.close_up_if-self-inside.ensures.whole) c.retain_held.ensures),
      subst (λ (bs : List Bool). length bs ≤ length marks) flagged (omega (arith, count, many, c.self.invariant.1)),
      subst (λ (bs : List Bool). c.self.inside.in_being - c.let_unheld_go-went.result ≡ trues bs) flagged
          (omega (arith, c.self.invariant.2, rw c.deref_mut.ensures.value at c.let_unheld_go-went.ensures.count)),
    )

pub overflow_sub-self : goal.overflow_sub-self
overflow_sub-self g c = omega (arith, c.self.invariant.2, rw c.deref_mut.ensures.value at c.let_unheld_go-went.ensures.count)

pub returns-clause-stands : goal.returns-clause-stands
returns-clause-stands g c e stands =
    let bodies = c.self.inside.objects.items in
    let there = c.self.inside.there.items in
    let flags = c.let_unheld_go-went.new.there in
    let marks = c.mark_pointed.new.marks in
    let root = g.R.Roots.is_root c.args.roots.now in
    let blocks = c.self.inside.blocks.items in
    let loose = c.self.inside.loose in
    let pointing = c.self.inside.pointing.items in
    let count : length flags ≡ length there = c.let_unheld_go-went.auto.there ∙ ap (λ (bs : List Bool). length bs) c.deref_mut.ensures.value in
    let flagged : flags ≡ _ = sym (with_items_is c.self.inside.there flags (count ∙ sym c.self.inside.there.ok.0)) in
    let lets : LetsGo (marked_or_root marks root) (numbers_in blocks loose (length there)) there flags =
    rw (c.deref-3.ensures.value, c.deref_mut.ensures.value) at c.let_unheld_go-went.ensures.there in
    let many : length c.mark_classes.new.marks ≡ length c.self.inside.marks = marks_length _ _ _ c.mark_classes.ensures ∙ c.unset_all.ensures.many in
    let marks_are : (o : ℕ) → o < length there
    → get_or marks o false ≡ (ltb o c.self.inside.class_count || list_any (slot_of_row_holds (map row_of (objects_of bodies there)) o) pointing) =
    λ o h. mark_is _ _ _ c.mark_pointed.ensures o (omega (arith, h, many, c.self.invariant.1))
    ∙ ap (λ b. b || list_any (slot_of_row_holds (map row_of_body c.deref.result.now) o) c.deref-2.result.now)
    (mark_is _ _ _ c.mark_classes.ensures o (omega (arith, h, c.unset_all.ensures.many, c.self.invariant.1))
    ∙ ap (λ b. b || ltb o c.self.inside.class_count) (c.unset_all.ensures.unset o))
    ∙ ap (λ (bs : List (Body g.row.A.Denot)). ltb o c.self.inside.class_count || list_any (slot_of_row_holds (map row_of_body bs) o) c.deref-2.result.now)
    c.deref.ensures.value
    ∙ ap (λ (os : List ℕ). ltb o c.self.inside.class_count || list_any (slot_of_row_holds (map row_of_body bodies) o) os) c.deref-2.ensures.value
    ∙ ap (λ b. ltb o c.self.inside.class_count || b) (any_slot_of_object bodies there o pointing c.self.invariant.0.same) in
    ap (λ (bs : List Bool). map row_of (objects_of bodies bs)) (sym flagged)
    ∙ rows_let bodies there flags marks root blocks loose pointing c.self.invariant.0 count lets c.args.self.now c.self.inside.class_count e c.self.view_is
    stands marks_are

pub returns-clause-count : goal.returns-clause-count
returns-clause-count g c e stands =
    let bodies = c.self.inside.objects.items in
    let there = c.self.inside.there.items in
    let flags = c.let_unheld_go-went.new.there in
    let marks = c.mark_pointed.new.marks in
    let root = g.R.Roots.is_root c.args.roots.now in
    let blocks = c.self.inside.blocks.items in
    let loose = c.self.inside.loose in
    let pointing = c.self.inside.pointing.items in
    let count : length flags ≡ length there = c.let_unheld_go-went.auto.there ∙ ap (λ (bs : List Bool). length bs) c.deref_mut.ensures.value in
    let flagged : flags ≡ _ = sym (with_items_is c.self.inside.there flags (count ∙ sym c.self.inside.there.ok.0)) in
    let lets : LetsGo (marked_or_root marks root) (numbers_in blocks loose (length there)) there flags =
    rw (c.deref-3.ensures.value, c.deref_mut.ensures.value) at c.let_unheld_go-went.ensures.there in
    let many : length c.mark_classes.new.marks ≡ length c.self.inside.marks = marks_length _ _ _ c.mark_classes.ensures ∙ c.unset_all.ensures.many in
    let marks_are : (o : ℕ) → o < length there
    → get_or marks o false ≡ (ltb o c.self.inside.class_count || list_any (slot_of_row_holds (map row_of (objects_of bodies there)) o) pointing) =
    λ o h. mark_is _ _ _ c.mark_pointed.ensures o (omega (arith, h, many, c.self.invariant.1))
    ∙ ap (λ b. b || list_any (slot_of_row_holds (map row_of_body c.deref.result.now) o) c.deref-2.result.now)
    (mark_is _ _ _ c.mark_classes.ensures o (omega (arith, h, c.unset_all.ensures.many, c.self.invariant.1))
    ∙ ap (λ b. b || ltb o c.self.inside.class_count) (c.unset_all.ensures.unset o))
    ∙ ap (λ (bs : List (Body g.row.A.Denot)). ltb o c.self.inside.class_count || list_any (slot_of_row_holds (map row_of_body bs) o) c.deref-2.result.now)
    c.deref.ensures.value
    ∙ ap (λ (os : List ℕ). ltb o c.self.inside.class_count || list_any (slot_of_row_holds (map row_of_body bodies) o) os) c.deref-2.ensures.value
    ∙ ap (λ b. ltb o c.self.inside.class_count || b) (any_slot_of_object bodies there o pointing c.self.invariant.0.same) in
    went bodies there flags marks root blocks loose pointing c.self.invariant.0 count lets c.args.self.now c.self.inside.class_count e c.self.view_is stands
    marks_are c.let_unheld_go-went.result
    (rw c.deref_mut.ensures.value at c.let_unheld_go-went.ensures.count)

pub returns-clause-shapes : goal.returns-clause-shapes
returns-clause-shapes g c =
    let bodies = c.self.inside.objects.items in
    let there = c.self.inside.there.items in
    let flags = c.let_unheld_go-went.new.there in
    let marks = c.mark_pointed.new.marks in
    let root = g.R.Roots.is_root c.args.roots.now in
    let blocks = c.self.inside.blocks.items in
    let loose = c.self.inside.loose in
    let pointing = c.self.inside.pointing.items in
    let count : length flags ≡ length there = c.let_unheld_go-went.auto.there ∙ ap (λ (bs : List Bool). length bs) c.deref_mut.ensures.value in
    let flagged : flags ≡ _ = sym (with_items_is c.self.inside.there flags (count ∙ sym c.self.inside.there.ok.0)) in
    let lets : LetsGo (marked_or_root marks root) (numbers_in blocks loose (length there)) there flags =
    rw (c.deref-3.ensures.value, c.deref_mut.ensures.value) at c.let_unheld_go-went.ensures.there in
    let going = unheld bodies there flags marks root blocks loose pointing c.self.invariant.0 count lets in
    let all : ℕ → Bool = λ o. list_any (λ p. eqb p o) going in
    let view = ap (λ (r : Rows). r.objects) c.self.view_is in
    subst (λ (bs : List Bool). KeepsShapes c.args.self.now (record { classes = c.self.inside.class_count; objects = map row_of (objects_of bodies bs) }))
    flagged
    (shapes_swept c.args.self.now c.self.inside.class_count (map row_of (objects_of bodies flags)) all
    (length-map (objects_of bodies flags) row_of ∙ length-objects_of bodies flags (count ∙ c.self.invariant.0.same)
    ∙ sym (length-map (objects_of bodies there) row_of ∙ length-objects_of bodies there c.self.invariant.0.same) ∙ ap (λ (rs : List Row). length rs) view)
    (λ o. ended bodies there flags marks root blocks loose pointing c.self.invariant.0 count lets o
    ∙ ap (λ (rs : List Row). ended_row (all o) (row_in rs o)) view))
