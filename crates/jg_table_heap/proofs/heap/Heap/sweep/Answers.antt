use Rattle.std.proofs.Common.{◌≤◌, ◌-◌, arith, ◌∙◌, ◌≡◌, ◌&&◌, ap, sym, subst, refl, get_or, false, not, eqb, length, map, List, ℕ, Bool}
use Rattle.std.specs.Prelude.{filter}
use Rattle.std.specs.List.{list_any}
use Rattle.std.proofs.lemmas.List.{with_items_is, length-map}
use Rattle.jg_table_heap.specs.Rows.{Row, Rows, KeepsShapes, row_in}
use Rattle.jg_table_heap.specs.Kept.{objects_of, row_of, live_in, ended_row, numbers_in, trues, AreWhole, Stored}
use Rattle.jg_table_heap.proofs.Objects.{length-objects_of, all_of, swept_of, stored_swept}
use Rattle.jg_table_heap.proofs.Collecting.{rows_swept}
use Rattle.jg_table_heap.proofs.Calls.{shapes_swept}
use Rattle.jg_table_heap.proofs.Counting.{being_less}
use Rattle.jg_table_heap.proofs.heap.Heap.sweep.Goals as goal

pub let_all_go-requires : goal.let_all_go-requires
let_all_go-requires g c =
    let all =
    all_of c.self.inside.objects.items c.self.inside.there.items c.args.marks.now c.args.unheld.now
    c.self.invariant.0.same
    (c.requires ∙ ap (λ (r : Rows). filter (λ o. not (get_or c.args.marks.now o false)) (live_in r.objects))
    (sym c.self.view_is)) in
    λ i d h. omega (arith, all i d h, ap (λ (bs : List Bool). length bs) c.deref_mut.ensures.value)

pub invariant_of-self : goal.invariant_of-self
invariant_of-self g c =
    let bodies = c.self.inside.objects.items in
    let there = c.self.inside.there.items in
    let marks = c.args.marks.now in
    let unheld = c.args.unheld.now in
    let flags = c.let_all_go.new.there in
    let listed = c.requires ∙ ap (λ (r : Rows). filter (λ o. not (get_or marks o false)) (live_in r.objects)) (sym c.self.view_is) in
    let count : length flags ≡ length there = c.let_all_go.auto.there ∙ ap (λ (bs : List Bool). length bs) c.deref_mut.ensures.value in
    let flagged : flags ≡ _ = sym (with_items_is c.self.inside.there flags (count ∙ sym c.self.inside.there.ok.0)) in
    let goes : (o : ℕ) → get_or flags o false ≡ (get_or there o false && not (list_any (λ p. eqb p o) unheld)) =
    λ o. c.let_all_go.ensures o ∙ ap (λ (bs : List Bool). get_or bs o false && not (list_any (λ p. eqb p o) unheld)) c.deref_mut.ensures.value in
    let blocks = c.close_up_if-self-inside.new.blocks.items in
    let loose = c.self.inside.loose in
    let points = c.retain_marked.new.numbers.items in
    let seen : c.deref.result.now ≡ flags = c.deref.ensures.value ∙ sym flagged in (
      subst (λ (bs : List Bool). Stored bodies bs blocks loose points) flagged
          (stored_swept bodies there marks unheld c.self.invariant.0.same listed flags count goes c.self.inside.blocks.items blocks loose
          c.self.inside.pointing.items points c.self.invariant.0
          (subst (λ (bs : List Bool). filter (λ o. get_or bs o false) (numbers_in blocks loose (length bs))
          ≡ filter (λ o. get_or bs o false) (numbers_in c.self.inside.blocks.items loose (length bs))) seen
          (c.close_up_if-self-inside.ensures.there loose))
          (subst (λ (bs : List Bool). AreWhole blocks (length bs)) seen c.close_up_if-self-inside.ensures.whole) c.retain_marked.ensures),
      subst (λ (bs : List Bool). length bs ≤ length c.self.inside.marks) flagged (omega (arith, count, c.self.invariant.1)),
      subst (λ (bs : List Bool). c.self.inside.in_being - length unheld ≡ trues bs) flagged
          (omega (arith, c.self.invariant.2, being_less bodies there marks unheld c.self.invariant.0.same listed flags count goes)),
    )

pub overflow_sub-self : goal.overflow_sub-self
overflow_sub-self g c =
    let there = c.self.inside.there.items in
    let listed = c.requires ∙ ap (λ (r : Rows). filter (λ o. not (get_or c.args.marks.now o false)) (live_in r.objects)) (sym c.self.view_is) in
    let less = being_less c.self.inside.objects.items there c.args.marks.now c.args.unheld.now c.self.invariant.0.same listed c.let_all_go.new.there
    (c.let_all_go.auto.there ∙ ap (λ (bs : List Bool). length bs) c.deref_mut.ensures.value)
    (λ o. c.let_all_go.ensures o ∙ ap (λ (bs : List Bool). get_or bs o false && not (list_any (λ p. eqb p o) c.args.unheld.now)) c.deref_mut.ensures.value) in
    omega (arith, c.self.invariant.2, less)

pub returns-clause-stands : goal.returns-clause-stands
returns-clause-stands g c e roots stands held =
    let bodies = c.self.inside.objects.items in
    let there = c.self.inside.there.items in
    let marks = c.args.marks.now in
    let unheld = c.args.unheld.now in
    let flags = c.let_all_go.new.there in
    let listed = c.requires ∙ ap (λ (r : Rows). filter (λ o. not (get_or marks o false)) (live_in r.objects)) (sym c.self.view_is) in
    let count : length flags ≡ length there = c.let_all_go.auto.there ∙ ap (λ (bs : List Bool). length bs) c.deref_mut.ensures.value in
    let flagged : flags ≡ _ = sym (with_items_is c.self.inside.there flags (count ∙ sym c.self.inside.there.ok.0)) in
    let goes : (o : ℕ) → get_or flags o false ≡ (get_or there o false && not (list_any (λ p. eqb p o) unheld)) =
    λ o. c.let_all_go.ensures o ∙ ap (λ (bs : List Bool). get_or bs o false && not (list_any (λ p. eqb p o) unheld)) c.deref_mut.ensures.value in
    let objects = objects_of bodies there in
    ap (λ (bs : List Bool). map row_of (objects_of bodies bs)) (sym flagged)
    ∙ rows_swept objects objects (objects_of bodies flags) unheld c.args.self.now c.self.inside.class_count e roots marks refl c.self.view_is c.requires stands
    (length-objects_of bodies flags (count ∙ c.self.invariant.0.same)
    ∙ sym (length-objects_of bodies there c.self.invariant.0.same))
    (swept_of bodies there marks unheld c.self.invariant.0.same listed flags count goes) held

pub returns-clause-shapes : goal.returns-clause-shapes
returns-clause-shapes g c =
    let bodies = c.self.inside.objects.items in
    let there = c.self.inside.there.items in
    let marks = c.args.marks.now in
    let unheld = c.args.unheld.now in
    let flags = c.let_all_go.new.there in
    let listed = c.requires ∙ ap (λ (r : Rows). filter (λ o. not (get_or marks o false)) (live_in r.objects)) (sym c.self.view_is) in
    let count : length flags ≡ length there = c.let_all_go.auto.there ∙ ap (λ (bs : List Bool). length bs) c.deref_mut.ensures.value in
    let flagged : flags ≡ _ = sym (with_items_is c.self.inside.there flags (count ∙ sym c.self.inside.there.ok.0)) in
    let goes : (o : ℕ) → get_or flags o false ≡ (get_or there o false && not (list_any (λ p. eqb p o) unheld)) =
    λ o. c.let_all_go.ensures o ∙ ap (λ (bs : List Bool). get_or bs o false && not (list_any (λ p. eqb p o) unheld)) c.deref_mut.ensures.value in
    let all : ℕ → Bool = λ o. list_any (λ p. eqb p o) unheld in
    let view = ap (λ (r : Rows). r.objects) c.self.view_is in
    subst (λ (bs : List Bool). KeepsShapes c.args.self.now (record { classes = c.self.inside.class_count; objects = map row_of (objects_of bodies bs) }))
    flagged
    (shapes_swept c.args.self.now c.self.inside.class_count (map row_of (objects_of bodies flags)) all
    (length-map (objects_of bodies flags) row_of ∙ length-objects_of bodies flags (count ∙ c.self.invariant.0.same)
    ∙ sym (length-map (objects_of bodies there) row_of ∙ length-objects_of bodies there c.self.invariant.0.same) ∙ ap (λ (rs : List Row). length rs) view)
    (λ o. swept_of bodies there marks unheld c.self.invariant.0.same listed flags count goes o ∙ ap (λ (rs : List Row). ended_row (all o) (row_in rs o)) view))
