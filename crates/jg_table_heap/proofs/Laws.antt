-- Proofs of what the definitions over a history mean.
use Rattle.std.proofs.Common.{ℕ, ℤ, zero, suc, ◌≢◌, ◌⊎◌, append_assoc, ◌≡◌, ◌+◌, ◌<◌, ◌≤◌, ◌∙◌, sym, ap, subst, refl, inl, inr, List, [], ◌∷◌, ◌++◌, length, get_or, Bool, true, false, not, ◌&&◌, ◌||◌, ltb, eqb, Some, None, arith, zero-add}
use Rattle.std.specs.List.{Contains, AllByRecursion, list_any, range_with_len}
use Rattle.std.proofs.lemmas.Bool.{cases_Bool, and_left, or_cases, or_left, or_right, and_parts, and_from, and_right, not-true, not_from_false, ltb-true, lt-ltb, le-ltb, eqb-true, eq-eqb, ne_eqb, cond-true, cond-false, false≢true}
use Rattle.std.proofs.lemmas.Bool.Decides.{nat_tests}
use Rattle.std.proofs.lemmas.List.Folds.{Any-from_list_any, list_any_at}
use Rattle.std.proofs.lemmas.List.FromFn.{length-range_with_len, get_or-range_with_len}
use Rattle.std.proofs.lemmas.Map.Views.{any-filter_same}
use Rattle.jg_lists.proofs.Lists.{length-filter-most}
use Rattle.jg_words.specs.declared.object.ObjId.{ObjId}
use Rattle.jg_table_heap.specs.declared.object.Slot.{Slot}
use Rattle.jg_table_heap.specs.declared.object.Slot.TheVariants.{Number, Object as ToObject}
use Rattle.jg_table_heap.specs.Making.{Making, slots_in, slot_in}
use Rattle.jg_table_heap.specs.Rows.{count_in}
use Rattle.jg_table_heap.specs.History.{Event, Made, Wrote, Collected, Went, count_of, making_at, value_at, gone_at, held_at, held_by, holds, points_at, some_slot, going, region_writes}
use Rattle.jg_table_heap.specs.Laws.{StandsInASlot, HoldsInASlot, PointsMeans, ValuePasses, RegionWritten, RegionSpares, RegionKeeps, KeepsObjects, HeldMeans, WasCollected, WasLetGo, GoneMeans, StaysGone, ClassesStay, GoingMeans, Spares, LatestWrite, FirstValue, MadeAs, MadeStays, ClassesAre, RootsMean, GoingIsBounded, RowsMean}
use Rattle.jg_table_heap.proofs.Lists.{kept_any}
use Rattle.jg_table_heap.proofs.Pointing.{points_same, by_slot}
use Rattle.jg_table_heap.proofs.Told.{count_stands, class_stands, gone_stands, length_stands}
use Rattle.jg_table_heap.proofs.Steps.{value_wrote_here}

-- ---- gone

pub stays_gone : StaysGone
stays_gone k [] before o h = h
stays_gone k (Made m ∷ later) before o h = stays_gone k later before o h
stays_gone k (Wrote p j v ∷ later) before o h = stays_gone k later before o h
stays_gone k (Collected roots ∷ later) before o h = or_left _ _ (stays_gone k later before o h)
stays_gone k (Went p ∷ later) before o h = or_left _ _ (stays_gone k later before o h)

later_too : (k : ℕ) (ev : Event) (e : List Event) (o : ℕ) → WasCollected k e o ⊎ WasLetGo k e o → WasCollected k (ev ∷ e) o ⊎ WasLetGo k (ev ∷ e) o
later_too k ev e o (inl w) = inl (ev ∷ w.0, w.1, w.2, ap (λ (l : List Event). ev ∷ l) w.3, w.4, w.5)
later_too k ev e o (inr w) = inr (ev ∷ w.0, w.1, ap (λ (l : List Event). ev ∷ l) w.2, w.3, w.4)

was_ended : (k : ℕ) (e : List Event) (o : ℕ) → gone_at k e o ≡ true → WasCollected k e o ⊎ WasLetGo k e o
was_ended k [] o h = absurd (false≢true h)
was_ended k (Made m ∷ e) o h = later_too k (Made m) e o (was_ended k e o h)
was_ended k (Wrote p j v ∷ e) o h = later_too k (Wrote p j v) e o (was_ended k e o h)
was_ended k (Collected roots ∷ e) o h =
    elim (or_cases (gone_at k e o) (ltb o (count_of k e) && not (held_by (gone_at k e) k roots e o)) h) [
      | inl before ↦ later_too k (Collected roots) e o (was_ended k e o before)
      | inr now ↦ let parts = and_parts _ _ now in inl ([], roots, e, refl, ltb-true o (count_of k e) parts.0, not-true _ parts.1)
    ]
was_ended k (Went p ∷ e) o h =
    elim (or_cases (gone_at k e o) (eqb o p && (ltb o (count_of k e) && not (ltb o k))) h) [
      | inl before ↦ later_too k (Went p) e o (was_ended k e o before)
      | inr now ↦ (let parts = and_parts _ _ now in let made = and_parts _ _ parts.1 in
          inr ([], e, ap (λ q. Went q ∷ e) (sym (eqb-true o p parts.0)), ltb-true o (count_of k e) made.0, grind (arith, nat_tests, made.1)))
    ]

ended_is_gone : (k : ℕ) (e : List Event) (o : ℕ) → WasCollected k e o ⊎ WasLetGo k e o → gone_at k e o ≡ true
ended_is_gone k e o (inl (later, roots, before, is, made, unheld)) =
    ap (λ (l : List Event). gone_at k l o) is
    ∙ stays_gone k later (Collected roots ∷ before) o
    (or_right (gone_at k before o) _ (and_from _ _ (lt-ltb o (count_of k before) made) (not_from_false _ unheld)))
ended_is_gone k e o (inr (later, before, is, made, other)) =
    ap (λ (l : List Event). gone_at k l o) is
    ∙ stays_gone k later (Went o ∷ before) o
    (or_right (gone_at k before o) _
    (and_from _ _ (eq-eqb o o refl) (and_from _ _ (lt-ltb o (count_of k before) made) (not_from_false _ (le-ltb o k other)))))

pub gone_means : GoneMeans
gone_means k e o = (was_ended k e o, ended_is_gone k e o)

pub classes_stay : ClassesStay
classes_stay k [] o h = refl
classes_stay k (Made m ∷ e) o h = classes_stay k e o h
classes_stay k (Wrote p j v ∷ e) o h = classes_stay k e o h
classes_stay k (Collected roots ∷ e) o h =
    let held : held_at k roots e o ≡ true = or_left _ _ (or_left _ _ (lt-ltb o k h)) in
    rw (classes_stay k e o h) (ap (λ b. ltb o (count_of k e) && not b) held ∙ and_right (ltb o (count_of k e)) false refl)
classes_stay k (Went p ∷ e) o h =
    rw (classes_stay k e o h)
    (ap (λ b. eqb o p && (ltb o (count_of k e) && not b)) (lt-ltb o k h)
    ∙ ap (λ b. eqb o p && b) (and_right (ltb o (count_of k e)) false refl) ∙ and_right (eqb o p) false refl)

-- ---- held

names_it : (o : ℕ) (s : Slot) → holds o s ≡ true → (target : ObjId) × (s ≡ ToObject (Some target)) × (target.0 ≡ o)
names_it o (Number v) h = absurd (false≢true h)
names_it o (ToObject None) h = absurd (false≢true h)
names_it o (ToObject (Some target)) h = (target, refl, eqb-true target.0 o h)

in_roots : (roots : List ℕ) (o : ℕ) → list_any (λ r. eqb r o) roots ≡ true → Contains roots o
in_roots roots o h =
    let found = Any-from_list_any (λ r. eqb r o) roots h in
    let P : ℕ → Type 0 = λ x. get_or roots found.0 x ≡ x in
    (found.0, found.2, subst P (eqb-true found.1 o found.4) found.3)

-- the numbers below n are those of the range
in_range : (n i j : ℕ) → i < length (range_with_len 0 n) → get_or (range_with_len 0 n) i j ≡ j → (i ≡ j) × (j < n)
in_range n i j h g =
    let len : length (range_with_len 0 n) ≡ n = length-range_with_len 0 n in
    let is : j ≡ 0 + i = sym g ∙ get_or-range_with_len 0 n i j (omega arith) in
    (omega arith, omega arith)

-- some slot of p holds o
in_its_slot : (k : ℕ) (e : List Event) (p o : ℕ) → points_at k e p o ≡ true → HoldsInASlot k e p o
in_its_slot k e p o h =
    let some : some_slot k e p o ≡ true = sym (points_same k e p o) ∙ h in
    let slot = Any-from_list_any (λ j. holds o (value_at k e p j)) (range_with_len 0 (slots_in (making_at k e p))) some in
    let named = names_it o (value_at k e p slot.1) slot.4 in
    (slot.1, named.0, (in_range (slots_in (making_at k e p)) slot.0 slot.1 slot.2 slot.3).1, named.1, named.2)

by_its_slot : (k : ℕ) (e : List Event) (p o : ℕ) → HoldsInASlot k e p o → points_at k e p o ≡ true
by_its_slot k e p o w = points_same k e p o ∙ by_slot k e p o w.0 w.2 (ap (holds o) w.3 ∙ eq-eqb w.1.0 o w.4)

pub points_mean : PointsMeans
points_mean k e p o = (in_its_slot k e p o, by_its_slot k e p o)

in_slot : (k : ℕ) (e : List Event) (o : ℕ) → list_any (λ p. not (gone_at k e p) && points_at k e p o) (range_with_len 0 (count_of k e)) ≡ true
    → StandsInASlot k e o
in_slot k e o h =
    let found = Any-from_list_any (λ p. not (gone_at k e p) && points_at k e p o) (range_with_len 0 (count_of k e)) h in
    let p = found.1 in
    let parts = and_parts _ _ found.4 in
    let slot : HoldsInASlot k e p o = in_its_slot k e p o parts.1 in
    (p, slot.0, slot.1, (in_range (count_of k e) found.0 p found.2 found.3).1, slot.2, not-true _ parts.0, slot.3, slot.4)

by_object : (k : ℕ) (e : List Event) (o : ℕ) → StandsInASlot k e o
    → list_any (λ p. not (gone_at k e p) && points_at k e p o) (range_with_len 0 (count_of k e)) ≡ true
by_object k e o w =
    let p = w.0 in
    let at : get_or (range_with_len 0 (count_of k e)) p 0 ≡ p = get_or-range_with_len 0 (count_of k e) p 0 w.3 ∙ zero-add p in
    let points : points_at k e p o ≡ true = by_its_slot k e p o (w.1, w.2, w.4, w.6, w.7) in
    let test : ℕ → Bool = λ q. not (gone_at k e q) && points_at k e q o in
    list_any_at test (range_with_len 0 (count_of k e)) p 0 (omega (arith, w.3, length-range_with_len 0 (count_of k e)))
    (ap test at ∙ and_from _ _ (not_from_false _ w.5) points)

root_test : (roots : List ℕ) (o : ℕ) → Contains roots o → list_any (λ r. eqb r o) roots ≡ true
root_test roots o w = list_any_at (λ r. eqb r o) roots w.0 o w.1 (eq-eqb (get_or roots w.0 o) o w.2)

pub held_means : HeldMeans
held_means k roots e o = (
  λ h. elim (or_cases (ltb o k || list_any (λ r. eqb r o) roots) (list_any (λ p. not (gone_at k e p) && points_at k e p o) (range_with_len 0 (count_of k e))) h) [
    | inl first ↦ elim (or_cases (ltb o k) (list_any (λ r. eqb r o) roots) first)
        [ inl class ↦ inl (ltb-true o k class) | inr root ↦ inr (inl (in_roots roots o root)) ]
    | inr slot ↦ inr (inr (in_slot k e o slot))
  ],
  λ h. elim h [
    | inl class ↦ or_left _ _ (or_left _ _ (lt-ltb o k class))
    | inr other ↦ elim other [
      | inl root ↦ or_left _ _ (or_right (ltb o k) _ (root_test roots o root))
      | inr slot ↦ or_right
          (ltb o k || list_any (λ r. eqb r o) roots) _ (by_object k e o slot)
    ]
  ],
)

-- ---- rows

pub rows_mean : RowsMean
rows_mean rows e stands =
    let n : count_in rows ≡ count_of rows.classes e = count_stands rows e stands in
    record {
      count = n;
      class = λ o h. class_stands rows e o stands (omega arith);
      len = λ o h. length_stands rows e o stands (omega arith);
      gone = λ o h. gone_stands rows e o stands (omega arith);
    }

-- ---- values

count_later : (k : ℕ) (later before : List Event) → count_of k before ≤ count_of k (later ++ before)
count_later k [] before = omega arith
count_later k (Made m ∷ later) before = omega (arith, count_later k later before)
count_later k (Wrote p j v ∷ later) before = count_later k later before
count_later k (Collected roots ∷ later) before = count_later k later before
count_later k (Went p ∷ later) before = count_later k later before

kept : (k : ℕ) (later before : List Event) (o j : ℕ) → o < count_of k before → AllByRecursion (Spares o j) later
    → value_at k (later ++ before) o j ≡ value_at k before o j
kept k [] before o j h s = refl
kept k (Made m ∷ later) before o j h s = cond-false _ _ _ (ne_eqb o (count_of k (later ++ before)) (λ same. omega (arith, count_later k later before)))
    ∙ kept k later before o j h s.1
kept k (Wrote p i v ∷ later) before o j h s = cond-false _ _ _ s.0 ∙ kept k later before o j h s.1
kept k (Collected roots ∷ later) before o j h s = kept k later before o j h s.1
kept k (Went p ∷ later) before o j h s = kept k later before o j h s.1

wrote_count : (k : ℕ) (before : List Event) (o j : ℕ) (v : Slot) → count_of k (Wrote o j v ∷ before) ≡ count_of k before
wrote_count k before o j v = refl

made_value : (k : ℕ) (before : List Event) (m : Making) (j : ℕ) → value_at k (Made m ∷ before) (count_of k before) j ≡ slot_in m j
made_value k before m j = cond-true _ _ _ (eq-eqb (count_of k before) (count_of k before) refl)

made_count : (k : ℕ) (before : List Event) (m : Making) → count_of k before < count_of k (Made m ∷ before)
made_count k before m = omega arith

pub latest_write : LatestWrite
latest_write k later before o j v h s = kept k later (Wrote o j v ∷ before) o j (omega (arith, wrote_count k before o j v)) s ∙ value_wrote_here k before o j v

pub first_value : FirstValue
first_value k later before m j s = kept k later (Made m ∷ before) (count_of k before) j (made_count k before m) s ∙ made_value k before m j

pub value_passes : ValuePasses
value_passes test k [] o j first w = first
value_passes test k (Made m ∷ e) o j first w =
    elim (cases_Bool (eqb o (count_of k e))) [
      | inl new ↦ (let is = rw (new) at first in rw (new) is)
      | inr old ↦ (let is = rw (old) at first in rw (old) (value_passes test k e o j is w.1))
    ]
value_passes test k (Wrote p i v ∷ e) o j first w =
    elim (cases_Bool (eqb o p && eqb j i)) [
      | inl here ↦ rw (here) (w.0 here)
      | inr other ↦ rw (other) (value_passes test k e o j first w.1)
    ]
value_passes test k (Collected roots ∷ e) o j first w = value_passes test k e o j first w.1
value_passes test k (Went p ∷ e) o j first w = value_passes test k e o j first w.1

-- ---- regions

-- the first write of a region is the oldest
region_from : (o j : ℕ) (v : ℤ) (values : List ℤ) (e : List Event)
    → region_writes o j (v ∷ values) ++ e ≡ region_writes o (j + 1) values ++ Wrote o j (Number v) ∷ e
region_from o j v values e = append_assoc (region_writes o (j + 1) values) (Wrote o j (Number v) ∷ []) e

spared : (o j p i n : ℕ) → (p ≢ o) ⊎ ((i < j) ⊎ (j + suc n ≤ i)) → ((p ≢ o) ⊎ ((i < j + 1) ⊎ (j + 1 + n ≤ i))) × ((eqb p o && eqb i j) ≡ false)
spared o j p i n (inl other) = (inl other, and_left _ _ (ne_eqb p o other))
spared o j p i n (inr (inl below)) = (inr (inl (omega arith)), and_right (eqb p o) _ (ne_eqb i j (λ same. omega arith)))
spared o j p i n (inr (inr above)) = (inr (inr (omega arith)), and_right (eqb p o) _ (ne_eqb i j (λ same. omega arith)))

pub region_spares : RegionSpares
region_spares k e o j [] p i other = refl
region_spares k e o j (v ∷ values) p i other =
    let both = spared o j p i (length values) other in
    ap (λ (l : List Event). value_at k l p i) (region_from o j v values e)
    ∙ region_spares k (Wrote o j (Number v) ∷ e) o (j + 1) values p i both.0
    ∙ cond-false _ _ _ both.1

pub region_written : RegionWritten
region_written k e o j [] i h = absurd (omega arith)
region_written k e o j (v ∷ values) zero h =
    let same : j + 0 ≡ j = omega arith in
    ap (value_at k (region_writes o j (v ∷ values) ++ e) o) same
    ∙ ap (λ (l : List Event). value_at k l o j) (region_from o j v values e)
    ∙ region_spares k (Wrote o j (Number v) ∷ e) o (j + 1) values o j (inr (inl (omega arith)))
    ∙ value_wrote_here k e o j (Number v)
region_written k e o j (v ∷ values) (suc i) h =
    let same : j + suc i ≡ j + 1 + i = omega arith in
    ap (value_at k (region_writes o j (v ∷ values) ++ e) o) same
    ∙ ap (λ (l : List Event). value_at k l o (j + 1 + i)) (region_from o j v values e)
    ∙ region_written k (Wrote o j (Number v) ∷ e) o (j + 1) values i (omega arith)

pub region_keeps : RegionKeeps
region_keeps k e o j [] = record { count = refl; making = λ p. refl; gone = λ p. refl }
region_keeps k e o j (v ∷ values) =
    let later : KeepsObjects k (Wrote o j (Number v) ∷ e) (region_writes o (j + 1) values ++ Wrote o j (Number v) ∷ e) =
    region_keeps k (Wrote o j (Number v) ∷ e) o (j + 1) values in
    let is : region_writes o j (v ∷ values) ++ e ≡ region_writes o (j + 1) values ++ Wrote o j (Number v) ∷ e = region_from o j v values e in
    record {
      count = ap (count_of k) is ∙ later.count;
      making = λ p. ap (λ (l : List Event). making_at k l p) is ∙ later.making p;
      gone = λ p. ap (λ (l : List Event). gone_at k l p) is ∙ later.gone p;
    }

-- ---- going

abbrev goes : ℕ → List ℕ → List Event → ℕ → Bool
goes k roots e o = not (gone_at k e o) && not (held_at k roots e o)

-- whether an object is among those that go
going_any : (k : ℕ) (roots : List ℕ) (e : List Event) (o : ℕ)
    → list_any (λ r. eqb r o) (going k roots e) ≡ (goes k roots e o && list_any (λ r. eqb r o) (range_with_len 0 (count_of k e)))
going_any k roots e o = any-filter_same (λ r. eqb r o) (goes k roots e) (goes k roots e o) (λ r t. ap (goes k roots e) (eqb-true r o t))
    (range_with_len 0 (count_of k e))

goes_now : (k : ℕ) (roots : List ℕ) (e : List Event) (o : ℕ) → Contains (going k roots e) o
    → (gone_at k e o ≡ false) × (gone_at k (Collected roots ∷ e) o ≡ true)
goes_now k roots e o w =
    let parts = and_parts (goes k roots e o) _ (sym (going_any k roots e o) ∙ root_test (going k roots e) o w) in
    let both = and_parts _ _ parts.0 in
    let there = in_roots (range_with_len 0 (count_of k e)) o parts.1 in
    (not-true _ both.0, or_right (gone_at k e o) _ (and_from _ _ (lt-ltb o (count_of k e) (in_range (count_of k e) there.0 o there.1 there.2).1) both.1))

now_goes : (k : ℕ) (roots : List ℕ) (e : List Event) (o : ℕ) → gone_at k e o ≡ false → gone_at k (Collected roots ∷ e) o ≡ true → Contains (going k roots e) o
now_goes k roots e o before after =
    elim (or_cases (gone_at k e o) (ltb o (count_of k e) && not (held_at k roots e o)) after) [
      | inl gone ↦ absurd (false≢true (sym before ∙ gone))
      | inr now ↦
          let parts = and_parts _ _ now in
          let made : o < count_of k e = ltb-true o (count_of k e) parts.0 in
          let at : get_or (range_with_len 0 (count_of k e)) o 0 ≡ o = get_or-range_with_len 0 (count_of k e) o 0 made ∙ zero-add o in
          let there : list_any (λ r. eqb r o) (range_with_len 0 (count_of k e)) ≡ true =
          list_any_at (λ r. eqb r o) (range_with_len 0 (count_of k e)) o 0 (omega (arith, length-range_with_len 0 (count_of k e))) (eq-eqb _ o at) in
          in_roots (going k roots e) o (going_any k roots e o ∙ and_from _ _ (and_from _ _ (not_from_false _ before) parts.1) there)
    ]

pub going_means : GoingMeans
going_means k roots e o = (goes_now k roots e o, λ w. now_goes k roots e o w.0 w.1)

-- ---- makings

pub made_stays : MadeStays
made_stays k [] before o h = refl
made_stays k (Made m ∷ later) before o h =
    let grows : count_of k before ≤ count_of k (later ++ before) = count_later k later before in
    cond-false _ _ _ (ne_eqb o (count_of k (later ++ before)) (λ same. omega arith)) ∙ made_stays k later before o h
made_stays k (Wrote p j v ∷ later) before o h = made_stays k later before o h
made_stays k (Collected roots ∷ later) before o h = made_stays k later before o h
made_stays k (Went p ∷ later) before o h = made_stays k later before o h

pub made_as : MadeAs
made_as k later before m =
    made_stays k later (Made m ∷ before) (count_of k before) (omega arith) ∙ cond-true _ _ _ (eq-eqb (count_of k before) (count_of k before) refl)

pub classes_counted : (k : ℕ) (e : List Event) → k ≤ count_of k e
classes_counted k [] = omega arith
classes_counted k (Made m ∷ e) = omega (arith, classes_counted k e)
classes_counted k (Wrote p j v ∷ e) = classes_counted k e
classes_counted k (Collected roots ∷ e) = classes_counted k e
classes_counted k (Went p ∷ e) = classes_counted k e

pub classes_are : ClassesAre
classes_are k [] o h = refl
classes_are k (Made m ∷ e) o h =
    let more : k ≤ count_of k e = classes_counted k e in
    cond-false _ _ _ (ne_eqb o (count_of k e) (λ same. omega arith)) ∙ classes_are k e o h
classes_are k (Wrote p j v ∷ e) o h = classes_are k e o h
classes_are k (Collected roots ∷ e) o h = classes_are k e o h
classes_are k (Went p ∷ e) o h = classes_are k e o h

pub roots_mean : RootsMean
roots_mean is_held n o h = kept_any is_held n o h

pub going_bounded : GoingIsBounded
going_bounded k roots e =
    let n : length (range_with_len 0 (count_of k e)) ≡ count_of k e = length-range_with_len 0 (count_of k e) in
    let m : length (going k roots e) ≤ length (range_with_len 0 (count_of k e)) =
    length-filter-most (λ o. not (gone_at k e o) && not (held_at k roots e o)) (range_with_len 0 (count_of k e)) in
    omega arith
