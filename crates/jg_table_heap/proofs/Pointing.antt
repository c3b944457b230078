-- Whether some slot holds an object: asked slot by slot, and by the writes.
use Rattle.std.proofs.Common.{ℕ, ◌≡◌, ◌+◌, ◌<◌, ◌⊎◌, ◌∙◌, sym, ap, subst, refl, inl, inr, List, [], ◌∷◌, length, get_or, arith, Bool, true, false, ◌&&◌, ltb, eqb, pos, zero-add}
use Rattle.std.specs.List.{list_any, range_with_len}
use Rattle.std.proofs.lemmas.Bool.{cases_Bool, or_cases, or_left, or_right, and_parts, and_from, ltb-true, lt-ltb, eqb-true, eq-eqb, cond-true, cond-false, false≢true}
use Rattle.std.proofs.lemmas.List.Folds.{list_any_at, Any-from_list_any}
use Rattle.std.proofs.lemmas.List.FromFn.{length-range_with_len, get_or-range_with_len}
use Rattle.std.specs.Cmp.{both_ways}
use Rattle.jg_words.proofs.Common.{list_any-map}
use Rattle.jg_table_heap.specs.declared.object.Slot.TheVariants.{Number}
use Rattle.jg_table_heap.specs.Making.{Making, Plain, Text, Filled, Opaque, slots_in, slot_in}
use Rattle.jg_table_heap.specs.History.{Event, Made, Wrote, Collected, Went, count_of, making_at, value_at, holds, made_with, wrote_for, some_slot, points_at}
use Rattle.jg_table_heap.specs.Standing.{slots_at}
use Rattle.jg_table_heap.proofs.Lists.{list_any_implies}

-- the event wrote this slot
abbrev writes : ℕ → ℕ → Event → Bool
writes p j (Made m) = false
writes p j (Wrote q i v) = eqb q p && eqb i j
writes p j (Collected roots) = false
writes p j (Went q) = false

same_slot : (p q j i : ℕ) → (eqb p q && eqb j i) ≡ true → (eqb q p && eqb i j) ≡ true
same_slot p q j i h = let parts = and_parts _ _ h in and_from _ _ (eq-eqb q p (sym (eqb-true p q parts.0))) (eq-eqb i j (sym (eqb-true j i parts.1)))

-- a slot has its first value, or it was written
first_or_written : (k : ℕ) (e : List Event) (p j : ℕ) → (value_at k e p j ≡ slot_in (making_at k e p) j) ⊎ (list_any (writes p j) e ≡ true)
first_or_written k [] p j = inl refl
first_or_written k (Made m ∷ e) p j =
    elim (cases_Bool (eqb p (count_of k e))) [
      | inl new ↦ inl (rw (new) refl)
      | inr old ↦ elim (first_or_written k e p j) [ inl first ↦ inl (rw (old) first) | inr written ↦ inr written ]
    ]
first_or_written k (Wrote q i v ∷ e) p j =
    elim (cases_Bool (eqb p q && eqb j i)) [
      | inl here ↦ inr (or_left _ _ (same_slot p q j i here))
      | inr other ↦ elim (first_or_written k e p j) [ inl first ↦ inl (rw (other) first) | inr written ↦ inr (or_right (eqb q p && eqb i j) _ written) ]
    ]
first_or_written k (Collected roots ∷ e) p j = first_or_written k e p j
first_or_written k (Went q ∷ e) p j = first_or_written k e p j

-- where no slot held it at the making, its first value doesn't
first_holds : (o : ℕ) (m : Making) (j : ℕ) → j < slots_in m → holds o (slot_in m j) ≡ true → made_with o m ≡ true
first_holds o (Plain class fields) j h t = list_any_at (holds o) fields j (Number (pos 0)) h t
first_holds o (Text units) j h t = absurd (omega arith)
first_holds o (Filled class n item) j h t = t
first_holds o (Opaque class n) j h t = absurd (false≢true t)

wrote_it : (k : ℕ) (e : List Event) (p o j : ℕ) → j < slots_in (making_at k e p) → holds o (value_at k e p j) ≡ true → (ev : Event) → writes p j ev ≡ true
    → wrote_for k e p o ev ≡ true
wrote_it k e p o j h t (Made m) w = absurd (false≢true w)
wrote_it k e p o j h t (Wrote q i v) w =
    let parts = and_parts _ _ w in
    let same : i ≡ j = eqb-true i j parts.1 in
    let P : ℕ → Type 0 = λ n. (ltb n (slots_in (making_at k e p)) && holds o (value_at k e p n)) ≡ true in
    and_from _ _ parts.0 (subst P (sym same) (and_from _ _ (lt-ltb j (slots_in (making_at k e p)) h) t))
wrote_it k e p o j h t (Collected roots) w = absurd (false≢true w)
wrote_it k e p o j h t (Went q) w = absurd (false≢true w)

at_range : (n j : ℕ) → j < n → get_or (range_with_len 0 n) j 0 ≡ j
at_range n j h = get_or-range_with_len 0 n j 0 h ∙ zero-add j

-- a slot that holds it says so
pub by_slot : (k : ℕ) (e : List Event) (p o j : ℕ) → j < slots_in (making_at k e p) → holds o (value_at k e p j) ≡ true → some_slot k e p o ≡ true
by_slot k e p o j h t =
    let n = slots_in (making_at k e p) in
    let test : ℕ → Bool = λ i. holds o (value_at k e p i) in
    list_any_at test (range_with_len 0 n) j 0 (omega (arith, length-range_with_len 0 n)) (ap test (at_range n j h) ∙ t)

by_write : (k : ℕ) (e later : List Event) (p o : ℕ) → list_any (wrote_for k e p o) later ≡ true → some_slot k e p o ≡ true
by_write k e [] p o h = absurd (false≢true h)
by_write k e (Made m ∷ later) p o h = by_write k e later p o h
by_write k e (Wrote q i v ∷ later) p o h =
    elim (or_cases _ (list_any (wrote_for k e p o) later) h) [
      | inl here ↦ (let parts = and_parts _ _ (and_parts (eqb q p) _ here).1 in by_slot k e p o i (ltb-true i (slots_in (making_at k e p)) parts.0) parts.1)
      | inr past ↦ by_write k e later p o past
    ]
by_write k e (Collected roots ∷ later) p o h = by_write k e later p o h
by_write k e (Went q ∷ later) p o h = by_write k e later p o h

by_some : (k : ℕ) (e : List Event) (p o : ℕ) → made_with o (making_at k e p) ≡ false → some_slot k e p o ≡ true → list_any (wrote_for k e p o) e ≡ true
by_some k e p o none h =
    let n = slots_in (making_at k e p) in
    let found = Any-from_list_any (λ i. holds o (value_at k e p i)) (range_with_len 0 n) h in
    let j = found.1 in
    let len : length (range_with_len 0 n) ≡ n = length-range_with_len 0 n in
    let here : j ≡ 0 + found.0 = sym found.3 ∙ get_or-range_with_len 0 n found.0 j (omega arith) in
    let within : j < n = omega arith in
    elim (first_or_written k e p j) [
      | inl first ↦ absurd (false≢true (sym none ∙ first_holds o (making_at k e p) j within (ap (holds o) (sym first) ∙ found.4)))
      | inr written ↦ list_any_implies (writes p j) (wrote_for k e p o) (wrote_it k e p o j within found.4) e written
    ]

pub points_same : (k : ℕ) (e : List Event) (p o : ℕ) → points_at k e p o ≡ some_slot k e p o
points_same k e p o =
    elim (cases_Bool (made_with o (making_at k e p))) [
      | inl some ↦ cond-true _ _ _ some
      | inr none ↦ cond-false _ _ _ none ∙ both_ways (list_any (wrote_for k e p o) e) (some_slot k e p o) (by_write k e e p o) (by_some k e p o none)
    ]

-- the slots of its row say the same
pub points_slots : (k : ℕ) (e : List Event) (p o : ℕ) → list_any (holds o) (slots_at k e p) ≡ points_at k e p o
unfolding slots_at
points_slots k e p o = list_any-map (value_at k e p) (holds o) (range_with_len 0 (slots_in (making_at k e p))) ∙ sym (points_same k e p o)
