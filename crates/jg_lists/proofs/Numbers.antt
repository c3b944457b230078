-- Numbers, and the searches for the places of their seats.
use Rattle.std.proofs.Common.{◌≡◌, ◌≢◌, ◌<◌, ◌≤◌, ◌+◌, ◌-◌, length, get_or, ℕ, false, List, [], ◌∷◌, ◌++◌, ◌∙◌, sym, ap, subst, arith, inl, inr, ◌⊎◌, length-take-le}
use Rattle.std.specs.Prelude.{slice_set}
use Rattle.std.specs.List.{IsDistinct, swap_remove}
use Rattle.std.specs.Ordering.{nat_cmp, eq_by_cmp}
use Rattle.std.proofs.lemmas.Bool.{cases_eq, cases_lt}
use Rattle.std.proofs.lemmas.Bool.Decides.{nat_tests}
use Rattle.std.proofs.lemmas.List.{get_or-set_same, get_or-set_other, get_or-take, get_or_append_left, length-append, length-set}
use Rattle.std.proofs.Math.Seq.{get_or-append_seam}
use Rattle.std.proofs.lemmas.Grind.{get_or_default_zero}
use Rattle.std.proofs.lemmas.Map.Keys.{IsDistinct-from_apart}
use Rattle.jg_lists.specs.Searches.{home, Reaches, Placed, Leaves}

pub apart : (x y : ℕ) → x ≢ y → eq_by_cmp nat_cmp x y ≡ false
apart x y differ = grind (arith, nat_tests)

numbers_apart : (slots numbers : List ℕ) → Placed slots numbers → (i j d : ℕ) → i < j → j < length numbers
    → eq_by_cmp nat_cmp (get_or numbers i d) (get_or numbers j d) ≡ false
numbers_apart slots numbers placed i j d before within =
    let first : i < length numbers = omega (arith, before, within) in
    let one : get_or numbers i d ≡ get_or numbers i 0 = get_or_default_zero numbers i d first in
    let other : get_or numbers j d ≡ get_or numbers j 0 = get_or_default_zero numbers j d within in
    apart (get_or numbers i d) (get_or numbers j d) (λ same.
    let both : i ≡ j = placed.apart i j first within (sym one ∙ same ∙ other) in
    omega (arith, both, before))

pub numbers_once : (slots numbers : List ℕ) → Placed slots numbers → IsDistinct (eq_by_cmp nat_cmp) numbers
numbers_once slots numbers placed = IsDistinct-from_apart (eq_by_cmp nat_cmp) numbers (numbers_apart slots numbers placed)

pub placed_none : (slots : List ℕ) → Placed slots []
placed_none slots = record {
  found = λ i inside. absurd (omega (arith, inside));
  apart = λ i j inside. absurd (omega (arith, inside));
}

-- ---- a number more

module _ (old new numbers : List ℕ) (n : ℕ) (placed : Placed old numbers) (absent : (i : ℕ) → i < length numbers → get_or numbers i 0 ≢ n)
    (many : length new ≡ length old)
    (others : (first p : ℕ) → 1 ≤ p → Reaches old first p → Reaches new first p) (reach : Reaches new (home (length new) n) (length numbers + 1)) where
  abbrev more : List ℕ
  more = numbers ++ n ∷ []

  more_is : (i : ℕ) → i < length more → ((i < length numbers) × (get_or more i 0 ≡ get_or numbers i 0)) ⊎ ((i ≡ length numbers) × (get_or more i 0 ≡ n))
  more_is i inside = by (cases_lt i (length numbers))
    where
      by : (i < length numbers) ⊎ (length numbers ≤ i)
          → ((i < length numbers) × (get_or more i 0 ≡ get_or numbers i 0)) ⊎ ((i ≡ length numbers) × (get_or more i 0 ≡ n))
      by (inl before) = inl (before, get_or_append_left numbers (n ∷ []) 0 i before)
      by (inr after) =
          let last : i ≡ length numbers = omega (arith, after, inside, length-append numbers (n ∷ [])) in
          inr (last, ap (λ k. get_or more k 0) last ∙ get_or-append_seam numbers n [] 0)

  more_found : (i : ℕ) → ((i < length numbers) × (get_or more i 0 ≡ get_or numbers i 0)) ⊎ ((i ≡ length numbers) × (get_or more i 0 ≡ n))
      → Reaches new (home (length new) (get_or more i 0)) (i + 1)
  more_found i (inl was) =
      subst (λ k. Reaches new (home (length new) k) (i + 1)) (sym was.1)
      (subst (λ c. Reaches new (home c (get_or numbers i 0)) (i + 1)) (sym many)
      (others (home (length old) (get_or numbers i 0)) (i + 1) (omega arith) (placed.found i was.0)))
  more_found i (inr own) =
      subst (λ k. Reaches new (home (length new) k) (i + 1)) (sym own.1) (subst (λ k. Reaches new (home (length new) n) (k + 1)) (sym own.0) reach)

  more_apart : (i j : ℕ) → ((i < length numbers) × (get_or more i 0 ≡ get_or numbers i 0)) ⊎ ((i ≡ length numbers) × (get_or more i 0 ≡ n))
      → ((j < length numbers) × (get_or more j 0 ≡ get_or numbers j 0)) ⊎ ((j ≡ length numbers) × (get_or more j 0 ≡ n)) → get_or more i 0 ≡ get_or more j 0
      → i ≡ j
  more_apart i j (inl one) (inl other) same = placed.apart i j one.0 other.0 (sym one.1 ∙ same ∙ other.1)
  more_apart i j (inl one) (inr other) same = absurd (absent i one.0 (sym one.1 ∙ same ∙ other.1))
  more_apart i j (inr one) (inl other) same = absurd (absent j other.0 (sym other.1 ∙ sym same ∙ one.1))
  more_apart i j (inr one) (inr other) same = one.0 ∙ sym other.0

  pub placed_one : Placed new (numbers ++ n ∷ [])
  placed_one = record {
    found = λ i inside. more_found i (more_is i inside);
    apart = λ i j one other same. more_apart i j (more_is i one) (more_is j other) same;
  }

-- ---- a number less

-- the i-th number is gone, and the last has its place
pub record IsWithout (numbers left : List ℕ) (i : ℕ) : Type 0 where
  pub count : length left + 1 ≡ length numbers
  pub moved : i < length left → get_or left i 0 ≡ get_or numbers (length left) 0
  pub others : (j : ℕ) → j ≢ i → j < length left → get_or left j 0 ≡ get_or numbers j 0

pub without : (numbers : List ℕ) (i d : ℕ) → i < length numbers → IsWithout numbers (swap_remove numbers i d) i
without numbers i d inside =
    let last = length numbers - 1 in
    let moved = get_or numbers last d in
    let many : length (slice_set numbers i moved) ≡ length numbers = length-set numbers i moved in
    let count : length (swap_remove numbers i d) ≡ last = length-take-le last (slice_set numbers i moved) (omega (arith, many)) in
    record {
      count = omega (arith, count, inside);
      moved = λ before. get_or-take last (slice_set numbers i moved) i 0 (omega (arith, before, count)) ∙ get_or-set_same numbers i moved 0 inside
          ∙ get_or_default_zero numbers last d (omega (arith, inside)) ∙ ap (λ j. get_or numbers j 0) (sym count);
      others = λ j differ before. get_or-take last (slice_set numbers i moved) j 0 (omega (arith, before, count)) ∙ get_or-set_other numbers i j moved 0 differ;
    }

module _ (old new numbers left : List ℕ) (seat : ℕ) (placed : Placed old numbers) (leaves : Leaves new numbers seat) (is : IsWithout numbers left seat) where
  left_found : (j : ℕ) → (j ≡ seat) ⊎ (j ≢ seat) → j < length left → Reaches new (home (length new) (get_or left j 0)) (j + 1)
  left_found j (inl same) inside =
      let within : seat < length left = omega (arith, same, inside) in
      let end : length numbers - 1 ≡ length left = omega (arith, is.count) in
      let number : get_or numbers (length numbers - 1) 0 ≡ get_or left j 0 = ap (λ k. get_or numbers k 0) end ∙ sym (is.moved within)
      ∙ ap (λ k. get_or left k 0) (sym same) in
      subst (λ k. Reaches new (home (length new) (get_or left j 0)) (k + 1)) (sym same)
      (subst (λ k. Reaches new (home (length new) k) (seat + 1)) number (leaves.moved (omega (arith, within, is.count))))
  left_found j (inr other) inside =
      subst (λ k. Reaches new (home (length new) k) (j + 1)) (sym (is.others j other inside)) (leaves.others j (omega (arith, inside, is.count)) other)

  left_apart : (i j : ℕ) → (i ≡ seat) ⊎ (i ≢ seat) → (j ≡ seat) ⊎ (j ≢ seat) → i < length left → j < length left → get_or left i 0 ≡ get_or left j 0 → i ≡ j
  left_apart i j (inl one) (inl other) first second same = one ∙ sym other
  left_apart i j (inl one) (inr other) first second same =
      let mine : get_or left i 0 ≡ get_or numbers (length left) 0 = ap (λ k. get_or left k 0) one ∙ is.moved (omega (arith, one, first)) in
      let both : length left ≡ j =
      placed.apart (length left) j (omega (arith, is.count)) (omega (arith, is.count, second)) (sym mine ∙ same ∙ is.others j other second) in
      absurd (omega (arith, both, second))
  left_apart i j (inr one) (inl other) first second same =
      let mine : get_or left j 0 ≡ get_or numbers (length left) 0 = ap (λ k. get_or left k 0) other ∙ is.moved (omega (arith, other, second)) in
      let both : i ≡ length left =
      placed.apart i (length left) (omega (arith, is.count, first)) (omega (arith, is.count)) (sym (is.others i one first) ∙ same ∙ mine) in
      absurd (omega (arith, both, first))
  left_apart i j (inr one) (inr other) first second same =
      placed.apart i j (omega (arith, is.count, first)) (omega (arith, is.count, second)) (sym (is.others i one first) ∙ same ∙ is.others j other second)

  -- the number that is gone is none of those that are left
  pub left_differ : (seat < length numbers) → (j : ℕ) → j < length left → get_or left j 0 ≢ get_or numbers seat 0
  left_differ there j inside same = by (cases_eq j seat)
    where
      by : (j ≡ seat) ⊎ (j ≢ seat) → ⊥
      by (inl own) =
          let mine : get_or left j 0 ≡ get_or numbers (length left) 0 = ap (λ k. get_or left k 0) own ∙ is.moved (omega (arith, own, inside)) in
          let both : length left ≡ seat = placed.apart (length left) seat (omega (arith, is.count)) there (sym mine ∙ same) in
          omega (arith, both, own, inside)
      by (inr other) = other (placed.apart j seat (omega (arith, is.count, inside)) there (sym (is.others j other inside) ∙ same))

  pub placed_less : Placed new left
  placed_less = record {
    found = λ j inside. left_found j (cases_eq j seat) inside;
    apart = λ i j one other same. left_apart i j (cases_eq i seat) (cases_eq j seat) one other same;
  }
