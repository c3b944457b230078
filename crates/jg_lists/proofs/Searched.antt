-- Searches for the place of a number's seat.
use Rattle.std.proofs.Common.{◌≡◌, ◌≢◌, ◌<◌, ◌≤◌, ◌+◌, ◌-◌, ◌*◌, ◌/◌, ◌%◌, length, get_or, ℕ, zero, suc, List, [], ◌∷◌, refl, ◌∙◌, sym, ap, subst, arith, inl, inr, ◌⊎◌}
use Rattle.std.specs.Prelude.{◌^◌, slice_set}
use Rattle.std.proofs.lemmas.Bool.{cases_eq, cases_lt}
use Rattle.std.proofs.lemmas.Bool.Decides.{nat_tests}
use Rattle.std.proofs.lemmas.Nat.{and_le_r}
use Rattle.std.proofs.lemmas.List.{get_or_past, get_or-set_same, get_or-set_other, length-set}
use Rattle.std.specs.Int.{w64, leading_zeros}
use Rattle.std.specs.Int.Bits.{bit_or}
use Rattle.jg_lists.specs.Searches.{home, spot, following, Reaches, filled, Placed, Comes, Finds, Misses, MayStand, Moves, MovesLast, Leaves}

pub spot_front : (count first k : ℕ) → k < count - first → spot count first k ≡ first + k
unfolding spot
spot_front count first k inside = grind (arith, nat_tests, inside)

pub spot_back : (count first k : ℕ) → count - first ≤ k → spot count first k ≡ k - (count - first)
unfolding spot
spot_back count first k past = grind (arith, nat_tests, past)

pub home_within : (count n : ℕ) → 0 < count → home count n < count
unfolding home
home_within count n some =
    omega (
      arith,
      and_le_r (bit_or ((n / 16 * 11400714819323198485) % 2 ^ 64 / 2 ^ ((leading_zeros w64 count % 64 + 5) % 64) * 16 % 2 ^ 64) (n % 16))
          (count - 1),
    )

pub following_front : (count slot : ℕ) → slot + 1 < count → following count slot ≡ slot + 1
unfolding following
following_front count slot inside = grind (arith, nat_tests, inside)

pub following_back : (count slot : ℕ) → count ≤ slot + 1 → following count slot ≡ 0
unfolding following
following_back count slot past = grind (arith, nat_tests, past)

spot_next : (count first k : ℕ) → first < count → k + 1 < count → spot count first (k + 1) ≡ following count (spot count first k)
unfolding spot following
spot_next count first k start inside = grind (arith, nat_tests, start, inside)

-- each slot is looked at
pub looked_at : (count first u : ℕ) (P : ℕ → Type 0) → first < count → u < count → ((k : ℕ) → k < count → P (spot count first k)) → P u
looked_at count first u P start inside all = by (cases_lt u first)
  where
    by : (u < first) ⊎ (first ≤ u) → P u
    by (inl before) =
        let k = u + (count - first) in
        let is : spot count first k ≡ u = spot_back count first k (omega arith) ∙ omega arith in
        subst P is (all k (omega (arith, before, start)))
    by (inr after) =
        let k = u - first in
        let is : spot count first k ≡ u = spot_front count first k (omega (arith, inside, after)) ∙ omega (arith, after) in
        subst P is (all k (omega (arith, inside)))

has_room : (xs : List ℕ) (u : ℕ) → 1 ≤ get_or xs u 0 → u < length xs
has_room xs u some = by (cases_lt u (length xs))
  where
    by : (u < length xs) ⊎ (length xs ≤ u) → u < length xs
    by (inl inside) = inside
    by (inr past) = absurd (omega (arith, some, get_or_past xs u 0 past))

-- ---- how many slots aren't free

pub filled_set : (xs : List ℕ) (s v : ℕ) → filled (slice_set xs s v) ≤ filled xs + 1
filled_set [] s v = omega arith
filled_set (x ∷ xs) zero v = grind (arith, nat_tests)
filled_set (x ∷ xs) (suc s) v =
    let later = filled_set xs s v in
    grind (arith, nat_tests, later)

pub filled_over : (xs : List ℕ) (s v : ℕ) → 1 ≤ get_or xs s 0 → filled (slice_set xs s v) ≤ filled xs
filled_over [] s v some = omega arith
filled_over (x ∷ xs) zero v some = grind (arith, nat_tests, some)
filled_over (x ∷ xs) (suc s) v some =
    let later = filled_over xs s v some in
    grind (arith, nat_tests, later)

-- a slot that wasn't free is made so
pub filled_less : (xs : List ℕ) (s : ℕ) → 1 ≤ get_or xs s 0 → filled (slice_set xs s 0) + 1 ≡ filled xs
filled_less [] s some = absurd (omega (arith, some))
filled_less (x ∷ xs) zero some = grind (arith, nat_tests, some)
filled_less (x ∷ xs) (suc s) some =
    let later = filled_less xs s some in
    grind (arith, nat_tests, later)

pub filled_none : (xs : List ℕ) → ((j : ℕ) → j < length xs → get_or xs j 0 ≡ 0) → filled xs ≡ 0
filled_none [] none = refl
filled_none (x ∷ xs) none =
    let here : x ≡ 0 = none 0 (omega arith) in
    let later : filled xs ≡ 0 = filled_none xs (λ j inside. none (suc j) (omega (arith, inside))) in
    grind (arith, nat_tests, here, later)

pub filled_all : (xs : List ℕ) → ((j : ℕ) → j < length xs → 1 ≤ get_or xs j 0) → filled xs ≡ length xs
filled_all [] all = refl
filled_all (x ∷ xs) all =
    let here : 1 ≤ x = all 0 (omega arith) in
    let later : filled xs ≡ length xs = filled_all xs (λ j inside. all (suc j) (omega (arith, inside))) in
    grind (arith, nat_tests, here, later)

-- ---- a slot is written

-- a search that found the place finds it, where no slot was made free and each with the place has it still
reaches_by : (old new : List ℕ) (first p : ℕ) → length new ≡ length old → ((u : ℕ) → 1 ≤ get_or old u 0 → 1 ≤ get_or new u 0)
    → ((u : ℕ) → get_or old u 0 ≡ p → get_or new u 0 ≡ p)
    → Reaches old first p → Reaches new first p
reaches_by old new first p many still same reach = record {
  steps = reach.steps;
  within = omega (arith, many, reach.within);
  here = subst (λ c. get_or new (spot c first reach.steps) 0 ≡ p) (sym many) (same (spot (length old) first reach.steps) reach.here);
  before = λ j b. subst (λ c. 1 ≤ get_or new (spot c first j) 0) (sym many) (still (spot (length old) first j) (reach.before j b));
}

set_still : (xs : List ℕ) (s v u : ℕ) → 1 ≤ v → 1 ≤ get_or xs u 0 → 1 ≤ get_or (slice_set xs s v) u 0
set_still xs s v u some is = by (cases_eq u s)
  where
    by : (u ≡ s) ⊎ (u ≢ s) → 1 ≤ get_or (slice_set xs s v) u 0
    by (inl same) =
        let room : s < length xs = subst (λ k. k < length xs) same (has_room xs u is) in
        let here : get_or (slice_set xs s v) u 0 ≡ v = ap (λ k. get_or (slice_set xs s v) k 0) same ∙ get_or-set_same xs s v 0 room in
        omega (arith, here, some)
    by (inr other) = omega (arith, get_or-set_other xs s u v 0 other, is)

set_other : (xs : List ℕ) (s v u p : ℕ) → get_or xs s 0 ≢ p → get_or xs u 0 ≡ p → get_or (slice_set xs s v) u 0 ≡ p
set_other xs s v u p differ is = get_or-set_other xs s u v 0 (λ same. differ (ap (λ k. get_or xs k 0) (sym same) ∙ is)) ∙ is

written : (old : List ℕ) (s v first p : ℕ) → 1 ≤ v → get_or old s 0 ≢ p → Reaches old first p → Reaches (slice_set old s v) first p
written old s v first p some differ reach =
    reaches_by old (slice_set old s v) first p (length-set old s v) (λ u. set_still old s v u some) (λ u. set_other old s v u p differ) reach

-- a slot may be made free whose next one is, if it hasn't the place
module _ (old : List ℕ) (s first p : ℕ) (start : first < length old) (some : 1 ≤ p) (next : get_or old (following (length old) s) 0 ≡ 0)
    (reach : Reaches old first p) where
  -- the slot is not on the way, since the next one would be too
  past : (j : ℕ) → j < reach.steps → (j + 1 < reach.steps) ⊎ (reach.steps ≤ j + 1) → spot (length old) first j ≢ s
  past j b (inl before) same =
      let after : spot (length old) first (j + 1) ≡ following (length old) s = spot_next (length old) first j start (omega (arith, before, reach.within))
      ∙ ap (following (length old)) same in
      let none : get_or old (spot (length old) first (j + 1)) 0 ≡ 0 = ap (λ u. get_or old u 0) after ∙ next in
      omega (arith, none, reach.before (j + 1) before)
  past j b (inr end) same =
      let last : j + 1 ≡ reach.steps = omega (arith, b, end) in
      let after : spot (length old) first (j + 1) ≡ following (length old) s = spot_next (length old) first j start (omega (arith, last, reach.within))
      ∙ ap (following (length old)) same in
      let none : get_or old (spot (length old) first reach.steps) 0 ≡ 0 = ap (λ k. get_or old (spot (length old) first k) 0) (sym last)
      ∙ (ap (λ u. get_or old u 0) after ∙ next) in
      omega (arith, none, reach.here, some)

  kept : (j : ℕ) → j < reach.steps → 1 ≤ get_or (slice_set old s 0) (spot (length old) first j) 0
  kept j b = omega (arith, get_or-set_other old s (spot (length old) first j) 0 0 (past j b (cases_lt (j + 1) reach.steps)), reach.before j b)

  freed : get_or old s 0 ≢ p → Reaches (slice_set old s 0) first p
  freed differ = record {
    steps = reach.steps;
    within = omega (arith, length-set old s 0, reach.within);
    here = subst (λ c. get_or (slice_set old s 0) (spot c first reach.steps) 0 ≡ p) (sym (length-set old s 0))
        (set_other old s 0 (spot (length old) first reach.steps) p differ reach.here);
    before = λ j b. subst (λ c. 1 ≤ get_or (slice_set old s 0) (spot c first j) 0) (sym (length-set old s 0)) (kept j b);
  }

-- what may stand in a slot that hasn't the place
marked : (old : List ℕ) (s mark first p : ℕ) → first < length old → 1 ≤ p → MayStand old s mark → get_or old s 0 ≢ p → Reaches old first p
    → Reaches (slice_set old s mark) first p
marked old s mark first p start some (inl taken) differ reach = written old s mark first p taken differ reach
marked old s mark first p start some (inr free) differ reach =
    subst (λ m. Reaches (slice_set old s m) first p) (sym free.0) (freed old s first p start some free.1 reach differ)

-- the search comes to the slot that was written
comes_to : (old : List ℕ) (n slot place : ℕ) → 1 ≤ place → Comes old n slot
    → Reaches (slice_set old slot place) (home (length (slice_set old slot place)) n) place
comes_to old n slot place some comes =
    let new = slice_set old slot place in
    let many : length old ≡ length new = sym (length-set old slot place) in
    record {
      steps = comes.steps;
      within = omega (arith, many, comes.within);
      here = subst (λ c. get_or new (spot c (home c n) comes.steps) 0 ≡ place) many
          (ap (λ u. get_or new u 0) comes.here ∙ get_or-set_same old slot place 0 comes.inside);
      before = λ j b. subst (λ c. 1 ≤ get_or new (spot c (home c n) j) 0) many
          (set_still old slot place (spot (length old) (home (length old) n) j) some (comes.before j b));
    }

-- a number more is found
pub listed_more : (old new numbers : List ℕ) (seat : ℕ) → length new ≡ length old → ((first p : ℕ) → 1 ≤ p → Reaches old first p → Reaches new first p)
    → Reaches new (home (length new) (get_or numbers seat 0)) (seat + 1)
    → ((i : ℕ) → i < seat → i < length numbers → Reaches old (home (length old) (get_or numbers i 0)) (i + 1))
    → (i : ℕ) → i < seat + 1 → i < length numbers → Reaches new (home (length new) (get_or numbers i 0)) (i + 1)
listed_more old new numbers seat many others reach listed i before inside = by (cases_eq i seat)
  where
    by : (i ≡ seat) ⊎ (i ≢ seat) → Reaches new (home (length new) (get_or numbers i 0)) (i + 1)
    by (inl same) = subst (λ k. Reaches new (home (length new) (get_or numbers k 0)) (k + 1)) (sym same) reach
    by (inr other) =
        subst (λ c. Reaches new (home c (get_or numbers i 0)) (i + 1)) (sym many)
        (others (home (length old) (get_or numbers i 0)) (i + 1) (omega arith) (listed i (omega (arith, before, other)) inside))

-- ---- what a search finds

-- the slots that were looked at had a place, and of no seat that is the number's
pub record Passes (slots numbers : List ℕ) (n u : ℕ) : Type 0 where
  pub taken : 1 ≤ get_or slots u 0
  pub other : (i : ℕ) → i < length numbers → get_or slots u 0 ≡ i + 1 → get_or numbers i 0 ≢ n

misses_free : (slots numbers : List ℕ) (n step : ℕ) → ((j : ℕ) → j < step → Passes slots numbers n (spot (length slots) (home (length slots) n) j))
    → get_or slots (spot (length slots) (home (length slots) n) step) 0 ≡ 0 → Misses slots numbers n
misses_free slots numbers n step passed free i inside reach own = by (cases_lt reach.steps step)
  where
    at_end : (step ≡ reach.steps) ⊎ (step ≢ reach.steps) → step ≤ reach.steps → ⊥
    at_end (inl same) past =
        let here : get_or slots (spot (length slots) (home (length slots) n) reach.steps) 0 ≡ 0 =
        ap (λ k. get_or slots (spot (length slots) (home (length slots) n) k) 0) (sym same) ∙ free in
        omega (arith, here, reach.here)
    at_end (inr other) past = omega (arith, reach.before step (omega (arith, other, past)), free)

    by : (reach.steps < step) ⊎ (step ≤ reach.steps) → ⊥
    by (inl before) = (passed reach.steps before).other i inside reach.here own
    by (inr past) = at_end (cases_eq step reach.steps) past

misses_all : (slots numbers : List ℕ) (n : ℕ) → ((j : ℕ) → j < length slots → Passes slots numbers n (spot (length slots) (home (length slots) n) j))
    → Misses slots numbers n
misses_all slots numbers n passed i inside reach own = (passed reach.steps reach.within).other i inside reach.here own

-- a table without slots has no place
misses_empty : (slots numbers : List ℕ) (n : ℕ) → length slots ≡ 0 → Misses slots numbers n
misses_empty slots numbers n none i inside reach own = absurd (omega (arith, none, reach.within))

-- ---- a seat is left

module _ (old numbers : List ℕ) (slot seat mark : ℕ) (placed : Placed old numbers) (found : Finds old numbers (get_or numbers seat 0) slot seat)
    (may : MayStand old slot mark) where
  abbrev without_place : List ℕ
  without_place = slice_set old slot mark

  still_found : (j : ℕ) → j < length numbers → j ≢ seat → Reaches without_place (home (length without_place) (get_or numbers j 0)) (j + 1)
  still_found j inside other =
      subst (λ c. Reaches without_place (home c (get_or numbers j 0)) (j + 1)) (sym (length-set old slot mark))
      (marked old slot mark (home (length old) (get_or numbers j 0)) (j + 1) (home_within (length old) (get_or numbers j 0) (omega (arith, found.comes.inside)))
      (omega arith) may (λ same. other (omega (arith, same, found.place))) (placed.found j inside))

  leaves_none : Misses without_place numbers (get_or numbers (length numbers - 1) 0) → Leaves without_place numbers seat
  leaves_none misses = record {
    others = λ j before other. still_found j (omega (arith, before)) other;
    moved = λ before.
        let last : length numbers - 1 < length numbers = omega (arith, before) in
        let reach = still_found (length numbers - 1) last (λ same. absurd (omega (arith, same, before))) in
        absurd (misses (length numbers - 1) last reach refl);
  }

  leaves_some : (other back : ℕ) → Finds without_place numbers (get_or numbers (length numbers - 1) 0) other back
      → Leaves (slice_set without_place other (seat + 1)) numbers seat
  leaves_some other back last =
      let whole : length numbers - 1 < length numbers = omega (arith, last.seated) in
      let own : back ≡ length numbers - 1 = placed.apart back (length numbers - 1) last.seated whole last.own in
      record {
        others = λ j before differ.
            subst (λ c. Reaches (slice_set without_place other (seat + 1)) (home c (get_or numbers j 0)) (j + 1))
            (sym (length-set without_place other (seat + 1)))
            (written without_place other (seat + 1) (home (length without_place) (get_or numbers j 0)) (j + 1) (omega arith)
            (λ same. absurd (omega (arith, same, last.place, own, before)))
            (still_found j (omega (arith, before)) differ));
        moved = λ before. comes_to without_place (get_or numbers (length numbers - 1) 0) other (seat + 1) (omega arith) last.comes;
      }

  leaves_moved : (new : List ℕ) → Moves without_place new numbers (get_or numbers (length numbers - 1) 0) (seat + 1) → Leaves new numbers seat
  leaves_moved new (inl none) = subst (λ l. Leaves l numbers seat) (sym none.1) (leaves_none none.0)
  leaves_moved new (inr found) = subst (λ l. Leaves l numbers seat) (sym found.3) (leaves_some found.0 found.1 found.2)

  leaves_last : length numbers ≤ seat + 1 → Leaves without_place numbers seat
  leaves_last end = record {
    others = λ j before other. still_found j (omega (arith, before)) other;
    moved = λ before. absurd (omega (arith, before, end));
  }

  pub leaves : (new : List ℕ) → MovesLast without_place new numbers seat (seat + 1) → Leaves new numbers seat
  leaves new (inl end) = subst (λ l. Leaves l numbers seat) (sym end.1) (leaves_last end.0)
  leaves new (inr moves) = leaves_moved new moves
