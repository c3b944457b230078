-- Values found by their number's own place.
use Rattle.std.proofs.Common.{◌≡◌, ◌≢◌, ◌<◌, ◌≤◌, ◌+◌, ◌-◌, length, get_or, ℕ, zero, suc, false, List, [], ◌∷◌, ◌++◌, Option, Some, None, refl, ◌∙◌, sym, ap, subst, arith, inl, inr, ◌⊎◌}
use Rattle.std.specs.Prelude.{IsPermutation, IsSome, map, slice_set}
use Rattle.std.specs.List.{IsDistinct, SwappedAt, swap, swap_remove}
use Rattle.std.specs.Map.{set_value}
use Rattle.std.specs.BTreeMap.{is_at}
use Rattle.std.specs.Ordering.{nat_cmp, eq_by_cmp}
use Rattle.std.proofs.lemmas.Bool.{cases_eq, cases_lt}
use Rattle.std.proofs.lemmas.List.{get_or-map, get_or-set_same, get_or-set_other, get_or_append_left, get_or_past, length-append, length-map, length-set, map-append}
use Rattle.std.proofs.Math.Seq.{get_or-append_seam}
use mathlib.Core.List.{map-map}
use Rattle.jg_lists.specs.declared.by_number.Numbered.{Numbered}
use Rattle.jg_lists.specs.ByThread.{at, IsOnce}
use Rattle.jg_lists.specs.ByNumber.{seen, number_of}
use Rattle.jg_lists.specs.ByPlace.{Placed, IsSeatOf, Swaps}
use Rattle.std.proofs.lemmas.List.Sorted.{IsPermutation-swap, length_permutation}
use Rattle.std.proofs.lemmas.Grind.{get_or_default_zero}
use Rattle.std.proofs.lemmas.Map.Keys.{IsDistinct-from_apart}
use Rattle.jg_lists.proofs.Lists.{map-IsPermutation}
use Rattle.jg_lists.proofs.Values.{moved_at}
use Rattle.jg_lists.proofs.Numbers.{IsWithout, apart}
use Rattle.jg_lists.proofs.Seats.{seat_found, not_there, set_in, same_numbers, keys_seen, within_view, last_number, seats_without, pairs_less, some_none}

-- two seats of one number would have one place
numbers_apart : (places numbers : List ℕ) → Placed places numbers → (i j d : ℕ) → i < j → j < length numbers
    → eq_by_cmp nat_cmp (get_or numbers i d) (get_or numbers j d) ≡ false
numbers_apart places numbers placed i j d before within =
    let one : get_or numbers i d ≡ get_or numbers i 0 = get_or_default_zero numbers i d (omega (arith, before, within)) in
    let other : get_or numbers j d ≡ get_or numbers j 0 = get_or_default_zero numbers j d within in
    let first : get_or places (get_or numbers i 0) 0 ≡ i + 1 = placed.found i (omega (arith, before, within)) in
    let last : get_or places (get_or numbers j 0) 0 ≡ j + 1 = placed.found j within in
    apart (get_or numbers i d) (get_or numbers j d) (λ same.
    let alike : get_or numbers i 0 ≡ get_or numbers j 0 = sym one ∙ same ∙ other in
    let both : i + 1 ≡ j + 1 = sym first ∙ ap (λ n. get_or places n 0) alike ∙ last in
    omega (arith, both, before))

pub numbers_once : (places numbers : List ℕ) → Placed places numbers → IsDistinct (eq_by_cmp nat_cmp) numbers
numbers_once places numbers placed = IsDistinct-from_apart (eq_by_cmp nat_cmp) numbers (numbers_apart places numbers placed)

pub placed_none : Placed [] []
placed_none = record {
  found = λ i inside. absurd (omega (arith, inside));
  held = λ n i at. absurd (omega (arith, at));
}

none_at : (places numbers : List ℕ) (n : ℕ) → Placed places numbers → get_or places n 0 ≡ 0 → (i : ℕ) → i < length numbers → get_or numbers i 0 ≢ n
none_at places numbers n placed none i inside own =
    let place : get_or places (get_or numbers i 0) 0 ≡ i + 1 = placed.found i inside in
    let zero_is : get_or places (get_or numbers i 0) 0 ≡ 0 = ap (λ k. get_or places k 0) own ∙ none in
    omega (arith, zero_is, place)

-- the same places, with some more that no seat has
pub placed_same : (old new numbers : List ℕ) → Placed old numbers → ((n : ℕ) → get_or new n 0 ≡ get_or old n 0) → Placed new numbers
placed_same old new numbers placed same = record {
  found = λ i inside. same (get_or numbers i 0) ∙ placed.found i inside;
  held = λ n i at. placed.held n i (sym (same n) ∙ at);
}

-- ---- a number more

-- what a number more does to the places, by the number of seats before it
placed_found : (old numbers : List ℕ) (n : ℕ) → Placed old numbers → get_or old n 0 ≡ 0 → n < length old → (i : ℕ) → (i < length numbers) ⊎ (length numbers ≤ i)
    → i < length (numbers ++ n ∷ [])
    → get_or (slice_set old n (length numbers + 1)) (get_or (numbers ++ n ∷ []) i 0) 0 ≡ i + 1
placed_found old numbers n placed none inside i (inl before) own =
    let was : get_or (numbers ++ n ∷ []) i 0 ≡ get_or numbers i 0 = get_or_append_left numbers (n ∷ []) 0 i before in
    let place : get_or old (get_or numbers i 0) 0 ≡ i + 1 = placed.found i before in
    let differ : get_or numbers i 0 ≢ n = λ same.
    let zero_is : get_or old (get_or numbers i 0) 0 ≡ 0 = ap (λ k. get_or old k 0) same ∙ none in
    omega (arith, zero_is, place) in
    ap (λ k. get_or (slice_set old n (length numbers + 1)) k 0) was ∙ get_or-set_other old n (get_or numbers i 0) (length numbers + 1) 0 differ ∙ place
placed_found old numbers n placed none inside i (inr after) own =
    let last : i ≡ length numbers = omega (arith, after, own, length-append numbers (n ∷ [])) in
    let mine : get_or (numbers ++ n ∷ []) i 0 ≡ n = ap (λ k. get_or (numbers ++ n ∷ []) k 0) last ∙ get_or-append_seam numbers n [] 0 in
    ap (λ k. get_or (slice_set old n (length numbers + 1)) k 0) mine ∙ get_or-set_same old n (length numbers + 1) 0 inside ∙ omega (arith, last)

-- which number a place belongs to
placed_held : (old numbers : List ℕ) (n : ℕ) → Placed old numbers → n < length old → (u i : ℕ) → (u ≡ n) ⊎ (u ≢ n)
    → get_or (slice_set old n (length numbers + 1)) u 0 ≡ i + 1
    → (i < length (numbers ++ n ∷ [])) × (get_or (numbers ++ n ∷ []) i 0 ≡ u)
placed_held old numbers n placed inside u i (inl own) at =
    let last : i ≡ length numbers =
    omega (arith, at, ap (λ k. get_or (slice_set old n (length numbers + 1)) k 0) own ∙ get_or-set_same old n (length numbers + 1) 0 inside) in
    (omega (arith, last, length-append numbers (n ∷ [])), ap (λ k. get_or (numbers ++ n ∷ []) k 0) last ∙ get_or-append_seam numbers n [] 0 ∙ sym own)
placed_held old numbers n placed inside u i (inr differ) at =
    let was = placed.held u i (sym (get_or-set_other old n u (length numbers + 1) 0 differ) ∙ at) in
    (omega (arith, was.0, length-append numbers (n ∷ [])), get_or_append_left numbers (n ∷ []) 0 i was.0 ∙ was.1)

placed_one : (old numbers new : List ℕ) (n count : ℕ) → Placed old numbers → get_or old n 0 ≡ 0 → n < length old
    → new ≡ numbers ++ n ∷ [] → count ≡ length numbers + 1 → Placed (slice_set old n count) new
placed_one old numbers new n count placed none inside is many =
    subst (λ l. Placed (slice_set old n count) l) (sym is) (subst (λ c. Placed (slice_set old n c) (numbers ++ n ∷ [])) (sym many) (record {
      found = λ i own. placed_found old numbers n placed none inside i (cases_lt i (length numbers)) own;
      held = λ u i here. placed_held old numbers n placed inside u i (cases_eq u n) here;
    }))

-- ---- a number less

beyond : (places : List ℕ) (n i : ℕ) → get_or places n 0 ≡ i + 1 → n < length places
beyond places n i at = by (cases_lt n (length places))
  where
    by : (n < length places) ⊎ (length places ≤ n) → n < length places
    by (inl inside) = inside
    by (inr past) = absurd (omega (arith, at, get_or_past places n 0 past))

module _ (old numbers left : List ℕ) (n i : ℕ) (placed : Placed old numbers) (is : IsWithout numbers left i) (at : get_or old n 0 ≡ i + 1) where
  abbrev last : ℕ
  last = get_or numbers (length left) 0

  abbrev moved_last : List ℕ
  moved_last = slice_set old last (i + 1)

  abbrev less : List ℕ
  less = slice_set moved_last n 0

  own : (i < length numbers) × (get_or numbers i 0 ≡ n)
  own = placed.held n i at

  last_at : get_or old last 0 ≡ length left + 1
  last_at = placed.found (length left) (omega (arith, is.count))

  n_inside : n < length moved_last
  n_inside = omega (arith, beyond old n i at, length-set old last (i + 1))

  -- a number that isn't that one, by whether it is the last
  kept : (m : ℕ) → m ≢ n → (m ≡ last) ⊎ (m ≢ last) → ((m ≡ last) × (get_or less m 0 ≡ i + 1)) ⊎ ((m ≢ last) × (get_or less m 0 ≡ get_or old m 0))
  kept m other (inl same) =
      inl (
        same,
        get_or-set_other moved_last n m 0 0 other ∙ ap (λ k. get_or moved_last k 0) same
            ∙ get_or-set_same old last (i + 1) 0 (beyond old last (length left) last_at),
      )
  kept m other (inr differ) = inr (differ, get_or-set_other moved_last n m 0 0 other ∙ get_or-set_other old last m (i + 1) 0 differ)

  less_found : (j : ℕ) → (j ≡ i) ⊎ (j ≢ i) → j < length left → get_or less (get_or left j 0) 0 ≡ j + 1
  less_found j (inl same) inside =
      let number : get_or left j 0 ≡ last = ap (λ k. get_or left k 0) same ∙ is.moved (omega (arith, same, inside)) in
      let other : last ≢ n = λ e. omega (arith, sym last_at ∙ ap (λ k. get_or old k 0) e ∙ at, same, inside) in
      ap (λ k. get_or less k 0) number ∙ by (kept last other (inl refl)) ∙ ap (λ k. k + 1) (sym same)
    where
      by : ((last ≡ last) × (get_or less last 0 ≡ i + 1)) ⊎ ((last ≢ last) × (get_or less last 0 ≡ get_or old last 0)) → get_or less last 0 ≡ i + 1
      by (inl here) = here.1
      by (inr there) = absurd (there.0 refl)
  less_found j (inr differ) inside =
      let number : get_or left j 0 ≡ get_or numbers j 0 = is.others j differ inside in
      let place : get_or old (get_or numbers j 0) 0 ≡ j + 1 = placed.found j (omega (arith, inside, is.count)) in
      let other : get_or numbers j 0 ≢ n = λ e. differ (omega (arith, sym place ∙ ap (λ k. get_or old k 0) e ∙ at)) in
      let behind : get_or numbers j 0 ≢ last = λ e. omega (arith, sym place ∙ ap (λ k. get_or old k 0) e ∙ last_at, inside) in
      ap (λ k. get_or less k 0) number ∙ by (kept (get_or numbers j 0) other (inr behind)) behind ∙ place
    where
      by : ((get_or numbers j 0 ≡ last) × (get_or less (get_or numbers j 0) 0 ≡ i + 1))
          ⊎ ((get_or numbers j 0 ≢ last) × (get_or less (get_or numbers j 0) 0 ≡ get_or old (get_or numbers j 0) 0))
          → get_or numbers j 0 ≢ last
          → get_or less (get_or numbers j 0) 0 ≡ get_or old (get_or numbers j 0) 0
      by (inl here) behind = absurd (behind here.0)
      by (inr there) behind = there.1

  less_held : (m j : ℕ) → (m ≡ n) ⊎ (m ≢ n) → get_or less m 0 ≡ j + 1 → (j < length left) × (get_or left j 0 ≡ m)
  less_held m j (inl same) here = absurd (omega (arith, sym here ∙ ap (λ k. get_or less k 0) same ∙ get_or-set_same moved_last n 0 0 n_inside))
  less_held m j (inr other) here = by (kept m other (cases_eq m last))
    where
      by : ((m ≡ last) × (get_or less m 0 ≡ i + 1)) ⊎ ((m ≢ last) × (get_or less m 0 ≡ get_or old m 0)) → (j < length left) × (get_or left j 0 ≡ m)
      by (inl end) =
          let same : j ≡ i = omega (arith, sym here ∙ end.1) in
          let before : i ≢ length left = λ e. other (end.0 ∙ ap (λ k. get_or numbers k 0) (sym e) ∙ own.1) in
          let inside : i < length left = omega (arith, own.0, is.count, before) in
          (omega (arith, same, inside), ap (λ k. get_or left k 0) same ∙ is.moved inside ∙ sym end.0)
      by (inr kept_at) =
          let was = placed.held m j (sym kept_at.1 ∙ here) in
          let before : j ≢ length left = λ e. kept_at.0 (sym was.1 ∙ ap (λ k. get_or numbers k 0) e) in
          let differ : j ≢ i = λ e. other (sym was.1 ∙ ap (λ k. get_or numbers k 0) e ∙ own.1) in
          let inside : j < length left = omega (arith, was.0, is.count, before) in
          (inside, is.others j differ inside ∙ was.1)

  placed_less : Placed less left
  placed_less = record {
    found = λ j inside. less_found j (cases_eq j i) inside;
    held = λ m j here. less_held m j (cases_eq m n) here;
  }

  gone : get_or less n 0 ≡ 0
  gone = get_or-set_same moved_last n 0 0 n_inside

-- ---- two seats swapped

placed_swapped : (old new numbers moved : List ℕ) (i j : ℕ) → i < length numbers → j < length numbers → Placed old numbers → Swaps numbers moved i j
    → length moved ≡ length numbers
    → SwappedAt old new (get_or numbers i 0) (get_or numbers j 0) → Placed new moved
placed_swapped old new numbers moved i j i_in j_in placed seats same places = record {
  found = λ k inside. found_by k (cases_eq k i) (cases_eq k j) (omega (arith, inside, same));
  held = λ m k here. held_by m k (cases_eq m (get_or numbers i 0)) (cases_eq m (get_or numbers j 0)) here;
}
  where
    apart_from : (k l : ℕ) → k < length numbers → l < length numbers → k ≢ l → get_or numbers k 0 ≢ get_or numbers l 0
    apart_from k l k_in l_in differ e = differ (omega (arith, sym (placed.found k k_in) ∙ ap (λ n. get_or old n 0) e ∙ placed.found l l_in))

    found_by : (k : ℕ) → (k ≡ i) ⊎ (k ≢ i) → (k ≡ j) ⊎ (k ≢ j) → k < length numbers → get_or new (get_or moved k 0) 0 ≡ k + 1
    found_by k (inl one) other inside =
        ap (λ n. get_or new n 0) (ap (λ l. get_or moved l 0) one ∙ seats.first 0) ∙ places.1 0 ∙ placed.found i i_in ∙ ap (λ l. l + 1) (sym one)
    found_by k (inr one) (inl other) inside =
        ap (λ n. get_or new n 0) (ap (λ l. get_or moved l 0) other ∙ seats.second 0) ∙ places.0 0 ∙ placed.found j j_in ∙ ap (λ l. l + 1) (sym other)
    found_by k (inr one) (inr other) inside =
        ap (λ n. get_or new n 0) (seats.others k 0 one other)
        ∙ places.2 (get_or numbers k 0) 0 (apart_from k i inside i_in one) (apart_from k j inside j_in other) ∙ placed.found k inside

    held_by : (m k : ℕ) → (m ≡ get_or numbers i 0) ⊎ (m ≢ get_or numbers i 0) → (m ≡ get_or numbers j 0) ⊎ (m ≢ get_or numbers j 0)
        → get_or new m 0 ≡ k + 1 → (k < length moved) × (get_or moved k 0 ≡ m)
    held_by m k (inl one) other here =
        let is : k ≡ j = omega (arith, sym here ∙ ap (λ n. get_or new n 0) one ∙ places.0 0 ∙ placed.found j j_in) in
        (omega (arith, is, j_in, same), ap (λ l. get_or moved l 0) is ∙ seats.second 0 ∙ sym one)
    held_by m k (inr one) (inl other) here =
        let is : k ≡ i = omega (arith, sym here ∙ ap (λ n. get_or new n 0) other ∙ places.1 0 ∙ placed.found i i_in) in
        (omega (arith, is, i_in, same), ap (λ l. get_or moved l 0) is ∙ seats.first 0 ∙ sym other)
    held_by m k (inr one) (inr other) here =
        let was = placed.held m k (sym (places.2 m 0 one other) ∙ here) in
        let first : k ≢ i = λ e. one (sym was.1 ∙ ap (λ l. get_or numbers l 0) e) in
        let second : k ≢ j = λ e. other (sym was.1 ∙ ap (λ l. get_or numbers l 0) e) in
        (omega (arith, was.0, same), seats.others k 0 first second ∙ was.1)

-- ---- seats

by_place : {V : Type 0} (place : ℕ) (value : Option V) → IsSome value → (0 ≡ place → value ≡ None) → 1 ≤ place
by_place zero (Some v) some none = absurd (some_none (none refl))
by_place zero None some none = absurd (cc)
by_place (suc i) value some none = omega arith

no_place : (place : ℕ) → (1 ≤ place → ⊥) → place ≡ 0
no_place zero none = refl
no_place (suc i) none = absurd (none (omega arith))

module _ {V : Type 0} where
  pub once : (places : List ℕ) (seats : List (Numbered V)) (es : List (ℕ × V)) → Placed places (map number_of seats) → map seen seats ≡ es → IsOnce es
  once places seats es placed is =
      subst IsOnce is (subst (IsDistinct (eq_by_cmp nat_cmp)) (sym (map-map (λ e. e.0) seen seats)) (numbers_once places (map number_of seats) placed))

  -- a place other than 0 is that of a seat
  pub within : (places : List ℕ) (seats : List (Numbered V)) (n place : ℕ) → Placed places (map number_of seats) → place ≡ get_or places n 0 → 1 ≤ place
      → place - 1 < length seats
  within places seats n place placed is some =
      let at : get_or places n 0 ≡ (place - 1) + 1 = sym is ∙ omega (arith, some) in
      let inside : place - 1 < length (map number_of seats) = (placed.held n (place - 1) at).0 in
      simp length-map at inside

  pub own_seat : (places : List ℕ) (seats : List (Numbered V)) (n place : ℕ) (d : Numbered V) → Placed places (map number_of seats)
      → place ≡ get_or places n 0 → 1 ≤ place → number_of (get_or seats (place - 1) d) ≡ n
  own_seat places seats n place d placed is some =
      let at : get_or places n 0 ≡ (place - 1) + 1 = sym is ∙ omega (arith, some) in
      sym (get_or-map number_of seats (place - 1) d 0 (within places seats n place placed is some)) ∙ (placed.held n (place - 1) at).1

  pub found : (places : List ℕ) (seats : List (Numbered V)) (es : List (ℕ × V)) (n place : ℕ) (d : Numbered V)
      → Placed places (map number_of seats) → map seen seats ≡ es → place ≡ get_or places n 0 → 1 ≤ place
      → at n es ≡ Some (get_or seats (place - 1) d).value
  found places seats es n place d placed seen_is is some =
      subst (λ l. at n l ≡ Some (get_or seats (place - 1) d).value) seen_is
      (seat_found seats (place - 1) n d (numbers_once places (map number_of seats) placed) (within places seats n place placed is some)
      (own_seat places seats n place d placed is some))

  pub not_found : (places : List ℕ) (seats : List (Numbered V)) (es : List (ℕ × V)) (n : ℕ) → Placed places (map number_of seats) → map seen seats ≡ es
      → 0 ≡ get_or places n 0 → at n es ≡ None
  not_found places seats es n placed seen_is none =
      subst (λ l. at n l ≡ None) seen_is (not_there seats n (none_at places (map number_of seats) n placed (sym none)))

  -- a number with a value has a place
  pub has_place : (places : List ℕ) (seats : List (Numbered V)) (es : List (ℕ × V)) (n place : ℕ) → Placed places (map number_of seats)
      → map seen seats ≡ es → place ≡ get_or places n 0 → IsSome (at n es) → 1 ≤ place
  has_place places seats es n place placed seen_is is some = by_place place (at n es) some (λ none. not_found places seats es n placed seen_is (none ∙ is))

  pub written : (places : List ℕ) (seats : List (Numbered V)) (es : List (ℕ × V)) (n place : ℕ) (d x : Numbered V) (w : V)
      → Placed places (map number_of seats) → map seen seats ≡ es → place ≡ get_or places n 0 → 1 ≤ place
      → seen x ≡ (n, w) → map seen (slice_set seats (place - 1) x) ≡ set_value (is_at (nat_cmp n)) es w
  written places seats es n place d x w placed seen_is is some mine =
      set_in seats (place - 1) n d x w (numbers_once places (map number_of seats) placed) (within places seats n place placed is some)
      (own_seat places seats n place d placed is some) mine
      ∙ ap (λ l. set_value (is_at (nat_cmp n)) l w) seen_is

  -- the numbers stay
  pub placed_written : (places : List ℕ) (seats : List (Numbered V)) (i : ℕ) (d x : Numbered V) → Placed places (map number_of seats) → i < length seats
      → number_of (get_or seats i d) ≡ number_of x
      → Placed places (map number_of (slice_set seats i x))
  placed_written places seats i d x placed inside own = subst (Placed places) (sym (same_numbers seats i d x inside own)) placed

  -- a seat more, of a number that had none
  pub placed_more : (old : List ℕ) (seats new : List (Numbered V)) (es : List (ℕ × V)) (n count : ℕ) (x : Numbered V)
      → Placed old (map number_of seats) → map seen seats ≡ es → at n es ≡ None → n < length old
      → number_of x ≡ n → new ≡ seats ++ x ∷ [] → count ≡ length new → Placed (slice_set old n count) (map number_of new)
  placed_more old seats new es n count x placed seen_is absent inside own is many =
      placed_one old (map number_of seats) (map number_of new) n count placed
      (no_place (get_or old n 0) (λ some. some_none (sym (found old seats es n (get_or old n 0) x placed seen_is refl some) ∙ absent)))
      inside
      (ap (map number_of) is ∙ map-append number_of seats (x ∷ []) ∙ ap (λ k. map number_of seats ++ k ∷ []) own)
      (many ∙ ap length is ∙ length-append seats (x ∷ []) ∙ ap (λ c. c + 1) (sym (length-map seats number_of)))

  -- each seat's number has a place
  pub seat_inside : (places : List ℕ) (seats : List (Numbered V)) (i : ℕ) (x : Numbered V) → Placed places (map number_of seats) → i < length seats
      → x ≡ get_or seats i x → number_of x < length places
  seat_inside places seats i x placed inside own =
      let place : get_or places (get_or (map number_of seats) i 0) 0 ≡ i + 1 = placed.found i (simp length-map inside) in
      subst (λ k. k < length places) (get_or-map number_of seats i x 0 inside ∙ sym (ap number_of own))
      (beyond places (get_or (map number_of seats) i 0) i place)

  -- the entry at a number's place is the number's
  pub seat_of : (places : List ℕ) (seats : List (Numbered V)) (es : List (ℕ × V)) (n place : ℕ) → Placed places (map number_of seats)
      → map seen seats ≡ es → place ≡ get_or places n 0 → 1 ≤ place → IsSeatOf n (place - 1) es
  seat_of places seats es n place placed seen_is is some =
      let at : get_or places n 0 ≡ (place - 1) + 1 = sym is ∙ omega (arith, some) in
      record {
        inside = omega (arith, within places seats n place placed is some, ap length seen_is, length-map seats seen);
        own = ap (λ l. get_or l (place - 1) 0) (keys_seen seats es seen_is) ∙ (placed.held n (place - 1) at).1;
      }

  -- ---- a seat less

  module _ (places : List ℕ) (seats new : List (Numbered V)) (es : List (ℕ × V)) (n place : ℕ) (x : Numbered V)
      (placed : Placed places (map number_of seats)) (seen_is : map seen seats ≡ es) (is : place ≡ get_or places n 0)
      (some : 1 ≤ place) (at_it : x ≡ get_or seats (place - 1) x) (left : new ≡ swap_remove seats (place - 1) x) where
    there : get_or places n 0 ≡ (place - 1) + 1
    there = sym is ∙ omega (arith, some)

    inside_it : place - 1 < length seats
    inside_it = within places seats n place placed is some

    without_it : IsWithout (map number_of seats) (map number_of new) (place - 1)
    without_it = seats_without seats new (place - 1) x inside_it left

    abbrev left_places : List ℕ
    left_places = slice_set (slice_set places (get_or (map number_of seats) (length (map number_of new)) 0) ((place - 1) + 1)) n 0

    placed_left : Placed left_places (map number_of new)
    placed_left = placed_less places (map number_of seats) (map number_of new) n (place - 1) placed without_it there

    -- the same, as the code writes the places
    pub placed_after : (end : ℕ) (last : Numbered V) → end ≡ length seats → last ≡ get_or seats (end - 1) last
        → Placed (slice_set (slice_set places (number_of last) place) n 0) (map number_of new)
    placed_after end last all at_end =
        let own = last_number seats end last all (omega (arith, all, inside_it)) at_end in
        let number : number_of last ≡ get_or (map number_of seats) (length (map number_of new)) 0 =
        own ∙ ap (λ k. get_or (map number_of seats) k 0) (let e : length (map number_of seats) - 1 ≡ length (map number_of new) =
        omega (arith, without_it.count) in e) in
        let back : place ≡ (place - 1) + 1 = omega (arith, some) in
        subst (λ l. Placed l (map number_of new)) (sym (ap (λ k. slice_set (slice_set places k place) n 0) number
        ∙ ap (λ p. slice_set (slice_set places (get_or (map number_of seats) (length (map number_of new)) 0) p) n 0) back)) placed_left

    pub none_now : at n (map seen new) ≡ None
    none_now = not_found left_places new (map seen new) n placed_left refl
        (sym (gone places (map number_of seats) (map number_of new) n (place - 1) placed without_it there))

    pub taken_it : IsPermutation es ((n, x.value) ∷ map seen new)
    taken_it = pairs_less seats new es n (place - 1) x inside_it at_it left seen_is (ap number_of at_it ∙ own_seat places seats n place x placed is some)

    pub once_left : IsOnce (map seen new)
    once_left = once left_places new (map seen new) placed_left refl

  -- ---- two seats swapped

  numbers_swapped : {R : Type 0} (f : Numbered V → R) (seats new : List (Numbered V)) (i j : ℕ) (d : Numbered V)
      → i < length seats → j < length seats → length new ≡ length seats → SwappedAt seats new i j
      → Swaps (map f seats) (map f new) i j
  numbers_swapped {R} f seats new i j d i_in j_in same swapped = record {
    first = λ r. in_new i r i_in ∙ ap f (swapped.0 d) ∙ sym (get_or-map f seats j d r j_in);
    second = λ r. in_new j r j_in ∙ ap f (swapped.1 d) ∙ sym (get_or-map f seats i d r i_in);
    others = λ k r one other. by k r one other (cases_lt k (length seats));
  }
    where
      in_new : (k : ℕ) (r : R) → k < length seats → get_or (map f new) k r ≡ f (get_or new k d)
      in_new k r inside = get_or-map f new k d r (omega (arith, inside, same))

      by : (k : ℕ) (r : R) → k ≢ i → k ≢ j → (k < length seats) ⊎ (length seats ≤ k) → get_or (map f new) k r ≡ get_or (map f seats) k r
      by k r one other (inl inside) = in_new k r inside ∙ ap f (swapped.2 k d one other) ∙ sym (get_or-map f seats k d r inside)
      by k r one other (inr past) =
          get_or_past (map f new) k r (omega (arith, past, same, length-map new f))
          ∙ sym (get_or_past (map f seats) k r (omega (arith, past, length-map seats f)))

  module _ (places news : List ℕ) (seats new : List (Numbered V)) (es : List (ℕ × V)) (i j : ℕ) (x y : Numbered V)
      (placed : Placed places (map number_of seats)) (seen_is : map seen seats ≡ es) (i_in : i < length es) (j_in : j < length es)
      (first : x ≡ get_or seats i x) (second : y ≡ get_or seats j y) (swapped : new ≡ swap seats i j) (each : SwappedAt seats new i j) where
    i_seat : i < length seats
    i_seat = within_view seats es i seen_is i_in

    j_seat : j < length seats
    j_seat = within_view seats es j seen_is j_in

    same : length new ≡ length seats
    same = length_permutation seats new (IsPermutation-swap seats new i j i_seat j_seat swapped)

    number_at : (k : ℕ) (z : Numbered V) → k < length seats → z ≡ get_or seats k z → number_of z ≡ get_or (map number_of seats) k 0
    number_at k z inside own = ap number_of own ∙ sym (get_or-map number_of seats k z 0 inside)

    pub swapped_placed : SwappedAt places news (number_of x) (number_of y) → Placed news (map number_of new)
    swapped_placed moved =
        placed_swapped places news (map number_of seats) (map number_of new) i j (simp length-map i_seat)
        (simp length-map j_seat) placed (numbers_swapped number_of seats new i j x i_seat j_seat same each)
        (omega (arith, same, length-map new number_of, length-map seats number_of))
        (subst (λ k. SwappedAt places news k (get_or (map number_of seats) j 0)) (number_at i x i_seat first)
        (subst (λ k. SwappedAt places news (number_of x) k) (number_at j y j_seat second) moved))

    pub swapped_view : Swaps es (map seen new) i j
    swapped_view = subst (λ l. Swaps l (map seen new) i j) seen_is (numbers_swapped seen seats new i j x i_seat j_seat same each)

    pub swapped_at : (q : ℕ) → at q (map seen new) ≡ at q es
    swapped_at q =
        moved_at es (map seen new) q (once places seats es placed seen_is)
        (subst (λ l. IsPermutation l (map seen new)) seen_is (map-IsPermutation seen seats new (IsPermutation-swap seats new i j i_seat j_seat swapped)))
