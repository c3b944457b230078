-- Values by number, and the searches for their seats.
use Rattle.std.proofs.Common.{◌≡◌, ◌≢◌, ◌<◌, ◌≤◌, ◌+◌, ◌-◌, length, get_or, ℕ, zero, suc, true, false, List, [], ◌∷◌, ◌++◌, Some, None, refl, ◌∙◌, sym, ap, subst, arith}
use Rattle.std.specs.Prelude.{IsPermutation, All, map, slice_set}
use Rattle.std.specs.List.{IsDistinct, AllByRecursion, swap_remove}
use Rattle.std.specs.Map.{keys_of, lookup, set_value}
use Rattle.std.specs.BTreeMap.{is_at}
use Rattle.std.specs.Ordering.{nat_cmp, eq_by_cmp}
use Rattle.std.proofs.lemmas.Bool.Decides.{nat_tests}
use Rattle.std.proofs.lemmas.Grind.{get_or_default_zero}
use Rattle.std.proofs.lemmas.List.{get_or-map, length-map, map-append, map-set, set-get_or}
use Rattle.std.proofs.lemmas.List.Elements.{All-from_recursion, recursion_from_All}
use Rattle.std.proofs.lemmas.List.Sorted.{IsPermutation-swap_remove}
use Rattle.std.proofs.lemmas.Map.Keys.{IsDistinct-head, IsDistinct-tail}
use Rattle.indexmap.proofs.SetLemmas.{map-swap_remove}
use mathlib.Core.List.{map-map}
use Rattle.jg_lists.specs.declared.by_number.Numbered.{Numbered}
use Rattle.jg_lists.specs.ByThread.{at, IsOnce}
use Rattle.jg_lists.specs.ByNumber.{seen, number_of}
use Rattle.jg_lists.specs.Searches.{home, Reaches, Placed, Standing, filled, Finds, Misses, Leaves}
use Rattle.jg_lists.proofs.Numbers.{numbers_once, placed_one, IsWithout, without, left_differ, placed_less}

apart : (x y : ℕ) → x ≢ y → is_at (nat_cmp y) x ≡ false
apart x y differ = grind (arith, nat_tests)

pub some_none : {V : Type 0} {v : V} → Some v ≡ None → ⊥
some_none is = cc

misses_each : (slots numbers : List ℕ) (n : ℕ) → Placed slots numbers → Misses slots numbers n → (i : ℕ) → i < length numbers → get_or numbers i 0 ≢ n
misses_each slots numbers n placed misses i inside own =
    misses i inside (subst (λ k. Reaches slots (home (length slots) k) (i + 1)) own (placed.found i inside)) own

module _ {V : Type 0} where
  pub keys_seen : (seats : List (Numbered V)) (es : List (ℕ × V)) → map seen seats ≡ es → keys_of es ≡ map number_of seats
  keys_seen seats es is = ap keys_of (sym is) ∙ map-map (λ e. e.0) seen seats

  pub once : (slots : List ℕ) (seats : List (Numbered V)) (es : List (ℕ × V)) → Placed slots (map number_of seats) → map seen seats ≡ es → IsOnce es
  once slots seats es placed is =
      subst IsOnce is (subst (IsDistinct (eq_by_cmp nat_cmp)) (sym (map-map (λ e. e.0) seen seats)) (numbers_once slots (map number_of seats) placed))

  pub within : (slots : List ℕ) (seats : List (Numbered V)) (n slot seat : ℕ) → Finds slots (map number_of seats) n slot seat → seat < length seats
  within slots seats n slot seat finds = omega (arith, finds.seated, length-map seats number_of)

  pub own_seat : (slots : List ℕ) (seats : List (Numbered V)) (n slot seat : ℕ) (d : Numbered V) → Finds slots (map number_of seats) n slot seat
      → number_of (get_or seats seat d) ≡ n
  own_seat slots seats n slot seat d finds = sym (get_or-map number_of seats seat d 0 (within slots seats n slot seat finds)) ∙ finds.own

  -- the same, of a view's entries
  pub within_view : (seats : List (Numbered V)) (es : List (ℕ × V)) (i : ℕ) → map seen seats ≡ es → i < length es → i < length seats
  within_view seats es i is inside = omega (arith, inside, ap length is, length-map seats seen)

  pub own_in_view : (seats : List (Numbered V)) (es : List (ℕ × V)) (n i : ℕ) (d : Numbered V) → map seen seats ≡ es → i < length es
      → get_or (keys_of es) i 0 ≡ n → number_of (get_or seats i d) ≡ n
  own_in_view seats es n i d is inside own =
      sym (get_or-map number_of seats i d 0 (within_view seats es i is inside)) ∙ (ap (λ l. get_or l i 0) (sym (keys_seen seats es is)) ∙ own)

  -- the head is another number's, where the seat at a place behind it is the number's
  other_head : (s : Numbered V) (seats : List (Numbered V)) (i n : ℕ) (d : Numbered V)
      → IsDistinct (eq_by_cmp nat_cmp) (number_of s ∷ map number_of seats) → i < length seats → number_of (get_or seats i d) ≡ n
      → is_at (nat_cmp n) (number_of s) ≡ false
  other_head s seats i n d distinct inside own =
      let all = All-from_recursion (λ y. eq_by_cmp nat_cmp (number_of s) y ≡ false) (map number_of seats)
      (IsDistinct-head (eq_by_cmp nat_cmp) (number_of s) (map number_of seats) distinct) in
      let there : get_or (map number_of seats) i 0 ≡ n = get_or-map number_of seats i d 0 inside ∙ own in
      let differ : eq_by_cmp nat_cmp (number_of s) n ≡ false = rw there at (all i 0 (simp length-map inside)) in
      grind (arith, nat_tests, differ)

  -- what the number's look-up finds is its seat's value
  pub seat_found : (seats : List (Numbered V)) (i n : ℕ) (d : Numbered V) → IsDistinct (eq_by_cmp nat_cmp) (map number_of seats) → i < length seats
      → number_of (get_or seats i d) ≡ n
      → lookup (is_at (nat_cmp n)) (map seen seats) ≡ Some (get_or seats i d).value
  seat_found [] i n d distinct inside own = absurd (omega (arith, inside))
  seat_found (s ∷ seats) zero n d distinct inside own =
      let here : is_at (nat_cmp n) (number_of s) ≡ true = grind (arith, nat_tests, own) in
      rw here refl
  seat_found (s ∷ seats) (suc i) n d distinct inside own =
      let behind : i < length seats = omega (arith, inside) in
      let other = other_head s seats i n d distinct behind own in
      rw other (seat_found seats i n d (IsDistinct-tail (eq_by_cmp nat_cmp) (number_of s) (map number_of seats) distinct) behind own)

  pub found : (slots : List ℕ) (seats : List (Numbered V)) (es : List (ℕ × V)) (n i : ℕ) (d : Numbered V)
      → Placed slots (map number_of seats) → map seen seats ≡ es → i < length seats → number_of (get_or seats i d) ≡ n
      → at n es ≡ Some (get_or seats i d).value
  found slots seats es n i d placed seen_is inside own =
      subst (λ l. at n l ≡ Some (get_or seats i d).value) seen_is (seat_found seats i n d (numbers_once slots (map number_of seats) placed) inside own)

  -- ---- no seat

  none_in : (seats : List (Numbered V)) (n : ℕ) → AllByRecursion (λ k. is_at (nat_cmp n) k ≡ false) (map number_of seats)
      → lookup (is_at (nat_cmp n)) (map seen seats) ≡ None
  none_in [] n none = refl
  none_in (s ∷ seats) n none = rw none.0 (none_in seats n none.1)

  pub not_there : (seats : List (Numbered V)) (n : ℕ) → ((i : ℕ) → i < length (map number_of seats) → get_or (map number_of seats) i 0 ≢ n)
      → at n (map seen seats) ≡ None
  not_there seats n differ =
      let none : All (λ k. is_at (nat_cmp n) k ≡ false) (map number_of seats) = λ i d inside.
      apart (get_or (map number_of seats) i d) n (λ own. differ i inside (sym (get_or_default_zero (map number_of seats) i d inside) ∙ own)) in
      none_in seats n (recursion_from_All (λ k. is_at (nat_cmp n) k ≡ false) (map number_of seats) none)

  pub not_found : (slots : List ℕ) (seats : List (Numbered V)) (es : List (ℕ × V)) (n : ℕ) → Placed slots (map number_of seats)
      → map seen seats ≡ es → Misses slots (map number_of seats) n → at n es ≡ None
  not_found slots seats es n placed seen_is misses =
      subst (λ l. at n l ≡ None) seen_is (not_there seats n (misses_each slots (map number_of seats) n placed misses))

  -- ---- a value is written

  pub set_in : (seats : List (Numbered V)) (i n : ℕ) (d x : Numbered V) (w : V) → IsDistinct (eq_by_cmp nat_cmp) (map number_of seats)
      → i < length seats → number_of (get_or seats i d) ≡ n → seen x ≡ (n, w)
      → map seen (slice_set seats i x) ≡ set_value (is_at (nat_cmp n)) (map seen seats) w
  set_in [] i n d x w distinct inside own is = absurd (omega (arith, inside))
  set_in (s ∷ seats) zero n d x w distinct inside own is =
      let here : is_at (nat_cmp n) (number_of s) ≡ true = grind (arith, nat_tests, own) in
      rw here (ap (λ e. e ∷ map seen seats) (is ∙ ap (λ k. (k, w)) (sym own)))
  set_in (s ∷ seats) (suc i) n d x w distinct inside own is =
      let behind : i < length seats = omega (arith, inside) in
      let other = other_head s seats i n d distinct behind own in
      rw other (ap (λ l. seen s ∷ l) (set_in seats i n d x w (IsDistinct-tail (eq_by_cmp nat_cmp) (number_of s) (map number_of seats) distinct) behind own is))

  pub written : (slots : List ℕ) (seats : List (Numbered V)) (es : List (ℕ × V)) (n i : ℕ) (d x : Numbered V) (w : V)
      → Placed slots (map number_of seats) → map seen seats ≡ es → i < length seats → number_of (get_or seats i d) ≡ n
      → seen x ≡ (n, w) → map seen (slice_set seats i x) ≡ set_value (is_at (nat_cmp n)) es w
  written slots seats es n i d x w placed seen_is inside own mine =
      set_in seats i n d x w (numbers_once slots (map number_of seats) placed) inside own mine
      ∙ ap (λ l. set_value (is_at (nat_cmp n)) l w) seen_is

  -- the numbers stay
  pub same_numbers : (seats : List (Numbered V)) (i : ℕ) (d x : Numbered V) → i < length seats → number_of (get_or seats i d) ≡ number_of x
      → map number_of (slice_set seats i x) ≡ map number_of seats
  same_numbers seats i d x inside own =
      map-set number_of seats i x
      ∙ (ap (slice_set (map number_of seats) i) (sym (get_or-map number_of seats i d 0 inside ∙ own)) ∙ set-get_or (map number_of seats) i 0)

  -- ---- a number more

  -- a seat more, of a number that had none
  pub placed_more : (old new : List ℕ) (seats more : List (Numbered V)) (es : List (ℕ × V)) (n : ℕ) (x : Numbered V)
      → Placed old (map number_of seats) → map seen seats ≡ es → at n es ≡ None → number_of x ≡ n → more ≡ seats ++ x ∷ []
      → length new ≡ length old → ((first p : ℕ) → 1 ≤ p → Reaches old first p → Reaches new first p) → Reaches new (home (length new) n) (length seats + 1)
      → Placed new (map number_of more)
  placed_more old new seats more es n x placed seen_is absent own is many others reach =
      let numbers : map number_of more ≡ map number_of seats ++ n ∷ [] = ap (map number_of) is ∙ map-append number_of seats (x ∷ [])
      ∙ ap (λ k. map number_of seats ++ k ∷ []) own in
      subst (Placed new) (sym numbers) (placed_one old new (map number_of seats) n placed
      (λ i inside same.
      let within : i < length seats = omega (arith, inside, length-map seats number_of) in
      some_none (sym (found old seats es n i x placed seen_is within (sym (get_or-map number_of seats i x 0 within) ∙ same)) ∙ absent))
      many others (subst (λ c. Reaches new (home (length new) n) (c + 1)) (sym (length-map seats number_of)) reach))

  pub seen_more : (seats new : List (Numbered V)) (es : List (ℕ × V)) (x : Numbered V) → map seen seats ≡ es → new ≡ seats ++ x ∷ []
      → map seen new ≡ es ++ seen x ∷ []
  seen_more seats new es x seen_is is = ap (map seen) is ∙ map-append seen seats (x ∷ []) ∙ ap (λ l. l ++ seen x ∷ []) seen_is

  -- ---- a number less

  pub last_number : (seats : List (Numbered V)) (count : ℕ) (last : Numbered V) → count ≡ length seats → 1 ≤ count
      → last ≡ get_or seats (count - 1) last → number_of last ≡ get_or (map number_of seats) (length (map number_of seats) - 1) 0
  last_number seats count last many some own =
      let same : count - 1 ≡ length (map number_of seats) - 1 = omega (arith, many, length-map seats number_of) in
      ap number_of own ∙ (sym (get_or-map number_of seats (count - 1) last 0 (omega (arith, many, some))) ∙ ap (λ k. get_or (map number_of seats) k 0) same)

  -- the i-th seat is gone, and the last has its place
  pub seats_without : (seats new : List (Numbered V)) (i : ℕ) (x : Numbered V) → i < length seats → new ≡ swap_remove seats i x
      → IsWithout (map number_of seats) (map number_of new) i
  seats_without seats new i x inside left =
      let numbers : map number_of new ≡ swap_remove (map number_of seats) i (number_of x) =
      ap (map number_of) left ∙ map-swap_remove number_of seats i x (omega (arith, inside)) in
      subst (λ l. IsWithout (map number_of seats) l i) (sym numbers) (without (map number_of seats) i (number_of x) (simp length-map inside))

  -- the pairs are that of the seat, and those that are left
  pub pairs_less : (seats new : List (Numbered V)) (es : List (ℕ × V)) (n i : ℕ) (x : Numbered V) → i < length seats
      → x ≡ get_or seats i x → new ≡ swap_remove seats i x → map seen seats ≡ es → number_of x ≡ n
      → IsPermutation es ((n, x.value) ∷ map seen new)
  pairs_less seats new es n i x inside own left seen_is number =
      let pairs : map seen new ≡ swap_remove es i (seen x) =
      ap (map seen) left ∙ map-swap_remove seen seats i x (omega (arith, inside)) ∙ ap (λ l. swap_remove l i (seen x)) seen_is in
      let mine : seen x ≡ get_or es i (seen x) = ap seen own ∙ sym (get_or-map seen seats i x (seen x) inside) ∙ ap (λ l. get_or l i (seen x)) seen_is in
      let length_is : length es ≡ length seats = ap length (sym seen_is) ∙ length-map seats seen in
      subst (λ l. IsPermutation es ((n, x.value) ∷ l)) (sym pairs) (subst (λ k. IsPermutation es ((k, x.value) ∷ swap_remove es i (seen x))) number
      (IsPermutation-swap_remove es i (seen x) (omega (arith, length_is, inside)) mine))

  module _ (old slots : List ℕ) (seats new : List (Numbered V)) (n slot i : ℕ) (x : Numbered V) (placed : Placed old (map number_of seats))
      (finds : Finds old (map number_of seats) n slot i) (leaves : Leaves slots (map number_of seats) i)
      (own : x ≡ get_or seats i x) (left : new ≡ swap_remove seats i x) where
    inside : i < length seats
    inside = within old seats n slot i finds

    without_seat : IsWithout (map number_of seats) (map number_of new) i
    without_seat = seats_without seats new i x inside left

    placed_without : Placed slots (map number_of new)
    placed_without = placed_less old slots (map number_of seats) (map number_of new) i placed leaves without_seat

    pub standing_without : (used : ℕ) → filled slots ≤ used → length seats ≤ used + 1 → used ≤ length slots → Standing slots (map number_of new) used
    standing_without used few live room = record {
      placed = placed_without;
      counted = few;
      live = omega (arith, without_seat.count, live, length-map seats number_of);
      room = room;
    }

    pub none_left : at n (map seen new) ≡ None
    none_left =
        not_there new n (subst (λ k. (j : ℕ) → j < length (map number_of new) → get_or (map number_of new) j 0 ≢ k) finds.own
        (left_differ old slots (map number_of seats) (map number_of new) i placed leaves without_seat finds.seated))

    pub seen_less : (es : List (ℕ × V)) → map seen seats ≡ es → IsPermutation es ((n, x.value) ∷ map seen new)
    seen_less es seen_is = pairs_less seats new es n i x inside own left seen_is (ap number_of own ∙ own_seat old seats n slot i x finds)
