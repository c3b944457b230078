-- The rows by which an exception may be pending stand in front.
use Rattle.std.proofs.Common.{◌≡◌, ◌≢◌, ◌<◌, ◌≤◌, ◌+◌, ◌-◌, ℕ, zero, suc, Bool, true, false, ◌⊎◌, inl, inr, List, [], ◌∷◌, ◌++◌, Option, Some, None, length, get_or, take, drop, refl, ◌∙◌, ap, sym, subst, arith}
use Rattle.std.specs.Prelude.{◌==◌, ◌||◌, if◌then◌else◌, IfSome, find, map}
use Rattle.std.specs.List.{list_any}
use Rattle.std.specs.Map.{keys_of}
use Rattle.std.specs.Option.{option_map, option_or}
use Rattle.std.specs.Ordering.{nat_cmp, eq_by_cmp}
use Rattle.std.proofs.lemmas.Bool.{cases_eq, cases_lt}
use Rattle.std.proofs.lemmas.Bool.Decides.{nat_tests}
use Rattle.std.proofs.lemmas.List.{get_or-map, get_or-drop, length-map, length-drop, take-append-drop, take-map}
use Rattle.std.proofs.lemmas.List.Folds.{find-append, list_any-append, list_any_none}
use Rattle.std.proofs.lemmas.Map.Keys.{apart_from_distinct}
use Rattle.std.proofs.Math.Bool.{or-false}
use Rattle.std.proofs.option.Match.{None-if_not_some}
use Rattle.jg_lists.specs.declared.by_number.Numbered.{Numbered}
use Rattle.jg_lists.specs.ByNumber.{seen}
use Rattle.jg_lists.specs.ByThread.{at, IsOnce}
use Rattle.jg_lists.specs.ByPlace.{IsSeatOf, Swaps}
use Rattle.jg_lists.proofs.Found.{number_where, any_found}
use Rattle.jg_lists.proofs.Lists.{Member}
use Rattle.jg_table_threads.specs.Calm.{IsCalm, AreCalm, AreOthersCalm, IsInFront}
use Rattle.jg_table_threads.specs.Rows.{Row, row_of, row_or_none}
use Rattle.jg_table_threads.proofs.Pending.{entry_found}

key_at : (rows : List (ℕ × Row)) (k : ℕ) (d : ℕ × Row) → k < length rows → get_or (keys_of rows) k 0 ≡ (get_or rows k d).0
key_at rows k d inside = get_or-map (λ (e : ℕ × Row). e.0) rows k d 0 inside

-- a thread has one seat
one_seat : (rows : List (ℕ × Row)) (t i j : ℕ) → IsOnce rows → IsSeatOf t i rows → IsSeatOf t j rows → i ≡ j
one_seat rows t i j once a b = by (cases_lt i j) (cases_lt j i)
  where
    apart : (x y : ℕ) → IsSeatOf t x rows → IsSeatOf t y rows → x < y → ⊥
    apart x y first second before =
        let differ : eq_by_cmp nat_cmp (get_or (keys_of rows) x 0) (get_or (keys_of rows) y 0) ≡ false =
        apart_from_distinct (eq_by_cmp nat_cmp) (keys_of rows) x y 0 once before (omega (arith, second.inside, length-map rows (λ (e : ℕ × Row). e.0))) in
        let own : eq_by_cmp nat_cmp t t ≡ false =
        subst (λ k. eq_by_cmp nat_cmp k t ≡ false) first.own (subst (λ k. eq_by_cmp nat_cmp (get_or (keys_of rows) x 0) k ≡ false) second.own differ) in
        grind (arith, nat_tests, own)

    by : (i < j) ⊎ (j ≤ i) → (j < i) ⊎ (i ≤ j) → i ≡ j
    by (inl before) other = absurd (apart i j a b before)
    by (inr after) (inl behind) = absurd (apart j i b a behind)
    by (inr after) (inr before) = omega (arith, after, before)

-- a seat that was moved is its thread's where it was
seat_moved : (rows new : List (ℕ × Row)) (t k l : ℕ) → l < length rows → ((d : ℕ × Row) → get_or new k d ≡ get_or rows l d) → IsSeatOf t k new
    → IsSeatOf t l rows
seat_moved rows [] t k l inside same seat = absurd (omega (arith, seat.inside))
seat_moved rows (d ∷ new) t k l inside same seat = record {
  inside = inside;
  own = key_at rows l d inside ∙ ap (λ (e : ℕ × Row). e.0) (sym (same d)) ∙ sym (key_at (d ∷ new) k d seat.inside) ∙ seat.own;
}

pub front_stays : (u raised place : ℕ) (rows : List (ℕ × Row)) → IsOnce rows → IsSeatOf u place rows → place < raised → IsInFront u raised rows
front_stays u raised place rows once own before i seat = let same = one_seat rows u i place once seat own in omega (arith, same, before)

module _ (rows new : List (ℕ × Row)) (u place raised : ℕ) (calm : AreCalm raised rows) (own : IsSeatOf u place rows) (same : (t : ℕ) → at t new ≡ at t rows)
    (long : length new ≡ length rows) where
  -- the thread's seat was brought to the front
  pub others_raised : raised ≤ place → Swaps rows new place raised → AreOthersCalm u (raised + 1) new
  others_raised behind swaps t i other seat past = subst (λ found. IfSome found IsCalm) (sym (same t)) (by (cases_eq i place))
    where
      by : (i ≡ place) ⊎ (i ≢ place) → IfSome (at t rows) IsCalm
      by (inl here) = calm t raised
          (seat_moved rows new t i raised (omega (arith, behind, own.inside)) (λ d. ap (λ k. get_or new k d) here ∙ swaps.first d) seat) (omega arith)
      by (inr there) = calm t i (seat_moved rows new t i i (omega (arith, seat.inside, long)) (λ d. swaps.others i d there (λ e. omega (arith, e, past))) seat)
          (omega (arith, past))

  pub front_raised : IsOnce new → raised ≤ place → Swaps rows new place raised → IsInFront u (raised + 1) new
  front_raised once behind swaps i seat =
      let moved = seat_moved new rows u place raised (omega (arith, behind, own.inside, long)) (λ d. sym (swaps.second d)) own in
      let here = one_seat new u i raised once seat moved in
      omega (arith, here)

  -- the thread's seat was put behind the front
  pub others_lowered : (last : ℕ) → last + 1 ≡ raised → place < raised → Swaps rows new place last → AreOthersCalm u last new
  others_lowered last next before swaps t i other seat past = by (cases_eq i last)
    where
      by : (i ≡ last) ⊎ (i ≢ last) → IfSome (at t new) IsCalm
      by (inl here) =
          let moved = seat_moved rows new t i place own.inside (λ d. ap (λ k. get_or new k d) here ∙ swaps.second d) seat in
          absurd (other (sym moved.own ∙ own.own))
      by (inr there) =
          let kept = seat_moved rows new t i i (omega (arith, seat.inside, long))
          (λ d. swaps.others i d (λ e. there (omega (arith, e, before, next, past))) there) seat in
          subst (λ found. IfSome found IsCalm) (sym (same t)) (calm t i kept (omega (arith, there, past, next)))

-- ---- what a pass over the front finds

member_at : {X : Type 0} (xs : List X) (i : ℕ) (d : X) → i < length xs → Member (get_or xs i d) xs
member_at [] i d inside = absurd (omega (arith, inside))
member_at (x ∷ xs) zero d inside = inl refl
member_at (x ∷ xs) (suc i) d inside = inr (member_at xs i d (omega (arith, inside)))

calm_entry : (rows : List (ℕ × Row)) (raised i : ℕ) (d : ℕ × Row) → IsOnce rows → AreCalm raised rows → raised ≤ i → i < length rows
    → IsCalm (get_or rows i d).1
calm_entry rows raised i d once calm behind inside =
    let entry = get_or rows i d in
    subst (λ found. IfSome found IsCalm) (entry_found entry rows once (member_at rows i d inside))
    (calm entry.0 i (record { inside = inside; own = key_at rows i d inside }) behind)

-- the seats in front are seen as the rows in front
pub front_seen : (seats front : List (Numbered Row)) (rows : List (ℕ × Row)) (raised : ℕ) → map seen seats ≡ rows → front ≡ take raised seats
    → map seen front ≡ take raised rows
front_seen seats front rows raised is first = ap (map seen) first ∙ sym (take-map seen raised seats) ∙ ap (take raised) is

module _ (p : Row → Bool) (quiet : (row : Row) → IsCalm row → p row ≡ false) (rows : List (ℕ × Row)) (raised : ℕ) (once : IsOnce rows)
    (calm : AreCalm raised rows) where
  none_behind : list_any (λ e. p e.1) (drop raised rows) ≡ false
  none_behind =
      list_any_none (λ (e : ℕ × Row). p e.1) (drop raised rows)
      (λ k d inside. quiet (get_or (drop raised rows) k d).1
      (subst (λ (e : ℕ × Row). IsCalm e.1) (sym (get_or-drop raised rows k d))
      (calm_entry rows raised (raised + k) d once calm (omega arith) (omega (arith, inside, length-drop raised rows)))))

  pub any_in_front : list_any (λ e. p e.1) (take raised rows) ≡ list_any (λ e. p e.1) rows
  any_in_front =
      sym (ap (list_any (λ (e : ℕ × Row). p e.1)) (sym (take-append-drop raised rows))
      ∙ list_any-append (λ (e : ℕ × Row). p e.1) (take raised rows) (drop raised rows)
      ∙ ap (λ b. list_any (λ (e : ℕ × Row). p e.1) (take raised rows) || b) none_behind ∙ or-false _)

  pub found_in_front : number_where p (take raised rows) ≡ number_where p rows
  found_in_front =
      sym (ap (number_where p) (sym (take-append-drop raised rows))
      ∙ ap (option_map (λ (e : ℕ × Row). e.0)) (find-append (λ (e : ℕ × Row). p e.1) (take raised rows) (drop raised rows))
      ∙ either (find (λ (e : ℕ × Row). p e.1) (take raised rows)) (find (λ (e : ℕ × Row). p e.1) (drop raised rows))
      (None-if_not_some _ (any_found (λ (e : ℕ × Row). e.0) (λ e. p e.1) (drop raised rows) ∙ none_behind)))
    where
      either : (own later : Option (ℕ × Row)) → option_map (λ (e : ℕ × Row). e.0) later ≡ None
          → option_map (λ (e : ℕ × Row). e.0) (option_or own later) ≡ option_map (λ (e : ℕ × Row). e.0) own
      either None later none = none
      either (Some e) later none = refl

-- a row was written where it was, and the same is pending by it
module _ (rows new : List (ℕ × Row)) (u : ℕ) (row : Row) (keys : keys_of new ≡ keys_of rows)
    (put : (t : ℕ) → at t new ≡ (if u == t then option_map (λ _. row) (at t rows) else at t rows)) (pending : row.pending ≡ (row_of rows u).pending) where
  long : length new ≡ length rows
  long = sym (length-map new (λ (e : ℕ × Row). e.0)) ∙ ap length keys ∙ length-map rows (λ (e : ℕ × Row). e.0)

  written : (found : Option Row) → IfSome found IsCalm → row.pending ≡ (row_or_none found).pending → IfSome (option_map (λ _. row) found) IsCalm
  written None calm is = tt
  written (Some r) calm is = is ∙ calm

  pub rest_is_calm : (raised : ℕ) → raised ≤ length rows → AreCalm raised rows → (raised ≤ length new) × AreCalm raised new
  rest_is_calm raised few calm = (omega (arith, few, long), still)
    where
      still : AreCalm raised new
      still t i seat past =
          subst (λ found. IfSome found IsCalm) (sym (put t))
          (by (u == t) refl (calm t i (record { inside = omega (arith, seat.inside, long); own = ap (λ ks. get_or ks i 0) (sym keys) ∙ seat.own }) past))
        where
          by : (b : Bool) → (u == t) ≡ b → IfSome (at t rows) IsCalm → IfSome (if b then option_map (λ _. row) (at t rows) else at t rows) IsCalm
          by true is was =
              let own : u ≡ t = grind (arith, nat_tests, is) in
              written (at t rows) was (pending ∙ ap (λ k. (row_of rows k).pending) own)
          by false is was = was
