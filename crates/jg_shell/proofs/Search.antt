-- What a binary search finds among receipts whose places rise.
use Rattle.std.proofs.Common.{ℕ, ◌≡◌, ◌<◌, ◌≤◌, true, List, [], ◌∷◌, length, get_or, Result, Ok, Err, sym, ap, arith, inl, inr}
use Rattle.std.specs.Prelude.{◌==◌, is_ok}
use Rattle.std.specs.List.Sorted.{IsSearchInRange, IsBinarySearchResult, IsNonDecreasingBy}
use Rattle.std.specs.Ordering.{nat_cmp, ordering_index}
use Rattle.std.proofs.lemmas.Bool.{cases_lt}
use Rattle.std.proofs.lemmas.Bool.Decides.{nat_tests}
use Rattle.std.proofs.lemmas.Cmp.{ranked}
use Rattle.std.proofs.lemmas.List.Folds.{list_any_at, list_any_none}
use Rattle.jg_shell.specs.declared.receipt.Receipt.{Receipt}
use Rattle.jg_shell.specs.Finish.{PlacesRise, has_place}

module _ (rs : List Receipt) (rise : PlacesRise rs) (place : ℕ) where
  -- the comparisons with the place rise along the receipts, as a binary search asks
  comparisons_rise : IsNonDecreasingBy (λ (r : Receipt). ordering_index (nat_cmp r.place place)) rs
  comparisons_rise i j d le within =
      let up : (get_or rs i d).place ≤ (get_or rs j d).place = grind (arith, rise i j d, λ (same : i ≡ j). ap (λ (n : ℕ). (get_or rs n d).place) same) in
      grind (arith, nat_tests)

  here : (xs : List Receipt) (i : ℕ) → i < length xs → ((d : Receipt) → (get_or xs i d).place ≡ place) → has_place place xs ≡ true
  here [] i lt is = absurd (omega arith)
  here (x ∷ xs) i lt is = list_any_at (λ (r : Receipt). r.place == place) (x ∷ xs) i x lt (let at = is x in grind (arith, nat_tests))

  -- a binary search ends at the place, or there is none
  pub searched : (r : Result ℕ ℕ) → IsSearchInRange r (length rs) → IsBinarySearchResult (λ (q : Receipt). nat_cmp q.place place) rs r
      → is_ok r ≡ has_place place rs
  searched (Ok index) within equal = sym (here rs index within (λ d. ranked _ place _ (sym (equal d))))
  searched (Err index) within parted =
      let parts = parted comparisons_rise in
      sym (list_any_none (λ (r : Receipt). r.place == place) rs (λ k d lt.
      elim (cases_lt k index) [
        | inl below ↦ (let less = ranked _ place _ (sym (parts.0 k d (omega arith) below)) in grind (arith, nat_tests))
        | inr above ↦ (let more = ranked _ place _ (sym (parts.1 k d above lt)) in grind (arith, nat_tests))
      ]))
