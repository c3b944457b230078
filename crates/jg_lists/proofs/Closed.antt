-- A table without values is taken away.
use Rattle.std.proofs.Common.{◌≡◌, ◌≢◌, ◌<◌, ◌≤◌, length, get_or, ℕ, zero, suc, Bool, true, false, eqb-true, List, [], ◌∷◌, ◌++◌, Some, None, refl, ◌∙◌, sym, ap, subst, arith, inl, inr, ◌⊎◌}
use Rattle.std.specs.Prelude.{◌==◌, if◌then◌else◌, IsPermutation, filter, slice_set}
use Rattle.std.specs.List.{swap}
use Rattle.std.specs.Map.{lookup}
use Rattle.std.proofs.lemmas.Bool.{cases_eq}
use Rattle.std.proofs.lemmas.List.{append_assoc, get_or-set_same, get_or-set_other, length-set, set-get_or, set-set}
use Rattle.std.proofs.lemmas.List.Sorted.{IsPermutation-refl, IsPermutation-trans, IsPermutation-append_left, IsPermutation-append_right, IsPermutation-append_comm, IsPermutation-keeps}
use Rattle.jg_lists.specs.ByThread.{at, IsOnce}
use Rattle.jg_lists.specs.ByMaker.{Name, same_name, entries, named, table_in, table_at, IsThereOnce}
use Rattle.jg_lists.proofs.Tables.{lookup-named, filter-named}

-- ---- the tables in another order

set_apart : {X : Type 0} (l : List X) (i j : ℕ) (a b : X) → i ≢ j → slice_set (slice_set l i a) j b ≡ slice_set (slice_set l j b) i a
set_apart [] i j a b other = refl
set_apart (t ∷ l) zero zero a b other = absurd (other refl)
set_apart (t ∷ l) zero (suc j) a b other = refl
set_apart (t ∷ l) (suc i) zero a b other = refl
set_apart (t ∷ l) (suc i) (suc j) a b other = ap (λ r. t ∷ r) (set_apart l i j a b (λ same. other (ap suc same)))

module _ {V : Type 0} where
  abbrev of : ℕ × List (ℕ × V) → List (Name × V)
  of table = entries table.0 table.1

  -- two lists in front of a third change places
  turned : (a b c : List (Name × V)) → IsPermutation (a ++ (b ++ c)) (b ++ (a ++ c))
  turned a b c =
      subst (λ l. IsPermutation l (b ++ (a ++ c))) (append_assoc a b c) (subst (λ l. IsPermutation ((a ++ b) ++ c) l) (append_assoc b a c)
      (IsPermutation-append_left c (a ++ b) (b ++ a) (IsPermutation-append_comm a b)))

  -- a table changes places with one of the list
  exchanged : (a : ℕ × List (ℕ × V)) (l : List (ℕ × List (ℕ × V))) (i : ℕ) (d : ℕ × List (ℕ × V)) → i < length l
      → IsPermutation (of a ++ named l) (of (get_or l i d) ++ named (slice_set l i a))
  exchanged a [] i d inside = absurd (omega (arith, inside))
  exchanged a (t ∷ l) zero d inside = turned (of a) (of t) (named l)
  exchanged a (t ∷ l) (suc i) d inside =
      let rest = named (slice_set l i a) in
      let own = of (get_or l i d) in
      IsPermutation-trans (of a ++ (of t ++ named l)) (of t ++ (of a ++ named l)) (own ++ (of t ++ rest)) (turned (of a) (of t) (named l))
      (IsPermutation-trans (of t ++ (of a ++ named l)) (of t ++ (own ++ rest)) (own ++ (of t ++ rest))
      (IsPermutation-append_right (of t) (of a ++ named l) (own ++ rest) (exchanged a l i d (omega (arith, inside)))) (turned (of t) own rest))

  swapped_by : (l : List (ℕ × List (ℕ × V))) (i j : ℕ) (d : ℕ × List (ℕ × V)) → i < length l → j < length l → (i ≡ j) ⊎ (i ≢ j)
      → IsPermutation (named l) (named (slice_set (slice_set l i (get_or l j d)) j (get_or l i d)))
  swapped_by l i j d i_in j_in (inl same) =
      let unchanged : slice_set (slice_set l i (get_or l j d)) j (get_or l i d) ≡ l =
      ap (λ k. slice_set (slice_set l i (get_or l k d)) k (get_or l i d)) (sym same) ∙ set-set l i (get_or l i d) (get_or l i d) ∙ set-get_or l i d in
      subst (λ m. IsPermutation (named l) (named m)) (sym unchanged) (IsPermutation-refl (named l))
  swapped_by l i j d i_in j_in (inr differ) =
      let none : ℕ × List (ℕ × V) = (0, []) in
      let x : ℕ × List (ℕ × V) = get_or l i d in
      let y : ℕ × List (ℕ × V) = get_or l j d in
      let one = slice_set l i none in
      let two = slice_set one j x in
      let out : IsPermutation (named l) (of x ++ named one) = exchanged none l i d i_in in
      let at_j : get_or one j d ≡ y = get_or-set_other l i j none d (λ same. differ (sym same)) in
      let at_i : get_or two i d ≡ none = get_or-set_other one j i x d differ ∙ get_or-set_same l i none d i_in in
      let over : IsPermutation (of x ++ named one) (of y ++ named two) =
      subst (λ t. IsPermutation (of x ++ named one) (of t ++ named two)) at_j (exchanged x one j d (omega (arith, j_in, length-set l i none))) in
      let back : IsPermutation (of y ++ named two) (named (slice_set two i y)) =
      subst (λ t. IsPermutation (of y ++ named two) (of t ++ named (slice_set two i y))) at_i
      (exchanged y two i d (omega (arith, i_in, length-set l i none, length-set one j x))) in
      let result : slice_set two i y ≡ slice_set (slice_set l i y) j x =
      set_apart one j i x y (λ same. differ (sym same)) ∙ ap (λ r. slice_set r j x) (set-set l i none y) in
      subst (λ m. IsPermutation (named l) (named m)) result
      (IsPermutation-trans (named l) (of x ++ named one) (named (slice_set two i y)) out
      (IsPermutation-trans (of x ++ named one) (of y ++ named two) (named (slice_set two i y)) over back))

  swapped : (l : List (ℕ × List (ℕ × V))) (i j : ℕ) → i < length l → j < length l → IsPermutation (named l) (named (swap l i j))
  swapped [] i j i_in j_in = absurd (omega (arith, i_in))
  swapped (d ∷ l) i j i_in j_in = swapped_by (d ∷ l) i j d i_in j_in (cases_eq i j)

  -- the tables in another order have the same entries in another order
  named-IsPermutation : (old new : List (ℕ × List (ℕ × V))) → IsPermutation old new → IsPermutation (named old) (named new)
  named-IsPermutation old new moves =
      IsPermutation-keeps old (λ l. IsPermutation (named old) (named l)) (IsPermutation-refl (named old))
      (λ l i j i_in j_in so_far. IsPermutation-trans (named old) (named l) (named (swap l i j)) so_far (swapped l i j i_in j_in)) new moves

-- ---- the table is gone

module _ {V : Type 0} (maker : ℕ) (old new : List (ℕ × List (ℕ × V))) (empty : at maker old ≡ Some []) (removed : (m : ℕ)
    → at m new ≡ (if maker == m then None else at m old)) where
  -- what each maker has stays
  closed_at : (m : ℕ) → table_at m new ≡ table_at m old
  closed_at m = ap table_in (removed m) ∙ by (maker == m) refl
    where
      by : (b : Bool) → (maker == m) ≡ b → table_in (if b then None else at m old) ≡ table_at m old
      by true same = sym (ap (λ k. table_in (at k old)) (sym (eqb-true maker m same)) ∙ ap table_in empty)
      by false other = refl

  pub closed_found : IsOnce old → IsOnce new → (q : Name) → lookup (same_name q) (named new) ≡ lookup (same_name q) (named old)
  closed_found once once_now q = lookup-named q new once_now ∙ ap (at q.1) (closed_at q.0) ∙ sym (lookup-named q old once)

  pub closed_there : IsOnce old → IsOnce new → (q : Name) → IsThereOnce q (named old) → IsThereOnce q (named new)
  closed_there once once_now q was =
      subst (λ (es : List (Name × V)). length es ≤ 1)
      (filter-named q old once ∙ ap (λ t. filter (λ e. same_name q e.0) (entries q.0 t)) (sym (closed_at q.0)) ∙ sym (filter-named q new once_now)) was

  pub closed_same : (table : List (ℕ × V)) → Some table ≡ at maker old → IsPermutation old ((maker, table) ∷ new) → IsPermutation (named old) (named new)
  closed_same table is moved =
      let none : table ≡ [] = ap table_in (is ∙ empty) in
      named-IsPermutation old ((maker, []) ∷ new) (subst (λ t. IsPermutation old ((maker, t) ∷ new)) none moved)
