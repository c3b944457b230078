-- How many items pass a test.
use Rattle.std.proofs.Common.{◌≡◌, ℕ, ◌+◌, Bool, true, false, not, ◌||◌, ◌&&◌, cond, if◌then◌else◌, List, [], ◌∷◌, filter, refl, ap, ◌∙◌, sym, arith}
use Rattle.std.proofs.lemmas.Bool.{false≢true}
use Rattle.std.proofs.lemmas.List.Sorted.{sum_by-IsPermutation}
use Rattle.std.proofs.lemmas.List.Sums.{sum_by-cons}
use Rattle.std.specs.Prelude.{sum_by, IsPermutation, MatchBool}
use Rattle.std.specs.List.{list_any}
use Rattle.jg_lists.specs.Acts.{how_many, once_if}

module _ {A : Type 0} (p : A → Bool) where
  as_sum : (xs : List A) → how_many p xs ≡ sum_by (λ x. once_if (p x)) xs
  as_sum [] = refl
  as_sum (x ∷ xs) = by (p x) _ _ (as_sum xs) ∙ sym (sum_by-cons (λ y. once_if (p y)) x xs)
    where
      by : (b : Bool) (n m : ℕ) → n ≡ m → (if b then n + 1 else n) ≡ once_if b + m
      by true n m h = omega arith
      by false n m h = omega arith

  pub how_many-reordered : (xs ys : List A) → IsPermutation xs ys → how_many p ys ≡ how_many p xs
  how_many-reordered xs ys h = as_sum ys ∙ sum_by-IsPermutation (λ x. once_if (p x)) xs ys h ∙ sym (as_sum xs)

  how_many_none : (xs : List A) → list_any p xs ≡ false → how_many p xs ≡ 0
  how_many_none [] h = refl
  how_many_none (x ∷ xs) h = by (p x) h (how_many_none xs)
    where
      by : (b : Bool) → (b || list_any p xs) ≡ false → (list_any p xs ≡ false → how_many p xs ≡ 0) → (if b then how_many p xs + 1 else how_many p xs) ≡ 0
      by true h rest = absurd (false≢true (sym h))
      by false h rest = rest h

  how_many_some : (xs : List A) → how_many p xs ≡ 0 → list_any p xs ≡ false
  how_many_some [] h = refl
  how_many_some (x ∷ xs) h = by (p x) h (how_many_some xs)
    where
      by : (b : Bool) → (if b then how_many p xs + 1 else how_many p xs) ≡ 0 → (how_many p xs ≡ 0 → list_any p xs ≡ false) → (b || list_any p xs) ≡ false
      by true h rest = absurd (omega arith)
      by false h rest = rest h

  -- what stands once is found
  pub found_once : (xs : List A) (b : Bool) → how_many p xs ≡ once_if b → list_any p xs ≡ b
  found_once xs false h = how_many_some xs h
  found_once xs true h = by (list_any p xs) refl
    where
      by : (b : Bool) → list_any p xs ≡ b → list_any p xs ≡ true
      by true e = e
      by false e = let none : how_many p xs ≡ 0 = how_many_none xs e in absurd (omega arith)

-- equal keys, and what is told of each
module _ {A : Type 0} (same : A → A → Bool) (equal : (q k : A) → same q k ≡ true → q ≡ k) where
  -- one more key, which was there where it wasn't added
  pub how_many-put : (ks new : List A) (k : A) (added : Bool) → added ≡ not (list_any (same k) ks) → MatchBool added (IsPermutation (k ∷ ks) new) (new ≡ ks)
      → (holds : A → Bool) → ((q : A) → how_many (same q) ks ≡ once_if (holds q)) → (q : A) → how_many (same q) new ≡ once_if (same q k || holds q)
  how_many-put ks new k true is put holds stands q =
      how_many-reordered (same q) (k ∷ ks) new put ∙ by (same q k) refl
    where
      absent : (b : Bool) → true ≡ not b → b ≡ false
      absent true h = absurd (false≢true (sym h))
      absent false h = refl

      by : (b : Bool) → same q k ≡ b → (if b then how_many (same q) ks + 1 else how_many (same q) ks) ≡ once_if (b || holds q)
      by true e = let none : how_many (same q) ks ≡ 0 = rw (equal q k e) (how_many_none (same k) ks (absent _ is)) in omega arith
      by false e = stands q
  how_many-put ks new k false is put holds stands q = rw put (by (same q k) refl)
    where
      present : (b : Bool) → false ≡ not b → b ≡ true
      present true h = refl
      present false h = absurd (false≢true h)

      by : (b : Bool) → same q k ≡ b → how_many (same q) ks ≡ once_if (b || holds q)
      by true e =
          let held : list_any (same q) ks ≡ holds q = found_once (same q) ks (holds q) (stands q) in
          let there : list_any (same q) ks ≡ true = rw (equal q k e) (present _ is) in
          stands q ∙ ap once_if (sym held ∙ there)
      by false e = stands q

  -- the keys that a test keeps
  how_many-filter : (ks : List A) (keeps : A → Bool) (holds : A → Bool) → ((q : A) → how_many (same q) ks ≡ once_if (holds q))
      → (q : A) → how_many (same q) (filter keeps ks) ≡ once_if (keeps q && holds q)
  how_many-filter ks keeps holds stands q = by (keeps q) refl
    where
      all_kept : (xs : List A) → keeps q ≡ true → how_many (same q) (filter keeps xs) ≡ how_many (same q) xs
      all_kept [] e = refl
      all_kept (x ∷ xs) e = go (keeps x) (same q x) refl refl (all_kept xs e)
        where
          go : (b s : Bool) → keeps x ≡ b → same q x ≡ s → how_many (same q) (filter keeps xs) ≡ how_many (same q) xs
              → how_many (same q) (cond b (x ∷ filter keeps xs) (filter keeps xs)) ≡ (if s then how_many (same q) xs + 1 else how_many (same q) xs)
          go true s b t rest = rw (t, rest) refl
          go false true b t rest = absurd (false≢true (sym b ∙ rw (← equal q x t) e))
          go false false b t rest = rest

      none_kept : (xs : List A) → keeps q ≡ false → how_many (same q) (filter keeps xs) ≡ 0
      none_kept [] e = refl
      none_kept (x ∷ xs) e = go (keeps x) (same q x) refl refl (none_kept xs e)
        where
          go : (b s : Bool) → keeps x ≡ b → same q x ≡ s → how_many (same q) (filter keeps xs) ≡ 0
              → how_many (same q) (cond b (x ∷ filter keeps xs) (filter keeps xs)) ≡ 0
          go true true b t rest = absurd (false≢true (sym e ∙ rw (equal q x t) b))
          go true false b t rest = rw t rest
          go false s b t rest = rest

      by : (b : Bool) → keeps q ≡ b → how_many (same q) (filter keeps ks) ≡ once_if (b && holds q)
      by true e = all_kept ks e ∙ stands q
      by false e = none_kept ks e
