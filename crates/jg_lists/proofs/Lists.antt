-- Lemmas on lists and tests.
use Rattle.std.proofs.Common.{◌≡◌, ◌<◌, ◌≤◌, ◌+◌, ◌++◌, length, ℕ, zero, suc, get_or, Bool, true, false, List, [], ◌∷◌, Option, Some, None, refl, ◌∙◌, ap, sym, subst, arith, inl, inr}
use Rattle.std.specs.Prelude.{All, ◌⊎◌, ◌&&◌, ◌||◌, if◌then◌else◌, filter, find, map, slice_set}
use Rattle.std.specs.List.{list_any, range_with_len, swap, AllByRecursion}
use Rattle.std.specs.List.Sorted.{IsPermutation, apply_swaps, SwapsInRange}
use Rattle.std.specs.Option.{option_map}
use Rattle.std.proofs.lemmas.Bool.Decides.{nat_tests}
use Rattle.std.proofs.lemmas.List.{length-map, map-id, map-set}
use Rattle.std.proofs.lemmas.List.Folds.{list_any-append}
use Rattle.std.proofs.lemmas.List.FromFn.{map-range_with_len_more}
use Rattle.std.proofs.Math.ListN.{get_or-map}
use Rattle.std.proofs.Math.Bool.{or-false}
use Rattle.jg_lists.specs.Acts.{how_many}

pub filter_swap : {X : Type 0} (p q : X → Bool) (xs : List X) → filter p (filter q xs) ≡ filter q (filter p xs)
filter_swap p q [] = refl
filter_swap p q (x ∷ xs) = grind (arith, filter_swap p q xs)

pub filter_all : {X : Type 0} (xs : List X) → filter (λ x. true) xs ≡ xs
filter_all [] = refl
filter_all (x ∷ xs) = ap (λ l. x ∷ l) (filter_all xs)

pub map-filter : {X Y : Type 0} (f : X → Y) (p : X → Bool) (q : Y → Bool) → ((x : X) → p x ≡ q (f x)) → (xs : List X)
    → map f (filter p xs) ≡ filter q (map f xs)
map-filter f p q alike [] = refl
map-filter f p q alike (x ∷ xs) =
    rw (alike x) (elim (q (f x)) as (λ b. map f (if b then x ∷ filter p xs else filter p xs) ≡ (if b then f x ∷ filter q (map f xs) else filter q (map f xs)))
    [ true ↦ ap (λ l. f x ∷ l) (map-filter f p q alike xs) | false ↦ map-filter f p q alike xs ])

pub list_any-map : {X Y : Type 0} (f : X → Y) (p : X → Bool) (q : Y → Bool) → ((x : X) → p x ≡ q (f x)) → (xs : List X) → list_any p xs ≡ list_any q (map f xs)
list_any-map f p q alike [] = refl
list_any-map f p q alike (x ∷ xs) = rw (alike x, list_any-map f p q alike xs) refl

abbrev pub first : {X : Type 0} → List X → Option X
first [] = None
first (x ∷ xs) = Some x

-- what is found is the first of all that pass, as it is seen
pub find-map : {X Y : Type 0} (f : X → Y) (p : X → Bool) (q : Y → Bool) → ((x : X) → p x ≡ q (f x)) → (xs : List X)
    → option_map f (find p xs) ≡ first (filter q (map f xs))
find-map f p q alike [] = refl
find-map f p q alike (x ∷ xs) =
    rw (alike x) (elim (q (f x)) as (λ b. option_map f (if b then Some x else find p xs) ≡ first (if b then f x ∷ filter q (map f xs) else filter q (map f xs)))
    [ true ↦ refl | false ↦ find-map f p q alike xs ])

-- membership, by cases
abbrev pub Member : {X : Type 0} → X → List X → Type 0
Member x [] = ⊥
Member x (y ∷ ys) = (x ≡ y) ⊎ Member x ys

any_member_cons : {X : Type 0} (p : X → Bool) (x : X) (xs : List X) (b : Bool) → p x ≡ b → (list_any p xs ≡ true → (y : X) × (Member y xs × (p y ≡ true)))
    → list_any p (x ∷ xs) ≡ true
    → (y : X) × (Member y (x ∷ xs) × (p y ≡ true))
any_member_cons p x xs true here tail is = (x, (inl refl, here))
any_member_cons p x xs false here tail is =
    let rest : list_any p xs ≡ true = grind (arith, nat_tests) in
    let found = tail rest in
    (found.0, (inr found.1.0, found.1.1))

-- an element that passes
pub any_member : {X : Type 0} (p : X → Bool) (xs : List X) → list_any p xs ≡ true → (x : X) × (Member x xs × (p x ≡ true))
any_member p [] is = cc
any_member p (x ∷ xs) is = any_member_cons p x xs (p x) refl (any_member p xs) is

pub member_filter : {X : Type 0} (q : X → Bool) (x : X) (xs : List X) → Member x xs → q x ≡ true → Member x (filter q xs)
member_filter q x [] m is = m
member_filter q x (y ∷ ys) (inl same) is =
    let passes : q y ≡ true = ap q (sym same) ∙ is in
    rw passes (inl same)
member_filter q x (y ∷ ys) (inr later) is =
    let kept = member_filter q x ys later is in
    elim (q y) as (λ b. Member x (if b then y ∷ filter q ys else filter q ys)) [ true ↦ inr kept | false ↦ kept ]

filtered_at : {X : Type 0} (q : X → Bool) (x y : X) (ys : List X) (b : Bool) → q y ≡ b → Member x (if b then y ∷ filter q ys else filter q ys)
    → (Member x (filter q ys) → Member x ys × (q x ≡ true))
    → Member x (y ∷ ys) × (q x ≡ true)
filtered_at q x y ys true is (inl same) later = (inl same, ap q same ∙ is)
filtered_at q x y ys true is (inr m) later = let kept = later m in (inr kept.0, kept.1)
filtered_at q x y ys false is m later = let kept = later m in (inr kept.0, kept.1)

pub member_filtered : {X : Type 0} (q : X → Bool) (x : X) (xs : List X) → Member x (filter q xs) → Member x xs × (q x ≡ true)
member_filtered q x [] m = absurd m
member_filtered q x (y ∷ ys) m = filtered_at q x y ys (q y) refl m (λ h. member_filtered q x ys h)

pub at_member : {X : Type 0} (P : X → Type 0) (x : X) (xs : List X) → AllByRecursion P xs → Member x xs → P x
at_member P x [] all m = absurd m
at_member P x (y ∷ ys) all (inl same) = subst P (sym same) all.0
at_member P x (y ∷ ys) all (inr later) = at_member P x ys all.1 later

pub any_of_filter : {X : Type 0} (p q : X → Bool) (xs : List X) → list_any p (filter q xs) ≡ true → list_any p xs ≡ true
any_of_filter p q [] is = is
any_of_filter p q (x ∷ xs) is =
    let tail = any_of_filter p q xs in
    grind (arith, nat_tests, tail)

-- what holds of all that is made of the items is said of the items
pub all_mapped : {X Y : Type 0} (f : X → Y) (P : Y → Type 0) (xs : List X) → All P (map f xs) → All (λ x. P (f x)) xs
all_mapped f P xs all i d inside = subst P (get_or-map f xs i d) (all i (f d) (simp length-map inside))

-- ---- numbers in a row

-- one number more
pub range_more : (a n : ℕ) → range_with_len a (n + 1) ≡ range_with_len a n ++ (a + n) ∷ []
range_more a n =
    sym (map-id (range_with_len a (n + 1))) ∙ map-range_with_len_more (λ (o : ℕ). o) a n (a + n) refl
    ∙ ap (λ (os : List ℕ). os ++ (a + n) ∷ []) (map-id (range_with_len a n))

pub any_more : (p : ℕ → Bool) (a n : ℕ) → list_any p (range_with_len a (n + 1)) ≡ (list_any p (range_with_len a n) || p (a + n))
any_more p a n = ap (list_any p) (range_more a n) ∙ list_any-append p (range_with_len a n) ((a + n) ∷ [])
    ∙ ap (λ b. list_any p (range_with_len a n) || b) (or-false (p (a + n)))

-- two tests that agree on numbers in a row
pub any_agree : (p q : ℕ → Bool) (a n : ℕ) → ((o : ℕ) → o < a + n → p o ≡ q o) → list_any p (range_with_len a n) ≡ list_any q (range_with_len a n)
any_agree p q a zero h = refl
any_agree p q a (suc n) h = rw (h a (omega arith), any_agree p q (a + 1) n (λ o l. h o (omega arith))) refl

-- ---- other orders

module _ {X Y : Type 0} (f : X → Y) where
  map-swap : (xs : List X) (i j : ℕ) → map f (swap xs i j) ≡ swap (map f xs) i j
  map-swap [] i j = refl
  map-swap (d ∷ ys) i j =
      map-set f (slice_set (d ∷ ys) i (get_or (d ∷ ys) j d)) j (get_or (d ∷ ys) i d)
      ∙ ap (λ l. slice_set l j (f (get_or (d ∷ ys) i d))) (map-set f (d ∷ ys) i (get_or (d ∷ ys) j d))
      ∙ ap (λ y. slice_set (slice_set (map f (d ∷ ys)) i y) j (f (get_or (d ∷ ys) i d))) (sym (get_or-map f (d ∷ ys) j d))
      ∙ ap (λ y. slice_set (slice_set (map f (d ∷ ys)) i (get_or (map f (d ∷ ys)) j (f d))) j y) (sym (get_or-map f (d ∷ ys) i d))

  map_swaps : (xs : List X) (moves : List (ℕ × ℕ)) → map f (apply_swaps xs moves) ≡ apply_swaps (map f xs) moves
  map_swaps xs [] = refl
  map_swaps xs (p ∷ moves) = map-swap (apply_swaps xs moves) p.0 p.1 ∙ ap (λ l. swap l p.0 p.1) (map_swaps xs moves)

  -- what is made of the items in another order is in another order
  pub map-IsPermutation : (xs ys : List X) → IsPermutation xs ys → IsPermutation (map f xs) (map f ys)
  map-IsPermutation xs ys other = record {
    moves = other.moves;
    below = subst (λ n. SwapsInRange n other.moves) (sym (length-map xs f)) other.below;
    is = ap (map f) other.is ∙ map_swaps xs other.moves;
  }

-- ---- what every list keeps

pub each_member : {X : Type 0} (P : X → Type 0) (xs : List X) → ((x : X) → Member x xs → P x) → AllByRecursion P xs
each_member P [] each = tt
each_member P (x ∷ xs) each = (each x (inl refl), each_member P xs (λ y there. each y (inr there)))

pub length-filter-most : {X : Type 0} (p : X → Bool) (xs : List X) → length (filter p xs) ≤ length xs
length-filter-most p [] = omega arith
length-filter-most p (x ∷ xs) = by (p x) (length-filter-most p xs)
  where
    by : (b : Bool) → length (filter p xs) ≤ length xs → length (if b then x ∷ filter p xs else filter p xs) ≤ length (x ∷ xs)
    by true most = omega (arith, most)
    by false most = omega (arith, most)

pub how_many-map : {X Y : Type 0} (p : Y → Bool) (f : X → Y) (xs : List X) → how_many p (map f xs) ≡ how_many (λ x. p (f x)) xs
how_many-map p f [] = refl
how_many-map p f (x ∷ xs) = ap (λ n. if p (f x) then n + 1 else n) (how_many-map p f xs)

pub how_many-most : {X : Type 0} (p : X → Bool) (xs : List X) → how_many p xs ≤ length xs
how_many-most p [] = omega arith
how_many-most p (x ∷ xs) = by (p x) (how_many-most p xs)
  where
    by : (b : Bool) → how_many p xs ≤ length xs → (if b then how_many p xs + 1 else how_many p xs) ≤ length (x ∷ xs)
    by true most = omega (arith, most)
    by false most = omega (arith, most)

pub find-filter : {X : Type 0} (p : X → Bool) (xs : List X) → find p xs ≡ first (filter p xs)
find-filter p [] = refl
find-filter p (x ∷ xs) = rw (find-filter p xs)
    (elim (p x) as (λ b. (if b then Some x else first (filter p xs)) ≡ first (if b then x ∷ filter p xs else filter p xs)) [ true ↦ refl | false ↦ refl ])

pub any_filter : {X : Type 0} (p q : X → Bool) (xs : List X) → list_any p (filter q xs) ≡ list_any (λ x. q x && p x) xs
any_filter p q [] = refl
any_filter p q (x ∷ xs) = by (q x) (any_filter p q xs)
  where
    by : (b : Bool) → list_any p (filter q xs) ≡ list_any (λ x. q x && p x) xs
        → list_any p (if b then x ∷ filter q xs else filter q xs) ≡ ((b && p x) || list_any (λ x. q x && p x) xs)
    by true e = ap (λ r. p x || r) e
    by false e = e

pub any_same : {X : Type 0} (p q : X → Bool) (xs : List X) → ((x : X) → p x ≡ q x) → list_any p xs ≡ list_any q xs
any_same p q [] alike = refl
any_same p q (x ∷ xs) alike = rw (alike x, any_same p q xs alike) refl
