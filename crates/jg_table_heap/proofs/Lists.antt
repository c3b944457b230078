-- Lists and tests, whatever they hold.
use Rattle.std.proofs.Common.{ℕ, ◌≡◌, ◌<◌, ◌≤◌, ◌+◌, ◌∙◌, sym, ap, refl, List, [], ◌∷◌, get_or, map, replicate, zero, suc, Bool, true, false, not, ◌||◌, ◌&&◌, eqb, inl, inr, arith, zero-add}
use Rattle.std.specs.Prelude.{All, filter}
use Rattle.std.specs.List.{list_any, range_with_len}
use Rattle.std.proofs.lemmas.Bool.{or_cases, or_left, or_right, cases_Bool, eq-eqb, eqb-true}
use Rattle.std.proofs.lemmas.List.Elements.{All-filter, All-from_get_or}
use Rattle.std.proofs.lemmas.List.Folds.{list_any_at}
use Rattle.std.proofs.lemmas.Map.Views.{any-filter_same}
use Rattle.std.proofs.lemmas.List.FromFn.{length-map-range_with_len, get_or-map-range_with_len, fill_by_all, length-range_with_len, get_or-range_with_len}

pub map_replicate : {A B : Type 0} (f : A → B) (n : ℕ) (x : A) → map f (replicate n x) ≡ replicate n (f x)
map_replicate f zero x = refl
map_replicate f (suc n) x = ap (λ xs. f x ∷ xs) (map_replicate f n x)

-- what passes one test passes another
pub list_any_implies : {A : Type 0} (p q : A → Bool) → ((x : A) → p x ≡ true → q x ≡ true) → (xs : List A) → list_any p xs ≡ true → list_any q xs ≡ true
list_any_implies p q h [] t = t
list_any_implies p q h (x ∷ xs) t =
    elim (or_cases (p x) (list_any p xs) t) [ inl here ↦ or_left _ _ (h x here) | inr later ↦ or_right (q x) _ (list_any_implies p q h xs later) ]

-- two functions that agree below n make one list
pub map_agree : {X : Type 0} (f g : ℕ → X) (n : ℕ) (d : X) → ((p : ℕ) → p < n → f p ≡ g p) → map f (range_with_len 0 n) ≡ map g (range_with_len 0 n)
map_agree f g n d h = fill_by_all g (map f (range_with_len 0 n)) n d (length-map-range_with_len f 0 n)
    (λ p l. get_or-map-range_with_len f 0 n p p d l (omega arith) ∙ h p l)

pub filter_filter : {X : Type 0} (p q : X → Bool) (xs : List X) → filter p (filter q xs) ≡ filter (λ x. q x && p x) xs
filter_filter p q [] = refl
filter_filter p q (x ∷ xs) =
    elim (cases_Bool (q x)) [
      | inl keeps ↦ elim (cases_Bool (p x)) [ inl t ↦ rw (keeps, t) (ap (λ ys. x ∷ ys) (filter_filter p q xs)) | inr f ↦ rw (keeps, f) (filter_filter p q xs) ]
      | inr drops ↦ rw (drops) (filter_filter p q xs)
    ]

-- two tests that agree at each of the numbers keep the same
pub keep_alike : (p q : ℕ → Bool) (xs : List ℕ) → All (λ o. p o ≡ q o) xs → filter p xs ≡ filter q xs
keep_alike p q [] all = refl
keep_alike p q (x ∷ xs) all = rw (all 0 0 (omega arith), keep_alike p q xs (λ i d h. all (suc i) d (omega (arith, h)))) refl

-- two tests that agree on numbers in a row
pub keep_agree : (p q : ℕ → Bool) (a n : ℕ) → ((o : ℕ) → o < a + n → p o ≡ q o) → filter p (range_with_len a n) ≡ filter q (range_with_len a n)
keep_agree p q a zero h = refl
keep_agree p q a (suc n) h = rw (h a (omega arith), keep_agree p q (a + 1) n (λ o l. h o (omega arith))) refl

-- the numbers below n that a test keeps are below n
pub kept_below : (p : ℕ → Bool) (n : ℕ) → All (λ o. o < n) (filter p (range_with_len 0 n))
kept_below p n =
    All-filter p (λ o. o < n) (range_with_len 0 n)
    (All-from_get_or (λ o. o < n) (range_with_len 0 n) 0 (λ i h. let below : i < n = omega (arith, length-range_with_len 0 n) in
    let is : get_or (range_with_len 0 n) i 0 ≡ i = get_or-range_with_len 0 n i 0 below ∙ zero-add i in omega arith))

and_true : (b : Bool) → (b && true) ≡ b
and_true true = refl
and_true false = refl

-- a number below n is among those that a test keeps where it passes
pub kept_any : (p : ℕ → Bool) (n o : ℕ) → o < n → list_any (λ r. eqb r o) (filter p (range_with_len 0 n)) ≡ p o
kept_any p n o h =
    any-filter_same (λ r. eqb r o) p (p o) (λ r t. ap p (eqb-true r o t)) (range_with_len 0 n)
    ∙ ap (λ b. p o && b) (list_any_at (λ r. eqb r o) (range_with_len 0 n) o 0 (omega (arith, length-range_with_len 0 n))
    (eq-eqb (get_or (range_with_len 0 n) o 0) o (get_or-range_with_len 0 n o 0 h ∙ zero-add o)))
    ∙ and_true (p o)

-- ---- gone, marked and held

pub or_swapped : (roots classes slots : Bool) → ((roots || classes) || slots) ≡ ((classes || roots) || slots)
or_swapped true true slots = refl
or_swapped true false slots = refl
or_swapped false true slots = refl
or_swapped false false slots = refl

-- what isn't gone and not marked is what isn't gone and not held
pub goes_alike : (gone marked held : Bool) → (gone ≡ false → marked ≡ held) → (not gone && not marked) ≡ (not gone && not held)
goes_alike true marked held h = refl
goes_alike false marked held h = ap not (h refl)

pub gone_alike : (gone marked held : Bool) → (gone ≡ false → marked ≡ held) → (gone || (not gone && not marked)) ≡ (gone || not held)
gone_alike true marked held h = refl
gone_alike false marked held h = ap not (h refl)

pub stays_alike : (gone marked : Bool) → (not gone && marked) ≡ not (gone || (not gone && not marked))
stays_alike true marked = refl
stays_alike false true = refl
stays_alike false false = refl

-- a test that another one asks for
pub and_implied : (a b : Bool) → (a ≡ false → b ≡ false) → (a && b) ≡ b
and_implied true b h = refl
and_implied false b h = sym (h refl)
