-- The first place at which a test passes.
use Rattle.std.proofs.Common.{◌≡◌, ℕ, ◌+◌, ◌<◌, nat_lt, suc, Bool, true, false, not, cond, ◌||◌, List, [], ◌∷◌, ◌++◌, length, map, Option, Some, None, is_some, position, refl, ap, ◌∙◌, sym, arith}
use Rattle.std.proofs.lemmas.List.{length-map}
use Rattle.std.proofs.lemmas.Bool.Decides.{nat_tests}
use Rattle.std.specs.List.{list_any, prefix_len}
use Rattle.std.specs.Option.{option_map}

prefix-map : {A B : Type 0} (xs : List A) (show : A → B) (p : B → Bool) → prefix_len p (map show xs) ≡ prefix_len (λ x. p (show x)) xs
prefix-map [] show p = refl
prefix-map (x ∷ xs) show p = ap (λ n. cond (p (show x)) (1 + n) 0) (prefix-map xs show p)

-- the place of an item is that of what it shows
pub position-map : {A B : Type 0} (xs : List A) (show : A → B) (p : B → Bool) → position (λ x. p (show x)) xs ≡ position p (map show xs)
position-map xs show p = rw (prefix-map xs show (λ b. not (p b)), length-map xs show)

lt_step : (n m : ℕ) → nat_lt (1 + n) (suc m) ≡ nat_lt n m
lt_step n m = grind (arith, nat_tests)

zero_lt : (m : ℕ) → nat_lt 0 (suc m) ≡ true
zero_lt m = grind (arith, nat_tests)

-- by recursion
abbrev pub place : {A : Type 0} → (A → Bool) → List A → Option ℕ
place p [] = None
place p (x ∷ xs) = cond (p x) (Some 0) (option_map (λ i. 1 + i) (place p xs))

stepped : (b : Bool) (n : ℕ) → cond b (Some (1 + n)) None ≡ option_map (λ i. 1 + i) (cond b (Some n) None)
stepped true n = refl
stepped false n = refl

pub position-place : {A : Type 0} (p : A → Bool) (xs : List A) → position p xs ≡ place p xs
position-place p [] = refl
position-place p (x ∷ xs) = by (p x) (prefix_len (λ y. not (p y)) xs) (length xs) (place p xs) (position-place p xs)
  where
    by : (b : Bool) (n m : ℕ) (r : Option ℕ) → cond (nat_lt n m) (Some n) None ≡ r
        → cond (nat_lt (cond (not b) (1 + n) 0) (suc m)) (Some (cond (not b) (1 + n) 0)) None ≡ cond b (Some 0) (option_map (λ i. 1 + i) r)
    by true n m r h = rw (zero_lt m)
    by false n m r h = rw (lt_step n m) (stepped (nat_lt n m) n ∙ ap (option_map (λ i. 1 + i)) h)

is_some-step : (o : Option ℕ) → is_some (option_map (λ i. 1 + i) o) ≡ is_some o
is_some-step None = refl
is_some-step (Some n) = refl

is_some-place : {A : Type 0} (p : A → Bool) (xs : List A) → is_some (place p xs) ≡ list_any p xs
is_some-place p [] = refl
is_some-place p (x ∷ xs) = by (p x) (place p xs) (list_any p xs) (is_some-place p xs)
  where
    by : (b : Bool) (o : Option ℕ) (r : Bool) → is_some o ≡ r → is_some (cond b (Some 0) (option_map (λ i. 1 + i) o)) ≡ (b || r)
    by true o r h = refl
    by false o r h = is_some-step o ∙ h

-- a place is found where there is such an item
pub position-any : {A : Type 0} (p : A → Bool) (xs : List A) → is_some (position p xs) ≡ list_any p xs
position-any p xs = ap is_some (position-place p xs) ∙ is_some-place p xs

-- the place in the first list, or else in the second
abbrev pub or_later : ℕ → Option ℕ → Option ℕ → Option ℕ
or_later n None later = option_map (λ i. n + i) later
or_later n (Some i) later = Some i

place-append : {A : Type 0} (p : A → Bool) (xs ys : List A) → place p (xs ++ ys) ≡ or_later (length xs) (place p xs) (place p ys)
place-append p [] ys = from_zero (place p ys)
  where
    from_zero : (o : Option ℕ) → o ≡ option_map (λ i. 0 + i) o
    from_zero None = refl
    from_zero (Some i) = ap (λ n. Some n) (let e : i ≡ 0 + i = omega arith in e)
place-append p (x ∷ xs) ys = by (p x) (place p (xs ++ ys)) (place-append p xs ys)
  where
    step : (n : ℕ) (o later : Option ℕ) → option_map (λ i. 1 + i) (or_later n o later) ≡ or_later (suc n) (option_map (λ i. 1 + i) o) later
    step n None None = refl
    step n None (Some i) = ap (λ m. Some m) (let e : 1 + (n + i) ≡ suc n + i = omega arith in e)
    step n (Some i) later = refl

    by : (b : Bool) (o : Option ℕ) → o ≡ or_later (length xs) (place p xs) (place p ys)
        → cond b (Some 0) (option_map (λ i. 1 + i) o) ≡ or_later (suc (length xs)) (cond b (Some 0) (option_map (λ i. 1 + i) (place p xs))) (place p ys)
    by true o h = refl
    by false o h = ap (option_map (λ i. 1 + i)) h ∙ step (length xs) (place p xs) (place p ys)

pub position-append : {A : Type 0} (p : A → Bool) (xs ys : List A) → position p (xs ++ ys) ≡ or_later (length xs) (position p xs) (position p ys)
position-append p xs ys = rw (position-place p (xs ++ ys), position-place p xs, position-place p ys) (place-append p xs ys)

-- a place is within the list
pub position-within : {A : Type 0} (p : A → Bool) (xs : List A) (n : ℕ) → position p xs ≡ Some n → n < length xs
position-within p xs n h = by (nat_lt (prefix_len (λ x. not (p x)) xs) (length xs)) refl h
  where
    by : (b : Bool) → nat_lt (prefix_len (λ x. not (p x)) xs) (length xs) ≡ b → cond b (Some (prefix_len (λ x. not (p x)) xs)) None ≡ Some n → n < length xs
    by true below same = let e : prefix_len (λ x. not (p x)) xs ≡ n = cc in grind (arith, nat_tests)
    by false below same = absurd (let no : ⊥ = cc in no)

pub position-cons : {A : Type 0} (p : A → Bool) (x : A) (xs : List A) → position p (x ∷ xs) ≡ cond (p x) (Some 0) (option_map (λ i. 1 + i) (position p xs))
position-cons p x xs = position-place p (x ∷ xs) ∙ ap (λ o. cond (p x) (Some 0) (option_map (λ i. 1 + i) o)) (sym (position-place p xs))
