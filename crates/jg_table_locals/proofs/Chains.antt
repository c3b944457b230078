-- Lists that ascend, and what filters, cuts and marks leave of them.
use Rattle.std.proofs.Common.{◌≡◌, Bool, true, false, List, [], ◌∷◌, ◌++◌, Option, Some, None, refl, ◌∙◌, ap, sym, subst, arith, inl, inr}
use Rattle.std.specs.Prelude.{◌⊎◌, ◌&&◌, if◌then◌else◌, filter, map}
use Rattle.std.specs.Option.{option_map, option_or}
use Rattle.std.specs.List.{AllByRecursion}
use Rattle.std.proofs.lemmas.Bool.Decides.{nat_tests}
use Rattle.jg_table_locals.specs.Seen.{last, Chain}

pub each-map : {X : Type 0} (P Q : X → Type 0) → ((x : X) → P x → Q x) → (xs : List X) → AllByRecursion P xs → AllByRecursion Q xs
each-map P Q f [] all = tt
each-map P Q f (x ∷ xs) all = (f x all.0, each-map P Q f xs all.1)

pub each-both : {X : Type 0} (P Q R : X → Type 0) → ((x : X) → P x → Q x → R x) → (xs : List X) → AllByRecursion P xs → AllByRecursion Q xs
    → AllByRecursion R xs
each-both P Q R f [] p q = tt
each-both P Q R f (x ∷ xs) p q = (f x p.0 q.0, each-both P Q R f xs p.1 q.1)

pub each-push : {X : Type 0} (P : X → Type 0) (xs : List X) (y : X) → AllByRecursion P xs → P y → AllByRecursion P (xs ++ y ∷ [])
each-push P [] y all is = (is, tt)
each-push P (x ∷ xs) y all is = (all.0, each-push P xs y all.1 is)

pub each-front : {X : Type 0} (P : X → Type 0) (xs ys : List X) → AllByRecursion P (xs ++ ys) → AllByRecursion P xs
each-front P [] ys all = tt
each-front P (x ∷ xs) ys all = (all.0, each-front P xs ys all.1)

pub each-end : {X : Type 0} (P : X → Type 0) (xs : List X) (y : X) → AllByRecursion P (xs ++ y ∷ []) → P y
each-end P [] y all = all.0
each-end P (x ∷ xs) y all = each-end P xs y all.1

filtered : {X : Type 0} (P : X → Type 0) (x : X) (xs : List X) (b : Bool) → P x → AllByRecursion P xs → AllByRecursion P (if b then x ∷ xs else xs)
filtered P x xs true here rest = (here, rest)
filtered P x xs false here rest = rest

pub each-filter : {X : Type 0} (P : X → Type 0) (p : X → Bool) (xs : List X) → AllByRecursion P xs → AllByRecursion P (filter p xs)
each-filter P p [] all = tt
each-filter P p (x ∷ xs) all = filtered P x (filter p xs) (p x) all.0 (each-filter P p xs all.1)

passed_at : {X : Type 0} (P : X → Type 0) (p : X → Bool) (x : X) (xs : List X) (b : Bool) → p x ≡ b → ((x : X) → p x ≡ true → P x)
    → AllByRecursion P (filter p xs)
    → AllByRecursion P (if b then x ∷ filter p xs else filter p xs)
passed_at P p x xs true is f rest = (f x is, rest)
passed_at P p x xs false is f rest = rest

-- what passes a filter passes its test too
pub each-passed : {X : Type 0} (P : X → Type 0) (p : X → Bool) (xs : List X) → ((x : X) → p x ≡ true → P x) → AllByRecursion P (filter p xs)
each-passed P p [] f = tt
each-passed P p (x ∷ xs) f = passed_at P p x xs (p x) refl f (each-passed P p xs f)

-- ---- chains

pub chain-push : {X : Type 0} (r : X → X → Bool) (xs : List X) (y : X) → Chain r xs → AllByRecursion (λ x. r x y ≡ true) xs → Chain r (xs ++ y ∷ [])
chain-push r [] y chain all = (tt, tt)
chain-push r (x ∷ xs) y chain all = (each-push (λ z. r x z ≡ true) xs y chain.0 all.0, chain-push r xs y chain.1 all.1)

pub chain-front : {X : Type 0} (r : X → X → Bool) (xs ys : List X) → Chain r (xs ++ ys) → Chain r xs
chain-front r [] ys chain = tt
chain-front r (x ∷ xs) ys chain = (each-front (λ z. r x z ≡ true) xs ys chain.0, chain-front r xs ys chain.1)

-- each stands in r to the last
chain-end : {X : Type 0} (r : X → X → Bool) (xs : List X) (y : X) → Chain r (xs ++ y ∷ []) → AllByRecursion (λ x. r x y ≡ true) xs
chain-end r [] y chain = tt
chain-end r (x ∷ xs) y chain = (each-end (λ z. r x z ≡ true) xs y chain.0, chain-end r xs y chain.1)

chain_filtered : {X : Type 0} (r : X → X → Bool) (x : X) (xs : List X) (b : Bool) → AllByRecursion (λ z. r x z ≡ true) xs → Chain r xs
    → Chain r (if b then x ∷ xs else xs)
chain_filtered r x xs true all chain = (all, chain)
chain_filtered r x xs false all chain = chain

pub chain-filter : {X : Type 0} (r : X → X → Bool) (p : X → Bool) (xs : List X) → Chain r xs → Chain r (filter p xs)
chain-filter r p [] chain = tt
chain-filter r p (x ∷ xs) chain = chain_filtered r x (filter p xs) (p x) (each-filter (λ z. r x z ≡ true) p xs chain.0) (chain-filter r p xs chain.1)

-- ---- the last

ending_after : {X : Type 0} (x : X) (xs : List X) → (xs ≡ []) ⊎ ((front : List X) × (y : X) × (xs ≡ front ++ y ∷ []) × (last xs ≡ Some y)) → (x ∷ xs ≡ [])
    ⊎ ((front : List X) × (y : X) × (x ∷ xs ≡ front ++ y ∷ []) × (last (x ∷ xs) ≡ Some y))
ending_after x xs (inl is) = inr ([], x, ap (λ l. x ∷ l) is, ap (λ l. option_or (last l) (Some x)) is)
ending_after x xs (inr found) = inr (x ∷ found.0, found.1, ap (λ l. x ∷ l) found.2, ap (λ o. option_or o (Some x)) found.3)

-- a list is empty, or ends in its last
ending : {X : Type 0} (xs : List X) → (xs ≡ []) ⊎ ((front : List X) × (y : X) × (xs ≡ front ++ y ∷ []) × (last xs ≡ Some y))
ending [] = inl refl
ending (x ∷ xs) = ending_after x xs (ending xs)

pub last-push : {X : Type 0} (xs : List X) (x : X) → last (xs ++ x ∷ []) ≡ Some x
last-push [] x = refl
last-push (y ∷ xs) x = rw (last-push xs x) refl

pub last-map : {X Y : Type 0} (g : X → Y) (xs : List X) → last (map g xs) ≡ option_map g (last xs)
last-map g [] = refl
last-map g (x ∷ xs) = ap (λ o. option_or o (Some (g x))) (last-map g xs) ∙ or_map g x (last xs)
  where
    or_map : {X Y : Type 0} (g : X → Y) (x : X) (o : Option X) → option_or (option_map g o) (Some (g x)) ≡ option_map g (option_or o (Some x))
    or_map g x None = refl
    or_map g x (Some y) = refl

nil_by : {X : Type 0} (xs : List X) → last xs ≡ None → (xs ≡ []) ⊎ ((front : List X) × (y : X) × (xs ≡ front ++ y ∷ []) × (last xs ≡ Some y)) → xs ≡ []
nil_by xs none (inl is) = is
nil_by xs none (inr found) = let no : None ≡ Some found.1 = sym none ∙ found.3 in cc

pub last-nil : {X : Type 0} (xs : List X) → last xs ≡ None → xs ≡ []
last-nil xs none = nil_by xs none (ending xs)

split_by : {X : Type 0} (xs : List X) (y : X) → last xs ≡ Some y → (xs ≡ []) ⊎ ((front : List X) × (z : X) × (xs ≡ front ++ z ∷ []) × (last xs ≡ Some z))
    → (front : List X) × (xs ≡ front ++ y ∷ [])
split_by {X = X} xs y is (inl empty) = let no : Some y ≡ None = sym is ∙ ap last empty in cc
split_by xs y is (inr found) =
    let same : Some found.1 ≡ Some y = sym found.3 ∙ is in
    let one : found.1 ≡ y = cc in
    (found.0, found.2 ∙ ap (λ z. found.0 ++ z ∷ []) one)

pub last-split : {X : Type 0} (xs : List X) (y : X) → last xs ≡ Some y → (front : List X) × (xs ≡ front ++ y ∷ [])
last-split xs y is = split_by xs y is (ending xs)

-- in a chain each is at or before the last
pub chain-last : {X : Type 0} (r : X → X → Bool) (P : X → Type 0) (xs : List X) (y : X) → Chain r xs → last xs ≡ Some y → P y → ((x : X) → r x y ≡ true → P x)
    → AllByRecursion P xs
chain-last {X = X} r P xs y chain is here earlier =
    let split = last-split xs y is in
    let C : List X → Type 0 = λ l. Chain r l in
    let all = chain-end r split.0 y (subst C split.1 chain) in
    let Q : List X → Type 0 = λ l. AllByRecursion P l in
    subst Q (sym split.1) (each-push P split.0 y (each-map (λ x. r x y ≡ true) P earlier split.0 all) here)

-- ---- filters

pub filter-all : {X : Type 0} (p : X → Bool) (xs : List X) → AllByRecursion (λ x. p x ≡ true) xs → filter p xs ≡ xs
filter-all p [] all = refl
filter-all p (x ∷ xs) all = rw (all.0, filter-all p xs all.1) refl

pub filter-none : {X : Type 0} (p : X → Bool) (xs : List X) → AllByRecursion (λ x. p x ≡ false) xs → filter p xs ≡ []
filter-none p [] all = refl
filter-none p (x ∷ xs) all = rw (all.0, filter-none p xs all.1) refl

-- two tests in turn, and one that is both
pub filter-twice : {X : Type 0} (p q r : X → Bool) (xs : List X) → AllByRecursion (λ x. p x ≡ (r x && q x)) xs → filter p xs ≡ filter q (filter r xs)
filter-twice p q r [] all = refl
filter-twice p q r (x ∷ xs) all = grind (arith, nat_tests, all.0, filter-twice p q r xs all.1)

pub filter-alike : {X : Type 0} (p q : X → Bool) (xs : List X) → AllByRecursion (λ x. p x ≡ q x) xs → filter p xs ≡ filter q xs
filter-alike p q [] all = refl
filter-alike p q (x ∷ xs) all = rw (all.0, filter-alike p q xs all.1) refl
