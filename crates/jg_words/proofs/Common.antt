-- Facts of truth values, numbers, options and lists that the proofs of more than one crate use.
use Rattle.std.proofs.Common.{◌≡◌, ◌<◌, ◌≤◌, length, ℕ, zero, suc, Bool, true, false, List, [], ◌∷◌, ◌++◌, refl, ap, arith, eq-eqb}
use Rattle.std.specs.Prelude.{◌==◌, ◌&&◌, ◌||◌, not, map, slice_get}
use Rattle.std.specs.List.{list_any}
use Rattle.std.proofs.lemmas.Bool.{and_parts}
use Rattle.std.proofs.lemmas.List.Folds.{list_any-append}
use Rattle.jg_words.specs.declared.rule.Rule.{Rule}
use Rattle.jg_words.specs.declared.rule.Rule.TheVariants.{WrongThread, Detached, InCritical, Pending, ForeignLocal, DeadReference, WrongRefKind, NullReference, WrongType, BadField, BadBuffer, BadArgument, Pinned, NotOwner, BadFrame, NoNativeAccess, NotLinked}
use Rattle.jg_words.specs.Rule.{number_of}

-- ---- truth values

pub clash : (b : Bool) → b ≡ true → b ≡ false → ⊥
clash b on off = cc

pub and_first : (a b : Bool) → (a && b) ≡ true → a ≡ true
and_first a b is = (and_parts a b is).0

pub and_second : (a b : Bool) → (a && b) ≡ true → b ≡ true
and_second a b is = (and_parts a b is).1

pub not_and_parts : (a b : Bool) → (not a && b) ≡ true → (a ≡ false) × (b ≡ true)
not_and_parts true b is = absurd cc
not_and_parts false b is = (refl, is)

pub or_first_off : (a b : Bool) → (a || b) ≡ false → a ≡ false
or_first_off true b is = absurd cc
or_first_off false b is = refl

pub or_first : (a b c d e : Bool) → a ≡ true → ((((a || b) || c) || d) || e) ≡ true
or_first a b c d e is = rw is refl

pub or_second : (a b c d e : Bool) → b ≡ true → ((((a || b) || c) || d) || e) ≡ true
or_second true b c d e is = refl
or_second false b c d e is = rw is refl

pub or_third : (a b c d e : Bool) → c ≡ true → ((((a || b) || c) || d) || e) ≡ true
or_third true b c d e is = refl
or_third false true c d e is = refl
or_third false false c d e is = rw is refl

pub or_fourth : (a b c d e : Bool) → d ≡ true → ((((a || b) || c) || d) || e) ≡ true
or_fourth true b c d e is = refl
or_fourth false true c d e is = refl
or_fourth false false true d e is = refl
or_fourth false false false d e is = rw is refl

pub or_middle : (a b c : Bool) → b ≡ true → ((a || b) || c) ≡ true
or_middle true b c is = refl
or_middle false b c is = rw is refl

-- ---- numbers

pub eqb_self : (n : ℕ) → (n == n) ≡ true
eqb_self n = eq-eqb n n refl

pub positive : (n : ℕ) → 0 < n → n ≡ 0 → ⊥
positive n above none = omega (arith, above, none)

-- ---- lists

pub list_any-map : {X Y : Type 0} (f : X → Y) (p : Y → Bool) (xs : List X) → list_any p (map f xs) ≡ list_any (λ x. p (f x)) xs
list_any-map f p [] = refl
list_any-map f p (x ∷ xs) = ap (λ b. p (f x) || b) (list_any-map f p xs)

pub slice_get-before : {X : Type 0} (xs ys : List X) (i : ℕ) → i < length xs → slice_get (xs ++ ys) i ≡ slice_get xs i
slice_get-before [] ys i low = absurd (omega (arith, low))
slice_get-before (x ∷ xs) ys zero low = refl
slice_get-before (x ∷ xs) ys (suc i) low = slice_get-before xs ys i (omega (arith, low))

pub list_any-front : {X : Type 0} (p : X → Bool) (xs ys : List X) → list_any p xs ≡ true → list_any p (xs ++ ys) ≡ true
list_any-front p xs ys is = rw (list_any-append, is) refl

-- ---- rules

pub rule_number : (rule : Rule) → (0 < number_of rule) × (number_of rule < 18)
rule_number WrongThread = (omega arith, omega arith)
rule_number Detached = (omega arith, omega arith)
rule_number InCritical = (omega arith, omega arith)
rule_number Pending = (omega arith, omega arith)
rule_number ForeignLocal = (omega arith, omega arith)
rule_number DeadReference = (omega arith, omega arith)
rule_number WrongRefKind = (omega arith, omega arith)
rule_number NullReference = (omega arith, omega arith)
rule_number WrongType = (omega arith, omega arith)
rule_number BadField = (omega arith, omega arith)
rule_number BadBuffer = (omega arith, omega arith)
rule_number BadArgument = (omega arith, omega arith)
rule_number Pinned = (omega arith, omega arith)
rule_number NotOwner = (omega arith, omega arith)
rule_number BadFrame = (omega arith, omega arith)
rule_number NoNativeAccess = (omega arith, omega arith)
rule_number NotLinked = (omega arith, omega arith)
