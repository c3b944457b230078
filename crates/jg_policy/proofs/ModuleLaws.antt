-- Modules go by the first place of their names.
use Rattle.std.proofs.Common.{◌≡◌, ℕ, ◌+◌, ◌-◌, ◌<◌, zero, suc, Bool, true, false, ◌||◌, cond, nat_lt, List, [], ◌∷◌, length, map, slice_get, Option, Some, None, IfSome, IsSome, is_some, position, option_and_then, codes, refl, ap, ◌∙◌, sym, arith}
use Rattle.std.proofs.lemmas.Bool.{false≢true}
use Rattle.std.proofs.lemmas.Bool.Decides.{nat_tests}
use Rattle.std.proofs.lemmas.Slice.Eq.{bytes_eq-Decides}
use Rattle.std.specs.List.{list_any}
use Rattle.std.specs.Option.{option_map}
use Rattle.std.specs.Str.{bytes_eq}
use Rattle.std.proofs.Math.Bool.{or-true}
use Rattle.jg_policy.specs.Stated.{StatedClass, StatedSetup, class_count}
use Rattle.jg_policy.specs.Classes.{module_name_of, module_names, module_of}
use Rattle.jg_policy.proofs.Places.{place, position-place, position-any}

pub equal_bytes : (xs ys : List ℕ) → bytes_eq xs ys ≡ true → xs ≡ ys
equal_bytes xs ys h = (bytes_eq-Decides xs ys).0 h

itself : (xs : List ℕ) → bytes_eq xs xs ≡ true
itself xs = (bytes_eq-Decides xs xs).1 refl

stepped : (o : Option ℕ) → Some 0 ≡ option_map (λ i. 1 + i) o → ⊥
stepped None h = cc
stepped (Some i) h = let zero_is : 0 ≡ 1 + i = cc in omega arith

one_step : (o p : Option ℕ) → option_map (λ i. 1 + i) o ≡ option_map (λ i. 1 + i) p → o ≡ p
one_step None None h = refl
one_step None (Some i) h = absurd (let no : ⊥ = cc in no)
one_step (Some i) None h = absurd (let no : ⊥ = cc in no)
one_step (Some i) (Some j) h = let same : 1 + i ≡ 1 + j = cc in let e : i ≡ j = omega arith in ap (λ n. Some n) e

found_none : (o : Option ℕ) → is_some o ≡ true → o ≡ None → ⊥
found_none None found none = false≢true found
found_none (Some i) found none = cc

-- names at one place are equal
one_place : (a b : List ℕ) (xs : List (List ℕ)) → list_any (bytes_eq a) xs ≡ true → place (bytes_eq a) xs ≡ place (bytes_eq b) xs → a ≡ b
one_place a b [] there same = absurd (false≢true there)
one_place a b (x ∷ xs) there same = by (bytes_eq a x) (bytes_eq b x) refl refl there same (one_place a b xs)
  where
    by : (p q : Bool) → bytes_eq a x ≡ p → bytes_eq b x ≡ q → (p || list_any (bytes_eq a) xs) ≡ true
        → cond p (Some 0) (option_map (λ i. 1 + i) (place (bytes_eq a) xs)) ≡ cond q (Some 0) (option_map (λ i. 1 + i) (place (bytes_eq b) xs))
        → (list_any (bytes_eq a) xs ≡ true → place (bytes_eq a) xs ≡ place (bytes_eq b) xs → a ≡ b) → a ≡ b
    by true true e f there same rest = equal_bytes a x e ∙ sym (equal_bytes b x f)
    by true false e f there same rest = absurd (stepped _ same)
    by false true e f there same rest = absurd (stepped _ (sym same))
    by false false e f there same rest = rest there (one_step _ _ same)

-- the name, where there is one, is among these
abbrev IsAmong : List (List ℕ) → Option (List ℕ) → Type 0
IsAmong names o = IfSome o (λ a. list_any (bytes_eq a) names ≡ true)

abbrev module_at : List StatedClass → ℕ → Option (List ℕ)
module_at cs i = option_map (λ (c : StatedClass). c.module_name) (slice_get cs i)

abbrev modules_in : List StatedClass → List (List ℕ)
modules_in cs = map (λ (c : StatedClass). c.module_name) cs

behind : (names : List (List ℕ)) (x : List ℕ) (o : Option (List ℕ)) → IsAmong names o → IsAmong (x ∷ names) o
behind names x None h = tt
behind names x (Some a) h = rw h (or-true (bytes_eq a x))

among : (cs : List StatedClass) (i : ℕ) → IsAmong (modules_in cs) (module_at cs i)
among [] i = tt
among (c ∷ cs) zero = rw (itself c.module_name)
among (c ∷ cs) (suc i) = behind (modules_in cs) c.module_name (module_at cs i) (among cs i)

-- names that are found at one place, or both nowhere, are equal
one_found : (names : List (List ℕ)) (o q : Option (List ℕ)) → IsAmong names o → IsAmong names q
    → option_and_then (λ name. position (bytes_eq name) names) o ≡ option_and_then (λ name. position (bytes_eq name) names) q → o ≡ q
one_found names None None there here same = refl
one_found names None (Some b) there here same = absurd (found_none (position (bytes_eq b) names) (position-any (bytes_eq b) names ∙ here) (sym same))
one_found names (Some a) None there here same = absurd (found_none (position (bytes_eq a) names) (position-any (bytes_eq a) names ∙ there) same)
one_found names (Some a) (Some b) there here same =
    ap (λ name. Some name) (one_place a b names there (sym (position-place (bytes_eq a) names) ∙ same ∙ position-place (bytes_eq b) names))

module _ (s : StatedSetup) where
  named_there : (c : ℕ) → IsAmong (module_names s) (module_name_of s c)
  named_there c = by (nat_lt c 15)
    where
      by : (b : Bool) → IsAmong (module_names s) (cond b (Some (codes "java.base")) (module_at s.classes (c - 15)))
      by true = rw (itself (codes "java.base"))
      by false = behind (modules_in s.classes) (codes "java.base") (module_at s.classes (c - 15)) (among s.classes (c - 15))

  pub one_module : (c d : ℕ) → module_of s c ≡ module_of s d → module_name_of s c ≡ module_name_of s d
  one_module c d same = one_found (module_names s) (module_name_of s c) (module_name_of s d) (named_there c) (named_there d) same

  pub one_number : (c d : ℕ) → module_name_of s c ≡ module_name_of s d → module_of s c ≡ module_of s d
  one_number c d same = ap (option_and_then (λ name. position (bytes_eq name) (module_names s))) same

some_module : (cs : List StatedClass) (i : ℕ) → is_some (module_at cs i) ≡ nat_lt i (length cs)
some_module [] i = grind (arith, nat_tests)
some_module (c ∷ cs) zero = grind (arith, nat_tests)
some_module (c ∷ cs) (suc i) = some_module cs i ∙ (let e : nat_lt i (length cs) ≡ nat_lt (suc i) (suc (length cs)) = grind (arith, nat_tests) in e)

found_where : (names : List (List ℕ)) (o : Option (List ℕ)) → IsAmong names o
    → is_some (option_and_then (λ name. position (bytes_eq name) names) o) ≡ is_some o
found_where names None there = refl
found_where names (Some a) there = position-any (bytes_eq a) names ∙ there

has_module : (s : StatedSetup) (c : ℕ) → is_some (module_of s c) ≡ nat_lt c (class_count s)
has_module s c = found_where (module_names s) (module_name_of s c) (named_there s c) ∙ by (nat_lt c 15) refl
  where
    by : (b : Bool) → nat_lt c 15 ≡ b → is_some (cond b (Some (codes "java.base")) (module_at s.classes (c - 15))) ≡ nat_lt c (class_count s)
    by true below = grind (arith, nat_tests)
    by false above = some_module s.classes (c - 15) ∙ grind (arith, nat_tests)

pub class_of_module : (s : StatedSetup) (c : ℕ) → IsSome (module_of s c) → c < class_count s
class_of_module s c h = let is : nat_lt c (class_count s) ≡ true = sym (has_module s c) ∙ h in grind (arith, nat_tests)

pub module_of_class : (s : StatedSetup) (c : ℕ) → c < class_count s → IsSome (module_of s c)
module_of_class s c below = has_module s c ∙ (let is : nat_lt c (class_count s) ≡ true = grind (arith, nat_tests) in is)
