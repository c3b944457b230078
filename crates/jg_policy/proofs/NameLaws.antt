-- What is found at a place has the name that was sought.
use Rattle.std.proofs.Common.{◌≡◌, ℕ, ◌+◌, ◌-◌, ◌==◌, suc, Bool, true, false, ◌&&◌, cond, List, [], ◌∷◌, ◌++◌, slice_get, Option, Some, None, position, refl, ap, ◌∙◌, sym, subst, arith, length, ◌<◌}
use Rattle.std.proofs.lemmas.Bool.{and_parts}
use Rattle.std.proofs.lemmas.Bool.Decides.{nat_tests}
use Rattle.std.proofs.lemmas.List.{length-append, length-map}
use Rattle.std.specs.Option.{option_map}
use Rattle.std.specs.Str.{bytes_eq}
use Rattle.jg_policy.specs.BaseClasses.{base_names}
use Rattle.jg_policy.specs.Stated.{StatedMember, StatedSetup, class_count, class_names}
use Rattle.jg_policy.specs.Classes.{class_named, class_name_of, is_member, member_named, member_at}
use Rattle.jg_policy.proofs.Places.{place, position-place, position-within}
use Rattle.jg_policy.proofs.Reading.{count_base}
use Rattle.jg_policy.proofs.ModuleLaws.{equal_bytes}

-- the item at a place, which passes the test
abbrev Passes : {A : Type 0} → (A → Bool) → List A → ℕ → Type 0
Passes {A = A} p xs n = (x : A) × (slice_get xs n ≡ Some x) × (p x ≡ true)

place-item : {A : Type 0} (p : A → Bool) (xs : List A) (n : ℕ) → place p xs ≡ Some n → Passes p xs n
place-item p [] n h = absurd (let no : ⊥ = cc in no)
place-item {A = A} p (x ∷ xs) n h = by (p x) refl (place p xs) (place-item p xs) h
  where
    by : (b : Bool) → p x ≡ b → (o : Option ℕ) → ((m : ℕ) → o ≡ Some m → Passes p xs m)
        → cond b (Some 0) (option_map (λ i. 1 + i) o) ≡ Some n → Passes p (x ∷ xs) n
    by true e o rest h = let is : 0 ≡ n = cc in subst (λ (k : ℕ). Passes p (x ∷ xs) k) is (x, refl, e)
    by false e None rest h = absurd (let no : ⊥ = cc in no)
    by false e (Some m) rest h =
        let one : 1 + m ≡ n = cc in
        let is : suc m ≡ n = omega arith in
        subst (λ (k : ℕ). Passes p (x ∷ xs) k) is (rest m refl)

position-item : {A : Type 0} (p : A → Bool) (xs : List A) (n : ℕ) → position p xs ≡ Some n → Passes p xs n
position-item p xs n h = place-item p xs n (sym (position-place p xs) ∙ h)

-- a class that the setup states has a number below the count of its classes
pub class_below : (s : StatedSetup) (name : List ℕ) (c : ℕ) → class_named s name ≡ Some c → c < class_count s
class_below s name c is =
    let within = position-within (bytes_eq name) (base_names ++ class_names s) c is in
    let both = length-append base_names (class_names s) in
    let own : length (class_names s) ≡ length s.classes = length-map s.classes _ in
    omega (arith, within, both, own, count_base)

some_is_one : {A : Type 0} (o : Option A) (x y : A) → o ≡ Some x → o ≡ Some y → x ≡ y
some_is_one o x y e f = cc

module _ (s : StatedSetup) where
  pub class_has_its_name : (name : List ℕ) (class : ℕ) → class_named s name ≡ Some class → class_name_of s class ≡ Some name
  class_has_its_name name class h =
      let found = position-item (bytes_eq name) (base_names ++ class_names s) class h in
      found.1 ∙ ap (λ n. Some n) (sym (equal_bytes name found.0 found.2))

  pub one_class_name : (name other : List ℕ) (class : ℕ) → class_named s name ≡ Some class → class_named s other ≡ Some class → name ≡ other
  one_class_name name other class h g = some_is_one (class_name_of s class) name other (class_has_its_name name class h) (class_has_its_name other class g)

member_is : (m : StatedMember) (name signature : List ℕ) → name ≡ m.name → signature ≡ m.signature → m ≡ record { name = name; signature = signature }
member_is m name signature e f = rw (e, f)

module _ (members : List StatedMember) where
  pub member_has_its_name : (number : ℕ) (name signature : List ℕ) → member_named name signature members ≡ Some number
      → member_at members number ≡ Some (record { name = name; signature = signature })
  member_has_its_name number name signature h = by (position (is_member name signature) members) refl h
    where
      by : (o : Option ℕ) → position (is_member name signature) members ≡ o → option_map (λ i. i + 1) o ≡ Some number
          → member_at members number ≡ Some (record { name = name; signature = signature })
      by None e h = absurd (let no : ⊥ = cc in no)
      by (Some i) e h =
          let found = position-item (is_member name signature) members i e in
          let parts = and_parts (bytes_eq name found.0.name) (bytes_eq signature found.0.signature) found.2 in
          let number_is : i + 1 ≡ number = cc in
          let above : (number == 0) ≡ false = grind (arith, nat_tests) in
          let place_is : i ≡ number - 1 = omega arith in
          let there : slice_get members (number - 1) ≡ Some found.0 = subst (λ (k : ℕ). slice_get members k ≡ Some found.0) place_is found.1 in
          rw above (there ∙ ap (λ m. Some m)
          (member_is found.0 name signature (equal_bytes name found.0.name parts.0) (equal_bytes signature found.0.signature parts.1)))

  pub one_member_name : (number : ℕ) (name other signature second : List ℕ) → member_named name signature members ≡ Some number
      → member_named other second members ≡ Some number → (name ≡ other) × (signature ≡ second)
  one_member_name number name other signature second h g =
      let one = some_is_one (member_at members number) _ _ (member_has_its_name number name signature h) (member_has_its_name number other second g) in
      (ap (λ (m : StatedMember). m.name) one, ap (λ (m : StatedMember). m.signature) one)
