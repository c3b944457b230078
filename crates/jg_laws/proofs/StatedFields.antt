-- A field that the setup states.
use Rattle.std.proofs.Common.{ℕ, ◌≡◌, ◌-◌, ◌<◌, ◌≤◌, Bool, true, false, List, length, Option, Some, None, refl, arith}
use Rattle.std.specs.Prelude.{◌==◌, ◌&&◌, not, nat_lt, if◌then◌else◌, slice_get}
use Rattle.std.specs.Option.{option_map}
use Rattle.std.proofs.lemmas.Bool.Decides.{nat_tests}
use Rattle.std.proofs.lemmas.Option.{slice_get_within}
use Rattle.jg_words.specs.declared.object.Primitive.{Primitive}
use Rattle.jg_policy.specs.Stated.{StatedSetup, StatedMember, StatedClass}
use Rattle.jg_policy.specs.Classes.{class_at, fields_in, field_type}
use Rattle.jg_rules.specs.Rules.{is_stated_as}

-- its class is one of the setup, which states so many fields
pub record IsStatedField (s : StatedSetup) (class field : ℕ) : Type 0 where
  pub high : 15 ≤ class
  pub named : 1 ≤ field
  pub within : field - 1 < length (fields_in (class_at s class))

found_within : (wanted : Option Primitive) (members : List StatedMember) (i : ℕ) (found : Option StatedMember) → slice_get members i ≡ found
    → is_stated_as wanted (option_map (λ (m : StatedMember). m.signature) found) ≡ true → i < length members
found_within wanted members i None is stated = absurd cc
found_within wanted members i (Some m) is stated = slice_get_within members i m is

member_within : (b : Bool) (wanted : Option Primitive) (members : List StatedMember) (field : ℕ) → (field == 0) ≡ b
    → is_stated_as wanted (if b then None else option_map (λ (m : StatedMember). m.signature) (slice_get members (field - 1))) ≡ true
    → (1 ≤ field) × (field - 1 < length members)
member_within true wanted members field is stated = absurd cc
member_within false wanted members field is stated =
    (grind (arith, nat_tests, is), found_within wanted members (field - 1) (slice_get members (field - 1)) refl stated)

high_if : (b : Bool) (s : StatedSetup) (class n : ℕ) (found : Option StatedClass) → nat_lt class 15 ≡ b → n < length (fields_in (if b then None else found))
    → 15 ≤ class
high_if true s class n found is within = absurd (omega (arith, within))
high_if false s class n found is within = grind (arith, nat_tests, is)

pub stated_field : (s : StatedSetup) (class field : ℕ) (wanted : Option Primitive) → is_stated_as wanted (field_type s class field) ≡ true
    → IsStatedField s class field
stated_field s class field wanted stated =
    let at_place = member_within (field == 0) wanted (fields_in (class_at s class)) field refl stated in
    record {
      high = high_if (nat_lt class 15) s class (field - 1) (slice_get s.classes (class - 15)) refl at_place.1;
      named = at_place.0;
      within = at_place.1;
    }

-- ---- tests that passed

pub both_true : (a b : Bool) → not (a && b) ≡ false → (a ≡ true) × (b ≡ true)
both_true true true is = (refl, refl)
both_true true false is = absurd cc
both_true false b is = absurd cc
