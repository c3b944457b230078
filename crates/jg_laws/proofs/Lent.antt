-- What is lent fits its object, which the rules on operands have found to be of the right type.
use Rattle.std.proofs.Common.{ℕ, ◌≡◌, ◌≤◌, Bool, true, false, map, length, pos, refl, subst, sym, arith, eqb-true}
use Rattle.std.specs.Prelude.{◌||◌, ◌&&◌, nat_le}
use Rattle.std.specs.Option.{unwrap_or}
use Rattle.std.proofs.lemmas.Bool.Decides.{nat_tests}
use Rattle.std.proofs.lemmas.List.{length-map}
use Rattle.jg_words.specs.declared.object.Primitive.{Primitive}
use Rattle.jg_words.specs.declared.object.Primitive.TheVariants.{Boolean, Byte, Char, Short, Int, Long}
use Rattle.jg_words.specs.declared.reference.Ref.{Ref}
use Rattle.jg_policy.specs.Stated.{StatedSetup, class_count}
use Rattle.jg_table_heap.specs.Making.{IsPrimitiveArray}
use Rattle.jg_words.specs.Classes.{array_class}
use Rattle.jg_words.specs.declared.object.ItemType.TheVariants.{Of}
use Rattle.jg_table_heap.specs.Spelling.{spelt}
use Rattle.jg_table_buffers.specs.History.{Buffer, copy_with, pin_through}
use Rattle.jg_table_buffers.specs.declared.family.Family.TheVariants.{Elements, Chars, UtfChars, ArrayCritical, StringCritical}
use Rattle.jg_rules.specs.declared.named.Named.{Named}
use Rattle.jg_rules.specs.declared.operand.ObjectType.TheVariants.{StringObject, PrimitiveArray, ArrayOf}
use Rattle.jg_rules.specs.Parts.{Parts}
use Rattle.jg_rules.specs.Names.{object_in, class_of, length_of, units_of, items_of, next_buffer}
use Rattle.jg_rules.specs.Rules.{is_nothing, is_null, is_wrong}
use Rattle.jg_rules.proofs.Objects.{first_is_of, items_of-length, made_so}
use Rattle.jg_laws.specs.Laws.{FitsObject}

-- t is lent its next buffer, which fits its object
pub record IsLent (s : StatedSetup) (p : Parts) (t : ℕ) (b : Buffer) : Type 0 where
  pub maker : b.maker ≡ t
  pub number : b.n ≡ next_buffer p t
  pub fits : FitsObject (class_count s) p.heap b

pub four : (element : Primitive) → 4 ≤ array_class element
four Boolean = omega arith
four Byte = omega arith
four Char = omega arith
four Short = omega arith
four Int = omega arith
four Long = omega arith

-- the operand that must name an object names one of this class
pub is_string : (s : StatedSetup) (p : Parts) (named : Named) → (is_nothing named || false) ≡ false → ((true && is_null named) || false) ≡ false
    → (is_wrong s p StringObject named || false) ≡ false
    → class_of s p (unwrap_or (object_in named) 0) ≡ 2
is_string s p named alive there right =
    eqb-true (class_of s p (unwrap_or (object_in named) 0)) 2 (first_is_of s p StringObject named false false false alive there right)

pub elements_fit : (s : StatedSetup) (p : Parts) (t n : ℕ) (element : Primitive) (named : Named) → (is_nothing named || false) ≡ false
    → ((true && is_null named) || false) ≡ false
    → (is_wrong s p (ArrayOf element) named || false) ≡ false
    → FitsObject (class_count s) p.heap (copy_with t n (unwrap_or (object_in named) 0) (Elements (Of element)) (items_of s p (unwrap_or (object_in named) 0)))
elements_fit s p t n element named alive there right =
    let o : ℕ = unwrap_or (object_in named) 0 in
    let is : class_of s p o ≡ array_class element =
    eqb-true (class_of s p o) (array_class element) (first_is_of s p (ArrayOf element) named false false false alive there right) in
    let made = made_so s p o (array_class element) is (omega (arith, four element)) in
    (made.made, (made.class, items_of-length s p o))

pub chars_fit : (s : StatedSetup) (p : Parts) (t n : ℕ) (named : Named) → (is_nothing named || false) ≡ false → ((true && is_null named) || false) ≡ false
    → (is_wrong s p StringObject named || false) ≡ false
    → FitsObject (class_count s) p.heap (copy_with t n (unwrap_or (object_in named) 0) Chars (map pos (units_of s p (unwrap_or (object_in named) 0))))
chars_fit s p t n named alive there right =
    let o : ℕ = unwrap_or (object_in named) 0 in
    let made = made_so s p o 2 (is_string s p named alive there right) (omega arith) in
    (made.made, (made.class, length-map (units_of s p o) pos))

pub utf_chars_fit : (s : StatedSetup) (p : Parts) (t n : ℕ) (named : Named) → (is_nothing named || false) ≡ false → ((true && is_null named) || false) ≡ false
    → (is_wrong s p StringObject named || false) ≡ false
    → FitsObject (class_count s) p.heap
    (copy_with t n (unwrap_or (object_in named) 0) UtfChars (map pos (spelt (units_of s p (unwrap_or (object_in named) 0)))))
utf_chars_fit s p t n named alive there right =
    let o : ℕ = unwrap_or (object_in named) 0 in
    let made = made_so s p o 2 (is_string s p named alive there right) (omega arith) in
    (made.made, (made.class, length-map (spelt (units_of s p o)) pos))

pub within : (a b : Bool) (n : ℕ) → nat_le 4 n ≡ a → nat_le n 9 ≡ b → (a && b) ≡ true → (4 ≤ n) × (n ≤ 9)
within true true n low high is = (grind (arith, nat_tests, low), grind (arith, nat_tests, high))
within true false n low high is = absurd cc
within false b n low high is = absurd cc

pub array_critical_fits : (s : StatedSetup) (p : Parts) (t n : ℕ) (r : Ref) (named : Named) → (is_nothing named || false) ≡ false
    → ((true && is_null named) || false) ≡ false
    → (is_wrong s p PrimitiveArray named || false) ≡ false
    → FitsObject (class_count s) p.heap (pin_through t n (unwrap_or (object_in named) 0) ArrayCritical r (length_of s p (unwrap_or (object_in named) 0)))
array_critical_fits s p t n r named alive there right =
    let o : ℕ = unwrap_or (object_in named) 0 in
    let is = within (nat_le 4 (class_of s p o)) (nat_le (class_of s p o) 9) (class_of s p o) refl refl
    (first_is_of s p PrimitiveArray named false false false alive there right) in
    let made = made_so s p o (class_of s p o) refl (omega (arith, is.0)) in
    (made.made, (subst IsPrimitiveArray (sym made.class) is, refl))

pub string_critical_fits : (s : StatedSetup) (p : Parts) (t n : ℕ) (r : Ref) (named : Named) → (is_nothing named || false) ≡ false
    → ((true && is_null named) || false) ≡ false
    → (is_wrong s p StringObject named || false) ≡ false
    → FitsObject (class_count s) p.heap
    (pin_through t n (unwrap_or (object_in named) 0) StringCritical r (length (units_of s p (unwrap_or (object_in named) 0))))
string_critical_fits s p t n r named alive there right =
    let o : ℕ = unwrap_or (object_in named) 0 in
    let made = made_so s p o 2 (is_string s p named alive there right) (omega arith) in
    (made.made, (made.class, refl))
