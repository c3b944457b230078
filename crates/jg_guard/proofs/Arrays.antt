-- What the store has of the array that an operand names, and that a region is within it.
use Rattle.std.proofs.Common.{ℕ, ℤ, pos, ◌≡◌, ◌+◌, ◌≤◌, Bool, true, false, List, ◌∷◌, Option, Some, None, refl, ap, sym, ◌∙◌, arith}
use Rattle.std.specs.Prelude.{◌==◌, ◌&&◌, ◌||◌, nat_lt, int_lt}
use Rattle.std.specs.Option.{option_map, unwrap_or}
use Rattle.std.proofs.lemmas.Bool.Decides.{nat_tests}
use Rattle.std.proofs.lemmas.Bool.{eqb-true}
use Rattle.jg_words.specs.declared.object.ObjId.{ObjId}
use Rattle.jg_words.specs.declared.object.Primitive.{Primitive}
use Rattle.jg_words.specs.declared.object.Primitive.TheVariants.{Boolean, Byte, Char, Short, Int, Long}
use Rattle.jg_words.specs.declared.reference.Ref.{Ref}
use Rattle.jg_words.specs.declared.value.Thrown.{Thrown}
use Rattle.jg_words.specs.declared.call.Call.TheVariants.{Arrays}
use Rattle.jg_words.specs.declared.call.arrays.ArraysCall.TheVariants.{GetArrayRegion, SetArrayRegion, GetObjectArrayElement, SetObjectArrayElement}
use Rattle.jg_policy.specs.Stated.{StatedSetup}
use Rattle.jg_table_heap.specs.declared.object.Slot.{Slot}
use Rattle.jg_table_heap.specs.declared.object.Slot.TheVariants.{Object as ToObject}
use Rattle.jg_table_heap.specs.Making.{Filled, IsPrimitiveArray}
use Rattle.jg_words.specs.Classes.{array_class}
use Rattle.jg_table_heap.specs.Rows.{Rows}
use Rattle.jg_table_heap.specs.History.{Event, Made, Wrote}
use Rattle.jg_table_heap.specs.Standing.{Stands}
use Rattle.jg_table_heap.specs.Reading.{natural}
use Rattle.jg_rules.specs.declared.answer.Answer.{Answer}
use Rattle.jg_rules.specs.declared.named.Named.{Named}
use Rattle.jg_rules.specs.declared.operand.ObjectType.TheVariants.{ArrayOf, ObjectArray}
use Rattle.jg_rules.specs.Parts.{Parts, TableRows, TablesStand}
use Rattle.jg_rules.specs.Names.{names, object_in, the_object, class_of}
use Rattle.jg_rules.specs.Rules.{is_nothing, is_null, is_wrong}
use Rattle.jg_rules.specs.Answers.{is_outside, or_outside}
use Rattle.jg_rules.specs.Effects.{is_effective, pointer}
use Rattle.jg_rules.proofs.Objects.{IsThere, is_there, first_is_of}
use Rattle.jg_guard.specs.Tables.{IsDue}

other_class : (element : Primitive) → 2 ≤ array_class element
other_class Boolean = omega arith
other_class Byte = omega arith
other_class Char = omega arith
other_class Short = omega arith
other_class Int = omega arith
other_class Long = omega arith

pub is_primitive : (element : Primitive) → IsPrimitiveArray (array_class element)
is_primitive Boolean = (omega arith, omega arith)
is_primitive Byte = (omega arith, omega arith)
is_primitive Char = (omega arith, omega arith)
is_primitive Short = (omega arith, omega arith)
is_primitive Int = (omega arith, omega arith)
is_primitive Long = (omega arith, omega arith)

-- ---- the array

pub primitive_there : (s : StatedSetup) (rows : TableRows) (p : Parts) (element : Primitive) (named : Named) → TablesStand s rows p
    → (is_nothing named || false) ≡ false
    → ((true && is_null named) || false) ≡ false → (is_wrong s p (ArrayOf element) named || false) ≡ false
    → IsThere s rows p (unwrap_or (object_in named) 0) (array_class element)
primitive_there s rows p element named stand alive there right =
    is_there s rows p (unwrap_or (object_in named) 0) (array_class element) stand
    (eqb-true (class_of s p (unwrap_or (object_in named) 0)) (array_class element)
    (first_is_of s p (ArrayOf element) named false false false alive there right)) (other_class element)

pub get_region_due : (s : StatedSetup) (rows : TableRows) (t : ℕ) (element : Primitive) (r : Ref) (start n : ℤ)
    (due : IsDue s rows t (Arrays (GetArrayRegion element r start n)))
    → IsThere s rows due.events (the_object due.events t r) (array_class element)
get_region_due s rows t element r start n due =
    primitive_there s rows due.events element (names due.events t r) due.stand due.unbroken.alive due.unbroken.not_null due.unbroken.right_type

pub set_region_due : (s : StatedSetup) (rows : TableRows) (t : ℕ) (element : Primitive) (r : Ref) (start : ℤ) (values : List ℤ)
    (due : IsDue s rows t (Arrays (SetArrayRegion element r start values)))
    → IsThere s rows due.events (the_object due.events t r) (array_class element)
set_region_due s rows t element r start values due =
    primitive_there s rows due.events element (names due.events t r) due.stand due.unbroken.alive due.unbroken.not_null due.unbroken.right_type

objects_there : (s : StatedSetup) (rows : TableRows) (p : Parts) (named : Named) (a b c : Bool) → TablesStand s rows p → (is_nothing named || a) ≡ false
    → ((true && is_null named) || b) ≡ false → (is_wrong s p ObjectArray named || c) ≡ false
    → IsThere s rows p (unwrap_or (object_in named) 0) 3
objects_there s rows p named a b c stand alive there right =
    is_there s rows p (unwrap_or (object_in named) 0) 3 stand
    (eqb-true (class_of s p (unwrap_or (object_in named) 0)) 3 (first_is_of s p ObjectArray named a b c alive there right)) (omega arith)

pub get_element_due : (s : StatedSetup) (rows : TableRows) (t : ℕ) (r : Ref) (index : ℤ) (due : IsDue s rows t (Arrays (GetObjectArrayElement r index)))
    → IsThere s rows due.events (the_object due.events t r) 3
get_element_due s rows t r index due =
    objects_there s rows due.events (names due.events t r) false false false due.stand due.unbroken.alive due.unbroken.not_null due.unbroken.right_type

pub set_element_due : (s : StatedSetup) (rows : TableRows) (t : ℕ) (r : Ref) (index : ℤ) (value : Ref)
    (due : IsDue s rows t (Arrays (SetObjectArrayElement r index value)))
    → IsThere s rows due.events (the_object due.events t r) 3
set_element_due s rows t r index value due =
    objects_there s rows due.events (names due.events t r) _ _ _ due.stand due.unbroken.alive due.unbroken.not_null due.unbroken.right_type

-- ---- the region

within_if : (a b c : Bool) (start n : ℤ) (whole : ℕ) → nat_lt whole (natural start + natural n) ≡ c → (a || (b || c)) ≡ false
    → natural start + natural n ≤ whole
within_if true b c start n whole is inside = absurd cc
within_if false true c start n whole is inside = absurd cc
within_if false false true start n whole is inside = absurd cc
within_if false false false start n whole is inside = grind (arith, nat_tests, is)

pub within : (start n : ℤ) (whole : ℕ) → is_outside start n whole ≡ false → natural start + natural n ≤ whole
within start n whole inside = within_if (int_lt start (pos 0)) (int_lt n (pos 0)) (nat_lt whole (natural start + natural n)) start n whole refl inside

-- a call that does something of its own didn't throw
pub not_outside : (s : StatedSetup) (p : Parts) (kind : Thrown) (b : Bool) (a : Answer) → is_effective (or_outside s p kind b a).reply.value ≡ true → b ≡ false
not_outside s p kind true a effective = absurd cc
not_outside s p kind false a effective = refl

-- ---- objects

remade : (found : Option ObjId) → option_map (λ (n : ℕ). record { 0 = n }) (option_map (λ (o : ObjId). o.0) found) ≡ found
remade None = refl
remade (Some o) = refl

-- ---- the same events

pub wrote_at : (rows : Rows) (e : List Event) (o o' j j' : ℕ) (v v' : Slot) → o ≡ o' → j ≡ j' → v ≡ v' → Stands rows (Wrote o j v ∷ e)
    → Stands rows (Wrote o' j' v' ∷ e)
wrote_at rows e o o' j j' v v' object place value stands = rw (sym object, sym place, sym value) stands

pub filled_at : (rows : Rows) (e : List Event) (n n' : ℕ) (v v' : Slot) → n ≡ n' → v ≡ v' → Stands rows (Made (Filled 3 n v) ∷ e)
    → Stands rows (Made (Filled 3 n' v') ∷ e)
filled_at rows e n n' v v' size value stands = rw (sym size, sym value) stands

-- what a place is made to hold, as the code has it
pub points : (found : Option ObjId) (named : Option ℕ) → option_map (λ (o : ObjId). o.0) found ≡ named → ToObject found ≡ pointer named
points found named is = ap ToObject (sym (remade found) ∙ ap (option_map (λ (n : ℕ). record { 0 = n })) is)
