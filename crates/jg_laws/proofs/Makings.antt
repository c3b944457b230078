-- Each object that a call makes has the fields that the setup states for its class.
use Rattle.std.proofs.Common.{ℕ, ℤ, ◌≡◌, ◌≤◌, ◌+◌, ◌++◌, Bool, true, false, List, [], ◌∷◌, length, Option, Some, None, refl, ap, ◌∙◌, arith}
use Rattle.std.specs.Prelude.{◌==◌, if◌then◌else◌}
use Rattle.std.specs.List.{AllByRecursion}
use Rattle.std.proofs.lemmas.List.{length-map}
use Rattle.jg_words.specs.declared.object.Primitive.{Primitive}
use Rattle.jg_words.specs.declared.object.Primitive.TheVariants.{Boolean}
use Rattle.jg_words.specs.declared.value.Value.TheVariants.{Throw as Threw}
use Rattle.jg_words.specs.declared.value.Thrown.{Thrown}
use Rattle.jg_words.specs.declared.value.Thrown.TheVariants.{ArrayIndexOutOfBounds}
use Rattle.jg_words.specs.declared.call.Call.{Call}
use Rattle.jg_words.specs.declared.call.Call.TheVariants.{Vm, Objects, Strings, Arrays, Buffers}
use Rattle.jg_words.specs.declared.call.vm.VmCall.TheVariants.{Collect}
use Rattle.jg_words.specs.declared.call.objects.ObjectsCall.TheVariants.{AllocObject, SetField, SetObjectField}
use Rattle.jg_words.specs.declared.call.strings.StringsCall.TheVariants.{NewString, NewStringUTF}
use Rattle.jg_words.specs.declared.call.arrays.ArraysCall.TheVariants.{NewArray, SetArrayRegion, NewObjectArray, SetObjectArrayElement}
use Rattle.jg_words.specs.declared.call.buffers.BuffersCall.TheVariants.{ReleaseArrayElements, BufferWrite}
use Rattle.jg_table_buffers.specs.declared.info.Info.{Info}
use Rattle.jg_table_buffers.specs.History as buffers
use Rattle.jg_policy.specs.Stated.{StatedSetup, class_count}
use Rattle.jg_policy.specs.Classes.{class_at, fields_in}
use Rattle.jg_table_heap.specs.History.{Event, Made, Wrote, Collected, Went, count_of, making_at, region_writes}
use Rattle.jg_table_heap.specs.Making.{Making, Plain, Text, Filled, Opaque, class_in, length_in}
use Rattle.jg_words.specs.Classes.{array_class}
use Rattle.jg_table_heap.specs.Reading.{natural}
use Rattle.jg_rules.specs.Parts.{Parts}
use Rattle.jg_rules.specs.Names.{class_of, length_of, the_object}
use Rattle.jg_rules.specs.Buffers.{buffer_named, writes_back}
use Rattle.jg_rules.specs.Effects.{call_heap, value_heap, first_value, wrote_back, wrote_pinned}
use Rattle.jg_rules.proofs.Objects.{made_so}
use Rattle.jg_laws.specs.Laws.{IsStatedMaking, MakesStated}

pub all_append : {X : Type 0} (P : X → Type 0) (xs ys : List X) → AllByRecursion P xs → AllByRecursion P ys → AllByRecursion P (xs ++ ys)
all_append P [] ys a b = b
all_append P (x ∷ xs) ys a b = (a.0, all_append P xs ys a.1 b)

pub array_class-le : (element : Primitive) → array_class element ≤ 9
array_class-le Boolean = omega arith
array_class-le call = omega arith

region_stated : (s : StatedSetup) (o j : ℕ) (values : List ℤ) → AllByRecursion (MakesStated s) (region_writes o j values)
region_stated s o j [] = tt
region_stated s o j (v ∷ values) = all_append (MakesStated s) (region_writes o (j + 1) values) _ (region_stated s o (j + 1) values) (tt, tt)

found_stated : (s : StatedSetup) (values : List ℤ) (found : Option Info) → AllByRecursion (MakesStated s) (wrote_back values found)
found_stated s values None = tt
found_stated s values (Some info) = region_stated s info.object.0 0 values

back_stated : (s : StatedSetup) (values : List ℤ) (found : Option Info) (b : Bool) → AllByRecursion (MakesStated s) (if b then wrote_back values found else [])
back_stated s values found true = found_stated s values found
back_stated s values found false = tt

pin_if : (b : Bool) (s : StatedSetup) (ev : Event) → MakesStated s ev → AllByRecursion (MakesStated s) (if b then ev ∷ [] else [])
pin_if true s ev is = (is, tt)
pin_if false s ev is = tt

pin_stated : (s : StatedSetup) (index : ℕ) (v : ℤ) (found : Option Info) → AllByRecursion (MakesStated s) (wrote_pinned index v found)
pin_stated s index v None = tt
pin_stated s index v (Some info) = pin_if (buffers.is_critical info.family) s _ tt

pub call_stated : (s : StatedSetup) (p : Parts) (t : ℕ) (call : Call) → AllByRecursion (MakesStated s) (call_heap s p t call)
call_stated s p t (Vm Collect) = (tt, tt)
call_stated s p t (Objects (AllocObject class)) = (length-map (fields_in (class_at s (the_object p t class))) first_value, tt)
call_stated s p t (Objects (SetField primitive r field value)) = (tt, tt)
call_stated s p t (Objects (SetObjectField r field value)) = (tt, tt)
call_stated s p t (Strings (NewString units)) = (tt, tt)
call_stated s p t (Strings (NewStringUTF bytes)) = (tt, tt)
call_stated s p t (Arrays (NewArray element n)) = (array_class-le element, tt)
call_stated s p t (Arrays (SetArrayRegion element r start values)) = region_stated s (the_object p t r) (natural start) values
call_stated s p t (Arrays (NewObjectArray n class fill)) = (omega arith, tt)
call_stated s p t (Arrays (SetObjectArrayElement r index value)) = (tt, tt)
call_stated s p t (Buffers (ReleaseArrayElements element r b mode)) =
    back_stated s (buffers.contents p.buffers b.maker.0 b.n) (buffer_named p b) (writes_back mode)
call_stated s p t (Buffers (BufferWrite b index value)) = pin_stated s (natural index) value (buffer_named p b)
call_stated s p t call = tt

pub thrown_stated : (s : StatedSetup) (kind : Thrown) → AllByRecursion (MakesStated s) (value_heap (Threw kind))
thrown_stated s ArrayIndexOutOfBounds = (refl, tt)
thrown_stated s call = (refl, tt)

stated_if : (b : Bool) (s : StatedSetup) (m n : Making) → IsStatedMaking s m → IsStatedMaking s n → IsStatedMaking s (if b then m else n)
stated_if true s m n a b = a
stated_if false s m n a b = b

-- so each object was made
stated_at : (s : StatedSetup) (k : ℕ) (e : List Event) (o : ℕ) → AllByRecursion (MakesStated s) e → IsStatedMaking s (making_at k e o)
stated_at s k [] o all = refl
stated_at s k (Made m ∷ e) o all = stated_if (o == count_of k e) s m (making_at k e o) all.0 (stated_at s k e o all.1)
stated_at s k (Wrote p j v ∷ e) o all = stated_at s k e o all.1
stated_at s k (Collected roots ∷ e) o all = stated_at s k e o all.1
stated_at s k (Went p ∷ e) o all = stated_at s k e o all.1

-- one of a class of the setup is plain
stated_length : (s : StatedSetup) (m : Making) → IsStatedMaking s m → 10 ≤ class_in m → length_in m ≡ length (fields_in (class_at s (class_in m)))
stated_length s (Plain class fields) is high = is
stated_length s (Text units) is high = absurd (omega (arith, high))
stated_length s (Filled class n item) is high = absurd (omega (arith, is, high))
stated_length s (Opaque class n) is high = absurd is

-- an object of such a class is as long
pub length_stated : (s : StatedSetup) (p : Parts) (o kind : ℕ) → AllByRecursion (MakesStated s) p.heap → class_of s p o ≡ kind → 10 ≤ kind
    → length_of s p o ≡ length (fields_in (class_at s kind))
length_stated s p o kind stated is high =
    let made = made_so s p o kind is (omega (arith, high)) in
    stated_length s (making_at (class_count s) p.heap o) (stated_at s (class_count s) p.heap o stated) (omega (arith, made.class, high))
    ∙ ap (λ (class : ℕ). length (fields_in (class_at s class))) made.class
