-- The tests that derives write for calls and answers decide equality.
use Rattle.std.proofs.Common.{◌≡◌, ℕ, Bool, true, false, List, refl, arith, Decides}
use Rattle.std.specs.Prelude.{ℤ, nat_eq, ◌&&◌}
use Rattle.std.specs.Cmp.Lexicographic.{pointwise}
use Rattle.std.specs.Ordering.{int_eq}
use Rattle.std.proofs.lemmas.Bool.Decides.{Decides-eqb, Decides-int_eq}
use Rattle.std.proofs.lemmas.Slice.Eq.{slice_eq-Decides}
use Rattle.jg_words.specs.declared.reference.Ref.{Ref}
use Rattle.jg_words.specs.contracts.reference.RefPartialEq.TheImpl.{ghosts as ref_tests}
use Rattle.jg_words.specs.declared.object.Primitive.{Primitive}
use Rattle.jg_words.specs.contracts.object.PrimitivePartialEq.TheImpl.{ghosts as primitive_tests}
use Rattle.jg_words.specs.declared.object.FieldId.{FieldId}
use Rattle.jg_words.specs.contracts.object.FieldIdPartialEq.TheImpl.{ghosts as field_tests}
use Rattle.jg_words.specs.declared.buffer.BufId.{BufId}
use Rattle.jg_words.specs.contracts.buffer.BufIdPartialEq.TheImpl.{ghosts as buffer_tests}
use Rattle.jg_words.specs.declared.value.Value.{Value}
use Rattle.jg_words.specs.contracts.value.ValuePartialEq.TheImpl.{ghosts as value_tests}
use Rattle.jg_words.specs.declared.call.vm.VmCall.{VmCall}
use Rattle.jg_words.specs.contracts.call.vm.VmCallPartialEq.TheImpl.{ghosts as vm}
use Rattle.jg_words.specs.declared.call.vm.VmCall.TheVariants.{NativeEnter, NativeLeave, LoadLibrary, RegisterNatives, UnregisterNatives}
use Rattle.jg_words.specs.declared.call.refs.RefsCall.{RefsCall}
use Rattle.jg_words.specs.contracts.call.refs.RefsCallPartialEq.TheImpl.{ghosts as refs}
use Rattle.jg_words.specs.declared.call.refs.RefsCall.TheVariants.{NewLocalRef, NewGlobalRef, NewWeakGlobalRef, DeleteLocalRef, DeleteGlobalRef, DeleteWeakGlobalRef, IsSameObject, GetObjectRefType}
use Rattle.jg_words.specs.declared.call.frames.FramesCall.{FramesCall}
use Rattle.jg_words.specs.contracts.call.frames.FramesCallPartialEq.TheImpl.{ghosts as frames}
use Rattle.jg_words.specs.declared.call.exceptions.ExceptionsCall.{ExceptionsCall}
use Rattle.jg_words.specs.contracts.call.exceptions.ExceptionsCallPartialEq.TheImpl.{ghosts as exceptions}
use Rattle.jg_words.specs.declared.call.objects.ObjectsCall.{ObjectsCall}
use Rattle.jg_words.specs.contracts.call.objects.ObjectsCallPartialEq.TheImpl.{ghosts as objects}
use Rattle.jg_words.specs.declared.call.objects.ObjectsCall.TheVariants.{FindClass, GetObjectClass, IsInstanceOf, AllocObject, GetFieldID, GetField, GetObjectField, SetField, SetObjectField}
use Rattle.jg_words.specs.declared.call.strings.StringsCall.{StringsCall}
use Rattle.jg_words.specs.contracts.call.strings.StringsCallPartialEq.TheImpl.{ghosts as strings}
use Rattle.jg_words.specs.declared.call.strings.StringsCall.TheVariants.{NewString, NewStringUTF, GetStringLength, GetStringUTFLength, GetStringRegion}
use Rattle.jg_words.specs.declared.call.arrays.ArraysCall.{ArraysCall}
use Rattle.jg_words.specs.contracts.call.arrays.ArraysCallPartialEq.TheImpl.{ghosts as arrays}
use Rattle.jg_words.specs.declared.call.arrays.ArraysCall.TheVariants.{NewArray, GetArrayLength, GetArrayRegion, SetArrayRegion, NewObjectArray, GetObjectArrayElement, SetObjectArrayElement}
use Rattle.jg_words.specs.declared.call.monitors.MonitorsCall.{MonitorsCall}
use Rattle.jg_words.specs.contracts.call.monitors.MonitorsCallPartialEq.TheImpl.{ghosts as monitors}
use Rattle.jg_words.specs.declared.call.buffers.BuffersCall.{BuffersCall}
use Rattle.jg_words.specs.contracts.call.buffers.BuffersCallPartialEq.TheImpl.{ghosts as buffers}
use Rattle.jg_words.specs.declared.call.buffers.BuffersCall.TheVariants.{GetArrayElements, ReleaseArrayElements, GetStringChars, ReleaseStringChars, GetStringUTFChars, ReleaseStringUTFChars, GetPrimitiveArrayCritical, ReleasePrimitiveArrayCritical, GetStringCritical, ReleaseStringCritical, BufferRead, BufferWrite}
use Rattle.jg_words.specs.declared.call.Call.{Call}
use Rattle.jg_words.specs.declared.call.Call.TheVariants.{Vm, Refs, Frames, Exceptions, Objects, Strings, Arrays, Monitors, Buffers}
use Rattle.jg_words.specs.contracts.call.CallPartialEq.TheImpl.{ghosts as calls}

three : (s t u : Bool) {P Q R W : Type 0} → Decides s P → Decides t Q → Decides u R → (P → Q → R → W) → (W → P) → (W → Q) → (W → R) → Decides (s && (t && u)) W
three true true true p q r all one two last = (λ _. all (p.0 refl) (q.0 refl) (r.0 refl), λ _. refl)
three true true false p q r all one two last = (λ e. absurd (cc e), λ w. r.1 (last w))
three true false u p q r all one two last = (λ e. absurd (cc e), λ w. q.1 (two w))
three false t u p q r all one two last = (λ e. absurd (cc e), λ w. p.1 (one w))

four : (s t u v : Bool) {P Q R S W : Type 0} → Decides s P → Decides t Q → Decides u R → Decides v S → (P → Q → R → S → W) → (W → P) → (W → Q) → (W → R)
    → (W → S) → Decides (s && (t && (u && v))) W
four true t u v p q r s all one two third last = three t u v q r s (λ y z x. all (p.0 refl) y z x) two third last
four false t u v p q r s all one two third last = (λ e. absurd (cc e), λ w. p.1 (one w))

items_same : (xs ys : List ℤ) → Decides (pointwise int_eq xs ys) (xs ≡ ys)
items_same xs ys = slice_eq-Decides Decides-int_eq xs ys (pointwise int_eq xs ys) refl

name_same : (xs ys : List ℕ) → Decides (pointwise nat_eq xs ys) (xs ≡ ys)
name_same xs ys = slice_eq-Decides Decides-eqb xs ys (pointwise nat_eq xs ys) refl

ref_same : (x y : Ref) → Decides (ref_tests.eq x y) (x ≡ y)
ref_same x y = grind arith

primitive_same : (x y : Primitive) → Decides (primitive_tests.eq x y) (x ≡ y)
primitive_same x y = grind arith

field_same : (x y : FieldId) → Decides (field_tests.eq x y) (x ≡ y)
field_same x y = grind arith

buffer_same : (x y : BufId) → Decides (buffer_tests.eq x y) (x ≡ y)
buffer_same x y = grind arith

vm_same : (x y : VmCall) → Decides (vm.eq x y) (x ≡ y)
vm_same (NativeEnter a b c) (NativeEnter p q r) = grind (arith, name_same a p, name_same b q, name_same c r)
vm_same (NativeLeave a) (NativeLeave p) = grind (arith, ref_same a p)
vm_same (LoadLibrary a b) (LoadLibrary p q) = grind (arith, name_same a p, name_same b q)
vm_same (RegisterNatives a b c) (RegisterNatives p q r) = grind (arith, ref_same a p, name_same b q, name_same c r)
vm_same (UnregisterNatives a) (UnregisterNatives p) = grind (arith, ref_same a p)
vm_same x y = grind arith

refs_same : (x y : RefsCall) → Decides (refs.eq x y) (x ≡ y)
refs_same (NewLocalRef a) (NewLocalRef p) = grind (arith, ref_same a p)
refs_same (NewGlobalRef a) (NewGlobalRef p) = grind (arith, ref_same a p)
refs_same (NewWeakGlobalRef a) (NewWeakGlobalRef p) = grind (arith, ref_same a p)
refs_same (DeleteLocalRef a) (DeleteLocalRef p) = grind (arith, ref_same a p)
refs_same (DeleteGlobalRef a) (DeleteGlobalRef p) = grind (arith, ref_same a p)
refs_same (DeleteWeakGlobalRef a) (DeleteWeakGlobalRef p) = grind (arith, ref_same a p)
refs_same (IsSameObject a b) (IsSameObject p q) = grind (arith, ref_same a p, ref_same b q)
refs_same (GetObjectRefType a) (GetObjectRefType p) = grind (arith, ref_same a p)
refs_same x y = grind arith

frames_same : (x y : FramesCall) → Decides (frames.eq x y) (x ≡ y)
frames_same x y = grind arith

exceptions_same : (x y : ExceptionsCall) → Decides (exceptions.eq x y) (x ≡ y)
exceptions_same x y = grind arith

objects_same : (x y : ObjectsCall) → Decides (objects.eq x y) (x ≡ y)
objects_same (FindClass a) (FindClass p) = grind (arith, name_same a p)
objects_same (GetObjectClass a) (GetObjectClass p) = grind (arith, ref_same a p)
objects_same (IsInstanceOf a b) (IsInstanceOf p q) = grind (arith, ref_same a p, ref_same b q)
objects_same (AllocObject a) (AllocObject p) = grind (arith, ref_same a p)
objects_same (GetFieldID a b c) (GetFieldID p q r) = three _ _ _ (ref_same a p) (name_same b q) (name_same c r) (λ e f g. cc) (λ e. cc) (λ e. cc) (λ e. cc)
objects_same (GetField a b c) (GetField p q r) = three _ _ _ (primitive_same a p) (ref_same b q) (field_same c r) (λ e f g. cc) (λ e. cc) (λ e. cc) (λ e. cc)
objects_same (GetObjectField a b) (GetObjectField p q) = grind (arith, ref_same a p, field_same b q)
objects_same (SetField a b c d) (SetField p q r s) =
    four _ _ _ _ (primitive_same a p) (ref_same b q) (field_same c r) (Decides-int_eq d s) (λ e f g h. cc) (λ e. cc) (λ e. cc) (λ e. cc) (λ e. cc)
objects_same (SetObjectField a b c) (SetObjectField p q r) =
    three _ _ _ (ref_same a p) (field_same b q) (ref_same c r) (λ e f g. cc) (λ e. cc) (λ e. cc) (λ e. cc)
objects_same x y = grind arith

strings_same : (x y : StringsCall) → Decides (strings.eq x y) (x ≡ y)
strings_same (NewString a) (NewString p) = grind (arith, items_same a p)
strings_same (NewStringUTF a) (NewStringUTF p) = grind (arith, items_same a p)
strings_same (GetStringLength a) (GetStringLength p) = grind (arith, ref_same a p)
strings_same (GetStringUTFLength a) (GetStringUTFLength p) = grind (arith, ref_same a p)
strings_same (GetStringRegion a b c) (GetStringRegion p q r) = grind (arith, ref_same a p)
strings_same x y = grind arith

arrays_same : (x y : ArraysCall) → Decides (arrays.eq x y) (x ≡ y)
arrays_same (NewArray a b) (NewArray p q) = grind (arith, primitive_same a p)
arrays_same (GetArrayLength a) (GetArrayLength p) = grind (arith, ref_same a p)
arrays_same (GetArrayRegion a b c d) (GetArrayRegion p q r s) =
    four _ _ _ _ (primitive_same a p) (ref_same b q) (Decides-int_eq c r) (Decides-int_eq d s) (λ e f g h. cc) (λ e. cc) (λ e. cc) (λ e. cc) (λ e. cc)
arrays_same (SetArrayRegion a b c d) (SetArrayRegion p q r s) =
    four _ _ _ _ (primitive_same a p) (ref_same b q) (Decides-int_eq c r) (items_same d s) (λ e f g h. cc) (λ e. cc) (λ e. cc) (λ e. cc) (λ e. cc)
arrays_same (NewObjectArray a b c) (NewObjectArray p q r) =
    three _ _ _ (Decides-int_eq a p) (ref_same b q) (ref_same c r) (λ e f g. cc) (λ e. cc) (λ e. cc) (λ e. cc)
arrays_same (GetObjectArrayElement a b) (GetObjectArrayElement p q) = grind (arith, ref_same a p)
arrays_same (SetObjectArrayElement a b c) (SetObjectArrayElement p q r) =
    three _ _ _ (ref_same a p) (Decides-int_eq b q) (ref_same c r) (λ e f g. cc) (λ e. cc) (λ e. cc) (λ e. cc)
arrays_same x y = grind arith

monitors_same : (x y : MonitorsCall) → Decides (monitors.eq x y) (x ≡ y)
monitors_same x y = grind arith

buffers_same : (x y : BuffersCall) → Decides (buffers.eq x y) (x ≡ y)
buffers_same (GetArrayElements a b) (GetArrayElements p q) = grind (arith, primitive_same a p, ref_same b q)
buffers_same (ReleaseArrayElements a b c d) (ReleaseArrayElements p q r s) =
    four _ _ _ _ (primitive_same a p) (ref_same b q) (buffer_same c r) (Decides-int_eq d s) (λ e f g h. cc) (λ e. cc) (λ e. cc) (λ e. cc) (λ e. cc)
buffers_same (GetStringChars a) (GetStringChars p) = grind (arith, ref_same a p)
buffers_same (ReleaseStringChars a b) (ReleaseStringChars p q) = grind (arith, ref_same a p, buffer_same b q)
buffers_same (GetStringUTFChars a) (GetStringUTFChars p) = grind (arith, ref_same a p)
buffers_same (ReleaseStringUTFChars a b) (ReleaseStringUTFChars p q) = grind (arith, ref_same a p, buffer_same b q)
buffers_same (GetPrimitiveArrayCritical a) (GetPrimitiveArrayCritical p) = grind (arith, ref_same a p)
buffers_same (ReleasePrimitiveArrayCritical a b c) (ReleasePrimitiveArrayCritical p q r) =
    three _ _ _ (ref_same a p) (buffer_same b q) (Decides-int_eq c r) (λ e f g. cc) (λ e. cc) (λ e. cc) (λ e. cc)
buffers_same (GetStringCritical a) (GetStringCritical p) = grind (arith, ref_same a p)
buffers_same (ReleaseStringCritical a b) (ReleaseStringCritical p q) = grind (arith, ref_same a p, buffer_same b q)
buffers_same (BufferRead a b) (BufferRead p q) = grind (arith, buffer_same a p)
buffers_same (BufferWrite a b c) (BufferWrite p q r) =
    three _ _ _ (buffer_same a p) (Decides-int_eq b q) (Decides-int_eq c r) (λ e f g. cc) (λ e. cc) (λ e. cc) (λ e. cc)
buffers_same x y = grind arith

pub call_same : (x y : Call) → Decides (calls.eq x y) (x ≡ y)
call_same (Vm a) (Vm b) = grind (arith, vm_same a b)
call_same (Refs a) (Refs b) = grind (arith, refs_same a b)
call_same (Frames a) (Frames b) = grind (arith, frames_same a b)
call_same (Exceptions a) (Exceptions b) = grind (arith, exceptions_same a b)
call_same (Objects a) (Objects b) = grind (arith, objects_same a b)
call_same (Strings a) (Strings b) = grind (arith, strings_same a b)
call_same (Arrays a) (Arrays b) = grind (arith, arrays_same a b)
call_same (Monitors a) (Monitors b) = grind (arith, monitors_same a b)
call_same (Buffers a) (Buffers b) = grind (arith, buffers_same a b)
call_same x y = grind arith

pub value_same : (x y : Value) → Decides (value_tests.eq x y) (x ≡ y)
value_same x y = grind (arith, items_same)

pub ruleset equal_words = (call_same, value_same)
