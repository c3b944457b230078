-- The rows of the functions that the written machine has.
use Rattle.std.proofs.Common.{◌≡◌, List, [], ◌∷◌, refl}
use Rattle.jg_words.specs.declared.object.Primitive.TheVariants.{Boolean, Char}
use Rattle.jg_words.specs.declared.object.ItemType.TheVariants.{Of}
use Rattle.jg_words.specs.declared.reference.Kind.TheVariants.{Local, Global, Weak}
use Rattle.jg_words.specs.declared.fun.Fun.{Fun}
use Rattle.jg_words.specs.declared.fun.Fun.TheVariants.{Vm, Refs, Frames, Exceptions, Objects, Strings, Arrays, Monitors, Buffers}
use Rattle.jg_words.specs.declared.fun.vm.VmFun.TheVariants.{AttachCurrentThread, DetachCurrentThread, GetEnv, NativeEnter, NativeLeave, LoadLibrary, RegisterNatives, UnregisterNatives, Collect}
use Rattle.jg_words.specs.declared.fun.refs.RefsFun.TheVariants.{NewLocalRef, NewGlobalRef, NewWeakGlobalRef, DeleteLocalRef, DeleteGlobalRef, DeleteWeakGlobalRef, IsSameObject, GetObjectRefType}
use Rattle.jg_words.specs.declared.fun.frames.FramesFun.TheVariants.{PushLocalFrame, PopLocalFrame, EnsureLocalCapacity}
use Rattle.jg_words.specs.declared.fun.exceptions.ExceptionsFun.TheVariants.{Throw, ExceptionOccurred, ExceptionDescribe, ExceptionClear, ExceptionCheck}
use Rattle.jg_words.specs.declared.fun.objects.ObjectsFun.TheVariants.{FindClass, GetObjectClass, IsInstanceOf, AllocObject, GetFieldID, GetField, GetObjectField, SetField, SetObjectField}
use Rattle.jg_words.specs.declared.fun.strings.StringsFun.TheVariants.{NewString, NewStringUTF, GetStringLength, GetStringUTFLength, GetStringRegion}
use Rattle.jg_words.specs.declared.fun.arrays.ArraysFun.TheVariants.{NewArray, GetArrayLength, GetArrayRegion, SetArrayRegion, NewObjectArray, GetObjectArrayElement, SetObjectArrayElement}
use Rattle.jg_words.specs.declared.fun.monitors.MonitorsFun.TheVariants.{MonitorEnter, MonitorExit}
use Rattle.jg_words.specs.declared.fun.buffers.BuffersFun.TheVariants.{GetArrayElements, ReleaseArrayElements, GetStringChars, ReleaseStringChars, GetStringUTFChars, ReleaseStringUTFChars, GetPrimitiveArrayCritical, ReleasePrimitiveArrayCritical, GetStringCritical, ReleaseStringCritical, BufferRead, BufferWrite}
use Rattle.jg_words.specs.Fun.{needs_env}
use Rattle.jg_words.specs.MayCall as passing
use Rattle.jg_table_buffers.specs.declared.family.Family.TheVariants.{Elements, Chars, UtfChars, ArrayCritical, StringCritical}
use Rattle.jg_rows.specs.declared.row.ObjectKind.TheVariants.{AnyObject, ClassObject, PlainClass, ThrowableObject, StringObject, AnyArray, PrimitiveArray, ArrayOf, ObjectArray}
use Rattle.jg_rows.specs.declared.row.ValueType.TheVariants.{Item as ItemOf, Object}
use Rattle.jg_rows.specs.declared.row.Member.TheVariants.{Instance}
use Rattle.jg_rows.specs.declared.row.Takes.{Takes}
use Rattle.jg_rows.specs.declared.row.Takes.TheVariants.{Reference, Nullable, Unjudged, Buffer, Readable, Writable, Number, Capacity, Length, Count, Mode, Place, Item, Value, Field, ClassName, NativeName, Name, Items, Utf8}
use Rattle.jg_rows.specs.declared.row.Effect.{Effect}
use Rattle.jg_rows.specs.declared.row.Effect.TheVariants.{Nothing, Hands, Ends, Lends, GivesBack, Pushes, Pops, Ensures, Raises, Calms, Owns, Frees, Attaches, Detaches, Enters, Leaves, Loads, Links, Unlinks, Collects}
use Rattle.jg_rows.specs.Columns.{Columns}
use Rattle.jg_judge.specs.Broken.{passes_critical, passes_pending}
use Rattle.jg_judge.specs.Written.{row_for}

abbrev pub takes_of : Fun → List Takes
takes_of (Vm AttachCurrentThread) = []
takes_of (Vm DetachCurrentThread) = []
takes_of (Vm GetEnv) = []
takes_of (Vm NativeEnter) = ClassName ∷ NativeName ∷ []
takes_of (Vm NativeLeave) = Nullable ∷ []
takes_of (Vm LoadLibrary) = ClassName ∷ Name ∷ []
takes_of (Vm RegisterNatives) = Reference ClassObject ∷ NativeName ∷ []
takes_of (Vm UnregisterNatives) = Reference ClassObject ∷ []
takes_of (Vm Collect) = []
takes_of (Refs NewLocalRef) = Nullable ∷ []
takes_of (Refs NewGlobalRef) = Nullable ∷ []
takes_of (Refs NewWeakGlobalRef) = Nullable ∷ []
takes_of (Refs DeleteLocalRef) = Nullable ∷ []
takes_of (Refs DeleteGlobalRef) = Nullable ∷ []
takes_of (Refs DeleteWeakGlobalRef) = Nullable ∷ []
takes_of (Refs IsSameObject) = Nullable ∷ Nullable ∷ []
takes_of (Refs GetObjectRefType) = Unjudged ∷ []
takes_of (Frames PushLocalFrame) = Capacity ∷ []
takes_of (Frames PopLocalFrame) = Nullable ∷ []
takes_of (Frames EnsureLocalCapacity) = Capacity ∷ []
takes_of (Exceptions Throw) = Reference ThrowableObject ∷ []
takes_of (Exceptions ExceptionOccurred) = []
takes_of (Exceptions ExceptionDescribe) = []
takes_of (Exceptions ExceptionClear) = []
takes_of (Exceptions ExceptionCheck) = []
takes_of (Objects FindClass) = Name ∷ []
takes_of (Objects GetObjectClass) = Reference AnyObject ∷ []
takes_of (Objects IsInstanceOf) = Nullable ∷ Reference ClassObject ∷ []
takes_of (Objects AllocObject) = Reference PlainClass ∷ []
takes_of (Objects GetFieldID) = Reference ClassObject ∷ Name ∷ Name ∷ []
takes_of (Objects (GetField primitive)) = Reference AnyObject ∷ Field Instance (ItemOf (Of primitive)) ∷ []
takes_of (Objects GetObjectField) = Reference AnyObject ∷ Field Instance Object ∷ []
takes_of (Objects (SetField primitive)) = Reference AnyObject ∷ Field Instance (ItemOf (Of primitive)) ∷ Value (Of primitive) ∷ []
takes_of (Objects SetObjectField) = Reference AnyObject ∷ Field Instance Object ∷ Nullable ∷ []
takes_of (Strings NewString) = Items (Of Char) ∷ []
takes_of (Strings NewStringUTF) = Utf8 ∷ []
takes_of (Strings GetStringLength) = Reference StringObject ∷ []
takes_of (Strings GetStringUTFLength) = Reference StringObject ∷ []
takes_of (Strings GetStringRegion) = Reference StringObject ∷ Number ∷ Count ∷ []
takes_of (Arrays (NewArray primitive)) = Length ∷ []
takes_of (Arrays GetArrayLength) = Reference AnyArray ∷ []
takes_of (Arrays (GetArrayRegion primitive)) = Reference (ArrayOf (Of primitive)) ∷ Number ∷ Count ∷ []
takes_of (Arrays (SetArrayRegion primitive)) = Reference (ArrayOf (Of primitive)) ∷ Number ∷ Items (Of primitive) ∷ []
takes_of (Arrays NewObjectArray) = Length ∷ Reference ClassObject ∷ Nullable ∷ []
takes_of (Arrays GetObjectArrayElement) = Reference ObjectArray ∷ Number ∷ []
takes_of (Arrays SetObjectArrayElement) = Reference ObjectArray ∷ Number ∷ Nullable ∷ []
takes_of (Monitors MonitorEnter) = Reference AnyObject ∷ []
takes_of (Monitors MonitorExit) = Reference AnyObject ∷ []
takes_of (Buffers (GetArrayElements primitive)) = Reference (ArrayOf (Of primitive)) ∷ []
takes_of (Buffers (ReleaseArrayElements primitive)) = Reference (ArrayOf (Of primitive)) ∷ Buffer (Elements (Of primitive)) ∷ Mode ∷ []
takes_of (Buffers GetStringChars) = Reference StringObject ∷ []
takes_of (Buffers ReleaseStringChars) = Reference StringObject ∷ Buffer Chars ∷ []
takes_of (Buffers GetStringUTFChars) = Reference StringObject ∷ []
takes_of (Buffers ReleaseStringUTFChars) = Reference StringObject ∷ Buffer UtfChars ∷ []
takes_of (Buffers GetPrimitiveArrayCritical) = Reference PrimitiveArray ∷ []
takes_of (Buffers ReleasePrimitiveArrayCritical) = Reference PrimitiveArray ∷ Buffer ArrayCritical ∷ Mode ∷ []
takes_of (Buffers GetStringCritical) = Reference StringObject ∷ []
takes_of (Buffers ReleaseStringCritical) = Reference StringObject ∷ Buffer StringCritical ∷ []
takes_of (Buffers BufferRead) = Readable ∷ Place ∷ []
takes_of (Buffers BufferWrite) = Writable ∷ Place ∷ Item ∷ []

abbrev pub effect_of : Fun → Effect
effect_of (Vm AttachCurrentThread) = Attaches
effect_of (Vm DetachCurrentThread) = Detaches
effect_of (Vm NativeEnter) = Enters
effect_of (Vm NativeLeave) = Leaves
effect_of (Vm LoadLibrary) = Loads
effect_of (Vm RegisterNatives) = Links
effect_of (Vm UnregisterNatives) = Unlinks
effect_of (Vm Collect) = Collects
effect_of (Refs NewLocalRef) = Hands Local
effect_of (Refs NewGlobalRef) = Hands Global
effect_of (Refs NewWeakGlobalRef) = Hands Weak
effect_of (Refs DeleteLocalRef) = Ends Local
effect_of (Refs DeleteGlobalRef) = Ends Global
effect_of (Refs DeleteWeakGlobalRef) = Ends Weak
effect_of (Frames PushLocalFrame) = Pushes
effect_of (Frames PopLocalFrame) = Pops
effect_of (Frames EnsureLocalCapacity) = Ensures
effect_of (Exceptions Throw) = Raises
effect_of (Exceptions ExceptionOccurred) = Hands Local
effect_of (Exceptions ExceptionDescribe) = Calms
effect_of (Exceptions ExceptionClear) = Calms
effect_of (Objects FindClass) = Hands Local
effect_of (Objects GetObjectClass) = Hands Local
effect_of (Objects AllocObject) = Hands Local
effect_of (Objects GetObjectField) = Hands Local
effect_of (Strings NewString) = Hands Local
effect_of (Strings NewStringUTF) = Hands Local
effect_of (Arrays (NewArray primitive)) = Hands Local
effect_of (Arrays NewObjectArray) = Hands Local
effect_of (Arrays GetObjectArrayElement) = Hands Local
effect_of (Monitors MonitorEnter) = Owns
effect_of (Monitors MonitorExit) = Frees
effect_of (Buffers (GetArrayElements primitive)) = Lends (Elements (Of primitive))
effect_of (Buffers (ReleaseArrayElements primitive)) = GivesBack
effect_of (Buffers GetStringChars) = Lends Chars
effect_of (Buffers ReleaseStringChars) = GivesBack
effect_of (Buffers GetStringUTFChars) = Lends UtfChars
effect_of (Buffers ReleaseStringUTFChars) = GivesBack
effect_of (Buffers GetPrimitiveArrayCritical) = Lends ArrayCritical
effect_of (Buffers ReleasePrimitiveArrayCritical) = GivesBack
effect_of (Buffers GetStringCritical) = Lends StringCritical
effect_of (Buffers ReleaseStringCritical) = GivesBack
effect_of fun = Nothing

-- what the rules read of the function's row
pub record IsRow (fun : Fun) (row : Columns) : Type 0 where
  pub takes : row.takes ≡ takes_of fun
  pub env : row.takes_env ≡ needs_env fun
  pub critical : passes_critical row.passes ≡ passing.passes_critical fun
  pub pending : passes_pending row.passes ≡ passing.passes_pending fun
  pub effect : row.effect ≡ effect_of fun

pub row_is : (fun : Fun) → IsRow fun (row_for fun)
row_is (Vm AttachCurrentThread) = record { takes = refl; env = refl; critical = refl; pending = refl; effect = refl }
row_is (Refs NewLocalRef) = record { takes = refl; env = refl; critical = refl; pending = refl; effect = refl }
row_is (Frames PushLocalFrame) = record { takes = refl; env = refl; critical = refl; pending = refl; effect = refl }
row_is (Exceptions Throw) = record { takes = refl; env = refl; critical = refl; pending = refl; effect = refl }
row_is (Objects FindClass) = record { takes = refl; env = refl; critical = refl; pending = refl; effect = refl }
row_is (Objects (GetField Boolean)) = record { takes = refl; env = refl; critical = refl; pending = refl; effect = refl }
row_is (Objects (SetField Boolean)) = record { takes = refl; env = refl; critical = refl; pending = refl; effect = refl }
row_is (Strings NewString) = record { takes = refl; env = refl; critical = refl; pending = refl; effect = refl }
row_is (Arrays (NewArray Boolean)) = record { takes = refl; env = refl; critical = refl; pending = refl; effect = refl }
row_is (Arrays (GetArrayRegion Boolean)) = record { takes = refl; env = refl; critical = refl; pending = refl; effect = refl }
row_is (Arrays (SetArrayRegion Boolean)) = record { takes = refl; env = refl; critical = refl; pending = refl; effect = refl }
row_is (Monitors MonitorEnter) = record { takes = refl; env = refl; critical = refl; pending = refl; effect = refl }
row_is (Buffers (GetArrayElements Boolean)) = record { takes = refl; env = refl; critical = refl; pending = refl; effect = refl }
row_is (Buffers (ReleaseArrayElements Boolean)) = record { takes = refl; env = refl; critical = refl; pending = refl; effect = refl }
row_is fun = record { takes = refl; env = refl; critical = refl; pending = refl; effect = refl }
