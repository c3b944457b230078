-- What a call implies that returned, by what the machine says of it: one fact, or nothing. Warnings (JEP 472) are told
-- by themselves.
use Rattle.std.specs.Prelude.{ℕ, ℤ, Bool, true, false, if◌then◌else◌, List, ◌∷◌, Option, Some, None}
use Rattle.std.specs.Option.{option_map}
use Rattle.jg_words.specs.declared.thread.Tid.{Tid}
use Rattle.jg_words.specs.declared.object.ObjId.{ObjId}
use Rattle.jg_words.specs.declared.reference.Kind.{Kind}
use Rattle.jg_words.specs.declared.reference.Kind.TheVariants.{Local, Global, Weak}
use Rattle.jg_words.specs.declared.reference.Ref.{Ref}
use Rattle.jg_words.specs.declared.reference.Ref.TheVariants.{Null, To}
use Rattle.jg_words.specs.declared.buffer.BufId.{BufId}
use Rattle.jg_words.specs.declared.call.Call.{Call}
use Rattle.jg_words.specs.declared.call.Call.TheVariants.{Vm, Refs, Frames, Exceptions, Objects, Strings, Arrays, Monitors, Buffers}
use Rattle.jg_words.specs.declared.call.vm.VmCall.{VmCall}
use Rattle.jg_words.specs.declared.call.vm.VmCall.TheVariants.{AttachCurrentThread, DetachCurrentThread, GetEnv, NativeEnter, NativeLeave, LoadLibrary, RegisterNatives, UnregisterNatives, Collect}
use Rattle.jg_words.specs.declared.call.refs.RefsCall.{RefsCall}
use Rattle.jg_words.specs.declared.call.refs.RefsCall.TheVariants.{NewLocalRef, NewGlobalRef, NewWeakGlobalRef, DeleteLocalRef, DeleteGlobalRef, DeleteWeakGlobalRef, IsSameObject, GetObjectRefType}
use Rattle.jg_words.specs.declared.call.frames.FramesCall.{FramesCall}
use Rattle.jg_words.specs.declared.call.frames.FramesCall.TheVariants.{PushLocalFrame, PopLocalFrame, EnsureLocalCapacity}
use Rattle.jg_words.specs.declared.call.exceptions.ExceptionsCall.{ExceptionsCall}
use Rattle.jg_words.specs.declared.call.exceptions.ExceptionsCall.TheVariants.{Throw, ExceptionOccurred, ExceptionDescribe, ExceptionClear, ExceptionCheck}
use Rattle.jg_words.specs.declared.call.objects.ObjectsCall.{ObjectsCall}
use Rattle.jg_words.specs.declared.call.objects.ObjectsCall.TheVariants.{FindClass, GetObjectClass, IsInstanceOf, AllocObject, GetFieldID, GetField, GetObjectField, SetField, SetObjectField}
use Rattle.jg_words.specs.declared.call.strings.StringsCall.{StringsCall}
use Rattle.jg_words.specs.declared.call.strings.StringsCall.TheVariants.{NewString, NewStringUTF, GetStringLength, GetStringUTFLength, GetStringRegion}
use Rattle.jg_words.specs.declared.call.arrays.ArraysCall.{ArraysCall}
use Rattle.jg_words.specs.declared.call.arrays.ArraysCall.TheVariants.{NewArray, GetArrayLength, GetArrayRegion, SetArrayRegion, NewObjectArray, GetObjectArrayElement, SetObjectArrayElement}
use Rattle.jg_words.specs.declared.call.monitors.MonitorsCall.{MonitorsCall}
use Rattle.jg_words.specs.declared.call.monitors.MonitorsCall.TheVariants.{MonitorEnter, MonitorExit}
use Rattle.jg_words.specs.declared.call.buffers.BuffersCall.{BuffersCall}
use Rattle.jg_words.specs.declared.call.buffers.BuffersCall.TheVariants.{GetArrayElements, ReleaseArrayElements, GetStringChars, ReleaseStringChars, GetStringUTFChars, ReleaseStringUTFChars, GetPrimitiveArrayCritical, ReleasePrimitiveArrayCritical, GetStringCritical, ReleaseStringCritical, BufferRead, BufferWrite}
use Rattle.jg_words.specs.declared.object.ItemType.TheVariants.{Of}
use Rattle.jg_policy.specs.Stated.{StatedSetup}
use Rattle.jg_table_threads.specs.History.{sessions, acts_of, Attach}
use Rattle.jg_table_buffers.specs.declared.family.Family.{Family}
use Rattle.jg_table_buffers.specs.declared.family.Family.TheVariants.{Elements, Chars, UtfChars, ArrayCritical, StringCritical}
use Rattle.jg_table_heap.specs.Reading.{natural}
use Rattle.jg_rules.specs.Buffers.{is_commit}
use Rattle.jg_rules.specs.Parts.{Parts}
use Rattle.jg_rules.specs.Names.{object_count, object_named, class_meant, native_meant, next_ref, next_buffer}
use Rattle.jg_core.specs.declared.fact.Fact.{Fact}
use Rattle.jg_core.specs.declared.fact.Fact.TheVariants.{Begin, End, Enter, Leave, Push, Pop, Ensure, Raise, Calm, Hand, Lost, Lend, Back, Own, Free, Meet, Link, Unlink}
use Rattle.jg_core.specs.declared.says.Says.{Says}
use Rattle.jg_core.specs.declared.says.Says.TheVariants.{Done, Null as SaysNull, Object, Items, Threw}
use Rattle.jg_core.specs.declared.says.Given.{Given}
use Rattle.jg_core.specs.declared.says.Given.TheVariants.{Nothing, Reference, Buffer, Environment, Object as TheObject}
use Rattle.jg_core.specs.Facts.{is_attached, can_be, makes}

-- ---- what is said: None where no machine says so of such a call; else the fact that it implies, if it implies one

-- it was done, and implies that; or an exception was thrown, and is pending
abbrev pub doing : Tid → Option (Option Fact) → Says → Option (Option Fact)
doing t fact Done = fact
doing t fact SaysNull = None
doing t fact (Object o) = None
doing t fact (Items n) = None
doing t fact (Threw o) = Some (Some (Raise t o))

-- it was done: this throws nothing
abbrev pub done_only : Option Fact → Says → Option (Option Fact)
done_only fact Done = Some fact
done_only fact SaysNull = None
done_only fact (Object o) = None
done_only fact (Items n) = None
done_only fact (Threw o) = None

-- a reference of the kind was handed out, or null
abbrev pub handing : Tid → Kind → Says → Option (Option Fact)
handing t kind Done = None
handing t kind SaysNull = Some None
handing t kind (Object o) = Some (Some (Hand t kind o))
handing t kind (Items n) = None
handing t kind (Threw o) = Some (Some (Raise t o))

-- the fact of the object that an operand names; if it names none, this can't have been done
abbrev pub of_object : (ObjId → Fact) → Option ℕ → Option (Option Fact)
of_object fact None = None
of_object fact (Some o) = Some (Some (fact (record { 0 = o })))

-- a buffer of the object's items was lent, or null was answered
abbrev pub lending : Tid → Family → Option ℕ → Ref → Says → Option (Option Fact)
lending t family object via Done = None
lending t family object via SaysNull = Some None
lending t family object via (Object x) = None
lending t family object via (Items n) = of_object (λ o. Lend t family o via n) object
lending t family object via (Threw x) = Some (Some (Raise t x))

-- what the frame below was handed a reference to, if to anything
abbrev pub kept_by : Says → Option (Option ObjId)
kept_by Done = Some None
kept_by SaysNull = Some None
kept_by (Object o) = Some (Some o)
kept_by (Items n) = None
kept_by (Threw o) = None

-- ---- what calls imply

-- an attachment of a thread that has a session implies nothing, and a detachment of one that has none
abbrev pub attaching : Bool → Tid → Option Fact
attaching true t = None
attaching false t = Some (Begin t)

abbrev pub detaching : Bool → Tid → Option Fact
detaching true t = Some (End t)
detaching false t = None

-- only what the setup states is linked
abbrev pub linking : Option ℕ → Option ℕ → Option Fact
linking None native = None
linking (Some class) None = None
linking (Some class) (Some native) = Some (Link class native)

-- the class's native method of that name and type
abbrev pub registering : StatedSetup → Option ℕ → List ℕ → List ℕ → Option Fact
registering s class method signature = linking class (native_meant s class method signature)

abbrev pub unlinking : Option ℕ → Option Fact
unlinking None = None
unlinking (Some class) = Some (Unlink class)

-- nobody calls a Collect: which objects went is told by itself
abbrev pub vm_implied : StatedSetup → Parts → Tid → VmCall → Says → Option (Option Fact)
vm_implied s p t AttachCurrentThread says = done_only (attaching (is_attached p t.0) t) says
vm_implied s p t DetachCurrentThread says = done_only (detaching (is_attached p t.0) t) says
vm_implied s p t GetEnv says = done_only None says
vm_implied s p t (NativeEnter class method signature) says = done_only (Some (Enter t)) says
vm_implied s p t (NativeLeave r) says = option_map (λ kept. Some (Leave t kept)) (kept_by says)
vm_implied s p t (LoadLibrary class library) says = doing t (Some None) says
vm_implied s p t (RegisterNatives class method signature) says =
    doing t (Some (registering s (class_meant s p t.0 class) method signature)) says
vm_implied s p t (UnregisterNatives class) says = doing t (Some (unlinking (class_meant s p t.0 class))) says
vm_implied s p t Collect says = None

-- a deletion of null ends nothing
abbrev pub losing : Ref → Option Fact
losing Null = None
losing (To kind maker n) = Some (Lost (To kind maker n))

abbrev pub refs_implied : Tid → RefsCall → Says → Option (Option Fact)
refs_implied t (NewLocalRef r) says = handing t Local says
refs_implied t (NewGlobalRef r) says = handing t Global says
refs_implied t (NewWeakGlobalRef r) says = handing t Weak says
refs_implied t (DeleteLocalRef r) says = doing t (Some (losing r)) says
refs_implied t (DeleteGlobalRef r) says = doing t (Some (losing r)) says
refs_implied t (DeleteWeakGlobalRef r) says = doing t (Some (losing r)) says
refs_implied t (IsSameObject r u) says = doing t (Some None) says
refs_implied t (GetObjectRefType r) says = doing t (Some None) says

abbrev pub frames_implied : Tid → FramesCall → Says → Option (Option Fact)
frames_implied t (PushLocalFrame capacity) says = doing t (Some (Some (Push t (natural capacity)))) says
frames_implied t (PopLocalFrame r) says = option_map (λ kept. Some (Pop t kept)) (kept_by says)
frames_implied t (EnsureLocalCapacity capacity) says = doing t (Some (Some (Ensure t (natural capacity)))) says

abbrev pub exceptions_implied : Parts → Tid → ExceptionsCall → Says → Option (Option Fact)
exceptions_implied p t (Throw r) says = doing t (of_object (λ o. Raise t o) (object_named p t.0 r)) says
exceptions_implied p t ExceptionOccurred says = handing t Local says
exceptions_implied p t ExceptionDescribe says = doing t (Some (Some (Calm t))) says
exceptions_implied p t ExceptionClear says = doing t (Some (Some (Calm t))) says
exceptions_implied p t ExceptionCheck says = doing t (Some None) says

abbrev pub objects_implied : Tid → ObjectsCall → Says → Option (Option Fact)
objects_implied t (FindClass name) says = handing t Local says
objects_implied t (GetObjectClass r) says = handing t Local says
objects_implied t (IsInstanceOf r class) says = doing t (Some None) says
objects_implied t (AllocObject class) says = handing t Local says
objects_implied t (GetFieldID class field signature) says = doing t (Some None) says
objects_implied t (GetField primitive r field) says = doing t (Some None) says
objects_implied t (GetObjectField r field) says = handing t Local says
objects_implied t (SetField primitive r field value) says = doing t (Some None) says
objects_implied t (SetObjectField r field value) says = doing t (Some None) says

abbrev pub strings_implied : Tid → StringsCall → Says → Option (Option Fact)
strings_implied t (NewString units) says = handing t Local says
strings_implied t (NewStringUTF bytes) says = handing t Local says
strings_implied t (GetStringLength r) says = doing t (Some None) says
strings_implied t (GetStringUTFLength r) says = doing t (Some None) says
strings_implied t (GetStringRegion r start n) says = doing t (Some None) says

abbrev pub arrays_implied : Tid → ArraysCall → Says → Option (Option Fact)
arrays_implied t (NewArray element n) says = handing t Local says
arrays_implied t (GetArrayLength r) says = doing t (Some None) says
arrays_implied t (GetArrayRegion element r start n) says = doing t (Some None) says
arrays_implied t (SetArrayRegion element r start values) says = doing t (Some None) says
arrays_implied t (NewObjectArray n class fill) says = handing t Local says
arrays_implied t (GetObjectArrayElement r index) says = handing t Local says
arrays_implied t (SetObjectArrayElement r index value) says = doing t (Some None) says

abbrev pub monitors_implied : Parts → Tid → MonitorsCall → Says → Option (Option Fact)
monitors_implied p t (MonitorEnter r) says = doing t (of_object (λ o. Own t o) (object_named p t.0 r)) says
monitors_implied p t (MonitorExit r) says = doing t (of_object (λ o. Free t o) (object_named p t.0 r)) says

-- JNI_COMMIT gives nothing back
abbrev pub giving_back : ℤ → BufId → Option Fact
giving_back mode b = if is_commit mode then None else Some (Back b)

abbrev pub buffers_implied : Parts → Tid → BuffersCall → Says → Option (Option Fact)
buffers_implied p t (GetArrayElements element r) says =
    lending t (Elements (Of element)) (object_named p t.0 r) Null says
buffers_implied p t (ReleaseArrayElements element r b mode) says = doing t (Some (giving_back mode b)) says
buffers_implied p t (GetStringChars r) says = lending t Chars (object_named p t.0 r) Null says
buffers_implied p t (ReleaseStringChars r b) says = doing t (Some (Some (Back b))) says
buffers_implied p t (GetStringUTFChars r) says = lending t UtfChars (object_named p t.0 r) Null says
buffers_implied p t (ReleaseStringUTFChars r b) says = doing t (Some (Some (Back b))) says
buffers_implied p t (GetPrimitiveArrayCritical r) says = lending t ArrayCritical (object_named p t.0 r) r says
buffers_implied p t (ReleasePrimitiveArrayCritical r b mode) says = doing t (Some (giving_back mode b)) says
buffers_implied p t (GetStringCritical r) says = lending t StringCritical (object_named p t.0 r) r says
buffers_implied p t (ReleaseStringCritical r b) says = doing t (Some (Some (Back b))) says
buffers_implied p t (BufferRead b index) says = doing t (Some None) says
buffers_implied p t (BufferWrite b index value) says = doing t (Some None) says

abbrev pub implied : StatedSetup → Parts → Tid → Call → Says → Option (Option Fact)
implied s p t (Vm call) says = vm_implied s p t call says
implied s p t (Refs call) says = refs_implied t call says
implied s p t (Frames call) says = frames_implied t call says
implied s p t (Exceptions call) says = exceptions_implied p t call says
implied s p t (Objects call) says = objects_implied t call says
implied s p t (Strings call) says = strings_implied t call says
implied s p t (Arrays call) says = arrays_implied t call says
implied s p t (Monitors call) says = monitors_implied p t call says
implied s p t (Buffers call) says = buffers_implied p t call says

-- ---- what is handed out with it

-- t's environment once it is attached
abbrev pub env_given : Parts → Tid → Given
env_given p t = Environment (record { tid = t; session = sessions (Attach ∷ acts_of t.0 p.threads) })

abbrev pub given_by : StatedSetup → Parts → Fact → Given
given_by s p (Begin t) = env_given p t
given_by s p (Hand t kind o) = Reference (To kind t (next_ref p t.0))
given_by s p (Leave t (Some o)) = Reference (To Local t (next_ref p t.0))
given_by s p (Pop t (Some o)) = Reference (To Local t (next_ref p t.0))
given_by s p (Lend t family o via n) = Buffer (record { maker = t; n = next_buffer p t.0 })
given_by s p (Meet class n) = TheObject (record { 0 = object_count s p })
given_by s p x = Nothing

abbrev pub given_with : StatedSetup → Parts → Option Fact → Given
given_with s p None = Nothing
given_with s p (Some x) = given_by s p x

-- ---- what is told

abbrev pub told_on : Option Fact → List Fact → List Fact
told_on None w = w
told_on (Some x) w = x ∷ w

-- the machine may say so of the call, and what it implies, if anything, can be
abbrev pub fact_can : StatedSetup → Parts → Option Fact → Bool
fact_can s p None = true
fact_can s p (Some x) = can_be s p x

abbrev pub can_imply : StatedSetup → Parts → Option (Option Fact) → Bool
can_imply s p None = false
can_imply s p (Some fact) = fact_can s p fact

-- it implies what makes something
abbrev pub fact_makes : Option Fact → Bool
fact_makes None = false
fact_makes (Some x) = makes x

abbrev pub implies_making : Option (Option Fact) → Bool
implies_making None = false
implies_making (Some fact) = fact_makes fact
