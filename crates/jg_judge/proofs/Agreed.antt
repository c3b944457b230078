-- The verdict on a call's question is the verdict on the call, rule by rule.
use Rattle.std.proofs.Common.{◌≡◌, ◌∙◌, ℕ, ℤ, Bool, true, false, List, [], ◌∷◌, Option, Some, None, refl, ap, arith}
use Rattle.std.specs.Prelude.{◌&&◌, ◌||◌, not}
use Rattle.std.specs.List.{list_any, find}
use Rattle.std.specs.Option.{is_some, is_none}
use Rattle.std.proofs.Math.Bool.{or-false}
use Rattle.std.proofs.lemmas.Bool.{ne_eqb}
use Rattle.jg_words.specs.declared.thread.EnvId.{EnvId}
use Rattle.jg_words.specs.declared.rule.Rule.{Rule}
use Rattle.jg_words.specs.declared.rule.Rule.TheVariants.{WrongThread, Detached, InCritical, Pending, ForeignLocal, DeadReference, WrongRefKind, NullReference, WrongType, BadField, BadBuffer, BadArgument, Pinned, NotOwner, BadFrame, NoNativeAccess, NotLinked}
use Rattle.jg_words.specs.declared.call.Call.{Call}
use Rattle.jg_words.specs.declared.call.Call.TheVariants.{Vm, Refs, Frames, Exceptions, Objects, Strings, Arrays, Monitors, Buffers}
use Rattle.jg_words.specs.declared.call.vm.VmCall.TheVariants.{NativeEnter, NativeLeave, LoadLibrary, RegisterNatives, UnregisterNatives}
use Rattle.jg_words.specs.declared.call.refs.RefsCall.TheVariants.{NewLocalRef, NewGlobalRef, NewWeakGlobalRef, DeleteLocalRef, DeleteGlobalRef, DeleteWeakGlobalRef, IsSameObject}
use Rattle.jg_words.specs.declared.call.frames.FramesCall.TheVariants.{PushLocalFrame, PopLocalFrame, EnsureLocalCapacity}
use Rattle.jg_words.specs.declared.call.exceptions.ExceptionsCall.TheVariants.{Throw}
use Rattle.jg_words.specs.declared.call.objects.ObjectsCall.TheVariants.{GetObjectClass, IsInstanceOf, AllocObject, GetFieldID, GetField, GetObjectField, SetField, SetObjectField}
use Rattle.jg_words.specs.declared.call.strings.StringsCall.TheVariants.{NewString, NewStringUTF, GetStringLength, GetStringUTFLength, GetStringRegion}
use Rattle.jg_words.specs.declared.call.arrays.ArraysCall.TheVariants.{NewArray, GetArrayLength, GetArrayRegion, SetArrayRegion, NewObjectArray, GetObjectArrayElement, SetObjectArrayElement}
use Rattle.jg_words.specs.declared.call.monitors.MonitorsCall.TheVariants.{MonitorEnter, MonitorExit}
use Rattle.jg_words.specs.declared.call.buffers.BuffersCall.TheVariants.{GetArrayElements, ReleaseArrayElements, GetStringChars, ReleaseStringChars, GetStringUTFChars, ReleaseStringUTFChars, GetPrimitiveArrayCritical, ReleasePrimitiveArrayCritical, GetStringCritical, ReleaseStringCritical, BufferRead, BufferWrite}
use Rattle.jg_words.specs.declared.object.ItemType.TheVariants.{Of}
use Rattle.jg_words.specs.Call.{fun_of}
use Rattle.jg_table_heap.specs.Reading.{decoded}
use Rattle.jg_table_buffers.specs.declared.info.Info.{Info}
use Rattle.jg_policy.specs.declared.access.Operation.TheVariants.{Load, Link}
use Rattle.jg_policy.specs.Stated.{StatedSetup}
use Rattle.jg_policy.specs.Classes.{class_named}
use Rattle.jg_rules.specs.declared.named.Named.{Named}
use Rattle.jg_rules.specs.declared.named.Named.TheVariants.{Nothing, Null as NamesNull, Object}
use Rattle.jg_rules.specs.declared.operand.ObjectType.{ObjectType}
use Rattle.jg_rules.specs.declared.operand.ObjectType.TheVariants.{AnyObject, ClassObject, PlainClass, ThrowableObject, StringObject, AnyArray, PrimitiveArray, ArrayOf, ObjectArray}
use Rattle.jg_rules.specs.Parts.{Parts}
use Rattle.jg_rules.specs.Names.{names, class_of, native_meant}
use Rattle.jg_rules.specs.Operands.{is_of}
use Rattle.jg_rules.specs.NativeUse.{refuses}
use Rattle.jg_rules.specs.Buffers.{buffer_named, item_type, is_place, is_value_of_type}
use Rattle.jg_rules.specs.Rules as rules
use Rattle.jg_rules.specs.Rules.{is_foreign, is_nothing, is_null, is_linked, rules_in_order}
use Rattle.jg_rows.specs.declared.row.ObjectKind.{ObjectKind}
use Rattle.jg_rows.specs.declared.row.ObjectKind.TheVariants.{AnyObject as AnyKind, ClassObject as ClassKind, PlainClass as PlainKind, ThrowableObject as ThrowableKind, StringObject as StringKind, AnyArray as ArrayKind, PrimitiveArray as PrimitiveArrayKind, ArrayOf as ArrayOfKind, ObjectArray as ObjectArrayKind}
use Rattle.jg_rows.specs.declared.row.Takes.{Takes}
use Rattle.jg_rows.specs.Columns.{Columns}
use Rattle.jg_judge.specs.declared.argument.Argument.{Argument}
use Rattle.jg_judge.specs.Asked.{paired, judged, first_reference, first_buffer}
use Rattle.jg_judge.specs.declared.kinds.OwnKind.{OwnKind}
use Rattle.jg_judge.specs.declared.kinds.OwnKind.TheVariants as own
use Rattle.jg_judge.specs.Kinds.{is_kind, is_own, own_class}
use Rattle.jg_judge.specs.Broken.{broken, is_collection, wrong_kind, is_wrong_kind, is_unfit, is_wrong_buffer, is_out_of_bounds, is_wrong_item, buffer_meant, pinned, not_owner, bad_frame, no_access, not_linked}
use Rattle.jg_judge.specs.Written.{AreStated, JudgedAsWritten, arguments_of, row_for, written_bounds}
use Rattle.jg_judge.proofs.Rows.{takes_of, effect_of, IsRow, row_is}
use Rattle.jg_judge.proofs.Stated.{stated_named}

-- ---- kinds

abbrev kind_of : ObjectType → ObjectKind
kind_of AnyObject = AnyKind
kind_of ClassObject = ClassKind
kind_of PlainClass = PlainKind
kind_of ThrowableObject = ThrowableKind
kind_of StringObject = StringKind
kind_of AnyArray = ArrayKind
kind_of PrimitiveArray = PrimitiveArrayKind
kind_of (ArrayOf element) = ArrayOfKind (Of element)
kind_of ObjectArray = ObjectArrayKind

-- what is of a stated class is of no class of a machine's own
none_own : (s : StatedSetup) (p : Parts) (kind : OwnKind) (o : ℕ) → AreStated s p → is_own s p kind o ≡ false
none_own s p kind o all = let below = all o in ne_eqb (class_of s p o) (own_class s kind) (λ same. omega (arith, below, same))

kinds_agree : (s : StatedSetup) (p : Parts) (type : ObjectType) (o : ℕ) → AreStated s p → is_kind s p (kind_of type) o ≡ is_of s p type o
kinds_agree s p ClassObject o all = rw (none_own s p own.Class o all, none_own s p own.ClassOfArrays o all) (or-false _)
kinds_agree s p PlainClass o all = rw (none_own s p own.Class o all) (or-false _)
kinds_agree s p ThrowableObject o all = rw (none_own s p own.Throwable o all) (or-false _)
kinds_agree s p AnyArray o all = rw (none_own s p own.Floats o all, none_own s p own.Doubles o all) (or-false _)
kinds_agree s p PrimitiveArray o all = rw (none_own s p own.Floats o all, none_own s p own.Doubles o all) (or-false _)
kinds_agree s p call o all = refl

wrong_same : (s : StatedSetup) (p : Parts) → AreStated s p → (type : ObjectType) (named : Named)
    → is_wrong_kind s p (kind_of type) named ≡ rules.is_wrong s p type named
wrong_same s p all type Nothing = refl
wrong_same s p all type NamesNull = refl
wrong_same s p all type (Object o) = ap not (kinds_agree s p type o.0 all)

-- ---- single facts

unfit_twice : (b : Bool) → (not (not b) || false) ≡ b
unfit_twice true = refl
unfit_twice false = refl

not_some : {X : Type 0} (found : Option X) → not (is_some found) ≡ is_none found
not_some None = refl
not_some (Some x) = refl

either_bound : (a b : Bool) → (not a || (not b || false)) ≡ not (a && b)
either_bound true true = refl
either_bound true false = refl
either_bound false b = refl

item_bounds : (s : StatedSetup) (p : Parts) (index v : ℤ) (found : Option Info)
    → (rules.is_outside_of index found || (is_wrong_item s p v found || false)) ≡ rules.is_wrong_item s p index v found
item_bounds s p index v None = refl
item_bounds s p index v (Some info) = either_bound (is_place index info.length) (is_value_of_type (item_type s p info info.family) v)

-- ---- each call

-- the rules read the same of the question and of the call
record Agrees (s : StatedSetup) (p : Parts) (t : ℕ) (call : Call) (takes : List Takes) (xs : List Argument) : Type 0 where
  machine : is_collection (effect_of (fun_of call)) ≡ rules.is_machine call
  foreign : list_any (λ x. is_foreign t x.reference) (judged takes xs) ≡ rules.foreign_local t call
  dead : list_any (λ x. is_nothing (names p t x.reference)) (judged takes xs) ≡ rules.dead_reference p t call
  kind : wrong_kind (effect_of (fun_of call)) (first_reference xs) ≡ rules.wrong_kind call
  null : list_any (λ x. not x.nullable && is_null (names p t x.reference)) (judged takes xs) ≡ rules.null_reference p t call
  type : list_any (λ x. is_wrong_kind s p x.kind (names p t x.reference)) (judged takes xs) ≡ rules.wrong_type s p t call
  field : list_any (λ x. is_unfit x.1) (paired takes xs) ≡ rules.bad_field s p t call
  buffer : list_any (λ x. is_wrong_buffer p t (first_reference xs) x.0 x.1) (paired takes xs) ≡ rules.bad_buffer p t call
  argument : list_any (λ x. is_out_of_bounds written_bounds s p (buffer_meant p (first_buffer xs)) x.0 x.1) (paired takes xs) ≡ rules.bad_argument s p call
  pins : pinned p (effect_of (fun_of call)) (first_reference xs) ≡ rules.pinned p call
  owner : not_owner p t (effect_of (fun_of call)) (first_reference xs) ≡ rules.not_owner p t call
  frame : bad_frame p t (effect_of (fun_of call)) ≡ rules.bad_frame p t call
  access : no_access s p t (effect_of (fun_of call)) (first_reference xs) xs ≡ rules.no_access s p t call
  linked : not_linked s p (effect_of (fun_of call)) xs ≡ rules.not_linked s p call

agrees : (s : StatedSetup) (p : Parts) (t : ℕ) (call : Call) → AreStated s p → Agrees s p t call (takes_of (fun_of call)) (arguments_of s p t call)
agrees s p t (Vm (NativeEnter class method signature)) all = record {
  machine = refl;
  foreign = refl;
  dead = refl;
  kind = refl;
  null = refl;
  type = refl;
  field = refl;
  buffer = refl;
  pins = refl;
  owner = refl;
  frame = refl;
  argument = or-false _ ∙ ap is_none (stated_named s class);
  access = ap (refuses s Link) (stated_named s class);
  linked = ap (λ found. not (is_linked p found (native_meant s (class_named s class) method signature))) (stated_named s class);
}
agrees s p t (Vm (NativeLeave kept)) all = record {
  machine = refl;
  foreign = refl;
  dead = refl;
  kind = refl;
  null = refl;
  field = refl;
  buffer = refl;
  argument = refl;
  pins = refl;
  owner = refl;
  frame = refl;
  access = refl;
  linked = refl;
  type = rw (wrong_same s p all AnyObject (names p t kept)) refl;
}
agrees s p t (Vm (LoadLibrary class library)) all = record {
  machine = refl;
  foreign = refl;
  dead = refl;
  kind = refl;
  null = refl;
  type = refl;
  field = refl;
  buffer = refl;
  pins = refl;
  owner = refl;
  frame = refl;
  linked = refl;
  argument = or-false _ ∙ ap is_none (stated_named s class);
  access = ap (refuses s Load) (stated_named s class);
}
agrees s p t (Vm (RegisterNatives class method signature)) all = record {
  machine = refl;
  foreign = refl;
  dead = refl;
  kind = refl;
  null = refl;
  field = refl;
  buffer = refl;
  argument = refl;
  pins = refl;
  owner = refl;
  frame = refl;
  access = refl;
  linked = refl;
  type = rw (wrong_same s p all ClassObject (names p t class)) refl;
}
agrees s p t (Vm (UnregisterNatives class)) all = record {
  machine = refl;
  foreign = refl;
  dead = refl;
  kind = refl;
  null = refl;
  field = refl;
  buffer = refl;
  argument = refl;
  pins = refl;
  owner = refl;
  frame = refl;
  access = refl;
  linked = refl;
  type = rw (wrong_same s p all ClassObject (names p t class)) refl;
}
agrees s p t (Refs (NewLocalRef r)) all = record {
  machine = refl;
  foreign = refl;
  dead = refl;
  kind = refl;
  null = refl;
  field = refl;
  buffer = refl;
  argument = refl;
  pins = refl;
  owner = refl;
  frame = refl;
  access = refl;
  linked = refl;
  type = rw (wrong_same s p all AnyObject (names p t r)) refl;
}
agrees s p t (Refs (NewGlobalRef r)) all = record {
  machine = refl;
  foreign = refl;
  dead = refl;
  kind = refl;
  null = refl;
  field = refl;
  buffer = refl;
  argument = refl;
  pins = refl;
  owner = refl;
  frame = refl;
  access = refl;
  linked = refl;
  type = rw (wrong_same s p all AnyObject (names p t r)) refl;
}
agrees s p t (Refs (NewWeakGlobalRef r)) all = record {
  machine = refl;
  foreign = refl;
  dead = refl;
  kind = refl;
  null = refl;
  field = refl;
  buffer = refl;
  argument = refl;
  pins = refl;
  owner = refl;
  frame = refl;
  access = refl;
  linked = refl;
  type = rw (wrong_same s p all AnyObject (names p t r)) refl;
}
agrees s p t (Refs (DeleteLocalRef r)) all = record {
  machine = refl;
  foreign = refl;
  dead = refl;
  kind = refl;
  null = refl;
  field = refl;
  buffer = refl;
  argument = refl;
  pins = refl;
  owner = refl;
  frame = refl;
  access = refl;
  linked = refl;
  type = rw (wrong_same s p all AnyObject (names p t r)) refl;
}
agrees s p t (Refs (DeleteGlobalRef r)) all = record {
  machine = refl;
  foreign = refl;
  dead = refl;
  kind = refl;
  null = refl;
  field = refl;
  buffer = refl;
  argument = refl;
  pins = refl;
  owner = refl;
  frame = refl;
  access = refl;
  linked = refl;
  type = rw (wrong_same s p all AnyObject (names p t r)) refl;
}
agrees s p t (Refs (DeleteWeakGlobalRef r)) all = record {
  machine = refl;
  foreign = refl;
  dead = refl;
  kind = refl;
  null = refl;
  field = refl;
  buffer = refl;
  argument = refl;
  pins = refl;
  owner = refl;
  frame = refl;
  access = refl;
  linked = refl;
  type = rw (wrong_same s p all AnyObject (names p t r)) refl;
}
agrees s p t (Refs (IsSameObject r u)) all = record {
  machine = refl;
  foreign = refl;
  dead = refl;
  kind = refl;
  null = refl;
  field = refl;
  buffer = refl;
  argument = refl;
  pins = refl;
  owner = refl;
  frame = refl;
  access = refl;
  linked = refl;
  type = rw (wrong_same s p all AnyObject (names p t r), wrong_same s p all AnyObject (names p t u)) refl;
}
agrees s p t (Frames (PushLocalFrame capacity)) all = record {
  machine = refl;
  foreign = refl;
  dead = refl;
  kind = refl;
  null = refl;
  type = refl;
  field = refl;
  buffer = refl;
  pins = refl;
  owner = refl;
  frame = refl;
  access = refl;
  linked = refl;
  argument = or-false _;
}
agrees s p t (Frames (PopLocalFrame r)) all = record {
  machine = refl;
  foreign = refl;
  dead = refl;
  kind = refl;
  null = refl;
  field = refl;
  buffer = refl;
  argument = refl;
  pins = refl;
  owner = refl;
  frame = refl;
  access = refl;
  linked = refl;
  type = rw (wrong_same s p all AnyObject (names p t r)) refl;
}
agrees s p t (Frames (EnsureLocalCapacity capacity)) all = record {
  machine = refl;
  foreign = refl;
  dead = refl;
  kind = refl;
  null = refl;
  type = refl;
  field = refl;
  buffer = refl;
  pins = refl;
  owner = refl;
  frame = refl;
  access = refl;
  linked = refl;
  argument = or-false _;
}
agrees s p t (Exceptions (Throw r)) all = record {
  machine = refl;
  foreign = refl;
  dead = refl;
  kind = refl;
  null = refl;
  field = refl;
  buffer = refl;
  argument = refl;
  pins = refl;
  owner = refl;
  frame = refl;
  access = refl;
  linked = refl;
  type = rw (wrong_same s p all ThrowableObject (names p t r)) refl;
}
agrees s p t (Objects (GetObjectClass r)) all = record {
  machine = refl;
  foreign = refl;
  dead = refl;
  kind = refl;
  null = refl;
  field = refl;
  buffer = refl;
  argument = refl;
  pins = refl;
  owner = refl;
  frame = refl;
  access = refl;
  linked = refl;
  type = rw (wrong_same s p all AnyObject (names p t r)) refl;
}
agrees s p t (Objects (IsInstanceOf r class)) all = record {
  machine = refl;
  foreign = refl;
  dead = refl;
  kind = refl;
  null = refl;
  field = refl;
  buffer = refl;
  argument = refl;
  pins = refl;
  owner = refl;
  frame = refl;
  access = refl;
  linked = refl;
  type = rw (wrong_same s p all AnyObject (names p t r), wrong_same s p all ClassObject (names p t class)) refl;
}
agrees s p t (Objects (AllocObject class)) all = record {
  machine = refl;
  foreign = refl;
  dead = refl;
  kind = refl;
  null = refl;
  field = refl;
  buffer = refl;
  argument = refl;
  pins = refl;
  owner = refl;
  frame = refl;
  access = refl;
  linked = refl;
  type = rw (wrong_same s p all PlainClass (names p t class)) refl;
}
agrees s p t (Objects (GetFieldID class name signature)) all = record {
  machine = refl;
  foreign = refl;
  dead = refl;
  kind = refl;
  null = refl;
  field = refl;
  buffer = refl;
  argument = refl;
  pins = refl;
  owner = refl;
  frame = refl;
  access = refl;
  linked = refl;
  type = rw (wrong_same s p all ClassObject (names p t class)) refl;
}
agrees s p t (Objects (GetField primitive r f)) all = record {
  machine = refl;
  foreign = refl;
  dead = refl;
  kind = refl;
  null = refl;
  buffer = refl;
  argument = refl;
  pins = refl;
  owner = refl;
  frame = refl;
  access = refl;
  linked = refl;
  type = rw (wrong_same s p all AnyObject (names p t r)) refl;
  field = unfit_twice _;
}
agrees s p t (Objects (GetObjectField r f)) all = record {
  machine = refl;
  foreign = refl;
  dead = refl;
  kind = refl;
  null = refl;
  buffer = refl;
  argument = refl;
  pins = refl;
  owner = refl;
  frame = refl;
  access = refl;
  linked = refl;
  type = rw (wrong_same s p all AnyObject (names p t r)) refl;
  field = unfit_twice _;
}
agrees s p t (Objects (SetField primitive r f value)) all = record {
  machine = refl;
  foreign = refl;
  dead = refl;
  kind = refl;
  null = refl;
  buffer = refl;
  pins = refl;
  owner = refl;
  frame = refl;
  access = refl;
  linked = refl;
  type = rw (wrong_same s p all AnyObject (names p t r)) refl;
  field = unfit_twice _;
  argument = or-false _;
}
agrees s p t (Objects (SetObjectField r f value)) all = record {
  machine = refl;
  foreign = refl;
  dead = refl;
  kind = refl;
  null = refl;
  buffer = refl;
  argument = refl;
  pins = refl;
  owner = refl;
  frame = refl;
  access = refl;
  linked = refl;
  type = rw (wrong_same s p all AnyObject (names p t r), wrong_same s p all AnyObject (names p t value)) refl;
  field = unfit_twice _;
}
agrees s p t (Strings (NewString units)) all = record {
  machine = refl;
  foreign = refl;
  dead = refl;
  kind = refl;
  null = refl;
  type = refl;
  field = refl;
  buffer = refl;
  pins = refl;
  owner = refl;
  frame = refl;
  access = refl;
  linked = refl;
  argument = or-false _;
}
agrees s p t (Strings (NewStringUTF bytes)) all = record {
  machine = refl;
  foreign = refl;
  dead = refl;
  kind = refl;
  null = refl;
  type = refl;
  field = refl;
  buffer = refl;
  pins = refl;
  owner = refl;
  frame = refl;
  access = refl;
  linked = refl;
  argument = or-false _ ∙ not_some (decoded bytes);
}
agrees s p t (Strings (GetStringLength r)) all = record {
  machine = refl;
  foreign = refl;
  dead = refl;
  kind = refl;
  null = refl;
  field = refl;
  buffer = refl;
  argument = refl;
  pins = refl;
  owner = refl;
  frame = refl;
  access = refl;
  linked = refl;
  type = rw (wrong_same s p all StringObject (names p t r)) refl;
}
agrees s p t (Strings (GetStringUTFLength r)) all = record {
  machine = refl;
  foreign = refl;
  dead = refl;
  kind = refl;
  null = refl;
  field = refl;
  buffer = refl;
  argument = refl;
  pins = refl;
  owner = refl;
  frame = refl;
  access = refl;
  linked = refl;
  type = rw (wrong_same s p all StringObject (names p t r)) refl;
}
agrees s p t (Strings (GetStringRegion r start n)) all = record {
  machine = refl;
  foreign = refl;
  dead = refl;
  kind = refl;
  null = refl;
  field = refl;
  buffer = refl;
  pins = refl;
  owner = refl;
  frame = refl;
  access = refl;
  linked = refl;
  type = rw (wrong_same s p all StringObject (names p t r)) refl;
  argument = or-false _;
}
agrees s p t (Arrays (NewArray element n)) all = record {
  machine = refl;
  foreign = refl;
  dead = refl;
  kind = refl;
  null = refl;
  type = refl;
  field = refl;
  buffer = refl;
  pins = refl;
  owner = refl;
  frame = refl;
  access = refl;
  linked = refl;
  argument = or-false _;
}
agrees s p t (Arrays (GetArrayLength r)) all = record {
  machine = refl;
  foreign = refl;
  dead = refl;
  kind = refl;
  null = refl;
  field = refl;
  buffer = refl;
  argument = refl;
  pins = refl;
  owner = refl;
  frame = refl;
  access = refl;
  linked = refl;
  type = rw (wrong_same s p all AnyArray (names p t r)) refl;
}
agrees s p t (Arrays (GetArrayRegion element r start n)) all = record {
  machine = refl;
  foreign = refl;
  dead = refl;
  kind = refl;
  null = refl;
  field = refl;
  buffer = refl;
  pins = refl;
  owner = refl;
  frame = refl;
  access = refl;
  linked = refl;
  type = rw (wrong_same s p all (ArrayOf element) (names p t r)) refl;
  argument = or-false _;
}
agrees s p t (Arrays (SetArrayRegion element r start values)) all = record {
  machine = refl;
  foreign = refl;
  dead = refl;
  kind = refl;
  null = refl;
  field = refl;
  buffer = refl;
  pins = refl;
  owner = refl;
  frame = refl;
  access = refl;
  linked = refl;
  type = rw (wrong_same s p all (ArrayOf element) (names p t r)) refl;
  argument = or-false _;
}
agrees s p t (Arrays (NewObjectArray n class fill)) all = record {
  machine = refl;
  foreign = refl;
  dead = refl;
  kind = refl;
  null = refl;
  field = refl;
  buffer = refl;
  pins = refl;
  owner = refl;
  frame = refl;
  access = refl;
  linked = refl;
  type = rw (wrong_same s p all ClassObject (names p t class), wrong_same s p all AnyObject (names p t fill)) refl;
  argument = or-false _;
}
agrees s p t (Arrays (GetObjectArrayElement r index)) all = record {
  machine = refl;
  foreign = refl;
  dead = refl;
  kind = refl;
  null = refl;
  field = refl;
  buffer = refl;
  argument = refl;
  pins = refl;
  owner = refl;
  frame = refl;
  access = refl;
  linked = refl;
  type = rw (wrong_same s p all ObjectArray (names p t r)) refl;
}
agrees s p t (Arrays (SetObjectArrayElement r index value)) all = record {
  machine = refl;
  foreign = refl;
  dead = refl;
  kind = refl;
  null = refl;
  field = refl;
  buffer = refl;
  argument = refl;
  pins = refl;
  owner = refl;
  frame = refl;
  access = refl;
  linked = refl;
  type = rw (wrong_same s p all ObjectArray (names p t r), wrong_same s p all AnyObject (names p t value)) refl;
}
agrees s p t (Monitors (MonitorEnter r)) all = record {
  machine = refl;
  foreign = refl;
  dead = refl;
  kind = refl;
  null = refl;
  field = refl;
  buffer = refl;
  argument = refl;
  pins = refl;
  owner = refl;
  frame = refl;
  access = refl;
  linked = refl;
  type = rw (wrong_same s p all AnyObject (names p t r)) refl;
}
agrees s p t (Monitors (MonitorExit r)) all = record {
  machine = refl;
  foreign = refl;
  dead = refl;
  kind = refl;
  null = refl;
  field = refl;
  buffer = refl;
  argument = refl;
  pins = refl;
  owner = refl;
  frame = refl;
  access = refl;
  linked = refl;
  type = rw (wrong_same s p all AnyObject (names p t r)) refl;
}
agrees s p t (Buffers (GetArrayElements element r)) all = record {
  machine = refl;
  foreign = refl;
  dead = refl;
  kind = refl;
  null = refl;
  field = refl;
  buffer = refl;
  argument = refl;
  pins = refl;
  owner = refl;
  frame = refl;
  access = refl;
  linked = refl;
  type = rw (wrong_same s p all (ArrayOf element) (names p t r)) refl;
}
agrees s p t (Buffers (ReleaseArrayElements element r b mode)) all = record {
  machine = refl;
  foreign = refl;
  dead = refl;
  kind = refl;
  null = refl;
  field = refl;
  pins = refl;
  owner = refl;
  frame = refl;
  access = refl;
  linked = refl;
  type = rw (wrong_same s p all (ArrayOf element) (names p t r)) refl;
  buffer = or-false _;
  argument = or-false _;
}
agrees s p t (Buffers (GetStringChars r)) all = record {
  machine = refl;
  foreign = refl;
  dead = refl;
  kind = refl;
  null = refl;
  field = refl;
  buffer = refl;
  argument = refl;
  pins = refl;
  owner = refl;
  frame = refl;
  access = refl;
  linked = refl;
  type = rw (wrong_same s p all StringObject (names p t r)) refl;
}
agrees s p t (Buffers (ReleaseStringChars r b)) all = record {
  machine = refl;
  foreign = refl;
  dead = refl;
  kind = refl;
  null = refl;
  field = refl;
  argument = refl;
  pins = refl;
  owner = refl;
  frame = refl;
  access = refl;
  linked = refl;
  type = rw (wrong_same s p all StringObject (names p t r)) refl;
  buffer = or-false _;
}
agrees s p t (Buffers (GetStringUTFChars r)) all = record {
  machine = refl;
  foreign = refl;
  dead = refl;
  kind = refl;
  null = refl;
  field = refl;
  buffer = refl;
  argument = refl;
  pins = refl;
  owner = refl;
  frame = refl;
  access = refl;
  linked = refl;
  type = rw (wrong_same s p all StringObject (names p t r)) refl;
}
agrees s p t (Buffers (ReleaseStringUTFChars r b)) all = record {
  machine = refl;
  foreign = refl;
  dead = refl;
  kind = refl;
  null = refl;
  field = refl;
  argument = refl;
  pins = refl;
  owner = refl;
  frame = refl;
  access = refl;
  linked = refl;
  type = rw (wrong_same s p all StringObject (names p t r)) refl;
  buffer = or-false _;
}
agrees s p t (Buffers (GetPrimitiveArrayCritical r)) all = record {
  machine = refl;
  foreign = refl;
  dead = refl;
  kind = refl;
  null = refl;
  field = refl;
  buffer = refl;
  argument = refl;
  pins = refl;
  owner = refl;
  frame = refl;
  access = refl;
  linked = refl;
  type = rw (wrong_same s p all PrimitiveArray (names p t r)) refl;
}
agrees s p t (Buffers (ReleasePrimitiveArrayCritical r b mode)) all = record {
  machine = refl;
  foreign = refl;
  dead = refl;
  kind = refl;
  null = refl;
  field = refl;
  pins = refl;
  owner = refl;
  frame = refl;
  access = refl;
  linked = refl;
  type = rw (wrong_same s p all PrimitiveArray (names p t r)) refl;
  buffer = or-false _;
  argument = or-false _;
}
agrees s p t (Buffers (GetStringCritical r)) all = record {
  machine = refl;
  foreign = refl;
  dead = refl;
  kind = refl;
  null = refl;
  field = refl;
  buffer = refl;
  argument = refl;
  pins = refl;
  owner = refl;
  frame = refl;
  access = refl;
  linked = refl;
  type = rw (wrong_same s p all StringObject (names p t r)) refl;
}
agrees s p t (Buffers (ReleaseStringCritical r b)) all = record {
  machine = refl;
  foreign = refl;
  dead = refl;
  kind = refl;
  null = refl;
  field = refl;
  argument = refl;
  pins = refl;
  owner = refl;
  frame = refl;
  access = refl;
  linked = refl;
  type = rw (wrong_same s p all StringObject (names p t r)) refl;
  buffer = or-false _;
}
agrees s p t (Buffers (BufferRead b index)) all = record {
  machine = refl;
  foreign = refl;
  dead = refl;
  kind = refl;
  null = refl;
  type = refl;
  field = refl;
  pins = refl;
  owner = refl;
  frame = refl;
  access = refl;
  linked = refl;
  buffer = or-false _;
  argument = or-false _;
}
agrees s p t (Buffers (BufferWrite b index value)) all = record {
  machine = refl;
  foreign = refl;
  dead = refl;
  kind = refl;
  null = refl;
  type = refl;
  field = refl;
  pins = refl;
  owner = refl;
  frame = refl;
  access = refl;
  linked = refl;
  buffer = or-false _;
  argument = item_bounds s p index value (buffer_named p b);
}
agrees s p t call all = record {
  machine = refl;
  foreign = refl;
  dead = refl;
  kind = refl;
  null = refl;
  type = refl;
  field = refl;
  buffer = refl;
  argument = refl;
  pins = refl;
  owner = refl;
  frame = refl;
  access = refl;
  linked = refl;
}

-- ---- the verdict

same_found : {X : Type 0} (p q : X → Bool) (xs : List X) → ((x : X) → p x ≡ q x) → find p xs ≡ find q xs
same_found p q [] same = refl
same_found p q (x ∷ xs) same = rw (same x, same_found p q xs same) refl

each_rule : (s : StatedSetup) (p : Parts) (t : ℕ) (env : Option EnvId) (call : Call) (row : Columns) → IsRow (fun_of call) row
    → Agrees s p t call (takes_of (fun_of call)) (arguments_of s p t call)
    → (rule : Rule) → broken rule written_bounds s p t env row (arguments_of s p t call) ≡ rules.broken rule s p t env call
each_rule s p t env call row is agree WrongThread = rw (is.effect, agree.machine) refl
each_rule s p t None call row is agree Detached = is.env
each_rule s p t (Some env) call row is agree Detached = refl
each_rule s p t env call row is agree InCritical = rw (is.critical) refl
each_rule s p t env call row is agree Pending = rw (is.pending) refl
each_rule s p t env call row is agree ForeignLocal = rw (is.takes) agree.foreign
each_rule s p t env call row is agree DeadReference = rw (is.takes) agree.dead
each_rule s p t env call row is agree WrongRefKind = rw (is.effect) agree.kind
each_rule s p t env call row is agree NullReference = rw (is.takes) agree.null
each_rule s p t env call row is agree WrongType = rw (is.takes) agree.type
each_rule s p t env call row is agree BadField = rw (is.takes) agree.field
each_rule s p t env call row is agree BadBuffer = rw (is.takes) agree.buffer
each_rule s p t env call row is agree BadArgument = rw (is.takes) agree.argument
each_rule s p t env call row is agree Pinned = rw (is.effect) agree.pins
each_rule s p t env call row is agree NotOwner = rw (is.effect) agree.owner
each_rule s p t env call row is agree BadFrame = rw (is.effect) agree.frame
each_rule s p t env call row is agree NoNativeAccess = rw (is.effect) agree.access
each_rule s p t env call row is agree NotLinked = rw (is.effect) agree.linked

pub judged_as_written : JudgedAsWritten
judged_as_written s p t env call all =
    same_found (λ rule. broken rule written_bounds s p t env (row_for (fun_of call)) (arguments_of s p t call)) (λ rule. rules.broken rule s p t env call)
    rules_in_order
    (each_rule s p t env call (row_for (fun_of call)) (row_is (fun_of call)) (agrees s p t call all))
