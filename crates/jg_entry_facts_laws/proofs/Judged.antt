-- What reads the same is judged the same.
use Rattle.std.proofs.Common.{ℕ, ℤ, ◌≡◌, ◌∙◌, Bool, List, [], ◌∷◌, Option, Some, None, refl, ap}
use Rattle.std.specs.Prelude.{◌&&◌, ◌==◌, not, nat_lt, if◌then◌else◌}
use Rattle.std.specs.List.{find}
use Rattle.std.specs.Option.{is_some}
use Rattle.jg_lists.proofs.Lists.{any_same}
use Rattle.jg_words.specs.declared.thread.EnvId.{EnvId}
use Rattle.jg_words.specs.declared.reference.Ref.{Ref}
use Rattle.jg_words.specs.declared.reference.Ref.TheVariants.{Null, To}
use Rattle.jg_words.specs.declared.reference.Kind.TheVariants.{Local, Global, Weak}
use Rattle.jg_words.specs.declared.object.FieldId.{FieldId}
use Rattle.jg_words.specs.declared.object.Primitive.{Primitive}
use Rattle.jg_words.specs.declared.rule.Rule.{Rule}
use Rattle.jg_words.specs.declared.rule.Rule.TheVariants.{WrongThread, Detached, InCritical, Pending, ForeignLocal, DeadReference, WrongRefKind, NullReference, WrongType, BadField, BadBuffer, BadArgument, Pinned, NotOwner, BadFrame, NoNativeAccess, NotLinked}
use Rattle.jg_words.specs.Call.{fun_of}
use Rattle.jg_words.specs.MayCall.{passes_pending, passes_critical}
use Rattle.jg_words.specs.declared.call.Call.{Call}
use Rattle.jg_words.specs.declared.call.Call.TheVariants.{Vm, Refs, Frames, Objects, Monitors, Buffers}
use Rattle.jg_words.specs.declared.call.vm.VmCall.{VmCall}
use Rattle.jg_words.specs.declared.call.vm.VmCall.TheVariants.{DetachCurrentThread, NativeEnter, NativeLeave, RegisterNatives}
use Rattle.jg_words.specs.declared.call.refs.RefsCall.{RefsCall}
use Rattle.jg_words.specs.declared.call.refs.RefsCall.TheVariants.{DeleteGlobalRef, DeleteWeakGlobalRef}
use Rattle.jg_words.specs.declared.call.frames.FramesCall.{FramesCall}
use Rattle.jg_words.specs.declared.call.frames.FramesCall.TheVariants.{PushLocalFrame, PopLocalFrame, EnsureLocalCapacity}
use Rattle.jg_words.specs.declared.call.objects.ObjectsCall.{ObjectsCall}
use Rattle.jg_words.specs.declared.call.objects.ObjectsCall.TheVariants.{GetField, GetObjectField, SetField, SetObjectField}
use Rattle.jg_words.specs.declared.call.monitors.MonitorsCall.{MonitorsCall}
use Rattle.jg_words.specs.declared.call.monitors.MonitorsCall.TheVariants.{MonitorEnter, MonitorExit}
use Rattle.jg_words.specs.declared.call.buffers.BuffersCall.{BuffersCall}
use Rattle.jg_words.specs.declared.call.buffers.BuffersCall.TheVariants.{ReleaseArrayElements, ReleaseStringChars, ReleaseStringUTFChars, ReleasePrimitiveArrayCritical, ReleaseStringCritical, BufferRead, BufferWrite}
use Rattle.jg_words.specs.declared.buffer.BufId.{BufId}
use Rattle.jg_policy.specs.Stated.{StatedSetup}
use Rattle.jg_policy.specs.Classes.{is_throwable, field_type, class_named}
use Rattle.jg_table_locals.specs.History as locals
use Rattle.jg_table_buffers.specs.declared.info.Info.{Info}
use Rattle.jg_table_buffers.specs.declared.family.Family.{Family}
use Rattle.jg_table_buffers.specs.declared.family.Family.TheVariants.{Elements, Chars, UtfChars, ArrayCritical, StringCritical}
use Rattle.jg_rules.specs.declared.named.Named.{Named}
use Rattle.jg_rules.specs.declared.named.Named.TheVariants.{Nothing, Null as NamesNull, Object}
use Rattle.jg_rules.specs.declared.operand.ObjectType.{ObjectType}
use Rattle.jg_rules.specs.declared.operand.ObjectType.TheVariants.{AnyObject, PlainClass, ThrowableObject}
use Rattle.jg_rules.specs.declared.operand.Operand.{Operand}
use Rattle.jg_rules.specs.Parts.{Parts}
use Rattle.jg_rules.specs.Names.{names, named_by, named_by_target, object_in, object_named, native_meant}
use Rattle.jg_rules.specs.Operands.{operands, is_of}
use Rattle.jg_words.specs.Classes.{element_of}
use Rattle.jg_words.specs.declared.object.ItemType.TheVariants.{Of}
use Rattle.jg_rules.specs.Buffers.{buffer_named, item_type, is_place, is_value_of_type}
use Rattle.jg_rules.specs.Rules.{broken, rules_in_order, is_session, is_nothing, is_null, is_wrong, is_of_class, is_stated_as, field_of_another, is_outside_of, is_wrong_item, is_linked, is_by, is_not_owned, is_releasable}
use Rattle.jg_entry_facts_laws.specs.Alike.{ReadAlike}
use Rattle.jg_entry_facts_laws.specs.Laws.{AlikeIsJudgedAlike}
use Rattle.jg_entry_facts_laws.proofs.Buffers.{SameBuffers, same_critical, same_pinned}

find_same : {A : Type 0} (f g : A → Bool) (xs : List A) → ((x : A) → f x ≡ g x) → find f xs ≡ find g xs
find_same f g [] same = refl
find_same f g (x ∷ xs) same = rw (same x, find_same f g xs same) refl

module _ (s : StatedSetup) (p q : Parts) (same : ReadAlike s p q) where
  pub names_same : (t : ℕ) (r : Ref) → names p t r ≡ names q t r
  names_same t Null = refl
  names_same t (To Local maker n) = ap (λ (l : Option locals.Local). if maker.0 == t then named_by (locals.object_of l) else Nothing) (same.locals t n)
  names_same t (To Global maker n) = ap named_by_target (same.targets (To Global maker n))
  names_same t (To Weak maker n) = ap named_by_target (same.targets (To Weak maker n))

  pub object_same : (t : ℕ) (r : Ref) → object_named p t r ≡ object_named q t r
  object_same t r = ap object_in (names_same t r)

  same_lent : SameBuffers p.buffers q.buffers
  same_lent maker n = same.lent (record { maker = record { 0 = maker }; n = n })

  -- ---- types

  of_same : (type : ObjectType) (o : ℕ) → is_of s p type o ≡ is_of s q type o
  of_same AnyObject o = refl
  of_same PlainClass o = refl
  of_same ThrowableObject o = ap (is_throwable s) (same.classes o)
  of_same call o = rw (same.classes o) refl

  wrong_same : (type : ObjectType) (named : Named) → is_wrong s p type named ≡ is_wrong s q type named
  wrong_same type Nothing = refl
  wrong_same type NamesNull = refl
  wrong_same type (Object o) = ap not (of_same type o.0)

  wrong_at : (t : ℕ) (x : Operand) → is_wrong s p x.object_type (names p t x.reference) ≡ is_wrong s q x.object_type (names q t x.reference)
  wrong_at t x = ap (is_wrong s p x.object_type) (names_same t x.reference) ∙ wrong_same x.object_type (names q t x.reference)

  class_same : (class : ℕ) (named : Named) → is_of_class s p class named ≡ is_of_class s q class named
  class_same class Nothing = refl
  class_same class NamesNull = refl
  class_same class (Object o) = ap (λ (c : ℕ). c == class) (same.classes o.0)

  field_same : (t : ℕ) (wanted : Option Primitive) (r : Ref) (f : FieldId) → field_of_another s p t wanted r f ≡ field_of_another s q t wanted r f
  field_same t wanted r f =
      ap (λ (b : Bool). not (is_stated_as wanted (field_type s f.class f.field) && b))
      (ap (is_of_class s p f.class) (names_same t r) ∙ class_same f.class (names q t r))

  fields : (t : ℕ) (env : Option EnvId) (call : ObjectsCall) → broken BadField s p t env (Objects call) ≡ broken BadField s q t env (Objects call)
  fields t env (GetField primitive r field) = field_same t (Some primitive) r field
  fields t env (GetObjectField r field) = field_same t None r field
  fields t env (SetField primitive r field value) = field_same t (Some primitive) r field
  fields t env (SetObjectField r field value) = field_same t None r field
  fields t env call = refl

  -- ---- buffers

  releases : (t : ℕ) (family : Family) (r : Ref) (b : BufId) → is_releasable p t family r b ≡ is_releasable q t family r b
  releases t family r b = rw (object_same t r, same.lent b) refl

  buffer_rule : (t : ℕ) (env : Option EnvId) (call : BuffersCall) → broken BadBuffer s p t env (Buffers call) ≡ broken BadBuffer s q t env (Buffers call)
  buffer_rule t env (ReleaseArrayElements element r b mode) = ap not (releases t (Elements (Of element)) r b)
  buffer_rule t env (ReleaseStringChars r b) = ap not (releases t Chars r b)
  buffer_rule t env (ReleaseStringUTFChars r b) = ap not (releases t UtfChars r b)
  buffer_rule t env (ReleasePrimitiveArrayCritical r b mode) = ap not (releases t ArrayCritical r b)
  buffer_rule t env (ReleaseStringCritical r b) = ap not (releases t StringCritical r b)
  buffer_rule t env (BufferRead b index) = rw (same.lent b) refl
  buffer_rule t env (BufferWrite b index value) = rw (same.lent b) refl
  buffer_rule t env call = refl

  item_same : (info : Info) (family : Family) → item_type s p info family ≡ item_type s q info family
  item_same info (Elements (Of element)) = refl
  item_same info ArrayCritical = ap element_of (same.classes info.object.0)
  item_same info call = refl

  items : (index v : ℤ) (found : Option Info) → is_wrong_item s p index v found ≡ is_wrong_item s q index v found
  items index v None = refl
  items index v (Some info) = ap (λ (type : Option Primitive). not (is_place index info.length && is_value_of_type type v)) (item_same info info.family)

  argument_rule : (t : ℕ) (env : Option EnvId) (call : BuffersCall) → broken BadArgument s p t env (Buffers call) ≡ broken BadArgument s q t env (Buffers call)
  argument_rule t env (BufferRead b index) = ap (is_outside_of index) (same.lent b)
  argument_rule t env (BufferWrite b index value) = ap (is_wrong_item s p index value) (same.lent b) ∙ items index value (buffer_named q b)
  argument_rule t env call = refl

  pins : (t : ℕ) (env : Option EnvId) (call : RefsCall) → broken Pinned s p t env (Refs call) ≡ broken Pinned s q t env (Refs call)
  pins t env (DeleteGlobalRef r) = same_pinned p.buffers q.buffers r same_lent
  pins t env (DeleteWeakGlobalRef r) = same_pinned p.buffers q.buffers r same_lent
  pins t env call = refl

  -- ---- monitors, frames, links

  owned_same : (t : ℕ) (found : Option ℕ) → is_not_owned p t found ≡ is_not_owned q t found
  owned_same t None = refl
  owned_same t (Some o) = ap (λ (owner : Option ℕ). not (is_by t owner)) (same.owners o)

  owns : (t : ℕ) (env : Option EnvId) (call : MonitorsCall) → broken NotOwner s p t env (Monitors call) ≡ broken NotOwner s q t env (Monitors call)
  owns t env (MonitorEnter r) = refl
  owns t env (MonitorExit r) = ap (is_not_owned p t) (object_same t r) ∙ owned_same t (object_named q t r)

  vm_frames : (t : ℕ) (env : Option EnvId) (call : VmCall) → broken BadFrame s p t env (Vm call) ≡ broken BadFrame s q t env (Vm call)
  vm_frames t env DetachCurrentThread = ap (λ (n : ℕ). nat_lt 0 n) (same.natives t)
  vm_frames t env (NativeLeave kept) = ap (λ (n : ℕ). n == 0) (same.natives t)
  vm_frames t env call = refl

  frames : (t : ℕ) (env : Option EnvId) (call : FramesCall) → broken BadFrame s p t env (Frames call) ≡ broken BadFrame s q t env (Frames call)
  frames t env (PushLocalFrame capacity) = refl
  frames t env (PopLocalFrame r) = ap (λ (n : ℕ). n == 0) (same.frames t)
  frames t env (EnsureLocalCapacity capacity) = refl

  linked_same : (class native : Option ℕ) → is_linked p class native ≡ is_linked q class native
  linked_same None native = refl
  linked_same (Some class) None = refl
  linked_same (Some class) (Some native) = same.linked class native

  links : (t : ℕ) (env : Option EnvId) (call : VmCall) → broken NotLinked s p t env (Vm call) ≡ broken NotLinked s q t env (Vm call)
  links t env (NativeEnter class method signature) = ap not (linked_same (class_named s class) (native_meant s (class_named s class) method signature))
  links t env call = refl

  -- ---- each rule

  session_rule : (t : ℕ) (env : Option EnvId) (call : Call) → broken Detached s p t env call ≡ broken Detached s q t env call
  session_rule t None call = refl
  session_rule t (Some env) call = ap (λ (x : Option ℕ). not ((env.tid.0 == t) && is_session x env.session)) (same.present t)

  access_rule : (t : ℕ) (env : Option EnvId) (call : VmCall) → broken NoNativeAccess s p t env (Vm call) ≡ broken NoNativeAccess s q t env (Vm call)
  access_rule t env (RegisterNatives class method signature) = rw (object_same t class) refl
  access_rule t env call = refl

  rule_same : (t : ℕ) (env : Option EnvId) (call : Call) (rule : Rule) → broken rule s p t env call ≡ broken rule s q t env call
  rule_same t env call WrongThread = refl
  rule_same t env call Detached = session_rule t env call
  rule_same t env call InCritical = ap (λ (b : Bool). not (passes_critical (fun_of call)) && b) (same_critical p.buffers q.buffers t same_lent)
  rule_same t env call Pending = ap (λ (x : Option ℕ). not (passes_pending (fun_of call)) && is_some x) (same.raised t)
  rule_same t env call ForeignLocal = refl
  rule_same t env call DeadReference = any_same _ _ (operands call) (λ (x : Operand). ap is_nothing (names_same t x.reference))
  rule_same t env call WrongRefKind = refl
  rule_same t env call NullReference =
      any_same _ _ (operands call) (λ (x : Operand). ap (λ (named : Named). not x.nullable && is_null named) (names_same t x.reference))
  rule_same t env call WrongType = any_same _ _ (operands call) (λ (x : Operand). wrong_at t x)
  rule_same t env (Objects call) BadField = fields t env call
  rule_same t env (Buffers call) BadBuffer = buffer_rule t env call
  rule_same t env (Buffers call) BadArgument = argument_rule t env call
  rule_same t env (Refs call) Pinned = pins t env call
  rule_same t env (Monitors call) NotOwner = owns t env call
  rule_same t env (Vm call) BadFrame = vm_frames t env call
  rule_same t env (Frames call) BadFrame = frames t env call
  rule_same t env (Vm call) NoNativeAccess = access_rule t env call
  rule_same t env (Vm call) NotLinked = links t env call
  -- no other call reads a table there
  rule_same t env call rule = refl

pub alike_is_judged_alike : AlikeIsJudgedAlike
alike_is_judged_alike s p q t env call same = find_same _ _ rules_in_order (rule_same s p q same t env call)
