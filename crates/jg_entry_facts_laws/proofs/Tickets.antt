-- What the ticket of a call's question tells, with what the machine says, is the call's facts.
use Rattle.std.proofs.Common.{ℕ, ℤ, pos, ◌≡◌, ◌∙◌, Bool, true, false, List, [], ◌∷◌, ◌++◌, map, length, Option, Some, None, refl, ap, sym, subst}
use Rattle.std.specs.Prelude.{if◌then◌else◌, option_and_then}
use Rattle.std.specs.Option.{option_map, is_some}
use Rattle.std.proofs.lemmas.List.{append_assoc}
use Rattle.jg_words.specs.declared.thread.Tid.{Tid}
use Rattle.jg_words.specs.declared.thread.EnvId.{EnvId}
use Rattle.jg_words.specs.declared.object.ObjId.{ObjId}
use Rattle.jg_words.specs.declared.object.FieldId.{FieldId}
use Rattle.jg_words.specs.declared.object.ItemType.TheVariants.{Of}
use Rattle.jg_words.specs.declared.reference.Ref.{Ref}
use Rattle.jg_words.specs.declared.reference.Ref.TheVariants.{Null, To}
use Rattle.jg_words.specs.declared.reference.Kind.{Kind}
use Rattle.jg_words.specs.declared.reference.Kind.TheVariants.{Local, Global, Weak}
use Rattle.jg_words.specs.declared.buffer.BufId.{BufId}
use Rattle.jg_words.specs.declared.rule.Rule.{Rule}
use Rattle.jg_words.specs.declared.value.Value.TheVariants.{Ok as DoneAnswer}
use Rattle.jg_words.specs.declared.value.Thrown.{Thrown}
use Rattle.jg_words.specs.declared.value.Thrown.TheVariants.{ArrayIndexOutOfBounds, StringIndexOutOfBounds, NoClassDefFound, NoSuchField, NoSuchMethod}
use Rattle.jg_words.specs.declared.entry.Reply.{Reply}
use Rattle.jg_words.specs.declared.entry.Outcome.{Outcome}
use Rattle.jg_words.specs.declared.entry.Outcome.TheVariants.{Passed as HasPassed}
use Rattle.jg_words.specs.Entry.{Entry}
use Rattle.jg_words.specs.declared.call.Call.{Call}
use Rattle.jg_words.specs.declared.call.Call.TheVariants.{Vm, Refs, Frames, Exceptions, Objects, Strings, Arrays, Monitors, Buffers}
use Rattle.jg_words.specs.declared.call.vm.VmCall.{VmCall}
use Rattle.jg_words.specs.declared.call.vm.VmCall.TheVariants.{AttachCurrentThread, DetachCurrentThread, GetEnv, NativeEnter, NativeLeave, LoadLibrary, RegisterNatives, UnregisterNatives, Collect}
use Rattle.jg_words.specs.declared.call.refs.RefsCall.{RefsCall}
use Rattle.jg_words.specs.declared.call.refs.RefsCall.TheVariants.{NewLocalRef, NewGlobalRef, NewWeakGlobalRef, DeleteLocalRef, DeleteGlobalRef, DeleteWeakGlobalRef}
use Rattle.jg_words.specs.declared.call.frames.FramesCall.{FramesCall}
use Rattle.jg_words.specs.declared.call.frames.FramesCall.TheVariants.{PushLocalFrame, PopLocalFrame, EnsureLocalCapacity}
use Rattle.jg_words.specs.declared.call.exceptions.ExceptionsCall.{ExceptionsCall}
use Rattle.jg_words.specs.declared.call.exceptions.ExceptionsCall.TheVariants.{Throw, ExceptionOccurred, ExceptionCheck}
use Rattle.jg_words.specs.declared.call.objects.ObjectsCall.{ObjectsCall}
use Rattle.jg_words.specs.declared.call.objects.ObjectsCall.TheVariants.{FindClass, GetObjectClass, AllocObject, GetFieldID, GetObjectField}
use Rattle.jg_words.specs.declared.call.strings.StringsCall.{StringsCall}
use Rattle.jg_words.specs.declared.call.strings.StringsCall.TheVariants.{NewString, NewStringUTF, GetStringRegion}
use Rattle.jg_words.specs.declared.call.arrays.ArraysCall.{ArraysCall}
use Rattle.jg_words.specs.declared.call.arrays.ArraysCall.TheVariants.{NewArray, GetArrayLength, GetArrayRegion, SetArrayRegion, NewObjectArray, GetObjectArrayElement, SetObjectArrayElement}
use Rattle.jg_words.specs.declared.call.monitors.MonitorsCall.{MonitorsCall}
use Rattle.jg_words.specs.declared.call.monitors.MonitorsCall.TheVariants.{MonitorEnter, MonitorExit}
use Rattle.jg_words.specs.declared.call.buffers.BuffersCall.{BuffersCall}
use Rattle.jg_words.specs.declared.call.buffers.BuffersCall.TheVariants.{GetArrayElements, ReleaseArrayElements, GetStringChars, ReleaseStringChars, GetStringUTFChars, ReleaseStringUTFChars, GetPrimitiveArrayCritical, ReleasePrimitiveArrayCritical, GetStringCritical, ReleaseStringCritical, BufferRead, BufferWrite}
use Rattle.jg_words.specs.Call.{fun_of}
use Rattle.jg_policy.specs.Stated.{StatedSetup}
use Rattle.jg_policy.specs.Classes.{class_named}
use Rattle.jg_table_threads.specs.History as threads
use Rattle.jg_table_buffers.specs.History as buffers
use Rattle.jg_table_buffers.specs.declared.info.Info.{Info}
use Rattle.jg_table_buffers.specs.declared.family.Family.{Family}
use Rattle.jg_table_buffers.specs.declared.family.Family.TheVariants.{Elements, Chars, UtfChars, ArrayCritical, StringCritical}
use Rattle.jg_table_monitors.specs.History as monitors
use Rattle.jg_table_monitors.specs.declared.entering.Entering.{Entering}
use Rattle.jg_table_monitors.specs.declared.entering.Entering.TheVariants.{Entered as HasEntered, Busy as KeptOut}
use Rattle.jg_table_heap.specs.History as heap
use Rattle.jg_table_heap.specs.Reading.{natural}
use Rattle.jg_table_heap.specs.Spelling.{spelt}
use Rattle.jg_table_heap.specs.declared.object.Slot.TheVariants.{Number}
use Rattle.jg_rules.specs.declared.answer.Answer.{Answer}
use Rattle.jg_rules.specs.Parts.{Parts}
use Rattle.jg_rules.specs.Names.{names, object_in, object_named, the_object, pending, class_by, class_meant, native_meant, field_meant, session, class_of, target_in, slot_of, object_count, length_of, units_of, items_of}
use Rattle.jg_rules.specs.Buffers.{is_commit, writes_back, buffer_named}
use Rattle.jg_rules.specs.NativeUse.{native_class, home_of}
use Rattle.jg_rules.specs.Effects.{parts, closed, linking, unlinking, wrote_copy, wrote_pinned, wrote_back, objects_heap, strings_heap, arrays_heap, value_heap, is_effective, if_effective, warning}
use Rattle.jg_rules.specs.Answers.{answer, unnoticed, handed, thrown, saying, plain, present_env, unless_pending, registered, entered, class_found, field_found, field_value, or_outside, is_outside, region}
use Rattle.jg_rules.specs.Legal.{entry_by}
use Rattle.jg_rules.specs.Rules.{verdict}
use Rattle.jg_rules.specs.Unbroken.{Unbroken}
use Rattle.jg_rules.proofs.Kept.{unbroken}
use Rattle.jg_laws.proofs.HandsHere.{the_named}
use Rattle.jg_rows.specs.Columns.{Columns}
use Rattle.jg_judge.specs.declared.argument.Argument.{Argument}
use Rattle.jg_judge.specs.Written.{arguments_of, row_for, written_bounds}
use Rattle.jg_core.specs.declared.fact.Fact.{Fact}
use Rattle.jg_core.specs.declared.fact.Fact.TheVariants.{Enter, Leave, Push, Pop, Ensure, Raise, Calm, Hand, Lend, Back, Own, Free}
use Rattle.jg_core.specs.declared.says.Says.{Says}
use Rattle.jg_core.specs.declared.says.Says.TheVariants.{Done, Items, Threw}
use Rattle.jg_core.specs.Asking.{by_verdict}
use Rattle.jg_core.specs.Expected.{expected_of}
use Rattle.jg_core.specs.Facts.{parts_of, is_attached}
use Rattle.jg_core.specs.Implied as implied
use Rattle.jg_core.specs.Implied.{told_on, doing, done_only, handing, lending, of_object, attaching, detaching, registering, losing, giving_back}
use Rattle.jg_core.proofs.Tied.{told_as_calls}
use Rattle.jg_entry_facts_laws.specs.Alike.{ReadAlike}
use Rattle.jg_entry_facts_laws.specs.Entries.{begin_facts, end_facts, lost_facts, pending_facts, object_facts, buffer_facts, link_facts, own_facts, value_facts, answer_facts, outcome_facts, facts_of}
use Rattle.jg_entry_facts_laws.specs.Laws.{TicketsTellFacts}
use Rattle.jg_entry_facts_laws.specs.Tickets.{said, says_of, made_facts, call_follows}
use Rattle.jg_entry_facts_laws.proofs.Judged.{names_same}
use Rattle.jg_entry_facts_laws.proofs.Told.{region_met}
use Rattle.jg_entry_facts_laws.proofs.Histories.{facts_read_alike, asked_alike}

-- ---- what reads the same implies the same

attached_by : (b : Bool) (n : ℕ) → is_some (if b then Some n else None) ≡ b
attached_by true n = refl
attached_by false n = refl

module _ (s : StatedSetup) (p q : Parts) (same : ReadAlike s p q) where
  attached_same : (t : ℕ) → is_attached p t ≡ is_attached q t
  attached_same t =
      sym (attached_by (is_attached p t) (threads.sessions (threads.acts_of t p.threads)))
      ∙ (ap is_some (same.present t) ∙ attached_by (is_attached q t) (threads.sessions (threads.acts_of t q.threads)))

  object_same : (t : ℕ) (r : Ref) → object_named p t r ≡ object_named q t r
  object_same t r = ap object_in (names_same s p q same t r)

  class_same : (t : ℕ) (r : Ref) → class_meant s p t r ≡ class_meant s q t r
  class_same t r = ap (option_and_then (class_by s)) (object_same t r)

  implied_same : (t : Tid) (call : Call) (says : Says) → implied.implied s p t call says ≡ implied.implied s q t call says
  implied_same t (Vm AttachCurrentThread) says = ap (λ b. done_only (attaching b t) says) (attached_same t.0)
  implied_same t (Vm DetachCurrentThread) says = ap (λ b. done_only (detaching b t) says) (attached_same t.0)
  implied_same t (Vm (RegisterNatives class method signature)) says =
      ap (λ c. doing t (Some (registering s c method signature)) says) (class_same t.0 class)
  implied_same t (Vm (UnregisterNatives class)) says = ap (λ c. doing t (Some (implied.unlinking c)) says) (class_same t.0 class)
  implied_same t (Exceptions (Throw r)) says = ap (λ o. doing t (of_object (λ x. Raise t x) o) says) (object_same t.0 r)
  implied_same t (Monitors (MonitorEnter r)) says = ap (λ o. doing t (of_object (λ x. Own t x) o) says) (object_same t.0 r)
  implied_same t (Monitors (MonitorExit r)) says = ap (λ o. doing t (of_object (λ x. Free t x) o) says) (object_same t.0 r)
  implied_same t (Buffers (GetArrayElements element r)) says = ap (λ o. lending t (Elements (Of element)) o Null says) (object_same t.0 r)
  implied_same t (Buffers (GetStringChars r)) says = ap (λ o. lending t Chars o Null says) (object_same t.0 r)
  implied_same t (Buffers (GetStringUTFChars r)) says = ap (λ o. lending t UtfChars o Null says) (object_same t.0 r)
  implied_same t (Buffers (GetPrimitiveArrayCritical r)) says = ap (λ o. lending t ArrayCritical o r says) (object_same t.0 r)
  implied_same t (Buffers (GetStringCritical r)) says = ap (λ o. lending t StringCritical o r says) (object_same t.0 r)
  -- no other call reads a table there
  implied_same t call says = refl

-- ---- what is told, but for a warning, where so much is implied

record Ties (implies : Option (Option Fact)) (all behind made : List Fact) : Type 0 where
  fact : Option Fact
  is : implies ≡ Some fact
  facts : all ≡ behind ++ told_on fact made

-- where the machine says something
abbrev TiesIf : (Says → Option (Option Fact)) → List Fact → List Fact → List Fact → Option Says → Type 0
TiesIf implies all behind made None = Unit {0}
TiesIf implies all behind made (Some says) = Ties (implies says) all behind made

-- of an answer, by what the call does of its own and what it makes
abbrev Answers : Tid → (Says → Option (Option Fact)) → List Fact → List heap.Event → Answer → Type 0
Answers t implies own made a =
    TiesIf implies (value_facts t a.reply.value a.object ++ if_effective (is_effective a.reply.value) own) []
    (object_facts (value_heap a.reply.value ++ if_effective (is_effective a.reply.value) made)) (said 0 a.reply.value a.object)

hands : (p : Parts) (t : Tid) (kind : Kind) (found : Option ℕ) (made : List heap.Event)
    → Answers t (handing t kind) (object_facts made) made (handed p t kind found)
hands p t kind None made = record { fact = None; is = refl; facts = refl }
hands p t kind (Some o) made = record { fact = Some (Hand t kind (record { 0 = o })); is = refl; facts = refl }

throws : (s : StatedSetup) (p : Parts) (t : Tid) (implies : Says → Option (Option Fact)) (own : List Fact) (made : List heap.Event) (kind : Thrown)
    → ((o : ObjId) → implies (Threw o) ≡ Some (Some (Raise t o)))
    → Answers t implies own made (thrown s p kind)
throws s p t implies own made kind raises =
    let o : ObjId = record { 0 = object_count s p } in
    record { fact = Some (Raise t o); is = raises o; facts = refl }

outside : (s : StatedSetup) (p : Parts) (t : Tid) (implies : Says → Option (Option Fact)) (own : List Fact) (made : List heap.Event) (kind : Thrown)
    (b : Bool) (a : Answer) → ((o : ObjId) → implies (Threw o) ≡ Some (Some (Raise t o)))
    → Answers t implies own made a
    → Answers t implies own made (or_outside s p kind b a)
outside s p t implies own made kind true a raises inside = throws s p t implies own made kind raises
outside s p t implies own made kind false a raises inside = inside

classes : (s : StatedSetup) (p : Parts) (t : Tid) (class : Option ℕ) → Answers t (handing t Local) [] [] (class_found s p t class)
classes s p t None = throws s p t (handing t Local) [] [] NoClassDefFound (λ o. refl)
classes s p t (Some class) = hands p t Local (Some class) []

fields : (s : StatedSetup) (p : Parts) (t : Tid) (found : Option FieldId) → Answers t (doing t (Some None)) [] [] (field_found s p found)
fields s p t None = throws s p t (doing t (Some None)) [] [] NoSuchField (λ o. refl)
fields s p t (Some field) = record { fact = None; is = refl; facts = refl }

linked : (class native : Option ℕ) → link_facts (linking class native) ≡ told_on (implied.linking class native) []
linked None native = refl
linked (Some class) None = refl
linked (Some class) (Some native) = refl

registers : (s : StatedSetup) (p : Parts) (t : Tid) (class native : Option ℕ)
    → Answers t (doing t (Some (implied.linking class native))) (link_facts (linking class native)) [] (registered s p class native)
registers s p t class None = throws s p t (doing t (Some (implied.linking class None))) (link_facts (linking class None)) [] NoSuchMethod (λ o. refl)
registers s p t class (Some native) = record { fact = implied.linking class (Some native); is = refl; facts = linked class (Some native) }

unlinked : (class : Option ℕ) → link_facts (unlinking class) ≡ told_on (implied.unlinking class) []
unlinked None = refl
unlinked (Some class) = refl

begins : (b : Bool) (t : Tid) → begin_facts b t ≡ told_on (attaching b t) []
begins true t = refl
begins false t = refl

ends : (b : Bool) (t : Tid) → end_facts b t ≡ told_on (detaching b t) []
ends true t = refl
ends false t = refl

lost : (r : Ref) → lost_facts r ≡ told_on (losing r) []
lost Null = refl
lost (To kind maker n) = refl

present : (t : Tid) (found : Option ℕ) → Answers t (done_only None) [] [] (plain (present_env t found))
present t None = record { fact = None; is = refl; facts = refl }
present t (Some n) = record { fact = None; is = refl; facts = refl }

-- a native method that begins is handed its class behind that
enters : (p : Parts) (t : Tid) (found : Option ℕ)
    → (let a : Answer = handed p t Local found in
    Ties (Some (Some (Enter t))) (value_facts t a.reply.value a.object ++ if_effective (is_effective a.reply.value) (Enter t ∷ []))
    (value_facts t a.reply.value a.object) (object_facts (value_heap a.reply.value ++ if_effective (is_effective a.reply.value) [])))
enters p t None = record { fact = Some (Enter t); is = refl; facts = refl }
enters p t (Some o) = record { fact = Some (Enter t); is = refl; facts = refl }

-- what is kept comes with the leaving and the popping
module _ (p : Parts) (t : Tid) where
  leaves : (raised found : Option ℕ)
      → (let a : Answer = unless_pending raised (handed p t Local found) in
      TiesIf (λ says. option_map (λ kept. Some (Leave t kept)) (implied.kept_by says))
      (if_effective (is_effective a.reply.value) (pending_facts t raised ++ Leave t a.object ∷ [])) (pending_facts t raised)
      (object_facts (value_heap a.reply.value ++ if_effective (is_effective a.reply.value) [])) (said 0 a.reply.value a.object))
  leaves None None = record { fact = Some (Leave t None); is = refl; facts = refl }
  leaves None (Some o) = record { fact = Some (Leave t (Some (record { 0 = o }))); is = refl; facts = refl }
  leaves (Some x) found = record { fact = Some (Leave t None); is = refl; facts = refl }

  pops : (found : Option ℕ)
      → (let a : Answer = handed p t Local found in
      TiesIf (λ says. option_map (λ kept. Some (Pop t kept)) (implied.kept_by says))
      (if_effective (is_effective a.reply.value) (Pop t a.object ∷ [])) []
      (object_facts (value_heap a.reply.value ++ if_effective (is_effective a.reply.value) [])) (said 0 a.reply.value a.object))
  pops None = record { fact = Some (Pop t None); is = refl; facts = refl }
  pops (Some o) = record { fact = Some (Pop t (Some (record { 0 = o }))); is = refl; facts = refl }

-- of operands that name an object
raises : (t : Tid) (o : ℕ) (found : Option ℕ) → found ≡ Some o
    → Answers t (doing t (of_object (λ x. Raise t x) found)) [] [] (saying DoneAnswer (option_map (λ o. record { 0 = o }) found))
raises t o None is = absurd (let no : ⊥ = cc in no)
raises t o (Some x) is = record { fact = Some (Raise t (record { 0 = x })); is = refl; facts = refl }

owns : (t : Tid) (o : ℕ) (found : Option ℕ) (e : Entering) → found ≡ Some o
    → Answers t (doing t (of_object (λ x. Own t x) found)) (Own t (record { 0 = o }) ∷ []) [] (plain (entered e))
owns t o found HasEntered is =
    record { fact = Some (Own t (record { 0 = o })); is = ap (λ f. doing t (of_object (λ x. Own t x) f) Done) is; facts = refl }
owns t o found KeptOut is = tt

lends : (t : Tid) (family : Family) (via : Ref) (n o : ℕ) (found : Option ℕ) → found ≡ Some o
    → Ties (lending t family found via (Items n)) (Lend t family (record { 0 = o }) via n ∷ []) [] []
lends t family via n o found is =
    record { fact = Some (Lend t family (record { 0 = o }) via n); is = ap (λ f. lending t family f via (Items n)) is; facts = refl }

-- ---- buffers that are given back, and written

closes : (t : Tid) (b : BufId) (commits : Bool) → buffer_facts t (if commits then [] else closed b) ≡ told_on (if commits then None else Some (Back b)) []
closes t b true = refl
closes t b false = refl

back_met : (writes : Bool) (items : List ℤ) (found : Option Info) → object_facts (if writes then wrote_back items found else []) ≡ []
back_met true items None = refl
back_met true items (Some info) = region_met info.object.0 0 items
back_met false items found = refl

copy_tells : (t : Tid) (b : BufId) (i : ℕ) (v : ℤ) (found : Option Info) → buffer_facts t (wrote_copy b i v found) ≡ []
copy_tells t b i v None = refl
copy_tells t b i v (Some info) = by_pin (buffers.is_critical info.family)
  where
    by_pin : (pins : Bool) → buffer_facts t (if pins then [] else buffers.Wrote b.maker.0 b.n i v ∷ []) ≡ []
    by_pin true = refl
    by_pin false = refl

pinned_met : (i : ℕ) (v : ℤ) (found : Option Info) → object_facts (wrote_pinned i v found) ≡ []
pinned_met i v None = refl
pinned_met i v (Some info) = by_pin (buffers.is_critical info.family)
  where
    by_pin : (pins : Bool) → object_facts (if pins then heap.Wrote info.object.0 i (Number v) ∷ [] else []) ≡ []
    by_pin true = refl
    by_pin false = refl

-- ---- each call

-- the facts of a call with this answer, but for a warning
abbrev Tied : StatedSetup → Parts → Tid → Call → Answer → Type 0
Tied s q t call a =
    TiesIf (implied.implied s q t call)
    (answer_facts call t a.reply.value a.object ++ if_effective (is_effective a.reply.value) (own_facts s q t a.object call))
    (call_follows q t call a.reply.value a.object) (made_facts s q t call a.reply.value) (says_of s q t call a.reply.value a.object)

module _ (s : StatedSetup) (q : Parts) (t : Tid) (env : Option EnvId) where
  vm_tied : (call : VmCall) → Tied s q t (Vm call) (unnoticed s q t (Vm call))
  vm_tied AttachCurrentThread = record { fact = attaching (is_attached q t.0) t; is = refl; facts = begins (is_attached q t.0) t }
  vm_tied DetachCurrentThread = record { fact = detaching (is_attached q t.0) t; is = refl; facts = ends (is_attached q t.0) t }
  vm_tied GetEnv = present t (session q t.0)
  vm_tied (NativeEnter class method signature) = enters q t (class_named s class)
  vm_tied (NativeLeave r) = leaves q t (pending q t.0) (object_named q t.0 r)
  vm_tied (LoadLibrary class library) = record { fact = None; is = refl; facts = refl }
  vm_tied (RegisterNatives class method signature) =
      registers s q t (class_meant s q t.0 class) (native_meant s (class_meant s q t.0 class) method signature)
  vm_tied (UnregisterNatives class) =
      record { fact = implied.unlinking (class_meant s q t.0 class); is = refl; facts = unlinked (class_meant s q t.0 class) }
  vm_tied Collect = tt

  refs_tied : (call : RefsCall) → Tied s q t (Refs call) (unnoticed s q t (Refs call))
  refs_tied (NewLocalRef r) = hands q t Local (object_named q t.0 r) []
  refs_tied (NewGlobalRef r) = hands q t Global (object_named q t.0 r) []
  refs_tied (NewWeakGlobalRef r) = hands q t Weak (object_named q t.0 r) []
  refs_tied (DeleteLocalRef r) = record { fact = losing r; is = refl; facts = lost r }
  refs_tied (DeleteGlobalRef r) = record { fact = losing r; is = refl; facts = lost r }
  refs_tied (DeleteWeakGlobalRef r) = record { fact = losing r; is = refl; facts = lost r }
  refs_tied call = record { fact = None; is = refl; facts = refl }

  frames_tied : (call : FramesCall) → Tied s q t (Frames call) (unnoticed s q t (Frames call))
  frames_tied (PushLocalFrame capacity) = record { fact = Some (Push t (natural capacity)); is = refl; facts = refl }
  frames_tied (PopLocalFrame r) = pops q t (object_named q t.0 r)
  frames_tied (EnsureLocalCapacity capacity) = record { fact = Some (Ensure t (natural capacity)); is = refl; facts = refl }

  exceptions_tied : (call : ExceptionsCall) → Unbroken s q t.0 env (Exceptions call) → Tied s q t (Exceptions call) (unnoticed s q t (Exceptions call))
  exceptions_tied (Throw r) u = raises t (the_object q t.0 r) (object_named q t.0 r) (the_named (names q t.0 r) false false u.alive u.not_null)
  exceptions_tied ExceptionOccurred u = hands q t Local (pending q t.0) []
  exceptions_tied ExceptionCheck u = record { fact = None; is = refl; facts = refl }
  exceptions_tied call u = record { fact = Some (Calm t); is = refl; facts = refl }

  objects_tied : (call : ObjectsCall) → Tied s q t (Objects call) (unnoticed s q t (Objects call))
  objects_tied (FindClass name) = classes s q t (class_named s name)
  objects_tied (GetObjectClass r) = hands q t Local (Some (class_of s q (the_object q t.0 r))) []
  objects_tied (AllocObject class) = hands q t Local (Some (object_count s q)) (objects_heap s q t.0 (AllocObject class))
  objects_tied (GetFieldID class field signature) = fields s q t (field_meant s (class_meant s q t.0 class) field signature)
  objects_tied (GetObjectField r field) = hands q t Local (target_in (field_value s q (the_object q t.0 r) field)) []
  objects_tied call = record { fact = None; is = refl; facts = refl }

  strings_tied : (call : StringsCall) → Tied s q t (Strings call) (unnoticed s q t (Strings call))
  strings_tied (NewString units) = hands q t Local (Some (object_count s q)) (strings_heap (NewString units))
  strings_tied (NewStringUTF bytes) = hands q t Local (Some (object_count s q)) (strings_heap (NewStringUTF bytes))
  strings_tied (GetStringRegion r start n) =
      let o : ℕ = the_object q t.0 r in
      outside s q t (doing t (Some None)) [] [] StringIndexOutOfBounds (is_outside start n (length (units_of s q o)))
      (region (map pos (units_of s q o)) start n) (λ x. refl) (record { fact = None; is = refl; facts = refl })
  strings_tied call = record { fact = None; is = refl; facts = refl }

  arrays_tied : (call : ArraysCall) → Tied s q t (Arrays call) (unnoticed s q t (Arrays call))
  arrays_tied (NewArray element n) = hands q t Local (Some (object_count s q)) (arrays_heap q t.0 (NewArray element n))
  arrays_tied (GetArrayLength r) = record { fact = None; is = refl; facts = refl }
  arrays_tied (GetArrayRegion element r start n) =
      let o : ℕ = the_object q t.0 r in
      outside s q t (doing t (Some None)) [] [] ArrayIndexOutOfBounds (is_outside start n (length_of s q o))
      (region (items_of s q o) start n) (λ x. refl) (record { fact = None; is = refl; facts = refl })
  arrays_tied (SetArrayRegion element r start values) =
      let o : ℕ = the_object q t.0 r in
      let writes : List heap.Event = arrays_heap q t.0 (SetArrayRegion element r start values) in
      outside s q t (doing t (Some None)) (object_facts writes) writes ArrayIndexOutOfBounds (is_outside start (pos (length values)) (length_of s q o))
      (plain DoneAnswer) (λ x. refl) (record { fact = None; is = refl; facts = refl })
  arrays_tied (NewObjectArray n class fill) = hands q t Local (Some (object_count s q)) (arrays_heap q t.0 (NewObjectArray n class fill))
  arrays_tied (GetObjectArrayElement r index) =
      let o : ℕ = the_object q t.0 r in
      let found : Option ℕ = target_in (slot_of s q o (natural index)) in
      outside s q t (handing t Local) [] [] ArrayIndexOutOfBounds (is_outside index (pos 1) (length_of s q o)) (handed q t Local found) (λ x. refl)
      (hands q t Local found [])
  arrays_tied (SetObjectArrayElement r index value) =
      let o : ℕ = the_object q t.0 r in
      let writes : List heap.Event = arrays_heap q t.0 (SetObjectArrayElement r index value) in
      outside s q t (doing t (Some None)) (object_facts writes) writes ArrayIndexOutOfBounds (is_outside index (pos 1) (length_of s q o))
      (plain DoneAnswer) (λ x. refl) (record { fact = None; is = refl; facts = refl })

  monitors_tied : (call : MonitorsCall) → Unbroken s q t.0 env (Monitors call) → Tied s q t (Monitors call) (unnoticed s q t (Monitors call))
  monitors_tied (MonitorEnter r) u =
      let o : ℕ = the_object q t.0 r in
      owns t o (object_named q t.0 r) (monitors.entering t.0 (monitors.owner q.monitors o)) (the_named (names q t.0 r) false false u.alive u.not_null)
  monitors_tied (MonitorExit r) u = record {
    fact = Some (Free t (record { 0 = the_object q t.0 r }));
    is = ap (λ f. doing t (of_object (λ x. Free t x) f) Done) (the_named (names q t.0 r) false false u.alive u.not_null);
    facts = refl;
  }

  -- a buffer of an operand's object
  lent_tied : (family : Family) (r via : Ref) (n : ℕ) → object_named q t.0 r ≡ Some (the_object q t.0 r)
      → Ties (lending t family (object_named q t.0 r) via (Items n)) (Lend t family (record { 0 = the_object q t.0 r }) via n ∷ []) [] []
  lent_tied family r via n is = lends t family via n (the_object q t.0 r) (object_named q t.0 r) is

  buffers_tied : (call : BuffersCall) → Unbroken s q t.0 env (Buffers call) → Tied s q t (Buffers call) (unnoticed s q t (Buffers call))
  buffers_tied (GetArrayElements element r) u =
      lent_tied (Elements (Of element)) r Null (length (items_of s q (the_object q t.0 r))) (the_named (names q t.0 r) false false u.alive u.not_null)
  buffers_tied (ReleaseArrayElements element r b mode) u = record {
    fact = giving_back mode b;
    is = refl;
    facts = closes t b (is_commit mode)
        ∙ ap (told_on (giving_back mode b)) (sym (back_met (writes_back mode) (buffers.contents q.buffers b.maker.0 b.n) (buffer_named q b)));
  }
  buffers_tied (GetStringChars r) u =
      lent_tied Chars r Null (length (map pos (units_of s q (the_object q t.0 r)))) (the_named (names q t.0 r) false false u.alive u.not_null)
  buffers_tied (ReleaseStringChars r b) u = record { fact = Some (Back b); is = refl; facts = refl }
  buffers_tied (GetStringUTFChars r) u =
      lent_tied UtfChars r Null (length (map pos (spelt (units_of s q (the_object q t.0 r))))) (the_named (names q t.0 r) false false u.alive u.not_null)
  buffers_tied (ReleaseStringUTFChars r b) u = record { fact = Some (Back b); is = refl; facts = refl }
  buffers_tied (GetPrimitiveArrayCritical r) u =
      lent_tied ArrayCritical r r (length_of s q (the_object q t.0 r)) (the_named (names q t.0 r) false false u.alive u.not_null)
  buffers_tied (ReleasePrimitiveArrayCritical r b mode) u = record { fact = giving_back mode b; is = refl; facts = closes t b (is_commit mode) }
  buffers_tied (GetStringCritical r) u =
      lent_tied StringCritical r r (length (units_of s q (the_object q t.0 r))) (the_named (names q t.0 r) false false u.alive u.not_null)
  buffers_tied (ReleaseStringCritical r b) u = record { fact = Some (Back b); is = refl; facts = refl }
  buffers_tied (BufferRead b index) u = record { fact = None; is = refl; facts = refl }
  buffers_tied (BufferWrite b index value) u = record {
    fact = None;
    is = refl;
    facts = copy_tells t b (natural index) value (buffer_named q b) ∙ sym (pinned_met (natural index) value (buffer_named q b));
  }

  tied : (call : Call) → Unbroken s q t.0 env call → Tied s q t call (unnoticed s q t call)
  tied (Vm call) u = vm_tied call
  tied (Refs call) u = refs_tied call
  tied (Frames call) u = frames_tied call
  tied (Exceptions call) u = exceptions_tied call u
  tied (Objects call) u = objects_tied call
  tied (Strings call) u = strings_tied call
  tied (Arrays call) u = arrays_tied call
  tied (Monitors call) u = monitors_tied call u
  tied (Buffers call) u = buffers_tied call u

-- ---- each entry

-- an entry that passed is that of a call that breaks no rule
record IsAnswered (v : Option Rule) (a : Answer) (y : Entry) (reply : Reply) : Type 0 where
  unbroken : v ≡ None
  replied : reply ≡ a.reply
  handed : y.object ≡ a.object

answered_by : (v : Option Rule) (a : Answer) (t : Tid) (env : Option EnvId) (call : Call) (y : Entry) (reply : Reply)
    → y ≡ entry_by v a t env call → y.outcome ≡ HasPassed reply → IsAnswered v a y reply
answered_by (Some rule) a t env call y reply is passed = absurd (let no : ⊥ = cc in no)
answered_by None a t env call y reply is passed = record { unbroken = refl; replied = cc; handed = cc }

with_reply : (s : StatedSetup) (q : Parts) (t : Tid) (call : Call) (a : Answer) (reply : Reply) (o : Option ObjId) → reply ≡ a.reply → o ≡ a.object
    → Tied s q t call a
    → Tied s q t call (record { reply = reply; object = o })
with_reply s q t call a reply o same made it =
    subst (λ (r : Reply). Tied s q t call (record { reply = r; object = o })) (sym same)
    (subst (λ (x : Option ObjId). Tied s q t call (record { reply = a.reply; object = x })) (sym made) it)

said_so : (implies : Says → Option (Option Fact)) (all behind made : List Fact) (found : Option Says) (says : Says) → found ≡ Some says
    → TiesIf implies all behind made found → Ties (implies says) all behind made
said_so implies all behind made found says is it = subst (λ (x : Option Says). TiesIf implies all behind made x) is it

told_before : (fact : Option Fact) (made w : List Fact) → told_on fact made ++ w ≡ told_on fact (made ++ w)
told_before None made w = refl
told_before (Some x) made w = refl

pub tickets_tell_facts : TicketsTellFacts
tickets_tell_facts s h x reply says place legal passed is at =
    let q : Parts = parts s h in
    let w : List Fact = facts_of s h in
    let p : Parts = parts_of w in
    let row : Columns = row_for (fun_of x.call) in
    let xs : List Argument = arguments_of s p x.tid.0 x.call in
    let a : Answer = answer s q x.tid x.call in
    let entry = answered_by (verdict s q x.tid.0 x.env x.call) a x.tid x.env x.call x reply legal.0 passed in
    let ties = said_so _ _ _ _ _ says is
    (with_reply s q x.tid x.call a reply x.object entry.replied entry.handed
    (tied s q x.tid x.env x.call (unbroken s q x.tid.0 x.env x.call entry.unbroken))) in
    let warned : List Fact = link_facts (warning reply.warned (home_of s (native_class s q x.tid.0 x.call))) in
    let behind : List Fact = call_follows q x.tid x.call reply.value x.object in
    let made : List Fact = made_facts s q x.tid x.call reply.value in
    record {
      ticket = record { tid = x.tid; expected = expected_of s p x.tid row row.effect xs };
      passed = asked_alike s h x.tid x.env x.call place legal.1 at ∙ ap (by_verdict written_bounds s p x.tid x.env row xs) entry.unbroken;
      fact = ties.fact;
      is = told_as_calls s p x.tid x.call says ∙ (implied_same s p q (facts_read_alike s h legal.1) x.tid x.call says ∙ ties.is);
      facts = ap (λ (o : Outcome). outcome_facts s q x.tid x.call o x.object ++ w) passed
          ∙ (ap (λ (l : List Fact). warned ++ l ++ w) ties.facts
          ∙ (ap (λ (l : List Fact). l ++ w) (sym (append_assoc warned behind (told_on ties.fact made)))
          ∙ (append_assoc (warned ++ behind) (told_on ties.fact made) w
          ∙ ap (λ (l : List Fact). warned ++ behind ++ l) (told_before ties.fact made w))));
    }
