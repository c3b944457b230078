-- A call that passes, as the facts that its entry is: each could be when it is told, and the parts are alike after it.
use Rattle.std.proofs.Common.{ℕ, ℤ, pos, ◌≡◌, ◌+◌, ◌<◌, ◌∙◌, ◌++◌, Bool, true, false, List, [], ◌∷◌, map, length, Option, Some, None, refl, ap, sym, subst, arith, eqb-true, position}
use Rattle.std.specs.Prelude.{◌==◌, ◌&&◌, ◌||◌, not, nat_lt, if◌then◌else◌}
use Rattle.std.specs.Str.{bytes_eq}
use Rattle.std.specs.Option.{unwrap_or, is_some, option_map, option_and_then}
use Rattle.std.proofs.lemmas.Bool.Decides.{nat_tests}
use Rattle.std.proofs.lemmas.Option.{same_Some}
use Rattle.std.proofs.lemmas.Bool.{not-false}
use Rattle.std.proofs.option.Match.{None-if_not_some}
use Rattle.jg_words.specs.Call.{fun_of}
use Rattle.jg_words.specs.Fun.{needs_env}
use Rattle.jg_words.specs.declared.thread.Tid.{Tid}
use Rattle.jg_words.specs.declared.thread.EnvId.{EnvId}
use Rattle.jg_words.specs.declared.object.ObjId.{ObjId}
use Rattle.jg_words.specs.declared.object.FieldId.{FieldId}
use Rattle.jg_words.specs.declared.reference.Ref.{Ref}
use Rattle.jg_words.specs.declared.reference.Ref.TheVariants.{Null, To}
use Rattle.jg_words.specs.declared.reference.Kind.{Kind}
use Rattle.jg_words.specs.declared.reference.Kind.TheVariants.{Local, Global, Weak}
use Rattle.jg_words.specs.declared.value.Value.{Value}
use Rattle.jg_words.specs.declared.value.Value.TheVariants.{Ok as Done}
use Rattle.jg_words.specs.declared.value.Thrown.{Thrown}
use Rattle.jg_words.specs.declared.value.Thrown.TheVariants.{ArrayIndexOutOfBounds, StringIndexOutOfBounds, NoClassDefFound, NoSuchField, NoSuchMethod}
use Rattle.jg_words.specs.declared.entry.Reply.{Reply}
use Rattle.jg_words.specs.declared.call.Call.{Call}
use Rattle.jg_words.specs.declared.call.Call.TheVariants.{Vm, Refs, Frames, Exceptions, Objects, Strings, Arrays, Monitors, Buffers}
use Rattle.jg_words.specs.declared.call.vm.VmCall.{VmCall}
use Rattle.jg_words.specs.declared.call.vm.VmCall.TheVariants.{AttachCurrentThread, DetachCurrentThread, GetEnv, NativeEnter, NativeLeave, LoadLibrary, RegisterNatives, UnregisterNatives, Collect}
use Rattle.jg_words.specs.declared.call.refs.RefsCall.{RefsCall}
use Rattle.jg_words.specs.declared.call.refs.RefsCall.TheVariants.{NewLocalRef, NewGlobalRef, NewWeakGlobalRef, DeleteLocalRef, DeleteGlobalRef, DeleteWeakGlobalRef}
use Rattle.jg_words.specs.declared.call.frames.FramesCall.{FramesCall}
use Rattle.jg_words.specs.declared.call.frames.FramesCall.TheVariants.{PushLocalFrame, PopLocalFrame, EnsureLocalCapacity}
use Rattle.jg_words.specs.declared.call.exceptions.ExceptionsCall.{ExceptionsCall}
use Rattle.jg_words.specs.declared.call.exceptions.ExceptionsCall.TheVariants.{Throw, ExceptionOccurred, ExceptionDescribe, ExceptionClear, ExceptionCheck}
use Rattle.jg_words.specs.declared.call.objects.ObjectsCall.{ObjectsCall}
use Rattle.jg_words.specs.declared.call.objects.ObjectsCall.TheVariants.{FindClass, GetObjectClass, AllocObject, GetFieldID, GetObjectField, SetField, SetObjectField}
use Rattle.jg_words.specs.declared.call.strings.StringsCall.{StringsCall}
use Rattle.jg_words.specs.declared.call.strings.StringsCall.TheVariants.{NewString, NewStringUTF, GetStringRegion}
use Rattle.jg_words.specs.declared.call.arrays.ArraysCall.{ArraysCall}
use Rattle.jg_words.specs.declared.call.arrays.ArraysCall.TheVariants.{NewArray, GetArrayLength, GetArrayRegion, SetArrayRegion, NewObjectArray, GetObjectArrayElement, SetObjectArrayElement}
use Rattle.jg_words.specs.declared.call.monitors.MonitorsCall.{MonitorsCall}
use Rattle.jg_words.specs.declared.call.monitors.MonitorsCall.TheVariants.{MonitorEnter, MonitorExit}
use Rattle.jg_words.specs.declared.call.buffers.BuffersCall.{BuffersCall}
use Rattle.jg_words.specs.declared.call.buffers.BuffersCall.TheVariants.{GetArrayElements, ReleaseArrayElements, GetStringChars, ReleaseStringChars, GetStringUTFChars, ReleaseStringUTFChars, GetPrimitiveArrayCritical, ReleasePrimitiveArrayCritical, GetStringCritical, ReleaseStringCritical, BufferRead, BufferWrite}
use Rattle.jg_words.specs.declared.buffer.BufId.{BufId}
use Rattle.jg_policy.specs.Stated.{StatedSetup, class_count}
use Rattle.jg_policy.specs.Classes.{class_named, class_at, fields_in, natives_in, native_at, module_names, module_name_of}
use Rattle.jg_policy.specs.Links as links
use Rattle.jg_policy.proofs.Places.{position-within}
use Rattle.jg_policy.proofs.NameLaws.{member_has_its_name}
use Rattle.jg_table_buffers.specs.declared.info.Info.{Info}
use Rattle.jg_table_buffers.specs.declared.family.Family.TheVariants.{Elements, Chars, UtfChars, ArrayCritical, StringCritical}
use Rattle.jg_table_buffers.specs.History as buffers
use Rattle.jg_table_monitors.specs.History as monitors
use Rattle.jg_table_monitors.specs.declared.entering.Entering.{Entering}
use Rattle.jg_table_monitors.specs.declared.entering.Entering.TheVariants.{Entered as HasEntered, Busy as KeptOut}
use Rattle.jg_table_heap.specs.History as heap
use Rattle.jg_table_heap.specs.Making.{Making, Plain, Text, Filled, class_in, length_in}
use Rattle.jg_words.specs.Classes.{array_class}
use Rattle.jg_table_heap.specs.Reading.{natural, decoded}
use Rattle.jg_table_heap.specs.Spelling.{spelt}
use Rattle.jg_table_heap.specs.declared.object.Slot.{Slot}
use Rattle.jg_table_heap.specs.declared.object.Slot.TheVariants.{Number}
use Rattle.jg_rules.specs.declared.answer.Answer.{Answer}
use Rattle.jg_rules.specs.declared.named.Named.{Named}
use Rattle.jg_rules.specs.declared.named.Named.TheVariants.{Nothing}
use Rattle.jg_rules.specs.Parts.{Parts}
use Rattle.jg_rules.specs.Names.{names, next_ref, object_named, the_object, pending, class_by, class_meant, native_meant, field_meant, session, class_of, target_in, slot_of, slot_place, object_count, is_here, open_frames, depth, length_of, units_of, items_of}
use Rattle.jg_rules.specs.NativeUse.{native_class, home_of}
use Rattle.jg_rules.specs.Buffers.{is_commit, writes_back, is_open_and, buffer_named}
use Rattle.jg_rules.specs.Rules.{is_nothing, is_null, is_by, is_not, is_not_owned}
use Rattle.jg_rules.specs.Effects.{settled, passed_on, done_by, done_if, call_heap, wrote_copy, wrote_pinned, wrote_back, copied_back, closed, linking, unlinking, is_effective, if_effective, first_value, pointer}
use Rattle.jg_words.specs.Classes.{class_thrown}
use Rattle.jg_words.proofs.Common.{or_first_off}
use Rattle.jg_words.specs.declared.object.ItemType.TheVariants.{Of}
use Rattle.jg_rules.specs.Answers.{answer, unnoticed, plain, handed, thrown, present_env, unless_pending, registered, entered, class_found, field_found, field_value, or_outside, is_outside, region}
use Rattle.jg_rules.specs.Unbroken.{Unbroken}
use Rattle.jg_laws.proofs.Acts.{attached_caller, attached_done, next_done}
use Rattle.jg_laws.proofs.HandedHere.{AnswersHere, answer_here}
use Rattle.jg_laws.proofs.HandsHere.{the_named, done_here}
use Rattle.jg_laws.proofs.Here.{Here, here_new}
use Rattle.jg_laws.proofs.NothingGone.{named_here}
use Rattle.jg_core.specs.declared.fact.Fact.{Fact}
use Rattle.jg_core.specs.declared.fact.Fact.TheVariants.{Enter, Leave, Pop, Back, Meet, Link, Unlink}
use Rattle.jg_core.specs.Facts.{is_attached, is_owner, is_home}
use Rattle.jg_entry_facts_laws.specs.Entries.{object_facts, buffer_facts, link_facts, pending_facts, lost_facts, own_facts, value_facts, answer_facts, passed_facts}
use Rattle.jg_entry_facts_laws.proofs.Buffers.{closed_both, wrote_one as copy_wrote}
use Rattle.jg_entry_facts_laws.proofs.Heap.{SameHeap, wrote_one, wrote_region}
use Rattle.jg_entry_facts_laws.proofs.Alike.{Alike}
use Rattle.jg_entry_facts_laws.proofs.Steps.{heap_on, buffers_on, links_on, Told, none, one}
use Rattle.jg_entry_facts_laws.proofs.Own.{Known, hand_told, raise_told, meet_told, warn_told, attach_told, detach_told, enter_told, leave_told, leave_kept, leave_pending, pop_told, pop_kept, push_told, ensure_told, calm_told, local_told, strong_told, weak_told, own_told, free_told, copy_told, pin_told, back_told, reading}
use Rattle.jg_entry_facts_laws.proofs.Going.{collect_told}

-- ---- what is told of a test that passed

here_is : (k : ℕ) (e : List heap.Event) (o : ℕ) → Here k e o → heap.is_there k e o ≡ true
here_is k e o both = (let below : nat_lt o (heap.count_of k e) ≡ true = grind (arith, nat_tests, both.0) in rw (below, both.1) refl)

-- ---- what an answer brings

abbrev rep : Value → Reply
rep value = record { value = value; warned = false; noticed = false }

-- the call's own facts, and those of its answer
abbrev Brings : StatedSetup → Parts → Parts → Tid → Call → Value → Option ObjId → List Fact → Type 0
Brings s p q t call value o xs =
    Told s p (settled None t.0 (rep value) o (done_if (is_effective value) s t.0 call q)) (value_facts t value o ++ if_effective (is_effective value) xs)

hands : (s : StatedSetup) (p q : Parts) (t : Tid) (call : Call) (kind : Kind) (found : Option ℕ) (xs : List Fact) → Told s p (done_by s t.0 call q) xs
    → is_attached (done_by s t.0 call q) t.0 ≡ true
    → AnswersHere (class_count s) (if_effective (is_effective (handed q t kind found).reply.value) (call_heap s q t.0 call) ++ q.heap) (handed q t kind found)
    → Brings s p q t call (handed q t kind found).reply.value (handed q t kind found).object xs
hands s p q t call kind None xs told on_now here = told
hands s p q t call Local (Some o) xs told on_now here =
    hand_told s p (done_by s t.0 call q) t Local (record { 0 = o }) (next_ref q t.0) xs told on_now
    (here_is (class_count s) (call_heap s q t.0 call ++ q.heap) o here) (next_done s q t.0 call t.0)
hands s p q t call Global (Some o) xs told on_now here =
    hand_told s p (done_by s t.0 call q) t Global (record { 0 = o }) (next_ref q t.0) xs told on_now
    (here_is (class_count s) (call_heap s q t.0 call ++ q.heap) o here) (next_done s q t.0 call t.0)
hands s p q t call Weak (Some o) xs told on_now here =
    hand_told s p (done_by s t.0 call q) t Weak (record { 0 = o }) (next_ref q t.0) xs told on_now
    (here_is (class_count s) (call_heap s q t.0 call ++ q.heap) o here) (next_done s q t.0 call t.0)

thrown_known : (s : StatedSetup) (kind : Thrown) → nat_lt (class_thrown kind) (class_count s) ≡ true
thrown_known s ArrayIndexOutOfBounds = grind (arith, nat_tests)
thrown_known s call = grind (arith, nat_tests)

throws : (s : StatedSetup) (p q : Parts) (t : Tid) (call : Call) (kind : Thrown) (xs : List Fact) → Alike s p q → is_attached q t.0 ≡ true
    → Brings s p q t call (thrown s q kind).reply.value (thrown s q kind).object xs
throws s p q t call kind xs same on_now =
    let m : Making = Plain (class_thrown kind) [] in
    let made : Parts = record q { heap = heap.Made m ∷ q.heap } in
    raise_told s p made t (record { 0 = object_count s q }) (Meet (class_thrown kind) 0 ∷ []) (meet_told s p q m same (thrown_known s kind)) on_now
    (here_is (class_count s) (heap.Made m ∷ q.heap) (object_count s q) (here_new (class_count s) q.heap m))

env_brings : (s : StatedSetup) (p q : Parts) (t : Tid) (call : Call) (n : Option ℕ) (xs : List Fact)
    → Told s p (done_by s t.0 call q) xs
    → Brings s p q t call (plain (present_env t n)).reply.value (plain (present_env t n)).object xs
env_brings s p q t call None xs told = told
env_brings s p q t call (Some n) xs told = told

registered_brings : (s : StatedSetup) (p q : Parts) (t : Tid) (call : Call) (class native : Option ℕ) (xs : List Fact) → Told s p (done_by s t.0 call q) xs
    → Alike s p q → is_attached q t.0 ≡ true
    → Brings s p q t call (registered s q class native).reply.value (registered s q class native).object xs
registered_brings s p q t call class None xs told same on_now = throws s p q t call NoSuchMethod xs same on_now
registered_brings s p q t call class (Some native) xs told same on_now = told

found_brings : (s : StatedSetup) (p q : Parts) (t : Tid) (call : Call) (class : Option ℕ) (xs : List Fact)
    → Told s p (done_by s t.0 call q) xs → Alike s p q → is_attached q t.0 ≡ true
    → is_attached (done_by s t.0 call q) t.0 ≡ true
    → AnswersHere (class_count s) (if_effective (is_effective (class_found s q t class).reply.value) (call_heap s q t.0 call) ++ q.heap)
    (class_found s q t class)
    → Brings s p q t call (class_found s q t class).reply.value (class_found s q t class).object xs
found_brings s p q t call None xs told same on_now later here = throws s p q t call NoClassDefFound xs same on_now
found_brings s p q t call (Some class) xs told same on_now later here = hands s p q t call Local (Some class) xs told later here

field_brings : (s : StatedSetup) (p q : Parts) (t : Tid) (call : Call) (found : Option FieldId) (xs : List Fact) → Told s p (done_by s t.0 call q) xs
    → Alike s p q → is_attached q t.0 ≡ true
    → Brings s p q t call (field_found s q found).reply.value (field_found s q found).object xs
field_brings s p q t call None xs told same on_now = throws s p q t call NoSuchField xs same on_now
field_brings s p q t call (Some field) xs told same on_now = told

outside_brings : (s : StatedSetup) (p q : Parts) (t : Tid) (call : Call) (kind : Thrown) (b : Bool) (a : Answer) (xs : List Fact) → Alike s p q
    → is_attached q t.0 ≡ true
    → (b ≡ false → Brings s p q t call a.reply.value a.object xs)
    → Brings s p q t call (or_outside s q kind b a).reply.value (or_outside s q kind b a).object xs
outside_brings s p q t call kind true a xs same on_now inside = throws s p q t call kind xs same on_now
outside_brings s p q t call kind false a xs same on_now inside = inside refl

entered_brings : (s : StatedSetup) (p q : Parts) (t : Tid) (call : Call) (e : Entering) (xs : List Fact) → Alike s p q
    → (e ≡ HasEntered → Told s p (done_by s t.0 call q) xs)
    → Brings s p q t call (plain (entered e)).reply.value (plain (entered e)).object xs
entered_brings s p q t call HasEntered xs same told = told refl
entered_brings s p q t call KeptOut xs same told = none s p q same

-- a Throw's object becomes pending
raised_brings : (s : StatedSetup) (p q : Parts) (t : Tid) (found : Option ℕ) → Alike s p q → is_attached q t.0 ≡ true
    → ((o : ℕ) → found ≡ Some o → is_here s q o ≡ true)
    → Told s p (settled None t.0 (rep Done) (option_map (λ o. record { 0 = o }) found) q) (value_facts t Done (option_map (λ o. record { 0 = o }) found) ++ [])
raised_brings s p q t None same on_now here = none s p q same
raised_brings s p q t (Some o) same on_now here = raise_told s p q t (record { 0 = o }) [] (none s p q same) on_now (here o refl)

-- ---- links

linking_told : (s : StatedSetup) (p q : Parts) (class native : Option ℕ) → Alike s p q
    → ((c n : ℕ) → class ≡ Some c → native ≡ Some n → is_some (native_at s c n) ≡ true)
    → Told s p (record q { links = linking class native ++ q.links }) (link_facts (linking class native))
linking_told s p q None native same stated = none s p q same
linking_told s p q (Some class) None same stated = none s p q same
linking_told s p q (Some class) (Some native) same stated =
    one s p _ (Link class native) (stated class native refl refl) (links_on s p q same (links.Linked class native))

unlinked_if : (s : StatedSetup) (p q : Parts) (b : Bool) (o : ℕ) → nat_lt o (class_count s) ≡ b → Alike s p q
    → Told s p (record q { links = unlinking (if b then Some o else None) ++ q.links }) (link_facts (unlinking (if b then Some o else None)))
unlinked_if s p q true o is same = one s p _ (Unlink o) is (links_on s p q same (links.UnlinkedAll o))
unlinked_if s p q false o is same = none s p q same

unlinking_told : (s : StatedSetup) (p q : Parts) (found : Option ℕ) → Alike s p q
    → Told s p (record q { links = unlinking (option_and_then (class_by s) found) ++ q.links }) (link_facts (unlinking (option_and_then (class_by s) found)))
unlinking_told s p q None same = none s p q same
unlinking_told s p q (Some o) same = unlinked_if s p q (nat_lt o (class_count s)) o refl same

native_if : (s : StatedSetup) (class : Option ℕ) (method signature : List ℕ) (c n : ℕ) → class ≡ Some c → native_meant s class method signature ≡ Some n
    → is_some (native_at s c n) ≡ true
native_if s None method signature c n is named = absurd (let no : ⊥ = cc in no)
native_if s (Some d) method signature c n is named =
    let same : d ≡ c = cc in
    let there = member_has_its_name (natives_in (class_at s d)) n method signature named in
    subst (λ (x : ℕ). is_some (native_at s x n) ≡ true) same (ap is_some there)

module_if : (s : StatedSetup) (name : Option (List ℕ)) (h : ℕ) → option_and_then (λ name. position (bytes_eq name) (module_names s)) name ≡ Some h
    → nat_lt h (length (module_names s)) ≡ true
module_if s None h is = absurd (let no : ⊥ = cc in no)
module_if s (Some name) h is =
    (let below : h < length (module_names s) = position-within (bytes_eq name) (module_names s) h is in grind (arith, nat_tests, below))

home_if : (s : StatedSetup) (class : Option ℕ) (h : ℕ) → home_of s class ≡ Some h → is_home s h ≡ true
home_if s None h is = absurd (let no : ⊥ = cc in no)
home_if s (Some class) h is = module_if s (module_name_of s class) h is

-- ---- what a call does of its own

-- a new object is of a class of the setup
new_if : (b : Bool) (k : ℕ) (m x : Making) → b ≡ true → class_in (if b then m else x) < k → class_in m < k
new_if true k m x is few = few
new_if false k m x is few = absurd (let no : ⊥ = cc in no)

class_stated : (s : StatedSetup) (p q : Parts) (t : Tid) (env : Option EnvId) (call : Call) (m : Making) → call_heap s q t.0 call ≡ heap.Made m ∷ []
    → Unbroken s q t.0 env call → Known s p q
    → nat_lt (class_in m) (class_count s) ≡ true
class_stated s p q t env call m is u known =
    let k : ℕ = class_count s in
    let n : ℕ = heap.count_of k q.heap in
    let after = (done_here s q t.0 env call u known.all).known n in
    let here : class_in (heap.making_at k ((heap.Made m ∷ []) ++ q.heap) n) < k =
    subst (λ (e : List heap.Event). class_in (heap.making_at k (e ++ q.heap) n) < k) is after in
    let own : (n == n) ≡ true = grind (arith, nat_tests) in
    let few : class_in m < k = new_if (n == n) k m (heap.making_at k q.heap n) own here in
    grind (arith, nat_tests, few)

-- what is written tells no fact
met_more : (xs ys : List heap.Event) → object_facts (xs ++ ys) ≡ object_facts xs ++ object_facts ys
met_more [] ys = refl
met_more (heap.Made m ∷ xs) ys = ap (λ zs. Meet (class_in m) (length_in m) ∷ zs) (met_more xs ys)
met_more (heap.Wrote o j v ∷ xs) ys = met_more xs ys
met_more (heap.Collected roots ∷ xs) ys = met_more xs ys
met_more (heap.Went o ∷ xs) ys = met_more xs ys

pub region_met : (o j : ℕ) (values : List ℤ) → object_facts (heap.region_writes o j values) ≡ []
region_met o j [] = refl
region_met o j (v ∷ values) = met_more (heap.region_writes o (j + 1) values) (heap.Wrote o j (Number v) ∷ [])
    ∙ ap (λ xs. xs ++ []) (region_met o (j + 1) values)

wrote_told : (s : StatedSetup) (p q : Parts) (o j : ℕ) (v : Slot) → Alike s p q → Told s p (record q { heap = heap.Wrote o j v ∷ q.heap }) []
wrote_told s p q o j v same = none s p _ (heap_on s p q same p.heap (heap.Wrote o j v ∷ q.heap) (wrote_one (class_count s) p.heap q.heap o j v same.heap))

region_told : (s : StatedSetup) (p q : Parts) (o j : ℕ) (values : List ℤ) → Alike s p q
    → Told s p (record q { heap = heap.region_writes o j values ++ q.heap })
    (object_facts (heap.region_writes o j values))
region_told s p q o j values same =
    subst (λ (xs : List Fact). Told s p (record q { heap = heap.region_writes o j values ++ q.heap }) xs) (sym (region_met o j values))
    (none s p _ (heap_on s p q same p.heap (heap.region_writes o j values ++ q.heap) (wrote_region (class_count s) p.heap q.heap o j values same.heap)))

-- a copy is written back
found_back : (k : ℕ) (e f : List heap.Event) (items : List ℤ) (found : Option Info) → SameHeap k e f → SameHeap k e (wrote_back items found ++ f)
found_back k e f items None same = same
found_back k e f items (Some info) same = wrote_region k e f info.object.0 0 items same

back_if : (b : Bool) (k : ℕ) (e f : List heap.Event) (items : List ℤ) (found : Option Info) → SameHeap k e f
    → SameHeap k e ((if b then wrote_back items found else []) ++ f)
back_if true k e f items found same = found_back k e f items found same
back_if false k e f items found same = same

closing_told : (s : StatedSetup) (p q : Parts) (t : Tid) (b : BufId) (commits : Bool) (f : List heap.Event) → Known s p q → SameHeap (class_count s) p.heap f
    → is_some (buffer_named q b) ≡ true
    → Told s p (record q { buffers = (if commits then [] else closed b) ++ q.buffers; heap = f }) (buffer_facts t (if commits then [] else closed b))
closing_told s p q t b true f known now there = none s p _ (heap_on s p q known.same p.heap f now)
closing_told s p q t b false f known now there =
    let written = heap_on s p q known.same p.heap f now in
    one s p _ (Back b) (ap is_some ((reading s p q known t).lent b) ∙ there)
    (buffers_on s p (record q { heap = f }) written (buffers.Closed b.maker.0 b.n ∷ p.buffers)
    (buffers.Closed b.maker.0 b.n ∷ q.buffers) (closed_both p.buffers q.buffers b.maker.0 b.n known.same.buffers))

write_if : (s : StatedSetup) (p q : Parts) (t : Tid) (b : BufId) (i : ℕ) (v : ℤ) (o : ℕ) (pins : Bool) → Alike s p q
    → Told s p (record q {
      buffers = (if pins then [] else buffers.Wrote b.maker.0 b.n i v ∷ []) ++ q.buffers;
      heap =
          (if pins then heap.Wrote o i (Number v) ∷ [] else []) ++ q.heap;
    })
    (buffer_facts t (if pins then [] else buffers.Wrote b.maker.0 b.n i v ∷ []))
write_if s p q t b i v o true same = wrote_told s p q o i (Number v) same
write_if s p q t b i v o false same =
    none s p _ (buffers_on s p q same p.buffers (buffers.Wrote b.maker.0 b.n i v ∷ q.buffers) (copy_wrote p.buffers q.buffers b.maker.0 b.n i v same.buffers))

write_told : (s : StatedSetup) (p q : Parts) (t : Tid) (b : BufId) (i : ℕ) (v : ℤ) (found : Option Info) → Alike s p q
    → Told s p (record q { buffers = wrote_copy b i v found ++ q.buffers; heap = wrote_pinned i v found ++ q.heap }) (buffer_facts t (wrote_copy b i v found))
write_told s p q t b i v None same = none s p q same
write_told s p q t b i v (Some info) same = write_if s p q t b i v info.object.0 (buffers.is_critical info.family) same

open_some : (test : Info → Bool) (found : Option Info) → not (is_open_and test found) ≡ false → is_some found ≡ true
open_some test None open_now = absurd (let no : ⊥ = cc in no)
open_some test (Some info) open_now = refl

through : (p : Parts) (t : ℕ) (r : Ref) → ((true && is_null (names p t r)) || false) ≡ false → buffers.is_null r ≡ false
through p t Null there = absurd (let no : ⊥ = cc in no)
through p t (To kind maker n) there = refl

-- ---- references that are deleted

local_if : (b c : Bool) (named : Named) → (is_nothing (if b then named else Nothing) || c) ≡ false → b ≡ true
local_if true c named alive = refl
local_if false c named alive = absurd (let no : ⊥ = cc in no)

local_lost : (s : StatedSetup) (p q : Parts) (t : Tid) (r : Ref) → Known s p q → (is_nothing (names q t.0 r) || false) ≡ false → is_not Local r ≡ false
    → Told s p (done_by s t.0 (Refs (DeleteLocalRef r)) q) (lost_facts r)
local_lost s p q t Null known alive kind = none s p q known.same
local_lost s p q t (To Local maker n) known alive kind =
    let own : maker.0 ≡ t.0 = eqb-true maker.0 t.0 (local_if (maker.0 == t.0) false _ alive) in
    local_told s p q known t maker n own (or_first_off (is_nothing (names q t.0 (To Local maker n))) false alive)
local_lost s p q t (To Global maker n) known alive kind = absurd (let no : ⊥ = cc in no)
local_lost s p q t (To Weak maker n) known alive kind = absurd (let no : ⊥ = cc in no)

strong_lost : (s : StatedSetup) (p q : Parts) (t : Tid) (r : Ref) → Known s p q → (is_nothing (names q t.0 r) || false) ≡ false → is_not Global r ≡ false
    → Told s p (done_by s t.0 (Refs (DeleteGlobalRef r)) q) (lost_facts r)
strong_lost s p q t Null known alive kind = none s p q known.same
strong_lost s p q t (To Global maker n) known alive kind =
    strong_told s p q known t maker n (or_first_off (is_nothing (names q t.0 (To Global maker n))) false alive)
strong_lost s p q t (To Local maker n) known alive kind = absurd (let no : ⊥ = cc in no)
strong_lost s p q t (To Weak maker n) known alive kind = absurd (let no : ⊥ = cc in no)

weak_lost : (s : StatedSetup) (p q : Parts) (t : Tid) (r : Ref) → Known s p q → (is_nothing (names q t.0 r) || false) ≡ false → is_not Weak r ≡ false
    → Told s p (done_by s t.0 (Refs (DeleteWeakGlobalRef r)) q) (lost_facts r)
weak_lost s p q t Null known alive kind = none s p q known.same
weak_lost s p q t (To Weak maker n) known alive kind = weak_told s p q known t maker n (or_first_off (is_nothing (names q t.0 (To Weak maker n))) false alive)
weak_lost s p q t (To Local maker n) known alive kind = absurd (let no : ⊥ = cc in no)
weak_lost s p q t (To Global maker n) known alive kind = absurd (let no : ⊥ = cc in no)

-- ---- a native method is left, a frame is popped

leaves : (s : StatedSetup) (p q : Parts) (t : Tid) (r : Ref) (raised found : Option ℕ) → Known s p q → is_attached q t.0 ≡ true → (depth q t.0 == 0) ≡ false
    → pending q t.0 ≡ raised
    → ((o : ℕ) → found ≡ Some o → is_here s q o ≡ true) → ((o : ℕ) → raised ≡ Some o → is_here s q o ≡ true)
    → (let a : Answer = unless_pending raised (handed q t Local found) in
    Told s p (settled None t.0 (rep a.reply.value) a.object
    (done_if (is_effective a.reply.value) s t.0 (Vm (NativeLeave r)) q))
    (if_effective (is_effective a.reply.value) (pending_facts t raised ++ Leave t a.object ∷ [])))
leaves s p q t r None None known on_now deep calm here pends = leave_told s p q known t on_now deep calm
leaves s p q t r None (Some o) known on_now deep calm here pends =
    leave_kept s p q known t (record { 0 = o }) (next_ref q t.0) on_now deep calm (here o refl) (next_done s q t.0 (Vm (NativeLeave r)) t.0)
leaves s p q t r (Some x) found known on_now deep raised here pends = leave_pending s p q known t x on_now deep raised (pends x refl)

pops : (s : StatedSetup) (p q : Parts) (t : Tid) (r : Ref) (found : Option ℕ) → Known s p q → is_attached q t.0 ≡ true
    → (open_frames q t.0 == 0) ≡ false → ((o : ℕ) → found ≡ Some o → is_here s q o ≡ true)
    → Told s p (settled None t.0 (rep (handed q t Local found).reply.value) (handed q t Local found).object
    (done_if (is_effective (handed q t Local found).reply.value) s t.0 (Frames (PopLocalFrame r)) q))
    (if_effective (is_effective (handed q t Local found).reply.value) (Pop t (handed q t Local found).object ∷ []))
pops s p q t r None known on_now some here = pop_told s p q known t on_now some
pops s p q t r (Some o) known on_now some here = pop_kept s p q known t (record { 0 = o }) on_now some (here o refl)

-- ---- each call

named_is : (s : StatedSetup) (p q : Parts) (t o : ℕ) (r : Ref) → Known s p q → object_named q t r ≡ Some o → is_here s q o ≡ true
named_is s p q t o r known is = here_is (class_count s) q.heap o (named_here s q t o r known.all is)

must_here : (s : StatedSetup) (p q : Parts) (t : ℕ) (r : Ref) → Known s p q
    → (is_nothing (names q t r) || false) ≡ false → ((true && is_null (names q t r)) || false) ≡ false
    → is_here s q (the_object q t r) ≡ true
must_here s p q t r known alive there = named_is s p q t (the_object q t r) r known (the_named (names q t r) false false alive there)

owner_by : (t : ℕ) (found : Option ℕ) → not (is_by t found) ≡ false → is_owner t found ≡ true
owner_by t None owned = absurd (let no : ⊥ = cc in no)
owner_by t (Some u) owned = not-false (u == t) owned

mine : (q : Parts) (t o : ℕ) (named : Option ℕ) → named ≡ Some o → is_not_owned q t named ≡ false → is_owner t (monitors.owner q.monitors o) ≡ true
mine q t o None is owned = absurd (let no : ⊥ = cc in no)
mine q t o (Some x) is owned =
    let same : x ≡ o = same_Some x o is in
    subst (λ (y : ℕ). is_owner t (monitors.owner q.monitors y) ≡ true) same (owner_by t (monitors.owner q.monitors x) owned)

-- its own facts and those of its answer, but for a warning
abbrev Core : StatedSetup → Parts → Parts → Tid → Call → Type 0
Core s p q t call =
    let a : Answer = unnoticed s q t call in
    Told s p (settled None t.0 (rep a.reply.value) a.object (done_if (is_effective a.reply.value) s t.0 call q))
    (answer_facts call t a.reply.value a.object ++ if_effective (is_effective a.reply.value)
    (own_facts s q t a.object call))

module _ (s : StatedSetup) (p q : Parts) (t : Tid) (env : Option EnvId) (known : Known s p q) where
  -- t has a session before the call, and after it
  present : (call : Call) → needs_env (fun_of call) ≡ true → Unbroken s q t.0 env call → is_attached q t.0 ≡ true
  present call takes u = attached_caller q t.0 env call takes u.is_attached

  still : (call : Call) → needs_env (fun_of call) ≡ true → Unbroken s q t.0 env call → is_attached (done_by s t.0 call q) t.0 ≡ true
  still call takes u = attached_done s q t.0 call takes (present call takes u)

  answered_here : (call : Call) → Unbroken s q t.0 env call
      → AnswersHere (class_count s)
      (if_effective (is_effective (answer s q t call).reply.value) (call_heap s q t.0 call) ++ q.heap)
      (answer s q t call)
  answered_here call u = answer_here s q t env call u known.stated known.all

  -- one that hands out a reference to what was there
  hands_call : (call : Call) (kind : Kind) (found : Option ℕ) (xs : List Fact) → needs_env (fun_of call) ≡ true → Unbroken s q t.0 env call
      → Told s p (done_by s t.0 call q) xs
      → AnswersHere (class_count s) (if_effective (is_effective (handed q t kind found).reply.value) (call_heap s q t.0 call) ++ q.heap) (handed q t kind found)
      → Brings s p q t call (handed q t kind found).reply.value (handed q t kind found).object xs
  hands_call call kind found xs takes u told here = hands s p q t call kind found xs told (still call takes u) here

  nothing : Told s p q []
  nothing = none s p q known.same

  vm_core : (call : VmCall) → Unbroken s q t.0 env (Vm call) → Core s p q t (Vm call)
  vm_core AttachCurrentThread u = attach_told s p q known t (is_attached q t.0) refl (or_first_off (t.0 == 0) _ u.own_thread)
  vm_core DetachCurrentThread u = detach_told s p q known t (is_attached q t.0) refl u.not_critical
  vm_core GetEnv u = env_brings s p q t (Vm GetEnv) (session q t.0) [] nothing
  vm_core (NativeEnter class method signature) u =
      let c : Call = Vm (NativeEnter class method signature) in
      hands_call c Local (class_named s class) (Enter t ∷ []) refl u (enter_told s p q known t (present c refl u) (None-if_not_some (pending q t.0) u.calm))
      (answered_here c u)
  vm_core (NativeLeave r) u =
      leaves s p q t r (pending q t.0) (object_named q t.0 r) known (present (Vm (NativeLeave r)) refl u) u.right_frame refl
      (λ o is. named_is s p q t.0 o r known is) (λ o is. here_is (class_count s) q.heap o (known.all.pending t.0 o is))
  vm_core (LoadLibrary class library) u = nothing
  vm_core (RegisterNatives class method signature) u =
      let c : Call = Vm (RegisterNatives class method signature) in
      let meant : Option ℕ = class_meant s q t.0 class in
      registered_brings s p q t c meant (native_meant s meant method signature) (link_facts (linking meant (native_meant s meant method signature)))
      (linking_told s p q meant (native_meant s meant method signature) known.same (λ x n is named. native_if s meant method signature x n is named)) known.same
      (present c refl u)
  vm_core (UnregisterNatives class) u = unlinking_told s p q (object_named q t.0 class) known.same
  vm_core Collect u = collect_told s p q known

  refs_core : (call : RefsCall) → Unbroken s q t.0 env (Refs call) → Core s p q t (Refs call)
  refs_core (NewLocalRef r) u = hands_call (Refs (NewLocalRef r)) Local (object_named q t.0 r) [] refl u nothing (answered_here (Refs (NewLocalRef r)) u)
  refs_core (NewGlobalRef r) u = hands_call (Refs (NewGlobalRef r)) Global (object_named q t.0 r) [] refl u nothing (answered_here (Refs (NewGlobalRef r)) u)
  refs_core (NewWeakGlobalRef r) u =
      hands_call (Refs (NewWeakGlobalRef r)) Weak (object_named q t.0 r) [] refl u nothing (answered_here (Refs (NewWeakGlobalRef r)) u)
  refs_core (DeleteLocalRef r) u = local_lost s p q t r known u.alive u.right_kind
  refs_core (DeleteGlobalRef r) u = strong_lost s p q t r known u.alive u.right_kind
  refs_core (DeleteWeakGlobalRef r) u = weak_lost s p q t r known u.alive u.right_kind
  refs_core call u = nothing

  frames_core : (call : FramesCall) → Unbroken s q t.0 env (Frames call) → Core s p q t (Frames call)
  frames_core (PushLocalFrame capacity) u = push_told s p q known t (natural capacity) (present (Frames (PushLocalFrame capacity)) refl u)
  frames_core (PopLocalFrame r) u =
      pops s p q t r (object_named q t.0 r) known (present (Frames (PopLocalFrame r)) refl u) u.right_frame (λ o is. named_is s p q t.0 o r known is)
  frames_core (EnsureLocalCapacity capacity) u = ensure_told s p q known t (natural capacity) (present (Frames (EnsureLocalCapacity capacity)) refl u)

  exceptions_core : (call : ExceptionsCall) → Unbroken s q t.0 env (Exceptions call) → Core s p q t (Exceptions call)
  exceptions_core (Throw r) u =
      raised_brings s p q t (object_named q t.0 r) known.same (present (Exceptions (Throw r)) refl u) (λ o is. named_is s p q t.0 o r known is)
  exceptions_core ExceptionOccurred u =
      hands_call (Exceptions ExceptionOccurred) Local (pending q t.0) [] refl u nothing (answered_here (Exceptions ExceptionOccurred) u)
  exceptions_core ExceptionDescribe u = calm_told s p q known t (present (Exceptions ExceptionDescribe) refl u)
  exceptions_core ExceptionClear u = calm_told s p q known t (present (Exceptions ExceptionClear) refl u)
  exceptions_core ExceptionCheck u = nothing

  -- a call that makes an object and hands out a local for it
  makes_call : (call : Call) (m : Making) → call_heap s q t.0 call ≡ heap.Made m ∷ [] → needs_env (fun_of call) ≡ true → Unbroken s q t.0 env call
      → (Told s p (record q { heap = heap.Made m ∷ q.heap }) (Meet (class_in m) (length_in m) ∷ [])
      → Told s p (done_by s t.0 call q) (Meet (class_in m) (length_in m) ∷ []))
      → AnswersHere (class_count s) (call_heap s q t.0 call ++ q.heap) (handed q t Local (Some (object_count s q)))
      → Brings s p q t call (handed q t Local (Some (object_count s q))).reply.value (handed q t Local (Some (object_count s q))).object
      (Meet (class_in m) (length_in m) ∷ [])
  makes_call call m is takes u own here =
      hands_call call Local (Some (object_count s q)) (Meet (class_in m) (length_in m) ∷ []) takes u
      (own (meet_told s p q m known.same (class_stated s p q t env call m is u known))) here

  objects_core : (call : ObjectsCall) → Unbroken s q t.0 env (Objects call) → Core s p q t (Objects call)
  objects_core (FindClass name) u =
      let c : Call = Objects (FindClass name) in
      found_brings s p q t c (class_named s name) [] nothing known.same (present c refl u) (still c refl u) (answered_here c u)
  objects_core (GetObjectClass r) u =
      hands_call (Objects (GetObjectClass r)) Local (Some (class_of s q (the_object q t.0 r))) [] refl u nothing (answered_here (Objects (GetObjectClass r)) u)
  objects_core (AllocObject class) u =
      let c : Call = Objects (AllocObject class) in
      makes_call c (Plain (the_object q t.0 class) (map first_value (fields_in (class_at s (the_object q t.0 class))))) refl refl u (λ told. told)
      (answered_here c u)
  objects_core (GetFieldID class field signature) u =
      let c : Call = Objects (GetFieldID class field signature) in
      field_brings s p q t c (field_meant s (class_meant s q t.0 class) field signature) [] nothing known.same (present c refl u)
  objects_core (GetObjectField r field) u =
      hands_call (Objects (GetObjectField r field)) Local (target_in (field_value s q (the_object q t.0 r) field)) [] refl u nothing
      (answered_here (Objects (GetObjectField r field)) u)
  objects_core (SetField primitive r field value) u = wrote_told s p q (the_object q t.0 r) (slot_place field) (Number value) known.same
  objects_core (SetObjectField r field value) u = wrote_told s p q (the_object q t.0 r) (slot_place field) (pointer (object_named q t.0 value)) known.same
  objects_core call u = nothing

  strings_core : (call : StringsCall) → Unbroken s q t.0 env (Strings call) → Core s p q t (Strings call)
  strings_core (NewString units) u =
      makes_call (Strings (NewString units)) (Text (map natural units)) refl refl u (λ told. told) (answered_here (Strings (NewString units)) u)
  strings_core (NewStringUTF bytes) u =
      makes_call (Strings (NewStringUTF bytes)) (Text (unwrap_or (decoded bytes) [])) refl refl u (λ told. told)
      (answered_here (Strings (NewStringUTF bytes)) u)
  strings_core (GetStringRegion r start n) u =
      let c : Call = Strings (GetStringRegion r start n) in
      let o : ℕ = the_object q t.0 r in
      outside_brings s p q t c StringIndexOutOfBounds (is_outside start n (length (units_of s q o))) (region (map pos (units_of s q o)) start n) [] known.same
      (present c refl u) (λ inside. nothing)
  strings_core call u = nothing

  -- an element is handed out where it is within
  element_core : (r : Ref) (index : ℤ) (b : Bool) → is_outside index (pos 1) (length_of s q (the_object q t.0 r)) ≡ b
      → Unbroken s q t.0 env (Arrays (GetObjectArrayElement r index))
      → (let a : Answer = or_outside s q ArrayIndexOutOfBounds b (handed q t Local (target_in (slot_of s q (the_object q t.0 r) (natural index)))) in
      Brings s p q t (Arrays (GetObjectArrayElement r index)) a.reply.value a.object [])
  element_core r index true is u =
      throws s p q t (Arrays (GetObjectArrayElement r index)) ArrayIndexOutOfBounds [] known.same (present (Arrays (GetObjectArrayElement r index)) refl u)
  element_core r index false is u =
      let c : Call = Arrays (GetObjectArrayElement r index) in
      let a : Answer = handed q t Local (target_in (slot_of s q (the_object q t.0 r) (natural index))) in
      hands_call c Local (target_in (slot_of s q (the_object q t.0 r) (natural index))) [] refl u nothing
      (subst (λ (b : Bool).
      AnswersHere (class_count s)
      (if_effective (is_effective (or_outside s q ArrayIndexOutOfBounds b a).reply.value) [] ++ q.heap)
      (or_outside s q ArrayIndexOutOfBounds b a)) is (answered_here c u))

  arrays_core : (call : ArraysCall) → Unbroken s q t.0 env (Arrays call) → Core s p q t (Arrays call)
  arrays_core (NewArray element n) u =
      makes_call (Arrays (NewArray element n)) (Filled (array_class element) (natural n) (Number (pos 0))) refl refl u
      (λ told. told) (answered_here (Arrays (NewArray element n)) u)
  arrays_core (GetArrayLength r) u = nothing
  arrays_core (GetArrayRegion element r start n) u =
      let c : Call = Arrays (GetArrayRegion element r start n) in
      let o : ℕ = the_object q t.0 r in
      outside_brings s p q t c ArrayIndexOutOfBounds (is_outside start n (length_of s q o)) (region (items_of s q o) start n) [] known.same (present c refl u)
      (λ inside. nothing)
  arrays_core (SetArrayRegion element r start values) u =
      let c : Call = Arrays (SetArrayRegion element r start values) in
      let o : ℕ = the_object q t.0 r in
      outside_brings s p q t c ArrayIndexOutOfBounds (is_outside start (pos (length values)) (length_of s q o))
      (plain Done) (object_facts (heap.region_writes o (natural start) values)) known.same (present c refl u)
      (λ inside. region_told s p q o (natural start) values known.same)
  arrays_core (NewObjectArray n class fill) u =
      makes_call (Arrays (NewObjectArray n class fill)) (Filled 3 (natural n) (pointer (object_named q t.0 fill))) refl refl u (λ told. told)
      (answered_here (Arrays (NewObjectArray n class fill)) u)
  arrays_core (GetObjectArrayElement r index) u = element_core r index (is_outside index (pos 1) (length_of s q (the_object q t.0 r))) refl u
  arrays_core (SetObjectArrayElement r index value) u =
      let c : Call = Arrays (SetObjectArrayElement r index value) in
      let o : ℕ = the_object q t.0 r in
      outside_brings s p q t c ArrayIndexOutOfBounds (is_outside index (pos 1) (length_of s q o)) (plain Done) [] known.same (present c refl u)
      (λ inside. wrote_told s p q o (natural index) (pointer (object_named q t.0 value)) known.same)

  monitors_core : (call : MonitorsCall) → Unbroken s q t.0 env (Monitors call) → Core s p q t (Monitors call)
  monitors_core (MonitorEnter r) u =
      let c : Call = Monitors (MonitorEnter r) in
      let o : ℕ = the_object q t.0 r in
      entered_brings s p q t c (monitors.entering t.0 (monitors.owner q.monitors o)) (own_facts s q t None c) known.same
      (λ enters. own_told s p q known t o (present c refl u) (must_here s p q t.0 r known u.alive u.not_null) enters)
  monitors_core (MonitorExit r) u =
      free_told s p q known t (the_object q t.0 r)
      (mine q t.0 (the_object q t.0 r) (object_named q t.0 r) (the_named (names q t.0 r) false false u.alive u.not_null) u.owned)

  buffers_core : (call : BuffersCall) → Unbroken s q t.0 env (Buffers call) → Core s p q t (Buffers call)
  buffers_core (GetArrayElements element r) u =
      let o : ℕ = the_object q t.0 r in
      copy_told s p q known t (Elements (Of element)) o (items_of s q o) refl (present (Buffers (GetArrayElements element r)) refl u)
      (must_here s p q t.0 r known u.alive u.not_null)
  buffers_core (ReleaseArrayElements element r b mode) u =
      closing_told s p q t b (is_commit mode) (copied_back q b mode ++ q.heap) known
      (back_if (writes_back mode) (class_count s) p.heap q.heap (buffers.contents q.buffers b.maker.0 b.n) (buffer_named q b) known.same.heap)
      (open_some _ (buffer_named q b) u.right_buffer)
  buffers_core (GetStringChars r) u =
      let o : ℕ = the_object q t.0 r in
      copy_told s p q known t Chars o (map pos (units_of s q o)) refl (present (Buffers (GetStringChars r)) refl u)
      (must_here s p q t.0 r known u.alive u.not_null)
  buffers_core (ReleaseStringChars r b) u = back_told s p q known t b (open_some _ (buffer_named q b) u.right_buffer)
  buffers_core (GetStringUTFChars r) u =
      let o : ℕ = the_object q t.0 r in
      copy_told s p q known t UtfChars o (map pos (spelt (units_of s q o))) refl (present (Buffers (GetStringUTFChars r)) refl u)
      (must_here s p q t.0 r known u.alive u.not_null)
  buffers_core (ReleaseStringUTFChars r b) u = back_told s p q known t b (open_some _ (buffer_named q b) u.right_buffer)
  buffers_core (GetPrimitiveArrayCritical r) u =
      let o : ℕ = the_object q t.0 r in
      pin_told s p q known t ArrayCritical o r (length_of s q o) refl (through q t.0 r u.not_null)
      (present (Buffers (GetPrimitiveArrayCritical r)) refl u) (must_here s p q t.0 r known u.alive u.not_null)
  buffers_core (ReleasePrimitiveArrayCritical r b mode) u =
      closing_told s p q t b (is_commit mode) q.heap known known.same.heap (open_some _ (buffer_named q b) u.right_buffer)
  buffers_core (GetStringCritical r) u =
      let o : ℕ = the_object q t.0 r in
      pin_told s p q known t StringCritical o r (length (units_of s q o)) refl (through q t.0 r u.not_null)
      (present (Buffers (GetStringCritical r)) refl u) (must_here s p q t.0 r known u.alive u.not_null)
  buffers_core (ReleaseStringCritical r b) u = back_told s p q known t b (open_some _ (buffer_named q b) u.right_buffer)
  buffers_core (BufferRead b index) u = nothing
  buffers_core (BufferWrite b index value) u = write_told s p q t b (natural index) value (buffer_named q b) known.same

  core : (call : Call) → Unbroken s q t.0 env call → Core s p q t call
  core (Vm call) u = vm_core call u
  core (Refs call) u = refs_core call u
  core (Frames call) u = frames_core call u
  core (Exceptions call) u = exceptions_core call u
  core (Objects call) u = objects_core call u
  core (Strings call) u = strings_core call u
  core (Arrays call) u = arrays_core call u
  core (Monitors call) u = monitors_core call u
  core (Buffers call) u = buffers_core call u

  -- and a warning
  pub call_told : (call : Call) → Unbroken s q t.0 env call
      → (let a : Answer = answer s q t call in
      Told s p (passed_on s t.0 call a.reply a.object q) (passed_facts s q t call a.reply a.object))
  call_told call u =
      let a : Answer = answer s q t call in
      let home : Option ℕ = home_of s (native_class s q t.0 call) in
      warn_told s p (settled None t.0 (rep a.reply.value) a.object (done_if (is_effective a.reply.value) s t.0 call q))
      (answer_facts call t a.reply.value a.object ++ if_effective (is_effective a.reply.value) (own_facts s q t a.object call))
      a.reply.warned home (λ h is. home_if s (native_class s q t.0 call) h is) (core call u)
