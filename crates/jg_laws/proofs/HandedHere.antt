-- What a call hands out a reference for was made and isn't gone; so no legal history has a live reference to what is gone.
use Rattle.std.proofs.Common.{option_map, ℕ, ℤ, pos, ◌≡◌, ◌+◌, ◌<◌, ◌≤◌, ◌++◌, Bool, true, false, List, [], ◌∷◌, map, length, Option, Some, None, refl, ap, sym, subst, arith}
use Rattle.std.specs.Prelude.{◌==◌, ◌&&◌, ◌||◌, not, nat_lt, int_lt, if◌then◌else◌}
use Rattle.std.specs.List.{AllByRecursion}
use Rattle.std.specs.Option.{unwrap_or}
use Rattle.std.proofs.lemmas.Bool.Decides.{nat_tests}
use Rattle.std.proofs.lemmas.Bool.{eqb-true}
use Rattle.jg_words.specs.declared.thread.Tid.{Tid}
use Rattle.jg_words.specs.declared.thread.EnvId.{EnvId}
use Rattle.jg_words.specs.declared.object.ObjId.{ObjId}
use Rattle.jg_words.specs.declared.object.FieldId.{FieldId}
use Rattle.jg_words.specs.declared.reference.Ref.{Ref}
use Rattle.jg_words.specs.declared.reference.Ref.TheVariants.{Null, To}
use Rattle.jg_words.specs.declared.reference.Kind.{Kind}
use Rattle.jg_words.specs.declared.reference.Kind.TheVariants.{Local, Global, Weak}
use Rattle.jg_words.specs.declared.value.Value.{Value}
use Rattle.jg_words.specs.declared.value.Value.TheVariants.{Ok as Done, Number as Amount, Truth, Null as NullAnswer, Reference, Buffer as Lent, Field, Environment, List as Listed, Busy, Detached as NotAttached, Throw as Threw}
use Rattle.jg_words.specs.declared.value.Thrown.{Thrown}
use Rattle.jg_words.specs.declared.value.Thrown.TheVariants.{ArrayIndexOutOfBounds, StringIndexOutOfBounds}
use Rattle.jg_words.specs.declared.rule.Rule.{Rule}
use Rattle.jg_words.specs.Entry.{Entry}
use Rattle.jg_words.specs.declared.call.Call.{Call}
use Rattle.jg_words.specs.declared.call.Call.TheVariants.{Vm, Refs, Frames, Exceptions, Objects, Strings, Arrays, Monitors, Buffers}
use Rattle.jg_words.specs.declared.call.vm.VmCall.TheVariants.{GetEnv, NativeEnter, NativeLeave, RegisterNatives}
use Rattle.jg_words.specs.declared.call.refs.RefsCall.TheVariants.{NewLocalRef, NewGlobalRef, NewWeakGlobalRef}
use Rattle.jg_words.specs.declared.call.frames.FramesCall.TheVariants.{PopLocalFrame}
use Rattle.jg_words.specs.declared.call.exceptions.ExceptionsCall.TheVariants.{Throw, ExceptionOccurred}
use Rattle.jg_words.specs.declared.call.objects.ObjectsCall.TheVariants.{FindClass, GetObjectClass, AllocObject, GetFieldID, GetObjectField}
use Rattle.jg_words.specs.declared.call.strings.StringsCall.TheVariants.{NewString, NewStringUTF, GetStringRegion}
use Rattle.jg_words.specs.declared.call.arrays.ArraysCall.TheVariants.{NewArray, GetArrayRegion, SetArrayRegion, NewObjectArray, GetObjectArrayElement, SetObjectArrayElement}
use Rattle.jg_words.specs.declared.call.buffers.BuffersCall.TheVariants.{GetArrayElements}
use Rattle.jg_words.specs.declared.call.monitors.MonitorsCall.TheVariants.{MonitorEnter}
use Rattle.jg_policy.specs.Stated.{StatedSetup, class_count}
use Rattle.jg_policy.specs.Classes.{class_named, class_at, fields_in, field_type}
use Rattle.jg_table_globals.specs.History as globals
use Rattle.jg_table_threads.specs.History as threads
use Rattle.jg_table_monitors.specs.History as monitors
use Rattle.jg_table_monitors.specs.declared.entering.Entering.{Entering}
use Rattle.jg_table_monitors.specs.declared.entering.Entering.TheVariants.{Entered, Busy as KeptOut}
use Rattle.jg_table_heap.specs.declared.object.Slot.{Slot}
use Rattle.jg_table_heap.specs.declared.object.Slot.TheVariants.{Number, Object as Pointer}
use Rattle.jg_table_heap.specs.Making.{Making, Plain, Text, Filled, Opaque, class_in, length_in, slots_in}
use Rattle.jg_words.specs.Classes.{array_class}
use Rattle.jg_table_heap.specs.Reading.{natural, decoded}
use Rattle.jg_table_heap.specs.History as heap
use Rattle.jg_table_heap.proofs.Callers.{classes_law, gone_law, classes_counted}
use Rattle.jg_rules.specs.declared.answer.Answer.{Answer}
use Rattle.jg_rules.specs.declared.named.Named.{Named}
use Rattle.jg_rules.specs.declared.named.Named.TheVariants.{Nothing, Null as NamesNull, Object}
use Rattle.jg_rules.specs.declared.operand.ObjectType.TheVariants.{ObjectArray}
use Rattle.jg_rules.specs.Parts.{Parts}
use Rattle.jg_rules.specs.Names.{names, object_in, object_named, the_object, is_here, class_of, length_of, units_of, items_of, slot_of, slot_place, target_in, pending, session, class_meant, native_meant, field_meant}
use Rattle.jg_rules.specs.NativeUse.{native_class, home_of}
use Rattle.jg_rules.specs.Effects.{parts, after, call_heap, done_if, if_effective, is_effective, settled, first_value, pointer}
use Rattle.jg_words.specs.Classes.{class_thrown}
use Rattle.jg_rules.specs.Rules.{verdict, is_stated_as, is_of_class}
use Rattle.jg_policy.specs.declared.access.Operation.{Operation}
use Rattle.jg_policy.specs.declared.access.Operation.TheVariants.{Link}
use Rattle.jg_policy.proofs.NameLaws.{class_below}
use Rattle.jg_rules.specs.Answers.{answer, handed, plain, saying, entered, present_env, class_found, field_found, registered, admitted, unless_pending, or_outside, is_outside, field_value, region}
use Rattle.jg_rules.specs.Legal.{Legal, entry_by}
use Rattle.jg_rules.specs.Unbroken.{Unbroken}
use Rattle.jg_rules.proofs.Kept.{unbroken}
use Rattle.jg_rules.proofs.Objects.{first_is_of, made_so}
use Rattle.jg_laws.specs.Laws.{MakesStated, StaysGone, LiveIsNotGone, ClassesAreStated}
use Rattle.jg_laws.proofs.Makings.{length_stated}
use Rattle.jg_laws.proofs.Natives.{all_stated}
use Rattle.jg_laws.proofs.StatedFields.{IsStatedField, stated_field, both_true}
use Rattle.jg_laws.proofs.Steps.{Steps, each_since, heap_steps}
use Rattle.jg_laws.proofs.Here.{Here, here_made, here_new, known_made, slots_made}
use Rattle.jg_laws.proofs.Referring.{RaisesMeet, locals_made, pending_more, strong_more, weak_more}
use Rattle.jg_laws.proofs.NothingGone.{AllHere, named_here}
use Rattle.jg_laws.proofs.HandsHere.{the_named, done_here}

-- ---- classes

-- a class object is there
class_here : (k : ℕ) (e : List heap.Event) (c : ℕ) → c < k → Here k e c
class_here k e c is = (omega (arith, is, classes_counted k e), classes_law k e c is)

-- each object's class is one of the setup's
pub class_known : (b : Bool) (s : StatedSetup) (class : ℕ) → class < class_count s → (if b then class else 1) < class_count s
class_known true s class is = is
class_known false s class is = omega arith

-- ---- what a slot names

pointed : (v : Slot) (o : ℕ) → target_in v ≡ Some o → v ≡ Pointer (Some (record { 0 = o }))
pointed (Number v) o is = absurd cc
pointed (Pointer None) o is = absurd cc
pointed (Pointer (Some x)) o is = (let same : x.0 ≡ o = cc in ap (λ (n : ℕ). Pointer (Some (record { 0 = n }))) same)

-- what is no string has a slot for each field or item
slots_of : (m : Making) → 3 ≤ class_in m → length_in m ≡ slots_in m
slots_of (Plain class fields) high = refl
slots_of (Text units) high = absurd (omega (arith, high))
slots_of (Filled class n item) high = refl
slots_of (Opaque class n) high = refl

inside : (a b c : Bool) → (a || (b || c)) ≡ false → c ≡ false
inside true b c is = absurd cc
inside false true c is = absurd cc
inside false false c is = is

element_here : (s : StatedSetup) (p : Parts) (t : ℕ) (env : Option EnvId) (r : Ref) (index : ℤ) (o : ℕ)
    → Unbroken s p t env (Arrays (GetObjectArrayElement r index)) → AllHere s p
    → is_outside index (pos 1) (length_of s p (the_object p t r)) ≡ false → target_in (slot_of s p (the_object p t r) (natural index)) ≡ Some o
    → Here (class_count s) p.heap o
element_here s p t env r index o kept all within is =
    let x : ℕ = the_object p t r in
    let array : class_of s p x ≡ 3 =
    eqb-true (class_of s p x) 3 (first_is_of s p ObjectArray (names p t r) false false false kept.alive kept.not_null kept.right_type) in
    let made = made_so s p x 3 array (omega arith) in
    let size = slots_of (heap.making_at (class_count s) p.heap x) (omega (arith, made.class)) in
    let low : nat_lt (length_of s p x) (natural index + 1) ≡ false = inside (int_lt index (pos 0)) (int_lt (pos 1) (pos 0)) _ within in
    let below : natural index < slots_in (heap.making_at (class_count s) p.heap x) = subst (λ (n : ℕ). natural index < n) size (grind (arith, nat_tests, low))
    in
    all.slots x (natural index) (record { 0 = o }) made.made made.here below (pointed (slot_of s p x (natural index)) o is)

field_at : (s : StatedSetup) (p : Parts) (x : ℕ) (field : FieldId) (o : ℕ) → AllByRecursion (MakesStated s) p.heap → AllHere s p
    → IsStatedField s field.class field.field → class_of s p x ≡ field.class → target_in (field_value s p x field) ≡ Some o → Here (class_count s) p.heap o
field_at s p x field o stated all is same found =
    let m : Making = heap.making_at (class_count s) p.heap x in
    let made = made_so s p x field.class same (omega (arith, is.high)) in
    let wide = length_stated s p x field.class stated same (omega (arith, is.high)) in
    let below : slot_place field < slots_in m = omega (arith, slots_of m (omega (arith, made.class, is.high)), wide, is.within) in
    all.slots x (slot_place field) (record { 0 = o }) made.made made.here below (pointed (field_value s p x field) o found)

field_named : (s : StatedSetup) (p : Parts) (named : Named) (field : FieldId) (o : ℕ) (a b : Bool) → AllByRecursion (MakesStated s) p.heap → AllHere s p
    → not (is_stated_as None (field_type s field.class field.field) && is_of_class s p field.class named) ≡ false
    → object_in named ≡ Some (unwrap_or (object_in named) 0)
    → target_in (field_value s p (unwrap_or (object_in named) 0) field) ≡ Some o → Here (class_count s) p.heap o
field_named s p Nothing field o a b stated all right some found = absurd cc
field_named s p NamesNull field o a b stated all right some found = absurd cc
field_named s p (Object x) field o a b stated all right some found =
    let both = both_true (is_stated_as None (field_type s field.class field.field)) (class_of s p x.0 == field.class) right in
    field_at s p x.0 field o stated all (stated_field s field.class field.field None both.0) (eqb-true (class_of s p x.0) field.class both.1) found

-- ---- what an answer hands out

-- the object that a reference is handed out for is there, and so is one that becomes pending; an exception that is made is the next object
abbrev pub HandsHere : ℕ → List heap.Event → Value → Option ObjId → Type 0
HandsHere k e (Reference r) (Some o) = Here k e o.0
HandsHere k e (Threw kind) (Some o) = o.0 ≡ heap.count_of k e
HandsHere k e Done (Some o) = Here k e o.0
HandsHere k e value o = Unit {0}

abbrev pub AnswersHere : ℕ → List heap.Event → Answer → Type 0
AnswersHere k e a = HandsHere k e a.reply.value a.object

handed_here : (k : ℕ) (e : List heap.Event) (p : Parts) (t : Tid) (kind : Kind) (found : Option ℕ) → ((o : ℕ) → found ≡ Some o → Here k e o)
    → AnswersHere k e (handed p t kind found)
handed_here k e p t kind None here = tt
handed_here k e p t kind (Some o) here = here o refl

raised_here : (k : ℕ) (e : List heap.Event) (found : Option ℕ) → ((o : ℕ) → found ≡ Some o → Here k e o)
    → AnswersHere k e (saying Done (option_map (λ o. record { 0 = o }) found))
raised_here k e None here = tt
raised_here k e (Some o) here = here o refl

-- a call that does nothing to the store
none_if : (b : Bool) (e : List heap.Event) → if_effective b [] ++ e ≡ e
none_if true e = refl
none_if false e = refl

reads : (k : ℕ) (e : List heap.Event) (a : Answer) → AnswersHere k e a → AnswersHere k (if_effective (is_effective a.reply.value) [] ++ e) a
reads k e a here = subst (λ (f : List heap.Event). AnswersHere k f a) (sym (none_if (is_effective a.reply.value) e)) here

found_here : (s : StatedSetup) (p : Parts) (t : Tid) (found : Option ℕ) → ((o : ℕ) → found ≡ Some o → Here (class_count s) p.heap o)
    → AnswersHere (class_count s) p.heap (class_found s p t found)
found_here s p t None here = refl
found_here s p t (Some c) here = here c refl

field_here : (s : StatedSetup) (p : Parts) (found : Option FieldId) → AnswersHere (class_count s) p.heap (field_found s p found)
field_here s p None = refl
field_here s p (Some f) = tt

registered_here : (s : StatedSetup) (p : Parts) (class native : Option ℕ) → AnswersHere (class_count s) p.heap (registered s p class native)
registered_here s p class None = refl
registered_here s p class (Some native) = tt

admitted_here : (k : ℕ) (e : List heap.Event) (s : StatedSetup) (p : Parts) (operation : Operation) (class : Option ℕ)
    (a : Answer) → AnswersHere k e a → AnswersHere k e (admitted s p operation class a)
admitted_here k e s p operation class a here = here

left_here : (k : ℕ) (e : List heap.Event) (exception : Option ℕ) (a : Answer) → AnswersHere k e a → AnswersHere k e (unless_pending exception a)
left_here k e None a here = here
left_here k e (Some x) a here = tt

env_here : (k : ℕ) (e : List heap.Event) (t : Tid) (n : Option ℕ) → AnswersHere k e (plain (present_env t n))
env_here k e t None = tt
env_here k e t (Some n) = tt

outside_here : (s : StatedSetup) (p : Parts) (kind : Thrown) (b : Bool) (a : Answer) → (b ≡ false → AnswersHere (class_count s) p.heap a)
    → AnswersHere (class_count s) p.heap (or_outside s p kind b a)
outside_here s p kind true a here = refl
outside_here s p kind false a here = here refl

enter_here : (k : ℕ) (e : List heap.Event) (x : Entering) → AnswersHere k e (plain (entered x))
enter_here k e Entered = tt
enter_here k e KeptOut = tt

-- a region that is written brings no object, thrown or not
written_here : (s : StatedSetup) (p : Parts) (b : Bool) (events : List heap.Event)
    → AnswersHere (class_count s) (if_effective (is_effective (or_outside s p ArrayIndexOutOfBounds b (plain Done)).reply.value) events ++ p.heap)
    (or_outside s p ArrayIndexOutOfBounds b (plain Done))
written_here s p true events = refl
written_here s p false events = tt

pub answer_here : (s : StatedSetup) (p : Parts) (t : Tid) (env : Option EnvId) (call : Call) → Unbroken s p t.0 env call → AllByRecursion (MakesStated s) p.heap
    → AllHere s p
    → AnswersHere (class_count s) (if_effective (is_effective (answer s p t call).reply.value) (call_heap s p t.0 call) ++ p.heap) (answer s p t call)
answer_here s p t env (Vm GetEnv) kept stated all = reads (class_count s) p.heap (answer s p t (Vm GetEnv)) (env_here (class_count s) p.heap t (session p t.0))
answer_here s p t env (Vm (NativeEnter class method signature)) kept stated all =
    reads (class_count s) p.heap (answer s p t (Vm (NativeEnter class method signature)))
    (admitted_here (class_count s) p.heap s p Link (class_named s class) (handed p t Local (class_named s class))
    (handed_here (class_count s) p.heap p t Local (class_named s class) (λ o is. class_here (class_count s) p.heap o (class_below s class o is))))
answer_here s p t env (Vm (NativeLeave r)) kept stated all =
    reads (class_count s) p.heap (answer s p t (Vm (NativeLeave r)))
    (left_here (class_count s) p.heap (pending p t.0) (handed p t Local (object_named p t.0 r))
    (handed_here (class_count s) p.heap p t Local (object_named p t.0 r) (λ o is. named_here s p t.0 o r all is)))
answer_here s p t env (Vm (RegisterNatives class method signature)) kept stated all =
    reads (class_count s) p.heap (answer s p t (Vm (RegisterNatives class method signature)))
    (registered_here s p (class_meant s p t.0 class) (native_meant s (class_meant s p t.0 class) method signature))
answer_here s p t env (Refs (NewLocalRef r)) kept stated all =
    reads (class_count s) p.heap (answer s p t (Refs (NewLocalRef r)))
    (handed_here (class_count s) p.heap p t Local (object_named p t.0 r) (λ o is. named_here s p t.0 o r all is))
answer_here s p t env (Refs (NewGlobalRef r)) kept stated all =
    reads (class_count s) p.heap (answer s p t (Refs (NewGlobalRef r)))
    (handed_here (class_count s) p.heap p t Global (object_named p t.0 r) (λ o is. named_here s p t.0 o r all is))
answer_here s p t env (Refs (NewWeakGlobalRef r)) kept stated all =
    reads (class_count s) p.heap (answer s p t (Refs (NewWeakGlobalRef r)))
    (handed_here (class_count s) p.heap p t Weak (object_named p t.0 r) (λ o is. named_here s p t.0 o r all is))
answer_here s p t env (Frames (PopLocalFrame r)) kept stated all =
    reads (class_count s) p.heap (answer s p t (Frames (PopLocalFrame r)))
    (handed_here (class_count s) p.heap p t Local (object_named p t.0 r) (λ o is. named_here s p t.0 o r all is))
answer_here s p t env (Exceptions (Throw r)) kept stated all =
    reads (class_count s) p.heap (answer s p t (Exceptions (Throw r)))
    (raised_here (class_count s) p.heap (object_named p t.0 r) (λ o is. named_here s p t.0 o r all is))
answer_here s p t env (Exceptions ExceptionOccurred) kept stated all =
    reads (class_count s) p.heap (answer s p t (Exceptions ExceptionOccurred))
    (handed_here (class_count s) p.heap p t Local (pending p t.0) (λ o is. all.pending t.0 o is))
answer_here s p t env (Objects (FindClass name)) kept stated all =
    reads (class_count s) p.heap (answer s p t (Objects (FindClass name)))
    (found_here s p t (class_named s name) (λ o is. class_here (class_count s) p.heap o (class_below s name o is)))
answer_here s p t env (Objects (GetObjectClass r)) kept stated all =
    class_here (class_count s) p.heap (class_of s p (the_object p t.0 r)) (class_known (is_here s p (the_object p t.0 r)) s _ (all.known (the_object p t.0 r)))
answer_here s p t env (Objects (AllocObject class)) kept stated all =
    here_new (class_count s) p.heap
    (Plain (the_object p t.0 class) (map first_value (fields_in (class_at s (the_object p t.0 class)))))
answer_here s p t env (Objects (GetFieldID class field signature)) kept stated all =
    reads (class_count s) p.heap (answer s p t (Objects (GetFieldID class field signature)))
    (field_here s p (field_meant s (class_meant s p t.0 class) field signature))
answer_here s p t env (Objects (GetObjectField r field)) kept stated all =
    reads (class_count s) p.heap (answer s p t (Objects (GetObjectField r field)))
    (handed_here (class_count s) p.heap p t Local (target_in (field_value s p (the_object p t.0 r) field))
    (λ o is. field_named s p (names p t.0 r) field o false false stated all kept.right_field (the_named (names p t.0 r) false false kept.alive kept.not_null)
    is))
answer_here s p t env (Strings (NewString units)) kept stated all = here_new (class_count s) p.heap (Text (map natural units))
answer_here s p t env (Strings (NewStringUTF bytes)) kept stated all = here_new (class_count s) p.heap (Text (unwrap_or (decoded bytes) []))
answer_here s p t env (Strings (GetStringRegion r start n)) kept stated all =
    reads (class_count s) p.heap (answer s p t (Strings (GetStringRegion r start n)))
    (outside_here s p StringIndexOutOfBounds (is_outside start n (length (units_of s p (the_object p t.0 r))))
    (region (map pos (units_of s p (the_object p t.0 r))) start n) (λ is. tt))
answer_here s p t env (Arrays (NewArray element n)) kept stated all =
    here_new (class_count s) p.heap (Filled (array_class element) (natural n) (Number (pos 0)))
answer_here s p t env (Arrays (GetArrayRegion element r start n)) kept stated all =
    reads (class_count s) p.heap (answer s p t (Arrays (GetArrayRegion element r start n)))
    (outside_here s p ArrayIndexOutOfBounds (is_outside start n (length_of s p (the_object p t.0 r)))
    (region (items_of s p (the_object p t.0 r)) start n) (λ is. tt))
answer_here s p t env (Arrays (SetArrayRegion element r start values)) kept stated all =
    written_here s p (is_outside start (pos (length values)) (length_of s p (the_object p t.0 r))) _
answer_here s p t env (Arrays (NewObjectArray n class fill)) kept stated all =
    here_new (class_count s) p.heap (Filled 3 (natural n) (pointer (object_named p t.0 fill)))
answer_here s p t env (Arrays (GetObjectArrayElement r index)) kept stated all =
    reads (class_count s) p.heap (answer s p t (Arrays (GetObjectArrayElement r index)))
    (outside_here s p ArrayIndexOutOfBounds (is_outside index (pos 1) (length_of s p (the_object p t.0 r)))
    (handed p t Local (target_in (slot_of s p (the_object p t.0 r) (natural index))))
    (λ within. handed_here (class_count s) p.heap p t Local (target_in (slot_of s p (the_object p t.0 r) (natural index)))
    (λ o is. element_here s p t.0 env r index o kept all within is)))
answer_here s p t env (Arrays (SetObjectArrayElement r index value)) kept stated all =
    written_here s p (is_outside index (pos 1) (length_of s p (the_object p t.0 r))) _
answer_here s p t env (Monitors (MonitorEnter r)) kept stated all =
    reads (class_count s) p.heap (answer s p t (Monitors (MonitorEnter r)))
    (enter_here (class_count s) p.heap (monitors.entering t.0 (monitors.owner p.monitors (the_object p t.0 r))))
answer_here s p t env (Buffers (GetArrayElements element r)) kept stated all = tt
answer_here s p t env call kept stated all = tt

-- ---- what is done with it

-- warnings and links say nothing of objects
abbrev without_links : Parts → Parts
without_links p = record p { links = [] }

unlinked : (s : StatedSetup) (p q : Parts) → without_links p ≡ without_links q → AllHere s p → AllHere s q
unlinked s p q same all =
    let apart : AllHere s (without_links p) =
    record { locals = all.locals; pending = all.pending; strong = all.strong; weak = all.weak; slots = all.slots; known = all.known } in
    let there : AllHere s (without_links q) = subst (λ (r : Parts). AllHere s r) same apart in
    record { locals = there.locals; pending = there.pending; strong = there.strong; weak = there.weak; slots = there.slots; known = there.known }

-- a number is counted
counted_here : (s : StatedSetup) (q : Parts) (t : ℕ) (a : threads.Act) → ((H : ℕ → Type 0) → RaisesMeet H (a ∷ [])) → AllHere s q
    → AllHere s (record q { threads = threads.by t a ∷ q.threads })
counted_here s q t a raises all =
    let H : ℕ → Type 0 = Here (class_count s) q.heap in
    record {
      locals = all.locals;
      pending = pending_more H q.threads t (a ∷ []) (raises H) all.pending;
      strong = all.strong;
      weak = all.weak;
      slots = all.slots;
      known = all.known;
    }

thrown_below : (s : StatedSetup) (kind : Thrown) → class_thrown kind < class_count s
thrown_below s ArrayIndexOutOfBounds = omega arith
thrown_below s call = omega arith

-- an exception is made, and raised or not
made_here : (s : StatedSetup) (q : Parts) (t : ℕ) (kind : Thrown) (acts : List threads.Act)
    → RaisesMeet (Here (class_count s) (heap.Made (Plain (class_thrown kind) []) ∷ q.heap)) acts → AllHere s q
    → AllHere s (record q { threads = map (threads.by t) acts ++ q.threads; heap = heap.Made (Plain (class_thrown kind) []) ∷ q.heap })
made_here s q t kind acts raises all =
    let k : ℕ = class_count s in
    let m : Making = Plain (class_thrown kind) [] in
    let more : (o : ℕ) → Here k q.heap o → Here k (heap.Made m ∷ q.heap) o = λ o here. here_made k q.heap m o here in
    record {
      locals = λ u n o is. more o (all.locals u n o is);
      pending = pending_more (Here k (heap.Made m ∷ q.heap)) q.threads t acts raises (λ u o is. more o (all.pending u o is));
      strong = λ u n o is. more o (all.strong u n o is);
      weak = λ u n o is. more o.0 (all.weak u n o is);
      slots = slots_made k q.heap m all.slots (λ j o within is. absurd (omega (arith, within)));
      known = known_made k q.heap m (thrown_below s kind) all.known;
    }

settle_here : (s : StatedSetup) (home : Option ℕ) (q : Parts) (t : ℕ) (value : Value) (warned : Bool) (o : Option ObjId)
    → HandsHere (class_count s) q.heap value o → AllHere s q
    → AllHere s (settled home t (record { value = value; warned = warned; noticed = false }) o q)
settle_here s home q t (Reference Null) warned o here all = unlinked s _ _ refl (counted_here s q t threads.CountRef (λ H. tt) all)
settle_here s home q t (Reference (To Local maker n)) warned None here all = unlinked s _ _ refl (counted_here s q t threads.CountRef (λ H. tt) all)
settle_here s home q t (Reference (To Local maker n)) warned (Some o) here all =
    let counted = counted_here s q t threads.CountRef (λ H. tt) all in
    record {
      locals = locals_made (Here (class_count s) q.heap) q.locals t n o.0 here all.locals;
      pending = counted.pending;
      strong = all.strong;
      weak = all.weak;
      slots = all.slots;
      known = all.known;
    }
settle_here s home q t (Reference (To Global maker n)) warned None here all = unlinked s _ _ refl (counted_here s q t threads.CountRef (λ H. tt) all)
settle_here s home q t (Reference (To Global maker n)) warned (Some o) here all =
    let counted = counted_here s q t threads.CountRef (λ H. tt) all in
    let H : ℕ → Type 0 = Here (class_count s) q.heap in
    record {
      locals = all.locals;
      pending = counted.pending;
      strong = strong_more H (globals.MakeStrong maker.0 n o.0 ∷ []) q.globals (here, tt) all.strong;
      weak = weak_more H (globals.MakeStrong maker.0 n o.0 ∷ []) q.globals (here, tt) all.weak;
      slots = all.slots;
      known = all.known;
    }
settle_here s home q t (Reference (To Weak maker n)) warned None here all = unlinked s _ _ refl (counted_here s q t threads.CountRef (λ H. tt) all)
settle_here s home q t (Reference (To Weak maker n)) warned (Some o) here all =
    let counted = counted_here s q t threads.CountRef (λ H. tt) all in
    let H : ℕ → Type 0 = Here (class_count s) q.heap in
    record {
      locals = all.locals;
      pending = counted.pending;
      strong = strong_more H (globals.MakeWeak maker.0 n o.0 ∷ []) q.globals (here, tt) all.strong;
      weak = weak_more H (globals.MakeWeak maker.0 n o.0 ∷ []) q.globals (here, tt) all.weak;
      slots = all.slots;
      known = all.known;
    }
settle_here s home q t (Lent b) warned o here all = unlinked s _ _ refl (counted_here s q t threads.CountBuffer (λ H. tt) all)
settle_here s home q t (Threw kind) warned None here all = unlinked s _ _ refl (made_here s q t kind [] tt all)
settle_here s home q t (Threw kind) warned (Some o) here all =
    let H : ℕ → Type 0 = Here (class_count s) (heap.Made (Plain (class_thrown kind) []) ∷ q.heap) in
    unlinked s _ _ refl (made_here s q t kind (threads.Raise o.0 ∷ []) (subst H (sym here) (here_new (class_count s) q.heap (Plain (class_thrown kind) [])), tt)
    all)
settle_here s home q t Done warned None here all = unlinked s _ _ refl all
settle_here s home q t Done warned (Some o) here all =
    let raised : AllHere s (record q { threads = threads.by t (threads.Raise o.0) ∷ q.threads }) = record {
      locals = all.locals;
      pending = pending_more (Here (class_count s) q.heap) q.threads t (threads.Raise o.0 ∷ []) (here, tt) all.pending;
      strong = all.strong;
      weak = all.weak;
      slots = all.slots;
      known = all.known;
    } in
    unlinked s _ _ refl raised
settle_here s home q t (Amount n) warned o here all = unlinked s _ _ refl all
settle_here s home q t (Truth b) warned o here all = unlinked s _ _ refl all
settle_here s home q t NullAnswer warned o here all = unlinked s _ _ refl all
settle_here s home q t (Field f) warned o here all = unlinked s _ _ refl all
settle_here s home q t (Environment env) warned o here all = unlinked s _ _ refl all
settle_here s home q t (Listed items) warned o here all = unlinked s _ _ refl all
settle_here s home q t Busy warned o here all = unlinked s _ _ refl all
settle_here s home q t NotAttached warned o here all = unlinked s _ _ refl all

done_if_here : (b : Bool) (s : StatedSetup) (p : Parts) (t : ℕ) (env : Option EnvId) (call : Call) → Unbroken s p t env call → AllHere s p
    → AllHere s (done_if b s t call p)
done_if_here true s p t env call kept all = done_here s p t env call kept all
done_if_here false s p t env call kept all = all

-- ---- each legal history

each_here : (s : StatedSetup) (v : Option Rule) (p : Parts) (x : Entry) → verdict s p x.tid.0 x.env x.call ≡ v → AllByRecursion (MakesStated s) p.heap
    → AllHere s p
    → (y : Entry) → y ≡ entry_by v (answer s p x.tid x.call) x.tid x.env x.call → AllHere s (after s y.tid.0 y.call y.outcome y.object p)
each_here s (Some rule) p x denied stated all y same = rw same all
each_here s None p x none stated all y same =
    let kept = unbroken s p x.tid.0 x.env x.call none in
    let a : Answer = answer s p x.tid x.call in
    rw same (settle_here s (home_of s (native_class s p x.tid.0 x.call)) (done_if (is_effective a.reply.value) s x.tid.0 x.call p) x.tid.0 a.reply.value
    a.reply.warned a.object
    (answer_here s p x.tid x.env x.call kept stated all) (done_if_here (is_effective a.reply.value) s p x.tid.0 x.env x.call kept all))

pub all_here : (s : StatedSetup) (h : List Entry) → Legal s h → AllHere s (parts s h)
all_here s [] legal =
    record {
      locals = λ t n o is. absurd cc;
      pending = λ t o is. absurd cc;
      strong = λ m n o is. absurd cc;
      weak = λ m n o is. absurd cc;
      slots = λ x j o made gone within is. absurd cc;
      known = λ o. omega arith;
    }
all_here s (x ∷ h) legal = each_here s (verdict s (parts s h) x.tid.0 x.env x.call) (parts s h) x refl (all_stated s h legal.1) (all_here s h legal.1) x legal.0

-- one that isn't there counts as a class object, whose class is 1
pub classes_are_stated : ClassesAreStated
classes_are_stated s h o legal = class_known (is_here s (parts s h) o) s _ ((all_here s h legal).known o)

pub live_is_not_gone : LiveIsNotGone
live_is_not_gone s h t o r legal is = (named_here s (parts s h) t o r (all_here s h legal) is).1

-- ---- what went

pub gone_steps : (s : StatedSetup) (o : ℕ) → Steps s (λ p. heap.gone_at (class_count s) p.heap o ≡ true)
gone_steps s o = heap_steps s (λ h. heap.gone_at (class_count s) h o ≡ true) (λ e h stated old. gone_law (class_count s) e h o old)

pub stays_gone : StaysGone
stays_gone s later before o legal is = each_since (λ p. heap.gone_at (class_count s) p.heap o ≡ true) s (gone_steps s o) later before legal is
