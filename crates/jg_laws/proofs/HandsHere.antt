-- One call more: what it makes, writes, raises and hands out was made and isn't gone.
use Rattle.std.proofs.Common.{ℕ, ℤ, pos, ◌≡◌, ◌+◌, ◌<◌, ◌++◌, Bool, true, false, zero, suc, List, [], ◌∷◌, map, length, Option, Some, None, refl, arith, eqb-true}
use Rattle.std.specs.Prelude.{◌==◌, ◌&&◌, ◌||◌, nat_lt, nat_le, if◌then◌else◌, slice_index_or}
use Rattle.std.specs.Option.{unwrap_or}
use Rattle.std.proofs.lemmas.Bool.Decides.{nat_tests}
use Rattle.jg_words.specs.declared.thread.EnvId.{EnvId}
use Rattle.jg_words.specs.declared.object.ObjId.{ObjId}
use Rattle.jg_words.specs.declared.reference.Ref.{Ref}
use Rattle.jg_words.specs.declared.reference.Ref.TheVariants.{Null, To}
use Rattle.jg_words.specs.declared.reference.Kind.TheVariants.{Local, Global, Weak}
use Rattle.jg_words.specs.declared.call.Call.{Call}
use Rattle.jg_words.specs.declared.call.Call.TheVariants.{Vm, Refs, Frames, Exceptions, Objects, Strings, Arrays, Monitors, Buffers}
use Rattle.jg_words.specs.declared.call.vm.VmCall.TheVariants.{AttachCurrentThread, DetachCurrentThread, GetEnv, NativeEnter, NativeLeave, LoadLibrary, RegisterNatives, UnregisterNatives, Collect}
use Rattle.jg_words.specs.declared.call.refs.RefsCall.TheVariants.{NewLocalRef, NewGlobalRef, NewWeakGlobalRef, DeleteLocalRef, DeleteGlobalRef, DeleteWeakGlobalRef, IsSameObject, GetObjectRefType}
use Rattle.jg_words.specs.declared.call.frames.FramesCall.TheVariants.{PushLocalFrame}
use Rattle.jg_words.specs.declared.call.exceptions.ExceptionsCall.TheVariants.{Throw, ExceptionOccurred, ExceptionDescribe, ExceptionClear, ExceptionCheck}
use Rattle.jg_words.specs.declared.call.objects.ObjectsCall.TheVariants.{AllocObject, SetField, SetObjectField}
use Rattle.jg_words.specs.declared.call.strings.StringsCall.TheVariants.{NewString, NewStringUTF}
use Rattle.jg_words.specs.declared.call.arrays.ArraysCall.TheVariants.{NewArray, SetArrayRegion, NewObjectArray, SetObjectArrayElement}
use Rattle.jg_words.specs.declared.call.buffers.BuffersCall.TheVariants.{ReleaseArrayElements, BufferWrite}
use Rattle.jg_table_buffers.specs.declared.info.Info.{Info}
use Rattle.jg_table_buffers.specs.History as buffers
use Rattle.jg_policy.specs.Stated.{StatedSetup, StatedMember, class_count}
use Rattle.jg_policy.specs.Classes.{is_class_type}
use Rattle.jg_table_globals.specs.History as globals
use Rattle.jg_table_threads.specs.History as threads
use Rattle.jg_table_heap.specs.declared.object.Slot.{Slot}
use Rattle.jg_table_heap.specs.declared.object.Slot.TheVariants.{Number, Object as Pointer}
use Rattle.jg_table_heap.specs.Making.{Making, Filled, class_in}
use Rattle.jg_words.specs.Classes.{array_class}
use Rattle.jg_table_heap.specs.Reading.{natural}
use Rattle.jg_table_heap.specs.History as heap
use Rattle.jg_rules.specs.declared.named.Named.{Named}
use Rattle.jg_rules.specs.declared.named.Named.TheVariants.{Nothing, Null as NamesNull, Object}
use Rattle.jg_rules.specs.Parts.{Parts}
use Rattle.jg_rules.specs.Names.{names, object_in, object_named, the_object}
use Rattle.jg_rules.specs.Effects.{call_threads, call_locals, call_globals, call_heap, done_by, started, deletes_local, pointer, first_value, wrote_back, wrote_pinned}
use Rattle.jg_rules.specs.Buffers.{buffer_named, writes_back}
use Rattle.jg_rules.specs.Rules.{is_nothing, is_null, is_machine}
use Rattle.jg_rules.specs.Unbroken.{Unbroken}
use Rattle.jg_rules.specs.Operands.{is_plain}
use Rattle.jg_rules.specs.declared.operand.ObjectType.TheVariants.{PlainClass}
use Rattle.jg_rules.proofs.Objects.{first_is_of}
use Rattle.jg_words.specs.declared.object.Primitive.{Primitive}
use Rattle.jg_laws.proofs.Makings.{array_class-le}
use Rattle.jg_laws.proofs.Here.{Here, SlotsMeet, PointsHere, Still, here_made, known_made, slots_made, slots_wrote, region_still, number_no}
use Rattle.jg_laws.proofs.Referring.{RaisesMeet, MakesMeet, make_none, locals_still, pending_more, strong_more, weak_more}
use Rattle.jg_laws.proofs.NothingGone.{AllHere, named_here, collected_here}

-- ---- the store's events

pointer_is : (target : Option ℕ) (o : ObjId) → pointer target ≡ Pointer (Some o) → target ≡ Some o.0
pointer_is None o is = absurd cc
pointer_is (Some x) o is = cc

first_no : (b : Bool) (o : ObjId) → (if b then Pointer None else Number (pos 0)) ≡ Pointer (Some o) → ⊥
first_no true o is = cc
first_no false o is = cc

-- a new object's fields name nothing
fresh_no : (fields : List StatedMember) (j : ℕ) (o : ObjId) → slice_index_or (map first_value fields) j (Number (pos 0)) ≡ Pointer (Some o) → ⊥
fresh_no [] j o is = number_no (pos 0) o is
fresh_no (f ∷ fields) zero o is = first_no (is_class_type f.signature) o is
fresh_no (f ∷ fields) (suc j) o is = fresh_no fields j o is

unmoved : (k : ℕ) (e : List heap.Event) → SlotsMeet k e → Still k e e
unmoved k e slots = record { here = λ o here. here; slots = slots; known = λ are. are }

made_still : (k : ℕ) (e : List heap.Event) (m : Making) → class_in m < k → SlotsMeet k e → PointsHere k e m → Still k e (heap.Made m ∷ e)
made_still k e m class slots points =
    record { here = λ o here. here_made k e m o here; slots = slots_made k e m slots points; known = λ are. known_made k e m class are }

wrote_still : (k : ℕ) (e : List heap.Event) (p i : ℕ) (v : Slot) → SlotsMeet k e → ((o : ObjId) → v ≡ Pointer (Some o) → Here k e o.0)
    → Still k e (heap.Wrote p i v ∷ e)
wrote_still k e p i v slots points = record { here = λ o here. here; slots = slots_wrote k e p i v slots points; known = λ are. are }

no_plain : (b : Bool) → (false || (b && false)) ≡ true → ⊥
no_plain true is = cc
no_plain false is = cc

plain_if : (b c : Bool) (o k : ℕ) → (o == 0) ≡ b → nat_lt o (15 + k) ≡ c → (b || (nat_le 10 o && c)) ≡ true → o < 15 + k
plain_if true c o k zeroth low is = (let none : o ≡ 0 = eqb-true o 0 zeroth in omega (arith, none))
plain_if false true o k other low is = grind (arith, nat_tests, low)
plain_if false false o k other low is = absurd (no_plain (nat_le 10 o) is)

plain_below : (s : StatedSetup) (o : ℕ) → is_plain s o ≡ true → o < class_count s
plain_below s o is = plain_if (o == 0) (nat_lt o (class_count s)) o (length s.classes) refl refl is

array_below : (s : StatedSetup) (element : Primitive) → array_class element < class_count s
array_below s element = omega (arith, array_class-le element)

-- numbers name nothing
found_still : (k : ℕ) (values : List ℤ) (found : Option Info) (e : List heap.Event) → SlotsMeet k e → Still k e (wrote_back values found ++ e)
found_still k values None e slots = unmoved k e slots
found_still k values (Some info) e slots = region_still k info.object.0 values 0 e slots

back_still : (b : Bool) (k : ℕ) (values : List ℤ) (found : Option Info) (e : List heap.Event) → SlotsMeet k e
    → Still k e ((if b then wrote_back values found else []) ++ e)
back_still true k values found e slots = found_still k values found e slots
back_still false k values found e slots = unmoved k e slots

pinned_if : (b : Bool) (k o index : ℕ) (v : ℤ) (e : List heap.Event) → SlotsMeet k e → Still k e ((if b then heap.Wrote o index (Number v) ∷ [] else []) ++ e)
pinned_if true k o index v e slots = wrote_still k e o index (Number v) slots (λ x is. absurd (number_no v x is))
pinned_if false k o index v e slots = unmoved k e slots

pinned_still : (k index : ℕ) (v : ℤ) (found : Option Info) (e : List heap.Event) → SlotsMeet k e → Still k e (wrote_pinned index v found ++ e)
pinned_still k index v None e slots = unmoved k e slots
pinned_still k index v (Some info) e slots = pinned_if (buffers.is_critical info.family) k info.object.0 index v e slots

heap_done : (s : StatedSetup) (p : Parts) (t : ℕ) (env : Option EnvId) (call : Call) → Unbroken s p t env call
    → is_machine call ≡ false → AllHere s p → Still (class_count s) p.heap (call_heap s p t call ++ p.heap)
heap_done s p t env (Vm Collect) kept own all = absurd cc
heap_done s p t env (Objects (AllocObject class)) kept own all =
    made_still (class_count s) p.heap _
    (plain_below s (the_object p t class)
    (first_is_of s p PlainClass (names p t class) false false false kept.alive kept.not_null kept.right_type)) all.slots
    (λ j o within is. absurd (fresh_no _ j o is))
heap_done s p t env (Objects (SetField primitive r field value)) kept own all =
    wrote_still (class_count s) p.heap _ _ (Number value) all.slots (λ o is. absurd (number_no value o is))
heap_done s p t env (Objects (SetObjectField r field value)) kept own all =
    wrote_still (class_count s) p.heap _ _ (pointer (object_named p t value)) all.slots
    (λ o is. named_here s p t o.0 value all (pointer_is (object_named p t value) o is))
heap_done s p t env (Strings (NewString units)) kept own all =
    made_still (class_count s) p.heap _ (omega arith) all.slots (λ j o within is. absurd (omega (arith, within)))
heap_done s p t env (Strings (NewStringUTF bytes)) kept own all =
    made_still (class_count s) p.heap _ (omega arith) all.slots (λ j o within is. absurd (omega (arith, within)))
heap_done s p t env (Arrays (NewArray element n)) kept own all =
    made_still (class_count s) p.heap _ (array_below s element) all.slots (λ j o within is. absurd (number_no (pos 0) o is))
heap_done s p t env (Arrays (SetArrayRegion element r start values)) kept own all =
    region_still (class_count s) (the_object p t r) values (natural start) p.heap all.slots
heap_done s p t env (Arrays (NewObjectArray n class fill)) kept own all =
    made_still (class_count s) p.heap (Filled 3 (natural n) (pointer (object_named p t fill))) (omega arith) all.slots
    (λ j o within is. named_here s p t o.0 fill all (pointer_is (object_named p t fill) o is))
heap_done s p t env (Arrays (SetObjectArrayElement r index value)) kept own all =
    wrote_still (class_count s) p.heap _ _ (pointer (object_named p t value)) all.slots
    (λ o is. named_here s p t o.0 value all (pointer_is (object_named p t value) o is))
heap_done s p t env (Buffers (ReleaseArrayElements element r b mode)) kept own all =
    back_still (writes_back mode) (class_count s) (buffers.contents p.buffers b.maker.0 b.n) (buffer_named p b) p.heap
    all.slots
heap_done s p t env (Buffers (BufferWrite b index value)) kept own all = pinned_still (class_count s) (natural index) value (buffer_named p b) p.heap all.slots
heap_done s p t env call kept own all = unmoved (class_count s) p.heap all.slots

-- ---- the other tables' events

start_makes_none : (b : Bool) → make_none (started b) ≡ true
start_makes_none true = refl
start_makes_none false = refl

delete_makes_none : (r : Ref) → make_none (deletes_local r) ≡ true
delete_makes_none Null = refl
delete_makes_none (To Local maker n) = refl
delete_makes_none (To Global maker n) = refl
delete_makes_none (To Weak maker n) = refl

pub call_makes_none : (s : StatedSetup) (p : Parts) (t : ℕ) (call : Call) → make_none (call_locals s p t call) ≡ true
call_makes_none s p t (Vm AttachCurrentThread) = start_makes_none (threads.attached (threads.acts_of t p.threads))
call_makes_none s p t (Refs (DeleteLocalRef r)) = delete_makes_none r
call_makes_none s p t (Frames (PushLocalFrame capacity)) = refl
call_makes_none s p t call = refl

-- an operand that must name an object names one
pub the_named : (named : Named) (a b : Bool) → (is_nothing named || a) ≡ false → ((true && is_null named) || b) ≡ false
    → object_in named ≡ Some (unwrap_or (object_in named) 0)
the_named Nothing a b alive there = absurd cc
the_named NamesNull a b alive there = absurd cc
the_named (Object x) a b alive there = refl

call_raises : (H : ℕ → Type 0) (s : StatedSetup) (p : Parts) (t : ℕ) (env : Option EnvId) (call : Call) → Unbroken s p t env call
    → ((o : ℕ) (r : Ref) → object_named p t r ≡ Some o → H o)
    → RaisesMeet H (call_threads s p t call)
call_raises H s p t env (Vm AttachCurrentThread) kept named = tt
call_raises H s p t env (Vm DetachCurrentThread) kept named = tt
call_raises H s p t env (Vm GetEnv) kept named = tt
call_raises H s p t env (Vm (NativeEnter class method signature)) kept named = tt
call_raises H s p t env (Vm (NativeLeave kept_ref)) kept named = tt
call_raises H s p t env (Vm (LoadLibrary class library)) kept named = tt
call_raises H s p t env (Vm (RegisterNatives class method signature)) kept named = tt
call_raises H s p t env (Vm (UnregisterNatives class)) kept named = tt
call_raises H s p t env (Vm Collect) kept named = tt
call_raises H s p t env (Refs call) kept named = tt
call_raises H s p t env (Frames call) kept named = tt
call_raises H s p t env (Exceptions (Throw r)) kept named = tt
call_raises H s p t env (Exceptions ExceptionOccurred) kept named = tt
call_raises H s p t env (Exceptions ExceptionDescribe) kept named = tt
call_raises H s p t env (Exceptions ExceptionClear) kept named = tt
call_raises H s p t env (Exceptions ExceptionCheck) kept named = tt
call_raises H s p t env (Objects call) kept named = tt
call_raises H s p t env (Strings call) kept named = tt
call_raises H s p t env (Arrays call) kept named = tt
call_raises H s p t env (Monitors call) kept named = tt
call_raises H s p t env (Buffers call) kept named = tt

deletion_makes : (H : ℕ → Type 0) (r : Ref) → MakesMeet H (globals.deletion r)
deletion_makes H Null = tt
deletion_makes H (To Local maker n) = tt
deletion_makes H (To Global maker n) = tt
deletion_makes H (To Weak maker n) = tt

call_makes : (H : ℕ → Type 0) (s : StatedSetup) (p : Parts) (t : ℕ) (call : Call) → is_machine call ≡ false → MakesMeet H (call_globals s p t call)
call_makes H s p t (Vm AttachCurrentThread) own = tt
call_makes H s p t (Vm DetachCurrentThread) own = tt
call_makes H s p t (Vm GetEnv) own = tt
call_makes H s p t (Vm (NativeEnter class method signature)) own = tt
call_makes H s p t (Vm (NativeLeave kept_ref)) own = tt
call_makes H s p t (Vm (LoadLibrary class library)) own = tt
call_makes H s p t (Vm (RegisterNatives class method signature)) own = tt
call_makes H s p t (Vm (UnregisterNatives class)) own = tt
call_makes H s p t (Vm Collect) own = absurd cc
call_makes H s p t (Refs (NewLocalRef r)) own = tt
call_makes H s p t (Refs (NewGlobalRef r)) own = tt
call_makes H s p t (Refs (NewWeakGlobalRef r)) own = tt
call_makes H s p t (Refs (DeleteLocalRef r)) own = tt
call_makes H s p t (Refs (DeleteGlobalRef r)) own = deletion_makes H r
call_makes H s p t (Refs (DeleteWeakGlobalRef r)) own = deletion_makes H r
call_makes H s p t (Refs (IsSameObject r u)) own = tt
call_makes H s p t (Refs (GetObjectRefType r)) own = tt
call_makes H s p t (Frames call) own = tt
call_makes H s p t (Exceptions call) own = tt
call_makes H s p t (Objects call) own = tt
call_makes H s p t (Strings call) own = tt
call_makes H s p t (Arrays call) own = tt
call_makes H s p t (Monitors call) own = tt
call_makes H s p t (Buffers call) own = tt

-- ---- all that a call does of its own

done_own : (s : StatedSetup) (p : Parts) (t : ℕ) (env : Option EnvId) (call : Call) → is_machine call ≡ false → Unbroken s p t env call → AllHere s p
    → AllHere s (done_by s t call p)
done_own s p t env call own kept all =
    let k : ℕ = class_count s in
    let still = heap_done s p t env call kept own all in
    let H : ℕ → Type 0 = Here k (call_heap s p t call ++ p.heap) in
    let makes = call_makes H s p t call own in
    record {
      locals = locals_still H p.locals t (call_locals s p t call) (call_makes_none s p t call) (λ u n o is. still.here o (all.locals u n o is));
      pending =
          pending_more H p.threads t (call_threads s p t call)
          (call_raises H s p t env call kept (λ o r is. still.here o (named_here s p t o r all is)))
          (λ u o is. still.here o (all.pending u o is));
      strong = strong_more H (call_globals s p t call) p.globals makes (λ m n o is. still.here o (all.strong m n o is));
      weak = weak_more H (call_globals s p t call) p.globals makes (λ m n o is. still.here o.0 (all.weak m n o is));
      slots = still.slots;
      known = still.known all.known;
    }

collects : (call : Call) → is_machine call ≡ true → call ≡ Vm Collect
collects (Vm Collect) is = refl
collects call is = absurd cc

done_by_kind : (b : Bool) (s : StatedSetup) (p : Parts) (t : ℕ) (env : Option EnvId) (call : Call) → is_machine call ≡ b → Unbroken s p t env call → AllHere s p
    → AllHere s (done_by s t call p)
done_by_kind true s p t env call is kept all = rw (collects call is) (collected_here s p all)
done_by_kind false s p t env call is kept all = done_own s p t env call is kept all

pub done_here : (s : StatedSetup) (p : Parts) (t : ℕ) (env : Option EnvId) (call : Call) → Unbroken s p t env call → AllHere s p
    → AllHere s (done_by s t call p)
done_here s p t env call kept all = done_by_kind (is_machine call) s p t env call refl kept all
