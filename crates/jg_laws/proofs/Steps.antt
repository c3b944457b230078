-- What each event of a passed call keeps, each legal history has: one induction over events for all laws.
use Rattle.std.proofs.Common.{ℕ, ℤ, ◌≡◌, Bool, true, false, List, [], ◌∷◌, ◌++◌, map, length, pos, Option, Some, None, refl, sym, ◌∙◌, subst}
use Rattle.std.specs.Prelude.{◌==◌, if◌then◌else◌}
use Rattle.std.specs.List.{AllByRecursion}
use Rattle.jg_words.specs.declared.thread.Tid.{Tid}
use Rattle.jg_words.specs.declared.thread.EnvId.{EnvId}
use Rattle.jg_words.specs.declared.object.ObjId.{ObjId}
use Rattle.jg_words.specs.declared.reference.Ref.{Ref}
use Rattle.jg_words.specs.declared.reference.Ref.TheVariants.{Null, To}
use Rattle.jg_words.specs.declared.reference.Kind.TheVariants.{Local, Global, Weak}
use Rattle.jg_words.specs.declared.rule.Rule.{Rule}
use Rattle.jg_words.specs.declared.value.Value.{Value}
use Rattle.jg_words.specs.declared.value.Value.TheVariants.{Ok as Done, Reference, Buffer as Lent, Throw as Threw}
use Rattle.jg_words.specs.Entry.{Entry}
use Rattle.jg_words.specs.declared.call.Call.{Call}
use Rattle.jg_words.specs.declared.call.Call.TheVariants.{Vm, Refs, Frames, Exceptions, Objects, Strings, Arrays, Monitors, Buffers}
use Rattle.jg_words.specs.declared.call.vm.VmCall.TheVariants.{AttachCurrentThread, DetachCurrentThread, GetEnv, NativeEnter, NativeLeave, LoadLibrary, RegisterNatives, UnregisterNatives, Collect}
use Rattle.jg_words.specs.declared.call.refs.RefsCall.TheVariants.{NewLocalRef, NewGlobalRef, NewWeakGlobalRef, DeleteLocalRef, DeleteGlobalRef, DeleteWeakGlobalRef, IsSameObject, GetObjectRefType}
use Rattle.jg_words.specs.declared.call.frames.FramesCall.TheVariants.{PushLocalFrame, PopLocalFrame, EnsureLocalCapacity}
use Rattle.jg_words.specs.declared.call.exceptions.ExceptionsCall.TheVariants.{Throw, ExceptionOccurred, ExceptionDescribe, ExceptionClear, ExceptionCheck}
use Rattle.jg_words.specs.declared.call.buffers.BuffersCall.TheVariants.{GetArrayElements, ReleaseArrayElements, GetStringChars, ReleaseStringChars, GetStringUTFChars, ReleaseStringUTFChars, GetPrimitiveArrayCritical, ReleasePrimitiveArrayCritical, GetStringCritical, ReleaseStringCritical, BufferRead, BufferWrite}
use Rattle.jg_words.specs.declared.buffer.BufId.{BufId}
use Rattle.jg_table_buffers.specs.declared.info.Info.{Info}
use Rattle.jg_policy.specs.Stated.{StatedSetup}
use Rattle.jg_policy.specs.Links as links
use Rattle.jg_table_threads.specs.History as threads
use Rattle.jg_table_locals.specs.History as locals
use Rattle.jg_table_globals.specs.History as globals
use Rattle.jg_table_buffers.specs.History as buffers
use Rattle.jg_table_monitors.specs.History as monitors
use Rattle.jg_table_heap.specs.History as heap
use Rattle.jg_rules.specs.Parts.{Parts, nothing_yet}
use Rattle.jg_rules.specs.Names.{names, next_ref, next_buffer, open_frames, depth, the_object, length_of, units_of, items_of}
use Rattle.jg_rules.specs.NativeUse.{native_class, home_of}
use Rattle.jg_rules.specs.Buffers.{buffer_named, is_commit}
use Rattle.jg_table_heap.specs.Spelling.{spelt}
use Rattle.jg_table_heap.specs.Reading.{natural}
use Rattle.jg_words.specs.declared.call.buffers.BuffersCall.{BuffersCall}
use Rattle.jg_words.proofs.Common.{clash}
use Rattle.jg_words.specs.declared.object.ItemType.TheVariants.{Of}
use Rattle.jg_table_buffers.specs.declared.family.Family.TheVariants.{Elements, Chars, UtfChars, ArrayCritical, StringCritical}
use Rattle.jg_rules.specs.Effects.{parts, after, started, deletes_local, call_globals, call_buffers, call_monitors, call_heap, call_links, done_by, done_if, is_effective, warning, value_heap, settled, closed, wrote_copy}
use Rattle.jg_rules.specs.Rules.{verdict}
use Rattle.jg_rules.specs.Holding.{going}
use Rattle.jg_rules.specs.Answers.{answer}
use Rattle.jg_rules.specs.declared.answer.Answer.{Answer}
use Rattle.jg_rules.specs.Legal.{Legal, answered, entry_at, entry_by}
use Rattle.jg_rules.specs.Unbroken.{Unbroken}
use Rattle.jg_rules.proofs.Kept.{unbroken}
use Rattle.jg_laws.specs.Laws.{MakesStated}
use Rattle.jg_laws.proofs.Acts.{next_done_if, attached_caller}
use Rattle.jg_laws.proofs.Makings.{call_stated, thrown_stated}
use Rattle.jg_laws.specs.Proper.{IsProper, opens_one}
use Rattle.jg_laws.proofs.Lent.{IsLent, elements_fit, chars_fit, utf_chars_fit, array_critical_fits, string_critical_fits}
use Rattle.jg_laws.proofs.Proper.{proper}

-- the event makes no global reference
abbrev makes_no_global : globals.Event → Bool
makes_no_global (globals.MakeStrong maker n o) = false
makes_no_global (globals.MakeWeak maker n o) = false
makes_no_global (globals.DeleteStrong maker n) = true
makes_no_global (globals.DeleteWeak maker n) = true
makes_no_global (globals.Clear o) = true

abbrev pub make_no_global : List globals.Event → Bool
make_no_global [] = true
make_no_global (ev ∷ e) = if makes_no_global ev then make_no_global e else false

-- each event that a passed call can bring keeps P, under the setup
pub record Steps (s : StatedSetup) (P : Parts → Type 0) : Type 0 where
  -- of its own, to threads and locals
  pub begins : (p : Parts) (t : ℕ) → threads.attached (threads.acts_of t p.threads) ≡ false → P p
      → P (record p { threads = threads.by t threads.Attach ∷ p.threads; locals = locals.by t locals.Start ∷ p.locals })
  pub begun : (p : Parts) (t : ℕ) → threads.attached (threads.acts_of t p.threads) ≡ true → P p
      → P (record p { threads = threads.by t threads.Attach ∷ p.threads })
  pub ends : (p : Parts) (t : ℕ) → P p → P (record p { threads = threads.by t threads.Detach ∷ p.threads; locals = locals.by t locals.End ∷ p.locals })
  pub deletes : (p : Parts) (t n : ℕ) → P p → P (record p { locals = locals.by t (locals.Delete n) ∷ p.locals })
  pub pushes : (p : Parts) (t room : ℕ) → P p → P (record p { locals = locals.by t (locals.Push room) ∷ p.locals })
  pub widens : (p : Parts) (t capacity : ℕ) → P p → P (record p { locals = locals.by t (locals.Ensure capacity) ∷ p.locals })
  pub pops : (p : Parts) (t : ℕ) → (open_frames p t == 0) ≡ false → P p → P (record p { locals = locals.by t locals.Pop ∷ p.locals })
  pub enters : (p : Parts) (t : ℕ) → threads.attached (threads.acts_of t p.threads) ≡ true → P p
      → P (record p { threads = threads.by t threads.Enter ∷ p.threads; locals = locals.by t locals.Enter ∷ p.locals })
  pub leaves : (p : Parts) (t : ℕ) → threads.attached (threads.acts_of t p.threads) ≡ true → (depth p t == 0) ≡ false → P p
      → P (record p { threads = threads.by t threads.Leave ∷ p.threads; locals = locals.by t locals.Leave ∷ p.locals })
  pub calms : (p : Parts) (t : ℕ) → P p → P (record p { threads = threads.by t threads.Calm ∷ p.threads })
  -- to the other tables, any number
  pub to_globals : (p : Parts) (e : List globals.Event) → make_no_global e ≡ true → P p → P (record p { globals = e ++ p.globals })
  pub to_buffers : (p : Parts) (e : List buffers.Event) → opens_one e ≡ false → P p → P (record p { buffers = e ++ p.buffers })
  pub to_monitors : (p : Parts) (e : List monitors.Event) → P p → P (record p { monitors = e ++ p.monitors })
  pub to_heap : (p : Parts) (e : List heap.Event) → AllByRecursion (MakesStated s) e → P p → P (record p { heap = e ++ p.heap })
  pub to_links : (p : Parts) (e : List links.Event) → P p → P (record p { links = e ++ p.links })
  -- of its answer
  pub hands : (p : Parts) (t n o : ℕ) → n ≡ next_ref p t → P p
      → P (record p { threads = threads.by t threads.CountRef ∷ p.threads; locals = locals.by t (locals.Make n o) ∷ p.locals })
  pub hands_strong : (p : Parts) (t n o : ℕ) → n ≡ next_ref p t → P p
      → P (record p { threads = threads.by t threads.CountRef ∷ p.threads; globals = globals.MakeStrong t n o ∷ p.globals })
  pub hands_weak : (p : Parts) (t n o : ℕ) → n ≡ next_ref p t → P p
      → P (record p { threads = threads.by t threads.CountRef ∷ p.threads; globals = globals.MakeWeak t n o ∷ p.globals })
  pub lends : (p : Parts) (t : ℕ) (b : buffers.Buffer) → IsLent s p t b → P p
      → P (record p { threads = threads.by t threads.CountBuffer ∷ p.threads; buffers = buffers.Opened b ∷ p.buffers })
  pub raises : (p : Parts) (t o : ℕ) → P p → P (record p { threads = threads.by t (threads.Raise o) ∷ p.threads })

-- what is said of the objects alone, where their events keep it
pub heap_steps : (s : StatedSetup) (P : List heap.Event → Type 0) → ((e h : List heap.Event) → AllByRecursion (MakesStated s) e → P h → P (e ++ h))
    → Steps s (λ p. P p.heap)
heap_steps s P kept = record {
  begins = λ p u is old. old;
  begun = λ p u is old. old;
  ends = λ p u old. old;
  enters = λ p u on old. old;
  leaves = λ p u on deep old. old;
  deletes = λ p u k old. old;
  pushes = λ p u room old. old;
  widens = λ p u c old. old;
  pops = λ p u some old. old;
  to_globals = λ p e none old. old;
  to_buffers = λ p e none old. old;
  to_monitors = λ p e old. old;
  to_heap = λ p e stated old. kept e p.heap stated old;
  to_links = λ p e old. old;
  hands = λ p u n x is old. old;
  hands_strong = λ p u n x is old. old;
  hands_weak = λ p u n x is old. old;
  lends = λ p u b own old. old;
  raises = λ p u x old. old;
  calms = λ p u old. old;
}

-- ---- own events

-- a call's own events to the tables other than threads and locals
abbrev elsewhere : StatedSetup → ℕ → Call → Parts → Parts → Parts
elsewhere s t call p q = record q {
  globals = call_globals s p t call ++ q.globals;
  buffers = call_buffers s p t call ++ q.buffers;
  monitors = map (monitors.by t) (call_monitors s p t call) ++ q.monitors;
  heap = call_heap s p t call ++ q.heap;
  links = call_links s p t call ++ q.links;
}

deletes_none : (r : Ref) → make_no_global (globals.deletion r) ≡ true
deletes_none Null = refl
deletes_none (To Local maker n) = refl
deletes_none (To Global maker n) = refl
deletes_none (To Weak maker n) = refl

clears_none : (objects : List ℕ) → make_no_global (map (λ o. globals.Clear o) objects) ≡ true
clears_none [] = refl
clears_none (o ∷ objects) = clears_none objects

pub makes_none : (s : StatedSetup) (p : Parts) (t : ℕ) (call : Call) → make_no_global (call_globals s p t call) ≡ true
makes_none s p t (Vm Collect) = clears_none (going s p)
makes_none s p t (Refs (DeleteGlobalRef r)) = deletes_none r
makes_none s p t (Refs (DeleteWeakGlobalRef r)) = deletes_none r
makes_none s p t call = refl

others : (P : Parts → Type 0) (s : StatedSetup) → Steps s P → (t : ℕ) (call : Call) (p q : Parts) → opens_one (call_buffers s p t call) ≡ false → P q
    → P (elsewhere s t call p q)
others P s steps t call p q none old =
    let q1 : Parts = record q { globals = call_globals s p t call ++ q.globals } in
    let q2 : Parts = record q1 { buffers = call_buffers s p t call ++ q.buffers } in
    let q3 : Parts = record q2 { monitors = map (monitors.by t) (call_monitors s p t call) ++ q.monitors } in
    let q4 : Parts = record q3 { heap = call_heap s p t call ++ q.heap } in
    steps.to_links q4 (call_links s p t call) (steps.to_heap q3 (call_heap s p t call) (call_stated s p t call)
    (steps.to_monitors q2 (map (monitors.by t) (call_monitors s p t call))
    (steps.to_buffers q1 (call_buffers s p t call) none (steps.to_globals q (call_globals s p t call) (makes_none s p t call) old))))

attaching : (P : Parts → Type 0) (s : StatedSetup) → Steps s P → (p : Parts) (t : ℕ) (b : Bool) → threads.attached (threads.acts_of t p.threads) ≡ b → P p
    → P (record p { threads = threads.by t threads.Attach ∷ p.threads; locals = map (locals.by t) (started b) ++ p.locals })
attaching P s steps p t true is old = steps.begun p t is old
attaching P s steps p t false is old = steps.begins p t is old

deleting : (P : Parts → Type 0) (s : StatedSetup) → Steps s P → (p : Parts) (t : ℕ) (r : Ref) → P p
    → P (record p { locals = map (locals.by t) (deletes_local r) ++ p.locals })
deleting P s steps p t Null old = old
deleting P s steps p t (To Local maker n) old = steps.deletes p t n old
deleting P s steps p t (To Global maker n) old = old
deleting P s steps p t (To Weak maker n) old = old

-- of a call that opens no buffer
pub each_done : (P : Parts → Type 0) (s : StatedSetup) → Steps s P
    → (p : Parts) (t : ℕ) (env : Option EnvId) (call : Call) → Unbroken s p t env call
    → opens_one (call_buffers s p t call) ≡ false → P p
    → P (done_by s t call p)
each_done P s steps p t env (Vm AttachCurrentThread) kept none old =
    others P s steps t (Vm AttachCurrentThread) p _ none
    (attaching P s steps p t (threads.attached (threads.acts_of t p.threads)) refl old)
each_done P s steps p t env (Vm DetachCurrentThread) kept none old = others P s steps t (Vm DetachCurrentThread) p _ none (steps.ends p t old)
each_done P s steps p t env (Vm GetEnv) kept none old = old
each_done P s steps p t env (Vm (NativeEnter class method signature)) kept none old =
    steps.enters p t (attached_caller p t env (Vm (NativeEnter class method signature)) refl kept.is_attached) old
each_done P s steps p t env (Vm (NativeLeave kept_ref)) kept none old =
    steps.leaves p t (attached_caller p t env (Vm (NativeLeave kept_ref)) refl kept.is_attached) kept.right_frame old
each_done P s steps p t env (Vm (LoadLibrary class library)) kept none old = old
each_done P s steps p t env (Vm (RegisterNatives class method signature)) kept none old =
    others P s steps t (Vm (RegisterNatives class method signature)) p p none old
each_done P s steps p t env (Vm (UnregisterNatives class)) kept none old = others P s steps t (Vm (UnregisterNatives class)) p p none old
each_done P s steps p t env (Vm Collect) kept none old = others P s steps t (Vm Collect) p p none old
each_done P s steps p t env (Refs (NewLocalRef r)) kept none old = old
each_done P s steps p t env (Refs (NewGlobalRef r)) kept none old = old
each_done P s steps p t env (Refs (NewWeakGlobalRef r)) kept none old = old
each_done P s steps p t env (Refs (DeleteLocalRef r)) kept none old = deleting P s steps p t r old
each_done P s steps p t env (Refs (DeleteGlobalRef r)) kept none old = others P s steps t (Refs (DeleteGlobalRef r)) p p none old
each_done P s steps p t env (Refs (DeleteWeakGlobalRef r)) kept none old = others P s steps t (Refs (DeleteWeakGlobalRef r)) p p none old
each_done P s steps p t env (Refs (IsSameObject r u)) kept none old = old
each_done P s steps p t env (Refs (GetObjectRefType r)) kept none old = old
each_done P s steps p t env (Frames (PushLocalFrame capacity)) kept none old = steps.pushes p t (natural capacity) old
each_done P s steps p t env (Frames (PopLocalFrame r)) kept none old = steps.pops p t kept.right_frame old
each_done P s steps p t env (Frames (EnsureLocalCapacity capacity)) kept none old = steps.widens p t (natural capacity) old
each_done P s steps p t env (Exceptions (Throw r)) kept none old = old
each_done P s steps p t env (Exceptions ExceptionOccurred) kept none old = old
each_done P s steps p t env (Exceptions ExceptionDescribe) kept none old = steps.calms p t old
each_done P s steps p t env (Exceptions ExceptionClear) kept none old = steps.calms p t old
each_done P s steps p t env (Exceptions ExceptionCheck) kept none old = old
each_done P s steps p t env (Objects call) kept none old = others P s steps t (Objects call) p p none old
each_done P s steps p t env (Strings call) kept none old = others P s steps t (Strings call) p p none old
each_done P s steps p t env (Arrays call) kept none old = others P s steps t (Arrays call) p p none old
each_done P s steps p t env (Monitors call) kept none old = others P s steps t (Monitors call) p p none old
each_done P s steps p t env (Buffers call) kept none old = others P s steps t (Buffers call) p p none old

each_if : (P : Parts → Type 0) (s : StatedSetup) → Steps s P
    → (b : Bool) (p : Parts) (t : ℕ) (env : Option EnvId) (call : Call) → Unbroken s p t env call
    → opens_one (call_buffers s p t call) ≡ false → P p → P (done_if b s t call p)
each_if P s steps true p t env call kept none old = each_done P s steps p t env call kept none old
each_if P s steps false p t env call kept none old = old

-- ---- events of the answer

settling : (P : Parts → Type 0) (s : StatedSetup) → Steps s P
    → (home : Option ℕ) (p q : Parts) (t : Tid) (call : Call) (value : Value) (warned : Bool) (o : Option ObjId)
    → IsProper s p t call value warned o → next_ref q t.0 ≡ next_ref p t.0 → opens_one (call_buffers s p t.0 call) ≡ false
    → P q → P (settled home t.0 (record { value = value; warned = false; noticed = false }) o q)
settling P s steps home p q t call (Reference r) warned None is same none old = absurd is
settling P s steps home p q t call (Reference Null) warned (Some o) is same none old = absurd is
settling P s steps home p q t call (Reference (To Local maker n)) warned (Some o) is same none old = steps.hands q t.0 n o.0 (is.2 ∙ sym same) old
settling P s steps home p q t call (Reference (To Global maker n)) warned (Some o) is same none old =
    subst (λ (m : Tid). P (record q { threads = threads.by t.0 threads.CountRef ∷ q.threads; globals = globals.MakeStrong m.0 n o.0 ∷ q.globals })) (sym is.1)
    (steps.hands_strong q t.0 n o.0 (is.2 ∙ sym same) old)
settling P s steps home p q t call (Reference (To Weak maker n)) warned (Some o) is same none old =
    subst (λ (m : Tid). P (record q { threads = threads.by t.0 threads.CountRef ∷ q.threads; globals = globals.MakeWeak m.0 n o.0 ∷ q.globals })) (sym is.1)
    (steps.hands_weak q t.0 n o.0 (is.2 ∙ sym same) old)
settling P s steps home p q t call (Lent b) warned o is same none old = absurd (clash (opens_one (call_buffers s p t.0 call)) is.3 none)
settling P s steps home p q t call (Threw kind) warned None is same none old = absurd is
settling P s steps home p q t call (Threw kind) warned (Some o) is same none old =
    steps.raises (record q { heap = value_heap (Threw kind) ++ q.heap }) t.0 o.0 (steps.to_heap q (value_heap (Threw kind)) (thrown_stated s kind) old)
settling P s steps home p q t call Done warned (Some o) is same none old = steps.raises q t.0 o.0 old
settling P s steps home p q t call value warned o is same none old = old

-- a call that opens no buffer
each_other : (P : Parts → Type 0) (s : StatedSetup) → Steps s P → (p : Parts) (t : Tid) (env : Option EnvId) (call : Call) → Unbroken s p t.0 env call
    → opens_one (call_buffers s p t.0 call) ≡ false
    → P p → P (answered s p t call (answer s p t call))
each_other P s steps p t env call kept none old =
    let a : Answer = answer s p t call in
    let q : Parts = done_if (is_effective a.reply.value) s t.0 call p in
    let home : Option ℕ = home_of s (native_class s p t.0 call) in
    steps.to_links (settled home t.0 (record { value = a.reply.value; warned = false; noticed = false }) a.object q) (warning a.reply.warned home)
    (settling P s steps home p q t call a.reply.value a.reply.warned a.object (proper s p t call) (next_done_if (is_effective a.reply.value) s p t.0 call t.0)
    none
    (each_if P s steps (is_effective a.reply.value) p t.0 env call kept none old))

pub closes_none : (commits : Bool) (b : BufId) → opens_one (if commits then [] else closed b) ≡ false
closes_none true b = refl
closes_none false b = refl

writes_if : (pinned : Bool) (m n index : ℕ) (v : ℤ) → opens_one (if pinned then [] else buffers.Wrote m n index v ∷ []) ≡ false
writes_if true m n index v = refl
writes_if false m n index v = refl

pub writes_none : (b : BufId) (index : ℕ) (v : ℤ) (found : Option Info) → opens_one (wrote_copy b index v found) ≡ false
writes_none b index v None = refl
writes_none b index v (Some info) = writes_if (buffers.is_critical info.family) b.maker.0 b.n index v

buffers_passed : (P : Parts → Type 0) (s : StatedSetup) → Steps s P → (p : Parts) (t : Tid) (env : Option EnvId) (call : BuffersCall)
    → Unbroken s p t.0 env (Buffers call) → P p
    → P (answered s p t (Buffers call) (answer s p t (Buffers call)))
buffers_passed P s steps p t env (GetArrayElements element r) kept old =
    steps.lends p t.0 (buffers.copy_with t.0 (next_buffer p t.0) (the_object p t.0 r) (Elements (Of element)) (items_of s p (the_object p t.0 r)))
    (record { maker = refl; number = refl; fits = elements_fit s p t.0 (next_buffer p t.0) element (names p t.0 r) kept.alive kept.not_null kept.right_type })
    old
buffers_passed P s steps p t env (ReleaseArrayElements element r b mode) kept old =
    each_other P s steps p t env (Buffers (ReleaseArrayElements element r b mode)) kept (closes_none (is_commit mode) b) old
buffers_passed P s steps p t env (GetStringChars r) kept old =
    steps.lends p t.0 (buffers.copy_with t.0 (next_buffer p t.0) (the_object p t.0 r) Chars (map pos (units_of s p (the_object p t.0 r))))
    (record { maker = refl; number = refl; fits = chars_fit s p t.0 (next_buffer p t.0) (names p t.0 r) kept.alive kept.not_null kept.right_type }) old
buffers_passed P s steps p t env (ReleaseStringChars r b) kept old = each_other P s steps p t env (Buffers (ReleaseStringChars r b)) kept refl old
buffers_passed P s steps p t env (GetStringUTFChars r) kept old =
    steps.lends p t.0 (buffers.copy_with t.0 (next_buffer p t.0) (the_object p t.0 r) UtfChars (map pos (spelt (units_of s p (the_object p t.0 r)))))
    (record { maker = refl; number = refl; fits = utf_chars_fit s p t.0 (next_buffer p t.0) (names p t.0 r) kept.alive kept.not_null kept.right_type }) old
buffers_passed P s steps p t env (ReleaseStringUTFChars r b) kept old = each_other P s steps p t env (Buffers (ReleaseStringUTFChars r b)) kept refl old
buffers_passed P s steps p t env (GetPrimitiveArrayCritical r) kept old =
    steps.lends p t.0 (buffers.pin_through t.0 (next_buffer p t.0) (the_object p t.0 r) ArrayCritical r (length_of s p (the_object p t.0 r)))
    (record { maker = refl; number = refl; fits = array_critical_fits s p t.0 (next_buffer p t.0) r (names p t.0 r) kept.alive kept.not_null kept.right_type })
    old
buffers_passed P s steps p t env (ReleasePrimitiveArrayCritical r b mode) kept old =
    each_other P s steps p t env (Buffers (ReleasePrimitiveArrayCritical r b mode)) kept (closes_none (is_commit mode) b) old
buffers_passed P s steps p t env (GetStringCritical r) kept old =
    steps.lends p t.0 (buffers.pin_through t.0 (next_buffer p t.0) (the_object p t.0 r) StringCritical r (length (units_of s p (the_object p t.0 r))))
    (record { maker = refl; number = refl; fits = string_critical_fits s p t.0 (next_buffer p t.0) r (names p t.0 r) kept.alive kept.not_null kept.right_type })
    old
buffers_passed P s steps p t env (ReleaseStringCritical r b) kept old = each_other P s steps p t env (Buffers (ReleaseStringCritical r b)) kept refl old
buffers_passed P s steps p t env (BufferRead b index) kept old = each_other P s steps p t env (Buffers (BufferRead b index)) kept refl old
buffers_passed P s steps p t env (BufferWrite b index value) kept old =
    each_other P s steps p t env (Buffers (BufferWrite b index value)) kept (writes_none b (natural index) value (buffer_named p b)) old

each_passed : (P : Parts → Type 0) (s : StatedSetup) → Steps s P → (p : Parts) (t : Tid) (env : Option EnvId) (call : Call) → Unbroken s p t.0 env call → P p
    → P (answered s p t call (answer s p t call))
each_passed P s steps p t env (Vm call) kept old = each_other P s steps p t env (Vm call) kept refl old
each_passed P s steps p t env (Refs call) kept old = each_other P s steps p t env (Refs call) kept refl old
each_passed P s steps p t env (Frames call) kept old = each_other P s steps p t env (Frames call) kept refl old
each_passed P s steps p t env (Exceptions call) kept old = each_other P s steps p t env (Exceptions call) kept refl old
each_passed P s steps p t env (Objects call) kept old = each_other P s steps p t env (Objects call) kept refl old
each_passed P s steps p t env (Strings call) kept old = each_other P s steps p t env (Strings call) kept refl old
each_passed P s steps p t env (Arrays call) kept old = each_other P s steps p t env (Arrays call) kept refl old
each_passed P s steps p t env (Monitors call) kept old = each_other P s steps p t env (Monitors call) kept refl old
each_passed P s steps p t env (Buffers call) kept old = buffers_passed P s steps p t env call kept old

each_by : (P : Parts → Type 0) (s : StatedSetup) → Steps s P → (v : Option Rule) (p : Parts) (t : Tid) (env : Option EnvId) (call : Call)
    → verdict s p t.0 env call ≡ v → P p
    → (x : Entry) → x ≡ entry_by v (answer s p t call) t env call → P (after s x.tid.0 x.call x.outcome x.object p)
each_by P s steps (Some rule) p t env call denied old x is = rw is old
each_by P s steps None p t env call none old x is = rw is (each_passed P s steps p t env call (unbroken s p t.0 env call none) old)

-- an entry that its call has at p keeps what the events keep
pub each_entry : (P : Parts → Type 0) (s : StatedSetup) → Steps s P → (p : Parts) (x : Entry) → x ≡ entry_at s p x.tid x.env x.call → P p
    → P (after s x.tid.0 x.call x.outcome x.object p)
each_entry P s steps p x is old = each_by P s steps (verdict s p x.tid.0 x.env x.call) p x.tid x.env x.call refl old x is

-- what the events keep, each legal history has
pub each_legal : (P : Parts → Type 0) (s : StatedSetup) → Steps s P → P nothing_yet → (h : List Entry) → Legal s h → P (parts s h)
each_legal P s steps none [] legal = none
each_legal P s steps none (x ∷ h) legal = each_entry P s steps (parts s h) x legal.0 (each_legal P s steps none h legal.1)

-- and what a legal history had, it has later
pub each_since : (P : Parts → Type 0) (s : StatedSetup) → Steps s P → (newer h : List Entry) → Legal s (newer ++ h) → P (parts s h) → P (parts s (newer ++ h))
each_since P s steps [] h legal old = old
each_since P s steps (x ∷ newer) h legal old = each_entry P s steps (parts s (newer ++ h)) x legal.0 (each_since P s steps newer h legal.1 old)
