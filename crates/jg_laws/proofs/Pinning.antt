-- In every legal history the reference behind each open critical buffer names the buffer's object for its maker: inside a
-- critical region its thread calls nothing that ends a local, and others can't delete what pins or collect what is pinned.
use Rattle.std.proofs.Common.{ℕ, ◌≡◌, ◌≢◌, ◌+◌, ◌<◌, ◌≤◌, ◌++◌, ◌∙◌, Bool, true, false, List, [], ◌∷◌, map, Option, Some, None, refl, ap, sym, subst, arith}
use Rattle.std.specs.Prelude.{◌==◌, ◌&&◌, ◌||◌, not, if◌then◌else◌}
use Rattle.std.specs.List.{list_any}
use Rattle.std.proofs.lemmas.Bool.Decides.{nat_tests}
use Rattle.std.proofs.lemmas.Option.{same_Some}
use Rattle.std.proofs.lemmas.Bool.{or_parts}
use Rattle.jg_words.specs.declared.thread.Tid.{Tid}
use Rattle.jg_words.specs.declared.thread.EnvId.{EnvId}
use Rattle.jg_words.specs.declared.object.ObjId.{ObjId}
use Rattle.jg_words.specs.declared.reference.Ref.{Ref}
use Rattle.jg_words.specs.declared.reference.Ref.TheVariants.{Null, To}
use Rattle.jg_words.specs.declared.reference.Kind.{Kind}
use Rattle.jg_words.specs.declared.reference.Kind.TheVariants.{Local, Global, Weak}
use Rattle.jg_words.specs.declared.value.Value.{Value}
use Rattle.jg_words.specs.declared.value.Value.TheVariants.{Reference}
use Rattle.jg_words.specs.declared.rule.Rule.{Rule}
use Rattle.jg_words.specs.Entry.{Entry}
use Rattle.jg_words.specs.declared.call.Call.{Call}
use Rattle.jg_words.specs.declared.call.Call.TheVariants.{Vm, Refs, Frames, Exceptions, Objects, Strings, Arrays, Monitors, Buffers}
use Rattle.jg_words.specs.declared.call.vm.VmCall.TheVariants.{Collect}
use Rattle.jg_words.specs.declared.call.refs.RefsCall.TheVariants.{DeleteGlobalRef, DeleteWeakGlobalRef}
use Rattle.jg_words.specs.declared.call.buffers.BuffersCall.{BuffersCall}
use Rattle.jg_words.specs.declared.call.buffers.BuffersCall.TheVariants.{GetArrayElements, ReleaseArrayElements, GetStringChars, ReleaseStringChars, GetStringUTFChars, ReleaseStringUTFChars, GetPrimitiveArrayCritical, ReleasePrimitiveArrayCritical, GetStringCritical, ReleaseStringCritical, BufferRead, BufferWrite}
use Rattle.jg_words.proofs.Common.{clash, or_fourth, or_middle}
use Rattle.jg_policy.specs.Stated.{StatedSetup, class_count}
use Rattle.jg_table_threads.specs.History as threads
use Rattle.jg_table_locals.specs.History as locals
use Rattle.jg_table_locals.proofs.Callers.{acts_same}
use Rattle.jg_table_globals.specs.declared.target.Target.TheVariants.{Object as ToObject, Cleared}
use Rattle.jg_table_globals.specs.History as globals
use Rattle.jg_table_heap.specs.History as heap
use Rattle.jg_table_heap.specs.Reading.{natural}
use Rattle.jg_table_heap.proofs.Callers.{roots_law}
use Rattle.jg_table_monitors.specs.History as monitors
use Rattle.jg_table_buffers.specs.History as buffers
use Rattle.jg_table_buffers.specs.History.{Buffer, Event, Opened, Wrote, Closed, ReleaseAll, opened, is_same, is_critical}
use Rattle.jg_table_buffers.proofs.Callers.{critical_law, pinned_law, pinned_object_law, still_lent}
use Rattle.jg_rules.specs.declared.named.Named.TheVariants.{Nothing}
use Rattle.jg_rules.specs.Parts.{Parts}
use Rattle.jg_rules.specs.Names.{names, named_by, object_in, object_named, next_ref}
use Rattle.jg_rules.specs.Holding.{is_root, roots, going}
use Rattle.jg_rules.specs.Buffers.{buffer_named, is_commit}
use Rattle.jg_rules.specs.Effects.{parts, after, call_locals, call_globals, call_buffers, value_locals, value_globals, closed_by, wrote_copy, is_effective, if_effective}
use Rattle.jg_rules.specs.Rules.{verdict}
use Rattle.jg_rules.specs.Answers.{answer}
use Rattle.jg_rules.specs.declared.answer.Answer.{Answer}
use Rattle.jg_rules.specs.Legal.{Legal, answered, entry_by}
use Rattle.jg_rules.specs.Unbroken.{Unbroken}
use Rattle.jg_rules.proofs.Kept.{unbroken}
use Rattle.jg_laws.specs.Laws.{FitsObject, PinsAreLive}
use Rattle.jg_laws.specs.Proper.{IsProper, opens_one}
use Rattle.jg_laws.proofs.Proper.{proper}
use Rattle.jg_laws.proofs.Steps.{closes_none, writes_none}
use Rattle.jg_laws.proofs.Kept.{GlobalsBelow, globals_below}
use Rattle.jg_laws.proofs.Fresh.{target_object, kind_target, kind_below, not_same}
use Rattle.jg_laws.proofs.HandsHere.{the_named}
use Rattle.jg_laws.proofs.Lending.{buffers_fit}

-- the reference behind each open critical buffer names the buffer's object for its maker
abbrev pub PinsLive : Parts → Type 0
PinsLive p = (m n : ℕ) (b : Buffer) → opened p.buffers m n ≡ Some b → is_critical b.family ≡ true → object_named p b.maker b.via ≡ Some b.object

-- ---- events of buffers

lent_if : (c : Bool) (p : Parts) (x b : Buffer) (rest : Option Buffer) → (is_critical x.family ≡ true → object_named p x.maker x.via ≡ Some x.object)
    → (rest ≡ Some b → is_critical b.family ≡ true → object_named p b.maker b.via ≡ Some b.object) → (if c then Some x else rest) ≡ Some b
    → is_critical b.family ≡ true → object_named p b.maker b.via ≡ Some b.object
lent_if true p x b rest new old is = subst (λ (y : Buffer). is_critical y.family ≡ true → object_named p y.maker y.via ≡ Some y.object) (same_Some x b is) new
lent_if false p x b rest new old is = old is

-- one buffer more, which is pinned through a reference that names its object, or is a copy
lent_live : (p : Parts) (x : Buffer) → (is_critical x.family ≡ true → object_named p x.maker x.via ≡ Some x.object) → PinsLive p
    → (m n : ℕ) (b : Buffer) → opened (Opened x ∷ p.buffers) m n ≡ Some b → is_critical b.family ≡ true → object_named p b.maker b.via ≡ Some b.object
lent_live p x new old m n b is = lent_if (is_same m n x.maker x.n) p x b (opened p.buffers m n) new (old m n b) is

closed_if : (c : Bool) (b : Buffer) (rest : Option Buffer) (R : Type 0) → (rest ≡ Some b → R) → (if c then None else rest) ≡ Some b → R
closed_if true b rest R old is = absurd cc
closed_if false b rest R old is = old is

none_live : (p : Parts) (e : List Event) → opens_one e ≡ false → PinsLive p
    → (m n : ℕ) (b : Buffer) → opened (e ++ p.buffers) m n ≡ Some b → is_critical b.family ≡ true → object_named p b.maker b.via ≡ Some b.object
none_live p [] none old m n b is = old m n b is
none_live p (Opened x ∷ e) none old m n b is = absurd cc
none_live p (Wrote k i j v ∷ e) none old m n b is = none_live p e none old m n b is
none_live p (Closed k i ∷ e) none old m n b is =
    closed_if (is_same m n k i) b (opened (e ++ p.buffers) m n) (is_critical b.family ≡ true → object_named p b.maker b.via ≡ Some b.object)
    (none_live p e none old m n b) is
none_live p (ReleaseAll k ∷ e) none old m n b is = none_live p e none old m n b (still_lent (opened (e ++ p.buffers) m n) (k == m) b is).0

buffers_live : (s : StatedSetup) (p : Parts) (t : Tid) (env : Option EnvId) (call : BuffersCall) → Unbroken s p t.0 env (Buffers call) → PinsLive p
    → PinsLive (answered s p t (Buffers call) (answer s p t (Buffers call)))
buffers_live s p t env (GetArrayElements element r) kept old m n b is = lent_live p _ (λ pins. absurd cc) old m n b is
buffers_live s p t env (ReleaseArrayElements element r buffer mode) kept old m n b is =
    none_live p (closed_by mode buffer) (closes_none (is_commit mode) buffer) old m n b is
buffers_live s p t env (GetStringChars r) kept old m n b is = lent_live p _ (λ pins. absurd cc) old m n b is
buffers_live s p t env (ReleaseStringChars r buffer) kept old m n b is = none_live p (Closed buffer.maker.0 buffer.n ∷ []) refl old m n b is
buffers_live s p t env (GetStringUTFChars r) kept old m n b is = lent_live p _ (λ pins. absurd cc) old m n b is
buffers_live s p t env (ReleaseStringUTFChars r buffer) kept old m n b is = none_live p (Closed buffer.maker.0 buffer.n ∷ []) refl old m n b is
buffers_live s p t env (GetPrimitiveArrayCritical r) kept old m n b is =
    lent_live p _ (λ pins. the_named (names p t.0 r) false false kept.alive kept.not_null) old m n b is
buffers_live s p t env (ReleasePrimitiveArrayCritical r buffer mode) kept old m n b is =
    none_live p (closed_by mode buffer) (closes_none (is_commit mode) buffer) old m n b is
buffers_live s p t env (GetStringCritical r) kept old m n b is =
    lent_live p _ (λ pins. the_named (names p t.0 r) false false kept.alive kept.not_null) old m n b is
buffers_live s p t env (ReleaseStringCritical r buffer) kept old m n b is = none_live p (Closed buffer.maker.0 buffer.n ∷ []) refl old m n b is
buffers_live s p t env (BufferRead buffer index) kept old m n b is = old m n b is
buffers_live s p t env (BufferWrite buffer index value) kept old m n b is =
    none_live p (wrote_copy buffer (natural index) value (buffer_named p buffer))
    (writes_none buffer (natural index) value (buffer_named p buffer)) old m n b is

-- ---- global references

-- the event makes or deletes the reference, or clears the object, which a global reference outlives
abbrev pub touches : Kind → ℕ → ℕ → ℕ → globals.Event → Bool
touches Local k i o ev = false
touches Global k i o (globals.MakeStrong m n x) = is_same k i m n
touches Global k i o (globals.MakeWeak m n x) = false
touches Global k i o (globals.DeleteStrong m n) = is_same k i m n
touches Global k i o (globals.DeleteWeak m n) = false
touches Global k i o (globals.Clear x) = false
touches Weak k i o (globals.MakeStrong m n x) = false
touches Weak k i o (globals.MakeWeak m n x) = is_same k i m n
touches Weak k i o (globals.DeleteStrong m n) = false
touches Weak k i o (globals.DeleteWeak m n) = is_same k i m n
touches Weak k i o (globals.Clear x) = x == o

still_if : (b c : Bool) (x o : ℕ) → (x ≡ o → b ≡ false) → target_object (Some (if c then Cleared else ToObject (record { 0 = x }))) ≡ Some o
    → target_object (Some (if b || c then Cleared else ToObject (record { 0 = x }))) ≡ Some o
still_if b true x o spared is = absurd cc
still_if true false x o spared is = absurd (let same : x ≡ o = cc in let none = spared same in cc)
still_if false false x o spared is = is

still_uncleared : (ev : globals.Event) (later : List globals.Event) (found : Option ℕ) (o : ℕ) → globals.clears o ev ≡ false
    → target_object (globals.unless_cleared later found) ≡ Some o
    → target_object (globals.unless_cleared (ev ∷ later) found) ≡ Some o
still_uncleared ev later None o spared is = absurd cc
still_uncleared ev later (Some x) o spared is =
    still_if (globals.clears x ev) (list_any (globals.clears x) later) x o (λ same. ap (λ (y : ℕ). globals.clears y ev) same ∙ spared) is

event_still : (kind : Kind) (ev : globals.Event) (e : List globals.Event) (k i o : ℕ) → touches kind k i o ev ≡ false
    → target_object (kind_target kind e k i) ≡ Some o
    → target_object (kind_target kind (ev ∷ e) k i) ≡ Some o
event_still Local ev e k i o apart is = absurd cc
event_still Global (globals.MakeStrong m n x) e k i o apart is = rw apart is
event_still Global (globals.MakeWeak m n x) e k i o apart is = is
event_still Global (globals.DeleteStrong m n) e k i o apart is = rw apart is
event_still Global (globals.DeleteWeak m n) e k i o apart is = is
event_still Global (globals.Clear x) e k i o apart is = is
event_still Weak (globals.MakeStrong m n x) e k i o apart is =
    still_uncleared (globals.MakeStrong m n x) (globals.after_making k i e) (globals.weak e k i) o refl is
event_still Weak (globals.MakeWeak m n x) e k i o apart is =
    rw apart (still_uncleared (globals.MakeWeak m n x) (globals.after_making k i e) (globals.weak e k i) o refl is)
event_still Weak (globals.DeleteStrong m n) e k i o apart is =
    still_uncleared (globals.DeleteStrong m n) (globals.after_making k i e) (globals.weak e k i) o refl is
event_still Weak (globals.DeleteWeak m n) e k i o apart is =
    rw apart (still_uncleared (globals.DeleteWeak m n) (globals.after_making k i e) (globals.weak e k i) o refl is)
event_still Weak (globals.Clear x) e k i o apart is = still_uncleared (globals.Clear x) (globals.after_making k i e) (globals.weak e k i) o apart is

-- no event of these touches it
abbrev Leave : Kind → ℕ → ℕ → ℕ → List globals.Event → Type 0
Leave kind k i o [] = Unit {0}
Leave kind k i o (ev ∷ e) = (touches kind k i o ev ≡ false) × Leave kind k i o e

events_still : (kind : Kind) (new e : List globals.Event) (k i o : ℕ) → Leave kind k i o new
    → target_object (kind_target kind e k i) ≡ Some o → target_object (kind_target kind (new ++ e) k i) ≡ Some o
events_still kind [] e k i o leave is = is
events_still kind (ev ∷ new) e k i o leave is = event_still kind ev (new ++ e) k i o leave.0 (events_still kind new e k i o leave.1 is)

-- a reference that is made has another number
value_leaves : (kind : Kind) (s : StatedSetup) (p : Parts) (t : Tid) (call : Call) (value : Value) (warned : Bool) (x : Option ObjId) (k i o : ℕ)
    → IsProper s p t call value warned x
    → i + 1 ≤ next_ref p k → Leave kind k i o (value_globals value x)
value_leaves Local s p t call (Reference (To Global maker n)) warned (Some x) k i o own below = (refl, tt)
value_leaves Global s p t call (Reference (To Global maker n)) warned (Some x) k i o own below =
    (not_same p maker.0 n k i (own.2 ∙ ap (λ (u : Tid). next_ref p u.0) (sym own.1)) below, tt)
value_leaves Weak s p t call (Reference (To Global maker n)) warned (Some x) k i o own below = (refl, tt)
value_leaves Local s p t call (Reference (To Weak maker n)) warned (Some x) k i o own below = (refl, tt)
value_leaves Global s p t call (Reference (To Weak maker n)) warned (Some x) k i o own below = (refl, tt)
value_leaves Weak s p t call (Reference (To Weak maker n)) warned (Some x) k i o own below =
    (not_same p maker.0 n k i (own.2 ∙ ap (λ (u : Tid). next_ref p u.0) (sym own.1)) below, tt)
value_leaves kind s p t call value warned x k i o own below = tt

-- ---- what pins isn't deleted

same_ref : (kind : Kind) (maker m : Tid) (i n : ℕ) → m.0 ≡ maker.0 → n ≡ i → To kind m n ≡ To kind maker i
same_ref kind maker m i n a b = ap (λ (x : ℕ). To kind (record { 0 = x }) n) a ∙ ap (To kind maker) b

both_equal : (k i m n : ℕ) → is_same k i m n ≡ true → (m ≡ k) × (n ≡ i)
both_equal k i m n is = grind (arith, nat_tests, is)

other_if : (c : Bool) (e : List Event) (kind : Kind) (maker m : Tid) (i n : ℕ) → is_same maker.0 i m.0 n ≡ c
    → buffers.pinned_by e (To kind maker i) ≡ true → buffers.pinned_by e (To kind m n) ≡ false → c ≡ false
other_if false e kind maker m i n is pins free = refl
other_if true e kind maker m i n is pins free =
    let both = both_equal maker.0 i m.0 n is in
    let pinned : buffers.pinned_by e (To kind m n) ≡ true = ap (buffers.pinned_by e) (same_ref kind maker m i n both.0 both.1) ∙ pins in
    absurd cc

other : (e : List Event) (kind : Kind) (maker m : Tid) (i n : ℕ) → buffers.pinned_by e (To kind maker i) ≡ true → buffers.pinned_by e (To kind m n) ≡ false
    → is_same maker.0 i m.0 n ≡ false
other e kind maker m i n pins free = other_if (is_same maker.0 i m.0 n) e kind maker m i n refl pins free

deletion_leaves : (e : List Event) (kind : Kind) (maker : Tid) (i o : ℕ) (r : Ref)
    → buffers.pinned_by e (To kind maker i) ≡ true → buffers.pinned_by e r ≡ false
    → Leave kind maker.0 i o (globals.deletion r)
deletion_leaves e kind maker i o Null pins free = tt
deletion_leaves e kind maker i o (To Local m n) pins free = tt
deletion_leaves e Local maker i o (To Global m n) pins free = (refl, tt)
deletion_leaves e Global maker i o (To Global m n) pins free = (other e Global maker m i n pins free, tt)
deletion_leaves e Weak maker i o (To Global m n) pins free = (refl, tt)
deletion_leaves e Local maker i o (To Weak m n) pins free = (refl, tt)
deletion_leaves e Global maker i o (To Weak m n) pins free = (refl, tt)
deletion_leaves e Weak maker i o (To Weak m n) pins free = (other e Weak maker m i n pins free, tt)

-- ---- what is pinned isn't collected

held_no : (a b : Bool) → b ≡ true → (not a && not b) ≡ false
held_no true b is = refl
held_no false b is = rw is refl

not_going : (s : StatedSetup) (p : Parts) (o : ℕ) → o < heap.count_of (class_count s) p.heap → buffers.pins_object p.buffers o ≡ true
    → list_any (λ x. x == o) (going s p) ≡ false
not_going s p o made pinned =
    let k : ℕ = class_count s in
    let root : is_root p o ≡ true =
    or_fourth (locals.holds_object p.locals o) (globals.holds_object p.globals o) (threads.is_pending p.threads o)
    (buffers.pins_object p.buffers o) (monitors.held p.monitors o) pinned in
    let held : heap.held_at k (roots s p) p.heap o ≡ true =
    or_middle _ (list_any (λ r. r == o) (roots s p)) _ (roots_law (is_root p) (heap.count_of k p.heap) o made ∙ root) in
    roots_law (λ x. not (heap.gone_at k p.heap x) && not (heap.held_at k (roots s p) p.heap x)) (heap.count_of k p.heap) o made
    ∙ held_no (heap.gone_at k p.heap o) (heap.held_at k (roots s p) p.heap o) held

clears_leave : (kind : Kind) (k i o : ℕ) (objects : List ℕ) → list_any (λ x. x == o) objects ≡ false → Leave kind k i o (map (λ x. globals.Clear x) objects)
clears_leave kind k i o [] none = tt
clears_leave Local k i o (x ∷ objects) none = (refl, clears_leave Local k i o objects (or_parts (x == o) (list_any (λ y. y == o) objects) none).1)
clears_leave Global k i o (x ∷ objects) none = (refl, clears_leave Global k i o objects (or_parts (x == o) (list_any (λ y. y == o) objects) none).1)
clears_leave Weak k i o (x ∷ objects) none =
    let two = or_parts (x == o) (list_any (λ y. y == o) objects) none in
    (two.0, clears_leave Weak k i o objects two.1)

-- ---- a call of another thread

-- a pinned reference: where it is global or weak, its number was handed out
call_leaves : (kind : Kind) (s : StatedSetup) (p : Parts) (t : ℕ) (env : Option EnvId) (call : Call) (maker : Tid) (i o : ℕ) → Unbroken s p t env call
    → buffers.pinned_by p.buffers (To kind maker i) ≡ true → list_any (λ x. x == o) (going s p) ≡ false → Leave kind maker.0 i o (call_globals s p t call)
call_leaves kind s p t env (Vm Collect) maker i o kept pins stays = clears_leave kind maker.0 i o (going s p) stays
call_leaves kind s p t env (Refs (DeleteGlobalRef r)) maker i o kept pins stays = deletion_leaves p.buffers kind maker i o r pins kept.not_pinned
call_leaves kind s p t env (Refs (DeleteWeakGlobalRef r)) maker i o kept pins stays = deletion_leaves p.buffers kind maker i o r pins kept.not_pinned
call_leaves kind s p t env call maker i o kept pins stays = tt

leave_if : (b : Bool) (kind : Kind) (k i o : ℕ) (e : List globals.Event) → Leave kind k i o e → Leave kind k i o (if_effective b e)
leave_if true kind k i o e leave = leave
leave_if false kind k i o e leave = tt

acts_apart : (u t : ℕ) (acts : List locals.Act) (e : List locals.Event) → u ≢ t → locals.acts_of u (map (locals.by t) acts ++ e) ≡ locals.acts_of u e
acts_apart u t [] e differ = refl
acts_apart u t (a ∷ acts) e differ = acts_same u t a (map (locals.by t) acts ++ e) differ ∙ acts_apart u t acts e differ

local_still : (s : StatedSetup) (p : Parts) (t : Tid) (call : Call) (u o : ℕ) (maker : Tid) (i : ℕ) → u ≢ t.0 → object_named p u (To Local maker i) ≡ Some o
    → object_named (answered s p t call (answer s p t call)) u (To Local maker i) ≡ Some o
local_still s p t call u o maker i differ is =
    let a : Answer = answer s p t call in
    let own : List locals.Act = if_effective (is_effective a.reply.value) (call_locals s p t.0 call) in
    let same = acts_apart u t.0 (value_locals a.reply.value a.object) (map (locals.by t.0) own ++ p.locals) differ ∙ acts_apart u t.0 own p.locals differ in
    subst (λ (acts : List locals.Act). object_in (if maker.0 == u then named_by (locals.live i acts) else Nothing) ≡ Some o) (sym same) is

global_still : (kind : Kind) (s : StatedSetup) (p : Parts) (t : Tid) (env : Option EnvId) (call : Call) (maker : Tid) (i o : ℕ) → Unbroken s p t.0 env call
    → GlobalsBelow p
    → buffers.pinned_by p.buffers (To kind maker i) ≡ true → list_any (λ x. x == o) (going s p) ≡ false
    → target_object (kind_target kind p.globals maker.0 i) ≡ Some o
    → target_object (kind_target kind (answered s p t call (answer s p t call)).globals maker.0 i) ≡ Some o
global_still kind s p t env call maker i o kept below pins stays is =
    let a : Answer = answer s p t call in
    let b : Bool = is_effective a.reply.value in
    let number : i < next_ref p maker.0 = kind_below kind p.globals (next_ref p maker.0) maker.0 i o (below maker.0) is in
    events_still kind (value_globals a.reply.value a.object) (if_effective b (call_globals s p t.0 call) ++ p.globals) maker.0 i o
    (value_leaves kind s p t call a.reply.value a.reply.warned a.object maker.0 i o (proper s p t call) (omega (arith, number)))
    (events_still kind (if_effective b (call_globals s p t.0 call)) p.globals maker.0 i o
    (leave_if b kind maker.0 i o (call_globals s p t.0 call) (call_leaves kind s p t.0 env call maker i o kept pins stays)) is)

named_still : (s : StatedSetup) (p : Parts) (t : Tid) (env : Option EnvId) (call : Call) (u o : ℕ) (r : Ref) → Unbroken s p t.0 env call → GlobalsBelow p
    → u ≢ t.0
    → buffers.pinned_by p.buffers r ≡ true → list_any (λ x. x == o) (going s p) ≡ false → object_named p u r ≡ Some o
    → object_named (answered s p t call (answer s p t call)) u r ≡ Some o
named_still s p t env call u o Null kept below differ pins stays is = absurd cc
named_still s p t env call u o (To Local maker i) kept below differ pins stays is = local_still s p t call u o maker i differ is
named_still s p t env call u o (To Global maker i) kept below differ pins stays is = global_still Global s p t env call maker i o kept below pins stays is
named_still s p t env call u o (To Weak maker i) kept below differ pins stays is = global_still Weak s p t env call maker i o kept below pins stays is

none_if : (b : Bool) (e : List Event) → if_effective b [] ++ e ≡ e
none_if true e = refl
none_if false e = refl

-- a call that may not be called inside a critical region
other_live : (s : StatedSetup) (p : Parts) (t : Tid) (env : Option EnvId) (call : Call) → Unbroken s p t.0 env call → call_buffers s p t.0 call ≡ []
    → buffers.in_critical p.buffers t.0 ≡ false
    → GlobalsBelow p → ((m n : ℕ) (b : Buffer) → opened p.buffers m n ≡ Some b → FitsObject (class_count s) p.heap b) → PinsLive p
    → PinsLive (answered s p t call (answer s p t call))
other_live s p t env call kept quiet outside below made old m n b is pins =
    let a : Answer = answer s p t call in
    let same : if_effective (is_effective a.reply.value) (call_buffers s p t.0 call) ++ p.buffers ≡ p.buffers =
    ap (λ (e : List Event). if_effective (is_effective a.reply.value) e ++ p.buffers) quiet ∙ none_if (is_effective a.reply.value) p.buffers in
    let before : opened p.buffers m n ≡ Some b = subst (λ (e : List Event). opened e m n ≡ Some b) same is in
    let apart : b.maker ≢ t.0 =
    λ mine. clash (buffers.in_critical p.buffers t.0)
    ((critical_law p.buffers t.0).1
    (record { maker = m; n = n; buffer = b; is_open = before; critical = pins; holds = mine })) outside in
    let by_ref : buffers.pinned_by p.buffers b.via ≡ true =
    (pinned_law p.buffers b.via).1 (record { maker = m; n = n; buffer = b; is_open = before; critical = pins; holds = refl }) in
    let of_object : buffers.pins_object p.buffers b.object ≡ true =
    (pinned_object_law p.buffers b.object).1
    (record { maker = m; n = n; buffer = b; is_open = before; critical = pins; holds = refl }) in
    named_still s p t env call b.maker b.object b.via kept below apart by_ref (not_going s p b.object (made m n b before).0 of_object) (old m n b before pins)

passed_live : (s : StatedSetup) (p : Parts) (t : Tid) (env : Option EnvId) (call : Call) → Unbroken s p t.0 env call → GlobalsBelow p
    → ((m n : ℕ) (b : Buffer) → opened p.buffers m n ≡ Some b → FitsObject (class_count s) p.heap b) → PinsLive p
    → PinsLive (answered s p t call (answer s p t call))
passed_live s p t env (Vm call) kept below made old = other_live s p t env (Vm call) kept refl kept.not_critical below made old
passed_live s p t env (Refs call) kept below made old = other_live s p t env (Refs call) kept refl kept.not_critical below made old
passed_live s p t env (Frames call) kept below made old = other_live s p t env (Frames call) kept refl kept.not_critical below made old
passed_live s p t env (Exceptions call) kept below made old = other_live s p t env (Exceptions call) kept refl kept.not_critical below made old
passed_live s p t env (Objects call) kept below made old = other_live s p t env (Objects call) kept refl kept.not_critical below made old
passed_live s p t env (Strings call) kept below made old = other_live s p t env (Strings call) kept refl kept.not_critical below made old
passed_live s p t env (Arrays call) kept below made old = other_live s p t env (Arrays call) kept refl kept.not_critical below made old
passed_live s p t env (Monitors call) kept below made old = other_live s p t env (Monitors call) kept refl kept.not_critical below made old
passed_live s p t env (Buffers call) kept below made old = buffers_live s p t env call kept old

-- ---- each legal history

live_by : (s : StatedSetup) (v : Option Rule) (p : Parts) (x : Entry) → verdict s p x.tid.0 x.env x.call ≡ v → GlobalsBelow p
    → ((m n : ℕ) (b : Buffer) → opened p.buffers m n ≡ Some b → FitsObject (class_count s) p.heap b) → PinsLive p
    → (y : Entry) → y ≡ entry_by v (answer s p x.tid x.call) x.tid x.env x.call → PinsLive (after s y.tid.0 y.call y.outcome y.object p)
live_by s (Some rule) p x denied below made old y same = subst (λ (z : Entry). PinsLive (after s z.tid.0 z.call z.outcome z.object p)) (sym same) old
live_by s None p x none below made old y same =
    subst (λ (z : Entry). PinsLive (after s z.tid.0 z.call z.outcome z.object p)) (sym same)
    (passed_live s p x.tid x.env x.call (unbroken s p x.tid.0 x.env x.call none) below made old)

pins_live : (s : StatedSetup) (h : List Entry) → Legal s h → PinsLive (parts s h)
pins_live s [] legal = λ m n b is. absurd cc
pins_live s (x ∷ h) legal =
    live_by s (verdict s (parts s h) x.tid.0 x.env x.call) (parts s h) x refl (globals_below s h legal.1) (λ m n b is. buffers_fit s h m n b legal.1 is)
    (pins_live s h legal.1) x legal.0

pub pins_are_live : PinsAreLive
pins_are_live s h maker n b legal is pins = pins_live s h legal maker n b is pins
