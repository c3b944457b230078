-- No reference is handed out twice, and none that ended is live again.
use Rattle.std.proofs.Common.{ℕ, ◌≡◌, ◌≢◌, ◌+◌, ◌≤◌, ◌<◌, Bool, true, false, List, [], ◌∷◌, ◌++◌, Option, Some, None, inl, inr, refl, ap, sym, ◌∙◌, subst, arith}
use Rattle.std.specs.Prelude.{◌==◌, ◌||◌, if◌then◌else◌}
use Rattle.std.specs.List.{list_any}
use Rattle.std.proofs.lemmas.Bool.Decides.{nat_tests}
use Rattle.jg_words.specs.declared.thread.Tid.{Tid}
use Rattle.jg_words.specs.declared.thread.EnvId.{EnvId}
use Rattle.jg_words.specs.declared.object.ObjId.{ObjId}
use Rattle.jg_words.specs.declared.reference.Ref.{Ref}
use Rattle.jg_words.specs.declared.reference.Ref.TheVariants.{Null, To}
use Rattle.jg_words.specs.declared.reference.Kind.{Kind}
use Rattle.jg_words.specs.declared.reference.Kind.TheVariants.{Local, Global, Weak}
use Rattle.jg_words.specs.declared.value.Value.{Value}
use Rattle.jg_words.specs.declared.value.Value.TheVariants.{Reference}
use Rattle.jg_words.specs.declared.rule.Rule.{Rule}
use Rattle.jg_words.specs.Entry.{Entry}
use Rattle.jg_words.specs.declared.call.Call.{Call}
use Rattle.jg_policy.specs.Stated.{StatedSetup}
use Rattle.jg_table_threads.specs.History as threads
use Rattle.jg_table_locals.specs.History.{Act, Start, Make, Push, Ensure, Delete, Pop, End, Event, by, acts_of, Making, making, seen_after, live, local_if_live, object_of, survives, Enter, Leave}
use Rattle.jg_table_locals.proofs.Callers.{acts_more, acts_same, each_thread, live_below}
use Rattle.jg_table_globals.specs.declared.target.Target.{Target}
use Rattle.jg_table_globals.specs.declared.target.Target.TheVariants.{Object as ToObject, Cleared}
use Rattle.jg_table_globals.specs.History as globals
use Rattle.jg_table_globals.specs.Laws as global_laws
use Rattle.jg_rules.specs.declared.named.Named.{Named}
use Rattle.jg_rules.specs.declared.named.Named.TheVariants.{Nothing}
use Rattle.jg_rules.specs.Parts.{Parts}
use Rattle.jg_rules.specs.Names.{named_by, named_by_target, object_in, next_ref}
use Rattle.jg_rules.specs.NativeUse.{native_class, home_of}
use Rattle.jg_rules.specs.Effects.{parts, after, settled, done_if, is_effective}
use Rattle.jg_rules.specs.Rules.{verdict}
use Rattle.jg_rules.specs.Answers.{answer}
use Rattle.jg_rules.specs.declared.answer.Answer.{Answer}
use Rattle.jg_rules.specs.Legal.{Legal, answered, entry_at, entry_by}
use Rattle.jg_laws.specs.Histories.{reference_in, reference_of, WasHandedOut}
use Rattle.jg_laws.specs.Laws.{ReferencesCounted, NoReferenceTwice, NoReferenceRevived}
use Rattle.jg_laws.proofs.Acts.{next_done_if}
use Rattle.jg_laws.specs.Proper.{IsProper}
use Rattle.jg_laws.proofs.Proper.{proper}
use Rattle.jg_laws.proofs.Steps.{Steps, each_entry, each_since, make_no_global}
use Rattle.jg_laws.proofs.Kept.{AtLeast, at_least_steps, below, globals_below, next_more}

-- ---- a reference that is handed out is its maker's next

-- the reference is t's next of its kind, and q counts it
abbrev Raises : Parts → Tid → Parts → Ref → Type 0
Raises p t q r = ((kind : Kind) × (r ≡ To kind t (next_ref p t.0))) × (next_ref p t.0 < next_ref q t.0)

pub no_reference : {r : Ref} → None ≡ Some r → ⊥
no_reference is = cc

pub one_reference : (q r : Ref) → Some q ≡ Some r → r ≡ q
one_reference q r is = cc

same_to : (kind : Kind) (maker t : Tid) (n m : ℕ) → maker ≡ t → n ≡ m → To kind maker n ≡ To kind t m
same_to kind maker t n m a b = cc

is_next : (p q : Parts) (t maker : Tid) (kind : Kind) (n : ℕ) (r : Ref) (same : next_ref q t.0 ≡ next_ref p t.0) → maker ≡ t → n ≡ next_ref p t.0
    → Some (To kind maker n) ≡ Some r
    → Raises p t (record q { threads = threads.by t.0 threads.CountRef ∷ q.threads }) r
is_next p q t maker kind n r same own next is =
    ((kind, one_reference (To kind maker n) r is ∙ same_to kind maker t n (next_ref p t.0) own next), omega (arith, next_more q t.0, same))

settled_next : (s : StatedSetup) (home : Option ℕ) (p q : Parts) (t : Tid) (call : Call) (value : Value) (warned : Bool) (o : Option ObjId) (r : Ref)
    → IsProper s p t call value warned o
    → next_ref q t.0 ≡ next_ref p t.0
    → reference_in value ≡ Some r → Raises p t (settled home t.0 (record { value = value; warned = warned; noticed = false }) o q) r
settled_next s home p q t call (Reference v) warned None r own same is = absurd own
settled_next s home p q t call (Reference Null) warned (Some o) r own same is = absurd own
settled_next s home p q t call (Reference (To Local maker n)) warned (Some o) r own same is = is_next p q t maker Local n r same own.1 own.2 is
settled_next s home p q t call (Reference (To Global maker n)) warned (Some o) r own same is = is_next p q t maker Global n r same own.1 own.2 is
settled_next s home p q t call (Reference (To Weak maker n)) warned (Some o) r own same is = is_next p q t maker Weak n r same own.1 own.2 is
settled_next s home p q t call value warned o r own same is = absurd (no_reference is)

passed_next : (s : StatedSetup) (p : Parts) (t : Tid) (call : Call) (r : Ref) → reference_in (answer s p t call).reply.value ≡ Some r
    → Raises p t (answered s p t call (answer s p t call)) r
passed_next s p t call r is =
    let a : Answer = answer s p t call in
    settled_next s (home_of s (native_class s p t.0 call)) p (done_if (is_effective a.reply.value) s t.0 call p) t call a.reply.value a.reply.warned a.object r
    (proper s p t call)
    (next_done_if (is_effective a.reply.value) s p t.0 call t.0) is

by_next : (s : StatedSetup) (v : Option Rule) (p : Parts) (t : Tid) (env : Option EnvId) (call : Call) (r : Ref) (x : Entry)
    → x ≡ entry_by v (answer s p t call) t env call → reference_of x.outcome ≡ Some r → Raises p t (after s x.tid.0 x.call x.outcome x.object p) r
by_next s (Some rule) p t env call r x legal is = absurd (no_reference (sym (ap (λ (y : Entry). reference_of y.outcome) legal) ∙ is))
by_next s None p t env call r x legal is =
    let here : reference_in (answer s p t call).reply.value ≡ Some r = sym (ap (λ (y : Entry). reference_of y.outcome) legal) ∙ is in
    rw legal (passed_next s p t call r here)

entry_next : (s : StatedSetup) (p : Parts) (x : Entry) (r : Ref) → x ≡ entry_at s p x.tid x.env x.call → reference_of x.outcome ≡ Some r
    → Raises p x.tid (after s x.tid.0 x.call x.outcome x.object p) r
entry_next s p x r legal is = by_next s (verdict s p x.tid.0 x.env x.call) p x.tid x.env x.call r x legal is

-- ---- numbers of references are below the next

-- the reference is one of its maker's counted ones
abbrev pub Counted : Ref → Parts → Type 0
Counted Null p = ⊥
Counted (To kind maker n) p = n < next_ref p maker.0

counted_more : (s : StatedSetup) (r : Ref) (h : List Entry) (x : Entry) → x ≡ entry_at s (parts s h) x.tid x.env x.call → Counted r (parts s h)
    → Counted r (parts s (x ∷ h))
counted_more s Null h x legal old = old
counted_more s (To kind maker n) h x legal old =
    let still = each_entry (AtLeast maker.0 (n + 1)) s (at_least_steps s maker.0 (n + 1)) (parts s h) x legal (omega (arith, old)) in
    omega (arith, still)

counted : (s : StatedSetup) (h : List Entry) → Legal s h → (r : Ref) → WasHandedOut r h → Counted r (parts s h)
counted s [] legal r was = absurd was
counted s (x ∷ h) legal r (inl is) =
    let raised = entry_next s (parts s h) x r legal.0 is in
    subst (λ (q : Ref). Counted q (parts s (x ∷ h))) (sym raised.0.1) raised.1
counted s (x ∷ h) legal r (inr was) = counted_more s r h x legal.0 (counted s h legal.1 r was)

pub references_counted : ReferencesCounted
references_counted s h kind maker n legal was = counted s h legal (To kind maker n) was

-- ---- none is handed out twice

pub Legal-before : (s : StatedSetup) (later h : List Entry) → Legal s (later ++ h) → Legal s h
Legal-before s [] h legal = legal
Legal-before s (x ∷ later) h legal = Legal-before s later h legal.1

pub not_next : (p : Parts) (t : Tid) (kind : Kind) → Counted (To kind t (next_ref p t.0)) p → ⊥
not_next p t kind below_itself = omega (arith, below_itself)

pub no_reference_twice : NoReferenceTwice
no_reference_twice s later x h r legal is was =
    let own = Legal-before s later (x ∷ h) legal in
    let raised = entry_next s (parts s h) x r own.0 is in
    not_next (parts s h) x.tid raised.0.0 (subst (λ (q : Ref). Counted q (parts s h)) raised.0.1 (counted s h own.1 r was))

-- ---- none that ended is live again

some_live : (n : ℕ) (m : Making) → survives n m.later ≡ true → object_of (local_if_live n (Some m)) ≡ None → ⊥
some_live n m is gone =
    let there : object_of (local_if_live n (Some m)) ≡ Some m.object = rw is refl in
    cc

gone_if : (b : Bool) (a : Act) (n : ℕ) (m : Making) → survives n m.later ≡ b → object_of (local_if_live n (Some m)) ≡ None
    → object_of (local_if_live n (seen_after a (Some m))) ≡ None
gone_if true a n m is gone = absurd (some_live n m is gone)
gone_if false a n m is gone = rw is refl

gone_after : (a : Act) (n : ℕ) (found : Option Making) → object_of (local_if_live n found) ≡ None → object_of (local_if_live n (seen_after a found)) ≡ None
gone_after a n None gone = refl
gone_after a n (Some m) gone = gone_if (survives n m.later) a n m refl gone

made_other : (m n o : ℕ) (acts : List Act) → m ≢ n → live n acts ≡ None → live n (Make m o ∷ acts) ≡ None
made_other m n o acts differ gone =
    let other : (m == n) ≡ false = grind (arith, nat_tests) in
    rw other (gone_after (Make m o) n (making n acts) gone)

-- t's local n was handed out, and isn't live
abbrev pub Gone : ℕ → ℕ → Parts → Type 0
Gone t n p = (n + 1 ≤ next_ref p t) × (live n (acts_of t p.locals) ≡ None)

gone_same : (le : List Event) (u : ℕ) (a : Act) (t n : ℕ) → ((acts : List Act) → live n acts ≡ None → live n (a ∷ acts) ≡ None) → live n (acts_of t le) ≡ None
    → live n (acts_of t (by u a ∷ le)) ≡ None
gone_same le u a t n keeps =
    each_thread (λ v. live n (acts_of v le) ≡ None → live n (acts_of v (by u a ∷ le)) ≡ None) u
    (λ old. rw (acts_more u u a le refl) (keeps (acts_of u le) old))
    (λ v differ old. rw (acts_same v u a le differ) old)
    t

gone_made : (p : Parts) (u k o t n : ℕ) → k ≡ next_ref p u → Gone t n p → live n (acts_of t (by u (Make k o) ∷ p.locals)) ≡ None
gone_made p u k o t n is =
    each_thread (λ v. Gone v n p → live n (acts_of v (by u (Make k o) ∷ p.locals)) ≡ None) u
    (λ old.
    let differ : k ≢ n = λ same. omega (arith, same, is, old.0) in
    rw (acts_more u u (Make k o) p.locals refl) (made_other k n o (acts_of u p.locals) differ old.1))
    (λ v differ old. rw (acts_same v u (Make k o) p.locals differ) old.1)
    t

pub gone_steps : (s : StatedSetup) (t n : ℕ) → Steps s (Gone t n)
gone_steps s t n =
    let counts = at_least_steps s t (n + 1) in
    record {
      begins = λ p u is old. (counts.begins p u is old.0, gone_same p.locals u Start t n (λ acts. gone_after Start n (making n acts)) old.1);
      begun = λ p u is old. (counts.begun p u is old.0, old.1);
      ends = λ p u old. (counts.ends p u old.0, gone_same p.locals u End t n (λ acts. gone_after End n (making n acts)) old.1);
      enters = λ p u on old. (counts.enters p u on old.0, gone_same p.locals u Enter t n (λ acts. gone_after Enter n (making n acts)) old.1);
      leaves = λ p u on deep old. (counts.leaves p u on deep old.0, gone_same p.locals u Leave t n (λ acts. gone_after Leave n (making n acts)) old.1);
      to_globals = λ p e none old. old;
      to_buffers = λ p e none old. old;
      to_monitors = λ p e old. old;
      to_heap = λ p e all old. old;
      to_links = λ p e old. old;
      hands = λ p u k o is old. (counts.hands p u k o is old.0, gone_made p u k o t n is old);
      hands_strong = λ p u k o is old. (counts.hands_strong p u k o is old.0, old.1);
      hands_weak = λ p u k o is old. (counts.hands_weak p u k o is old.0, old.1);
      lends = λ p u b own old. (counts.lends p u b own old.0, old.1);
      raises = λ p u o old. (counts.raises p u o old.0, old.1);
      calms = λ p u old. (counts.calms p u old.0, old.1);
      deletes = λ p u k old. (old.0, gone_same p.locals u (Delete k) t n (λ acts. gone_after (Delete k) n (making n acts)) old.1);
      pushes = λ p u room old. (old.0, gone_same p.locals u (Push room) t n (λ acts. gone_after (Push room) n (making n acts)) old.1);
      widens = λ p u c old. (old.0, gone_same p.locals u (Ensure c) t n (λ acts. gone_after (Ensure c) n (making n acts)) old.1);
      pops = λ p u some old. (old.0, gone_same p.locals u Pop t n (λ acts. gone_after Pop n (making n acts)) old.1);
    }

-- for a local of the caller
local_gone : (s : StatedSetup) (newer later h : List Entry) (t n o : ℕ) → Legal s (newer ++ (later ++ h))
    → live n (acts_of t (parts s h).locals) ≡ Some o → live n (acts_of t (parts s (later ++ h)).locals) ≡ None
    → live n (acts_of t (parts s (newer ++ (later ++ h))).locals) ≡ None
local_gone s newer later h t n o legal was gone =
    let middle = Legal-before s newer (later ++ h) legal in
    let old = Legal-before s later h middle in
    let first = live_below (next_ref (parts s h) t) n o (acts_of t (parts s h).locals) (below s h old t) was in
    let counted = each_since (AtLeast t (n + 1)) s (at_least_steps s t (n + 1)) later h middle (omega (arith, first)) in
    (each_since (Gone t n) s (gone_steps s t n) newer (later ++ h) legal (counted, gone)).1

object_in-named_by : (found : Option ℕ) → object_in (named_by found) ≡ found
object_in-named_by None = refl
object_in-named_by (Some o) = refl

-- the object that a local names, where it is the thread's own or another's
abbrev pub own_object : Bool → Option ℕ → Option ℕ
own_object mine found = object_in (if◌then◌else◌ {A = Named} mine (named_by found) Nothing)

pub own_gone : (mine : Bool) (o : ℕ) (first middle last : Option ℕ) → (first ≡ Some o → middle ≡ None → last ≡ None)
    → own_object mine first ≡ Some o → own_object mine middle ≡ None → own_object mine last ≡ None
own_gone true o first middle last gone was is =
    object_in-named_by last ∙ gone (sym (object_in-named_by first) ∙ was) (sym (object_in-named_by middle) ∙ is)
own_gone false o first middle last gone was is = refl

-- ---- nor a global or a weak one

-- what is left of a reference that names no object
abbrev pub target_object : Option Target → Option ℕ
target_object target = object_in (named_by_target target)

abbrev pub kind_target : Kind → List globals.Event → ℕ → ℕ → Option Target
kind_target Local e maker n = None
kind_target Global e maker n = globals.strong_target (globals.strong e maker n)
kind_target Weak e maker n = globals.weak_target e maker n

-- an event that makes no reference of that name
abbrev Passes : ℕ → ℕ → globals.Event → Type 0
Passes maker n ev = global_laws.makes maker n ev ≡ false

strong_if : (b : Bool) (maker n : ℕ) (old : Option ℕ) → target_object (globals.strong_target old) ≡ None
    → target_object (globals.strong_target (if b then None else old)) ≡ None
strong_if true maker n old gone = refl
strong_if false maker n old gone = gone

strong_still : (ev : globals.Event) (e : List globals.Event) (maker n : ℕ) → Passes maker n ev
    → target_object (globals.strong_target (globals.strong e maker n)) ≡ None
    → target_object (globals.strong_target (globals.strong (ev ∷ e) maker n)) ≡ None
strong_still (globals.MakeStrong k i o) e maker n other gone = rw other gone
strong_still (globals.MakeWeak k i o) e maker n other gone = gone
strong_still (globals.DeleteStrong k i) e maker n other gone = strong_if (globals.is_same maker n k i) maker n (globals.strong e maker n) gone
strong_still (globals.DeleteWeak k i) e maker n other gone = gone
strong_still (globals.Clear o) e maker n other gone = gone

cleared_if : (b c : Bool) (o : ℕ) → target_object (Some (if c then Cleared else ToObject (record { 0 = o }))) ≡ None
    → target_object (Some (if b || c then Cleared else ToObject (record { 0 = o }))) ≡ None
cleared_if true c o gone = refl
cleared_if false c o gone = gone

cleared_still : (later : List globals.Event) (ev : globals.Event) (found : Option ℕ) → target_object (globals.unless_cleared later found) ≡ None
    → target_object (globals.unless_cleared (ev ∷ later) found) ≡ None
cleared_still later ev None gone = refl
cleared_still later ev (Some o) gone = cleared_if (globals.clears o ev) (list_any (globals.clears o) later) o gone

weak_if : (b : Bool) (later : List globals.Event) (old : Option ℕ) → target_object (globals.unless_cleared later old) ≡ None
    → target_object (globals.unless_cleared later (if b then None else old)) ≡ None
weak_if true later old gone = refl
weak_if false later old gone = gone

weak_still : (ev : globals.Event) (e : List globals.Event) (maker n : ℕ) → Passes maker n ev → target_object (globals.weak_target e maker n) ≡ None
    → target_object (globals.weak_target (ev ∷ e) maker n) ≡ None
weak_still (globals.MakeStrong k i o) e maker n other gone =
    cleared_still (globals.after_making maker n e) (globals.MakeStrong k i o) (globals.weak e maker n) gone
weak_still (globals.MakeWeak k i o) e maker n other gone =
    rw other (cleared_still (globals.after_making maker n e) (globals.MakeWeak k i o) (globals.weak e maker n) gone)
weak_still (globals.DeleteStrong k i) e maker n other gone =
    cleared_still (globals.after_making maker n e) (globals.DeleteStrong k i) (globals.weak e maker n) gone
weak_still (globals.DeleteWeak k i) e maker n other gone =
    weak_if (globals.is_same maker n k i) (globals.DeleteWeak k i ∷ globals.after_making maker n e) (globals.weak e maker n)
    (cleared_still (globals.after_making maker n e) (globals.DeleteWeak k i) (globals.weak e maker n) gone)
weak_still (globals.Clear o) e maker n other gone = cleared_still (globals.after_making maker n e) (globals.Clear o) (globals.weak e maker n) gone

kind_still : (kind : Kind) (ev : globals.Event) (e : List globals.Event) (maker n : ℕ) → Passes maker n ev → target_object (kind_target kind e maker n) ≡ None
    → target_object (kind_target kind (ev ∷ e) maker n) ≡ None
kind_still Local ev e maker n other gone = refl
kind_still Global ev e maker n other gone = strong_still ev e maker n other gone
kind_still Weak ev e maker n other gone = weak_still ev e maker n other gone

kind_none : (kind : Kind) (e g : List globals.Event) (maker n : ℕ) → make_no_global e ≡ true → target_object (kind_target kind g maker n) ≡ None
    → target_object (kind_target kind (e ++ g) maker n) ≡ None
kind_none kind [] g maker n none gone = gone
kind_none kind (globals.MakeStrong k i o ∷ e) g maker n none gone = absurd cc
kind_none kind (globals.MakeWeak k i o ∷ e) g maker n none gone = absurd cc
kind_none kind (globals.DeleteStrong k i ∷ e) g maker n none gone =
    kind_still kind (globals.DeleteStrong k i) (e ++ g) maker n refl (kind_none kind e g maker n none gone)
kind_none kind (globals.DeleteWeak k i ∷ e) g maker n none gone =
    kind_still kind (globals.DeleteWeak k i) (e ++ g) maker n refl (kind_none kind e g maker n none gone)
kind_none kind (globals.Clear o ∷ e) g maker n none gone = kind_still kind (globals.Clear o) (e ++ g) maker n refl (kind_none kind e g maker n none gone)

-- the reference was handed out, and names no object
abbrev pub Ended : Kind → ℕ → ℕ → Parts → Type 0
Ended kind t n p = (n + 1 ≤ next_ref p t) × (target_object (kind_target kind p.globals t n) ≡ None)

pub not_same : (p : Parts) (u k t n : ℕ) → k ≡ next_ref p u → n + 1 ≤ next_ref p t → globals.is_same t n u k ≡ false
not_same p u k t n is old =
    each_thread (λ v. n + 1 ≤ next_ref p v → globals.is_same v n u k ≡ false) u
    (λ below. let other : (k == n) ≡ false = grind (arith, nat_tests, is, below) in rw other grind (arith, nat_tests))
    (λ v differ below. grind (arith, nat_tests, differ))
    t old

pub ended_steps : (s : StatedSetup) (kind : Kind) (t n : ℕ) → Steps s (Ended kind t n)
ended_steps s kind t n =
    let counts = at_least_steps s t (n + 1) in
    record {
      begins = λ p u is old. (counts.begins p u is old.0, old.1);
      begun = λ p u is old. (counts.begun p u is old.0, old.1);
      ends = λ p u old. (counts.ends p u old.0, old.1);
      enters = λ p u on old. (counts.enters p u on old.0, old.1);
      leaves = λ p u on deep old. (counts.leaves p u on deep old.0, old.1);
      deletes = λ p u k old. old;
      pushes = λ p u room old. old;
      widens = λ p u c old. old;
      pops = λ p u some old. old;
      to_globals = λ p e none old. (old.0, kind_none kind e p.globals t n none old.1);
      to_buffers = λ p e none old. old;
      to_monitors = λ p e old. old;
      to_heap = λ p e all old. old;
      to_links = λ p e old. old;
      hands = λ p u k o is old. (counts.hands p u k o is old.0, old.1);
      hands_strong = λ p u k o is
          old. (counts.hands_strong p u k o is old.0, kind_still kind (globals.MakeStrong u k o) p.globals t n (not_same p u k t n is old.0) old.1);
      hands_weak = λ p u k o is
          old. (counts.hands_weak p u k o is old.0, kind_still kind (globals.MakeWeak u k o) p.globals t n (not_same p u k t n is old.0) old.1);
      lends = λ p u b own old. (counts.lends p u b own old.0, old.1);
      raises = λ p u o old. (counts.raises p u o old.0, old.1);
      calms = λ p u old. (counts.calms p u old.0, old.1);
    }

pub same_pair : (t n k i : ℕ) → globals.is_same t n k i ≡ true → (k ≡ t) × (i ≡ n)
same_pair t n k i is = grind (arith, nat_tests, is)

strong_below_if : (b : Bool) (e : List globals.Event) (m t n k i p o : ℕ) → globals.is_same t n k i ≡ b → (k ≡ t → i < m)
    → (target_object (globals.strong_target (globals.strong e t n)) ≡ Some o → n < m)
    → target_object (globals.strong_target (if b then Some p else globals.strong e t n)) ≡ Some o → n < m
strong_below_if true e m t n k i p o same below rest is = let both = same_pair t n k i same in omega (arith, below both.0, both.1)
strong_below_if false e m t n k i p o same below rest is = rest is

deleted_below : (b : Bool) (old : Option ℕ) (m n o : ℕ) → (target_object (globals.strong_target old) ≡ Some o → n < m)
    → target_object (globals.strong_target (if b then None else old)) ≡ Some o
    → n < m
deleted_below true old m n o rest is = absurd cc
deleted_below false old m n o rest is = rest is

weak_made_if : (b : Bool) (old : Option ℕ) (m t n k i p o : ℕ) → globals.is_same t n k i ≡ b → (k ≡ t → i < m) → (old ≡ Some o → n < m)
    → (if b then Some p else old) ≡ Some o → n < m
weak_made_if true old m t n k i p o same below rest is = let both = same_pair t n k i same in omega (arith, below both.0, both.1)
weak_made_if false old m t n k i p o same below rest is = rest is

weak_deleted : (b : Bool) (old : Option ℕ) (m n o : ℕ) → (old ≡ Some o → n < m) → (if b then None else old) ≡ Some o → n < m
weak_deleted true old m n o rest is = absurd cc
weak_deleted false old m n o rest is = rest is

-- a reference that names an object was made, so that its number was handed out
strong_below : (e : List globals.Event) (m t n o : ℕ) → global_laws.IsMadeBelow t m e → target_object (globals.strong_target (globals.strong e t n)) ≡ Some o
    → n < m
strong_below [] m t n o below is = absurd cc
strong_below (globals.MakeStrong k i p ∷ e) m t n o below is =
    strong_below_if (globals.is_same t n k i) e m t n k i p o refl below.0 (λ rest. strong_below e m t n o below.1 rest) is
strong_below (globals.MakeWeak k i p ∷ e) m t n o below is = strong_below e m t n o below.1 is
strong_below (globals.DeleteStrong k i ∷ e) m t n o below is =
    deleted_below (globals.is_same t n k i) (globals.strong e t n) m n o (λ rest. strong_below e m t n o below rest) is
strong_below (globals.DeleteWeak k i ∷ e) m t n o below is = strong_below e m t n o below is
strong_below (globals.Clear p ∷ e) m t n o below is = strong_below e m t n o below is

weak_made : (e : List globals.Event) (m t n o : ℕ) → global_laws.IsMadeBelow t m e → globals.weak e t n ≡ Some o → n < m
weak_made [] m t n o below is = absurd cc
weak_made (globals.MakeWeak k i p ∷ e) m t n o below is =
    weak_made_if (globals.is_same t n k i) (globals.weak e t n) m t n k i p o refl below.0 (λ rest. weak_made e m t n o below.1 rest) is
weak_made (globals.MakeStrong k i p ∷ e) m t n o below is = weak_made e m t n o below.1 is
weak_made (globals.DeleteWeak k i ∷ e) m t n o below is =
    weak_deleted (globals.is_same t n k i) (globals.weak e t n) m n o (λ rest. weak_made e m t n o below rest) is
weak_made (globals.DeleteStrong k i ∷ e) m t n o below is = weak_made e m t n o below is
weak_made (globals.Clear p ∷ e) m t n o below is = weak_made e m t n o below is

weak_below : (e : List globals.Event) (m t n o : ℕ) (found : Option ℕ) → globals.weak e t n ≡ found → global_laws.IsMadeBelow t m e
    → target_object (globals.unless_cleared (globals.after_making t n e) found) ≡ Some o → n < m
weak_below e m t n o None eq below is = absurd cc
weak_below e m t n o (Some p) eq below is = weak_made e m t n p below eq

pub kind_below : (kind : Kind) (e : List globals.Event) (m t n o : ℕ) → global_laws.IsMadeBelow t m e → target_object (kind_target kind e t n) ≡ Some o → n < m
kind_below Local e m t n o below is = absurd cc
kind_below Global e m t n o below is = strong_below e m t n o below is
kind_below Weak e m t n o below is = weak_below e m t n o (globals.weak e t n) refl below is

global_gone : (kind : Kind) (s : StatedSetup) (newer later h : List Entry) (t n o : ℕ) → Legal s (newer ++ (later ++ h))
    → target_object (kind_target kind (parts s h).globals t n) ≡ Some o → target_object (kind_target kind (parts s (later ++ h)).globals t n) ≡ None
    → target_object (kind_target kind (parts s (newer ++ (later ++ h))).globals t n) ≡ None
global_gone kind s newer later h t n o legal was gone =
    let middle = Legal-before s newer (later ++ h) legal in
    let old = Legal-before s later h middle in
    let first = kind_below kind (parts s h).globals (next_ref (parts s h) t) t n o (globals_below s h old t) was in
    let counted = each_since (AtLeast t (n + 1)) s (at_least_steps s t (n + 1)) later h middle (omega (arith, first)) in
    (each_since (Ended kind t n) s (ended_steps s kind t n) newer (later ++ h) legal (counted, gone)).1

pub no_reference_revived : NoReferenceRevived
no_reference_revived s newest later first t o Null legal was is = refl
no_reference_revived s newest later first t o (To Global maker n) legal was is = global_gone Global s newest later first maker.0 n o legal was is
no_reference_revived s newest later first t o (To Weak maker n) legal was is = global_gone Weak s newest later first maker.0 n o legal was is
no_reference_revived s newest later first t o (To Local maker n) legal was is =
    own_gone (maker.0 == t) o (live n (acts_of t (parts s first).locals)) (live n (acts_of t (parts s (later ++ first)).locals))
    (live n (acts_of t (parts s (newest ++ (later ++ first))).locals))
    (local_gone s newest later first t n o legal) was is
