-- A local that ended at once is as one that was never handed out.
use Rattle.std.proofs.Common.{ℕ, ◌≡◌, ◌≢◌, ◌+◌, Bool, true, false, List, [], ◌∷◌, Option, Some, None, refl, ap, sym, ◌∙◌, subst, arith, eqb-true, if◌then◌else◌}
use Rattle.std.specs.Prelude.{◌==◌, ◌&&◌, ◌||◌, not}
use Rattle.std.specs.List.{list_any, find, AllByRecursion}
use Rattle.std.specs.Cmp.{both_ways}
use Rattle.std.proofs.lemmas.Bool.Decides.{nat_tests}
use Rattle.jg_words.specs.declared.thread.Tid.{Tid}
use Rattle.jg_words.specs.declared.thread.EnvId.{EnvId}
use Rattle.jg_words.specs.declared.object.ObjId.{ObjId}
use Rattle.jg_words.specs.declared.buffer.BufId.{BufId}
use Rattle.jg_words.specs.declared.object.ItemType.TheVariants.{Of, Float, Double}
use Rattle.jg_words.specs.declared.reference.Ref.{Ref}
use Rattle.jg_words.specs.declared.reference.Ref.TheVariants.{Null, To}
use Rattle.jg_words.specs.declared.reference.Kind.TheVariants.{Local, Global, Weak}
use Rattle.jg_words.specs.declared.rule.Rule.{Rule}
use Rattle.jg_words.specs.declared.rule.Rule.TheVariants.{WrongThread, Detached, InCritical, Pending, ForeignLocal, DeadReference, WrongRefKind, NullReference, WrongType, BadField, BadBuffer, BadArgument, Pinned, NotOwner, BadFrame, NoNativeAccess, NotLinked}
use Rattle.jg_policy.specs.Stated.{StatedSetup}
use Rattle.jg_table_threads.specs.History as threads
use Rattle.jg_table_locals.specs.History as locals
use Rattle.jg_table_locals.specs.History.{Act, Make, Delete, by, acts_of, live, making, Making, seen_after, survives, local_if_live, object_of}
use Rattle.jg_table_locals.proofs.Callers.{acts_more, acts_same, each_thread, live_below, held_law}
use Rattle.jg_table_threads.proofs.Callers.{is_pending_law}
use Rattle.jg_rules.specs.Holding.{is_root}
use Rattle.jg_laws.proofs.Kept.{Below}
use Rattle.jg_table_buffers.specs.History.{same_ref}
use Rattle.jg_table_buffers.specs.declared.family.Family.{Family}
use Rattle.jg_table_buffers.specs.declared.family.Family.TheVariants.{Elements, Chars, UtfChars, ArrayCritical, StringCritical}
use Rattle.jg_table_buffers.specs.declared.info.Info.{Info}
use Rattle.jg_laws.proofs.Acts.{did_more, did_same}
use Rattle.jg_rules.specs.declared.named.Named.{Named}
use Rattle.jg_rules.specs.declared.named.Named.TheVariants.{Nothing, Null as NamesNull, Object}
use Rattle.jg_rules.specs.Parts.{Parts}
use Rattle.jg_rules.specs.Names.{names, named_by, next_ref, session, pending, depth, open_frames, object_in, object_named}
use Rattle.jg_rules.specs.Buffers.{buffer_named, is_open_and, is_of_family, is_of_object, is_anothers, item_type}
use Rattle.jg_rules.specs.Rules.{rules_in_order, is_nothing, is_null, is_not_owned, is_linked}
use Rattle.jg_rows.specs.declared.row.Takes.{Takes}
use Rattle.jg_rows.specs.declared.row.Takes.TheVariants.{Nullable, Buffer as TakesBuffer, Readable, Writable, Item, Value}
use Rattle.jg_rows.specs.declared.row.ObjectKind.{ObjectKind}
use Rattle.jg_rows.specs.declared.row.Effect.{Effect}
use Rattle.jg_rows.specs.declared.row.Effect.TheVariants.{Ends, Pops, Frees, Detaches, Enters, Leaves, Loads, Links}
use Rattle.jg_rows.specs.Columns.{Columns}
use Rattle.jg_judge.specs.declared.argument.Argument.{Argument}
use Rattle.jg_judge.specs.declared.argument.Argument.TheVariants.{Reference, Buffer, Number, Value as ValueOf, Class, List as ListOf}
use Rattle.jg_judge.specs.declared.argument.Bounds.{Bounds}
use Rattle.jg_judge.specs.Asked.{Judged, judged, paired, allowed, first_reference, first_buffer}
use Rattle.jg_judge.specs.Broken.{broken, verdict, by_caller, wrong_thread, detached, in_critical, while_pending, is_wrong_kind, is_wrong_buffer, is_refused_buffer, is_out_of_bounds, buffer_meant, bad_argument, pinned, not_owner, bad_frame, no_access, not_linked, class_by_name, native_by_name}
use Rattle.jg_core.specs.declared.fact.Fact.{Fact}
use Rattle.jg_core.specs.declared.fact.Fact.TheVariants as facts
use Rattle.jg_core.specs.declared.fact.Fact.TheVariants.{Checked}
use Rattle.jg_core.specs.declared.fact.Checked.{Checked as Check}
use Rattle.jg_core.specs.declared.fact.Checked.TheVariants as checked
use Rattle.jg_core.specs.Facts.{parts_of, handed_on, lost_on, is_in_being, is_attached, is_kept_here, is_so, can_be}
use Rattle.jg_core.proofs.Each.{each_told, keeps_below}
use Rattle.jg_core_laws.specs.Laws.{references, next_local, briefly, BriefCanBe, BriefIsUnseen, IsAsBefore, BriefLeavesAll, BriefIsPassedBy, BriefMayEnd, speaks_of}
use Rattle.jg_core_laws.proofs.Meanings.{spares, survives_more}
use Rattle.jg_core_laws.proofs.Classes.{kind_same}
use Rattle.jg_core_laws.proofs.Judged.{each_judged}
use Rattle.jg_core_laws.proofs.Leases.{AllFail, none_found}

-- ---- one thread's locals

pub survives_by : (b : Bool) (n : ℕ) (a : Act) (later : List Act) → spares n a ≡ true → survives n later ≡ b → survives n (a ∷ later) ≡ survives n later
survives_by true n a later spared is = survives_more n a later spared is ∙ sym is
survives_by false n a later spared is = rw is refl

seen_same : (n : ℕ) (a : Act) (found : Option Making) → spares n a ≡ true → object_of (local_if_live n (seen_after a found)) ≡ object_of (local_if_live n found)
seen_same n a None spared = refl
seen_same n a (Some m) spared = rw (survives_by (survives n m.later) n a m.later spared refl) refl

made_same : (n k o : ℕ) (acts : List Act) → (k == n) ≡ false → live n (Make k o ∷ acts) ≡ live n acts
made_same n k o acts other = rw other (seen_same n (Make k o) (making n acts) (rw other refl))

deleted_same : (n k : ℕ) (acts : List Act) → (k == n) ≡ false → live n (Delete k ∷ acts) ≡ live n acts
deleted_same n k acts other = seen_same n (Delete k) (making n acts) (rw other refl)

own : (n : ℕ) → (n == n) ≡ true
own n = grind (arith, nat_tests)

made_lives : (n o : ℕ) (acts : List Act) → live n (Make n o ∷ acts) ≡ Some o
made_lives n o acts = rw (own n) refl

ended_after : (n : ℕ) (a : Act) (m : Making) → survives n (a ∷ m.later) ≡ false → object_of (local_if_live n (seen_after a (Some m))) ≡ None
ended_after n a m ended = rw ended refl

deleted_ends : (n : ℕ) → survives n (Delete n ∷ []) ≡ false
deleted_ends n = rw (own n) refl

brief_ends : (n o : ℕ) (acts : List Act) → live n (Delete n ∷ Make n o ∷ acts) ≡ None
brief_ends n o acts = rw (own n) (ended_after n (Delete n) (record { later = []; object = o; before = acts }) (deleted_ends n))

-- ---- all threads' locals

abbrev brief_locals : ℕ → ℕ → ℕ → List locals.Event → List locals.Event
brief_locals t n o e = by t (Delete n) ∷ by t (Make n o) ∷ e

own_acts : (t n o : ℕ) (e : List locals.Event) → acts_of t (brief_locals t n o e) ≡ Delete n ∷ Make n o ∷ acts_of t e
own_acts t n o e = acts_more t t (Delete n) (by t (Make n o) ∷ e) refl ∙ ap (λ (acts : List Act). Delete n ∷ acts) (acts_more t t (Make n o) e refl)

other_acts : (t n o v : ℕ) (e : List locals.Event) → v ≢ t → acts_of v (brief_locals t n o e) ≡ acts_of v e
other_acts t n o v e differ = acts_same v t (Delete n) (by t (Make n o) ∷ e) differ ∙ acts_same v t (Make n o) e differ

live_same : (t n o u m : ℕ) (e : List locals.Event) → ((t == u) && (n == m)) ≡ false → live m (acts_of u (brief_locals t n o e)) ≡ live m (acts_of u e)
live_same t n o u m e apart =
    each_thread (λ v. ((t == v) && (n == m)) ≡ false → live m (acts_of v (brief_locals t n o e)) ≡ live m (acts_of v e)) t
    (λ apart.
    let other : (n == m) ≡ false = grind (arith, nat_tests, apart) in
    rw (own_acts t n o e) (deleted_same m n (Make n o ∷ acts_of t e) other ∙ made_same m n o (acts_of t e) other))
    (λ v differ apart. rw (other_acts t n o v e differ) refl)
    u apart

-- what hears of neither is the same of each thread
locals_same : {X : Type 0} (f : List Act → X) → ((n o : ℕ) (acts : List Act) → f (Delete n ∷ Make n o ∷ acts) ≡ f acts) → (t n o u : ℕ) (e : List locals.Event)
    → f (acts_of u (brief_locals t n o e)) ≡ f (acts_of u e)
locals_same f quiet t n o u e =
    each_thread (λ v. f (acts_of v (brief_locals t n o e)) ≡ f (acts_of v e)) t
    (rw (own_acts t n o e) (quiet n o (acts_of t e)))
    (λ v differ. rw (other_acts t n o v e differ) refl)
    u

threads_same : {X : Type 0} (f : List threads.Act → X) → ((acts : List threads.Act) → f (threads.CountRef ∷ acts) ≡ f acts) → (t u : ℕ) (e : List threads.Event)
    → f (threads.acts_of u (threads.by t threads.CountRef ∷ e)) ≡ f (threads.acts_of u e)
threads_same f quiet t u e =
    each_thread (λ v. f (threads.acts_of v (threads.by t threads.CountRef ∷ e)) ≡ f (threads.acts_of v e)) t
    (rw (did_more t threads.CountRef e) (quiet (threads.acts_of t e)))
    (λ v differ. rw (did_same v t threads.CountRef e differ) refl)
    u

local_if : (c : Bool) (old new : Option ℕ) → (c ≡ true → new ≡ old) → (if c then named_by new else Nothing) ≡ (if c then named_by old else Nothing)
local_if true old new same = ap named_by (same refl)
local_if false old new same = refl

gone_if : (c : Bool) (new : Option ℕ) → (c ≡ true → new ≡ None) → (if c then named_by new else Nothing) ≡ Nothing
gone_if true new same = ap named_by (same refl)
gone_if false new same = refl

-- ---- what is known

module _ (t : Tid) (o : ObjId) (p : Parts) where
  abbrev n : ℕ
  n = next_ref p t.0

  abbrev r : Ref
  r = To Local t n

  abbrev handed : Parts
  handed = handed_on t.0 Local o.0 p

  abbrev q : Parts
  q = lost_on r handed

  is_ended : (u : ℕ) → names q u r ≡ Nothing
  is_ended u =
      gone_if (t.0 == u) (live n (acts_of u q.locals))
      (λ is. subst (λ (v : ℕ). live n (acts_of v q.locals) ≡ None) (eqb-true t.0 u is) (rw (own_acts t.0 n o.0 p.locals) (brief_ends n o.0 (acts_of t.0 p.locals))))

  named_same : (u : ℕ) (other : Ref) → same_ref r other ≡ false → names q u other ≡ names p u other
  named_same u Null apart = refl
  named_same u (To Local maker m) apart =
      local_if (maker.0 == u) (live m (acts_of u p.locals)) (live m (acts_of u q.locals))
      (λ is. live_same t.0 n o.0 u m p.locals (subst (λ (v : ℕ). ((t.0 == v) && (n == m)) ≡ false) (eqb-true maker.0 u is) apart))
  named_same u (To Global maker m) apart = refl
  named_same u (To Weak maker m) apart = refl

  session_same : (u : ℕ) → session q u ≡ session p u
  session_same u = threads_same threads.session (λ acts. refl) t.0 u p.threads

  pending_same : (u : ℕ) → pending q u ≡ pending p u
  pending_same u = threads_same threads.pending (λ acts. refl) t.0 u p.threads

  depth_same : (u : ℕ) → depth q u ≡ depth p u
  depth_same u = threads_same threads.depth (λ acts. refl) t.0 u p.threads

  frames_same : (u : ℕ) → open_frames q u ≡ open_frames p u
  frames_same u = locals_same (λ acts. locals.frames (locals.depth acts) acts) (λ n o acts. refl) t.0 n o.0 u p.locals

  as_before : IsAsBefore t r p q
  as_before = record {
    ended = is_ended;
    named = named_same;
    next = rw (did_more t.0 threads.CountRef p.threads) refl;
    others = λ u other. rw (did_same u t.0 threads.CountRef p.threads (λ is. grind (arith, nat_tests, other, is))) refl;
    lent = λ u. ap (λ (k : ℕ). k + 1) (threads_same threads.buffers (λ acts. refl) t.0 u p.threads);
    session = session_same;
    pending = pending_same;
    depth = depth_same;
    frames = frames_same;
    globals = refl;
    buffers = refl;
    monitors = refl;
    heap = refl;
    links = refl;
  }

pub brief_leaves_all : BriefLeavesAll
brief_leaves_all t o w = as_before t o (parts_of w)

-- ---- where it can be

handed_lives : (t : Tid) (o : ObjId) (p : Parts) → names (handed t o p) t.0 (r t o p) ≡ Object o
handed_lives t o p = rw (own t.0, own (n t o p)) refl

in_being : (t : Tid) (o : ObjId) (p : Parts) → is_in_being (handed t o p) (r t o p) ≡ true
in_being t o p = rw (handed_lives t o p) refl

pub brief_can_be : BriefCanBe
brief_can_be s t o w could = (in_being t o (parts_of w), could)

-- ---- verdicts

any_same : {X : Type 0} (f g : X → Bool) (K : X → Type 0) → ((x : X) → K x → f x ≡ g x) → (xs : List X) → AllByRecursion K xs → list_any f xs ≡ list_any g xs
any_same f g K each [] all = refl
any_same f g K each (x ∷ xs) all = rw (each x all.0, any_same f g K each xs all.1) refl

all_same : {X : Type 0} (f g : X → Bool) → ((x : X) → f x ≡ g x) → (xs : List X) → list_any f xs ≡ list_any g xs
all_same f g each [] = refl
all_same f g each (x ∷ xs) = rw (each x, all_same f g each xs) refl

find_same : (f g : Rule → Bool) → ((rule : Rule) → f rule ≡ g rule) → (rules : List Rule) → find f rules ≡ find g rules
find_same f g each [] = refl
find_same f g each (rule ∷ rules) = rw (each rule, find_same f g each rules) refl

or_parts : (a b : Bool) → (a || b) ≡ false → (a ≡ false) × (b ≡ false)
or_parts true b is = absurd cc
or_parts false b is = (refl, is)

detached_same : (p q : Parts) (u : ℕ) (env : Option EnvId) (row : Columns) → session q u ≡ session p u → detached q u env row ≡ detached p u env row
detached_same p q u None row same = refl
detached_same p q u (Some env) row same = rw same refl

kind_still : (s : StatedSetup) (p q : Parts) (kind : ObjectKind) (named : Named) → q.heap ≡ p.heap → is_wrong_kind s q kind named ≡ is_wrong_kind s p kind named
kind_still s p q kind Nothing same = refl
kind_still s p q kind NamesNull same = refl
kind_still s p q kind (Object o) same = rw (kind_same s p q kind o.0 (rw same refl)) refl

refused_same : (p q : Parts) (u : ℕ) (r : Ref) (takes : Takes) (b : BufId) → q.buffers ≡ p.buffers → object_named q u r ≡ object_named p u r
    → is_refused_buffer q u r takes b ≡ is_refused_buffer p u r takes b
refused_same p q u r (TakesBuffer family) b same named =
    rw same (ap (λ (o : Option ℕ). not (is_open_and (λ x. is_of_family family x && (is_of_object o x && not (is_anothers u x))) (buffer_named p b))) named)
refused_same p q u r Readable b same named = rw same refl
refused_same p q u r Writable b same named = rw same refl
refused_same p q u r takes b same named = refl

buffer_same : (p q : Parts) (u : ℕ) (r : Ref) (takes : Takes) (x : Argument) → q.buffers ≡ p.buffers → object_named q u r ≡ object_named p u r
    → is_wrong_buffer q u r takes x ≡ is_wrong_buffer p u r takes x
buffer_same p q u r takes (Buffer b) same named = refused_same p q u r takes b same named
buffer_same p q u r takes x same named = refl

meant_same : (p q : Parts) (b : Option BufId) → q.buffers ≡ p.buffers → buffer_meant q b ≡ buffer_meant p b
meant_same p q None same = refl
meant_same p q (Some b) same = rw same refl

type_same : (s : StatedSetup) (p q : Parts) (info : Info) (family : Family) → q.heap ≡ p.heap → item_type s q info family ≡ item_type s p info family
type_same s p q info (Elements (Of element)) same = refl
type_same s p q info (Elements Float) same = refl
type_same s p q info (Elements Double) same = refl
type_same s p q info Chars same = refl
type_same s p q info UtfChars same = refl
type_same s p q info ArrayCritical same = rw same refl
type_same s p q info StringCritical same = refl

pub bounds_same : (bounds : Bounds) (s : StatedSetup) (p q : Parts) (info : Option Info) (takes : Takes) (x : Argument) → q.heap ≡ p.heap
    → is_out_of_bounds bounds s q info takes x ≡ is_out_of_bounds bounds s p info takes x
bounds_same bounds s p q None Item (ValueOf v) same = refl
bounds_same bounds s p q (Some info) Item (ValueOf v) same = rw (type_same s p q info info.family same) refl
bounds_same bounds s p q info (Value item) (ValueOf v) same = refl
bounds_same bounds s p q info takes (ValueOf v) same = refl
bounds_same bounds s p q info takes (Number n) same = refl
bounds_same bounds s p q info takes (ListOf count fits) same = refl
bounds_same bounds s p q info takes (Class class) same = refl
bounds_same bounds s p q info takes x same = refl

arguments_same : (bounds : Bounds) (s : StatedSetup) (p q : Parts) (row : Columns) (xs : List Argument) → q.heap ≡ p.heap → q.buffers ≡ p.buffers
    → bad_argument bounds s q row xs ≡ bad_argument bounds s p row xs
arguments_same bounds s p q row xs heap buffers =
    rw (meant_same p q (first_buffer xs) buffers)
    (all_same (λ x. is_out_of_bounds bounds s q (buffer_meant p (first_buffer xs)) x.0 x.1) (λ x. is_out_of_bounds bounds s p (buffer_meant p (first_buffer xs)) x.0 x.1)
    (λ x. bounds_same bounds s p q (buffer_meant p (first_buffer xs)) x.0 x.1 heap) (paired row.takes xs))

pinned_same : (p q : Parts) (effect : Effect) (r : Ref) → q.buffers ≡ p.buffers → pinned q effect r ≡ pinned p effect r
pinned_same p q (Ends Local) r same = refl
pinned_same p q (Ends Global) r same = rw same refl
pinned_same p q (Ends Weak) r same = rw same refl
pinned_same p q effect r same = refl

pub owned_same : (p q : Parts) (u : ℕ) (o : Option ℕ) → q.monitors ≡ p.monitors → is_not_owned q u o ≡ is_not_owned p u o
owned_same p q u None same = refl
owned_same p q u (Some o) same = rw same refl

owner_same : (p q : Parts) (u : ℕ) (effect : Effect) (r : Ref) → q.monitors ≡ p.monitors → object_named q u r ≡ object_named p u r
    → not_owner q u effect r ≡ not_owner p u effect r
owner_same p q u Frees r same named = rw named (owned_same p q u (object_named p u r) same)
owner_same p q u effect r same named = refl

frame_same : (p q : Parts) (u : ℕ) (effect : Effect) → depth q u ≡ depth p u → open_frames q u ≡ open_frames p u → bad_frame q u effect ≡ bad_frame p u effect
frame_same p q u Detaches depth frames = rw depth refl
frame_same p q u Leaves depth frames = rw depth refl
frame_same p q u Pops depth frames = rw frames refl
frame_same p q u effect depth frames = refl

access_same : (s : StatedSetup) (p q : Parts) (u : ℕ) (effect : Effect) (r : Ref) (xs : List Argument) → object_named q u r ≡ object_named p u r
    → no_access s q u effect r xs ≡ no_access s p u effect r xs
access_same s p q u Enters r xs named = refl
access_same s p q u Loads r xs named = refl
access_same s p q u Links r xs named = rw named refl
access_same s p q u effect r xs named = refl

link_same : (p q : Parts) (class native : Option ℕ) → q.links ≡ p.links → is_linked q class native ≡ is_linked p class native
link_same p q None native same = refl
link_same p q (Some class) None same = refl
link_same p q (Some class) (Some native) same = rw same refl

linked_same : (s : StatedSetup) (p q : Parts) (effect : Effect) (xs : List Argument) → q.links ≡ p.links → not_linked s q effect xs ≡ not_linked s p effect xs
linked_same s p q Enters xs same = rw (link_same p q (class_by_name s xs) (native_by_name xs) same) refl
linked_same s p q effect xs same = refl

-- the two parts name the same by it
abbrev SameName : Parts → Parts → ℕ → Ref → Type 0
SameName p q u r = names q u r ≡ names p u r

same_names : (t : Tid) (r : Ref) (p q : Parts) (u : ℕ) → IsAsBefore t r p q → (rs : List Ref) → list_any (same_ref r) rs ≡ false → AllByRecursion (SameName p q u) rs
same_names t r p q u before [] apart = tt
same_names t r p q u before (other ∷ rs) apart =
    let both = or_parts (same_ref r other) (list_any (same_ref r) rs) apart in
    (before.named u other both.0, same_names t r p q u before rs both.1)

first_same : (p q : Parts) (u : ℕ) (xs : List Argument) → AllByRecursion (SameName p q u) (references xs) → SameName p q u (first_reference xs)
first_same p q u [] all = refl
first_same p q u (Reference r ∷ xs) all = all.0
first_same p q u (x ∷ xs) all = first_same p q u xs all

module _ (bounds : Bounds) (s : StatedSetup) (t : Tid) (r : Ref) (p q : Parts) (before : IsAsBefore t r p q) (u : ℕ) (env : Option EnvId) (row : Columns)
    (xs : List Argument) (apart : list_any (same_ref r) (references xs) ≡ false) where
  all : AllByRecursion (SameName p q u) (references xs)
  all = same_names t r p q u before (references xs) apart

  judged_all : AllByRecursion (λ j. SameName p q u j.reference) (judged row.takes xs)
  judged_all = each_judged (SameName p q u) refl row.takes xs all

  first : object_named q u (first_reference xs) ≡ object_named p u (first_reference xs)
  first = ap object_in (first_same p q u xs all)

  of_each : (f g : Judged → Bool) → ((j : Judged) → SameName p q u j.reference → f j ≡ g j) → list_any f (judged row.takes xs) ≡ list_any g (judged row.takes xs)
  of_each f g each = any_same f g (λ j. SameName p q u j.reference) each (judged row.takes xs) judged_all

  rule_same : (rule : Rule) → broken rule bounds s q u env row xs ≡ broken rule bounds s p u env row xs
  rule_same WrongThread = refl
  rule_same Detached = detached_same p q u env row (before.session u)
  rule_same InCritical = rw before.buffers refl
  rule_same Pending = rw (before.pending u) refl
  rule_same ForeignLocal = refl
  rule_same DeadReference =
      of_each (λ j. is_nothing (names q u j.reference)) (λ j. is_nothing (names p u j.reference)) (λ j same. rw same refl)
  rule_same WrongRefKind = refl
  rule_same NullReference =
      of_each (λ j. not j.nullable && is_null (names q u j.reference)) (λ j. not j.nullable && is_null (names p u j.reference)) (λ j same. rw same refl)
  rule_same WrongType =
      of_each (λ j. is_wrong_kind s q j.kind (names q u j.reference)) (λ j. is_wrong_kind s p j.kind (names p u j.reference))
      (λ j same. rw same (kind_still s p q j.kind (names p u j.reference) before.heap))
  rule_same BadField = refl
  rule_same BadBuffer =
      all_same (λ x. is_wrong_buffer q u (first_reference xs) x.0 x.1) (λ x. is_wrong_buffer p u (first_reference xs) x.0 x.1)
      (λ x. buffer_same p q u (first_reference xs) x.0 x.1 before.buffers first) (paired row.takes xs)
  rule_same BadArgument = arguments_same bounds s p q row xs before.heap before.buffers
  rule_same Pinned = pinned_same p q row.effect (first_reference xs) before.buffers
  rule_same NotOwner = owner_same p q u row.effect (first_reference xs) before.monitors first
  rule_same BadFrame = frame_same p q u row.effect (before.depth u) (before.frames u)
  rule_same NoNativeAccess = access_same s p q u row.effect (first_reference xs) xs first
  rule_same NotLinked = linked_same s p q row.effect xs before.links

  verdict_same : verdict bounds s q u env row xs ≡ verdict bounds s p u env row xs
  verdict_same = find_same (λ rule. broken rule bounds s q u env row xs) (λ rule. broken rule bounds s p u env row xs) rule_same rules_in_order

pub brief_is_unseen : BriefIsUnseen
brief_is_unseen bounds s t o w u env row xs apart =
    verdict_same bounds s t (next_local t w) (parts_of w) (parts_of (briefly t o w)) (brief_leaves_all t o w) u env row xs apart

-- ---- what can be told next

pub not_ended : (m o : ℕ) (acts : List Act) → live m acts ≡ None → live m acts ≡ Some o → ⊥
not_ended m o acts none is = absurd cc

module _ (s : StatedSetup) (t : Tid) (o : ObjId) (p : Parts) (below : Below p) where
  attached_same : (u : ℕ) → is_attached (q t o p) u ≡ is_attached p u
  attached_same u = threads_same threads.attached (λ acts. refl) t.0 u p.threads

  -- no thread's local was the one
  apart_if_live : (u m x : ℕ) → live m (acts_of u p.locals) ≡ Some x → ((t.0 == u) && (n t o p == m)) ≡ false
  apart_if_live u m x is = by_thread (t.0 == u) refl
    where
      by_thread : (same : Bool) → (t.0 == u) ≡ same → (same && (n t o p == m)) ≡ false
      by_thread false own = refl
      by_thread true own =
          let less = live_below (next_ref p t.0) m x (acts_of t.0 p.locals) (below t.0)
          (subst (λ (v : ℕ). live m (acts_of v p.locals) ≡ Some x) (sym (eqb-true t.0 u own)) is) in
          grind (arith, nat_tests, less)

  held_later : (x : ℕ) → locals.holds_object p.locals x ≡ true → locals.holds_object (q t o p).locals x ≡ true
  held_later x is =
      let there = (held_law p.locals x).0 is in
      (held_law (q t o p).locals x).1
      (there.0, there.1, live_same t.0 (n t o p) o.0 there.0 there.1 p.locals (apart_if_live there.0 there.1 x there.2) ∙ there.2)

  held_before : (x : ℕ) → locals.holds_object (q t o p).locals x ≡ true → locals.holds_object p.locals x ≡ true
  held_before x is =
      let there = (held_law (q t o p).locals x).0 is in
      by_this ((t.0 == there.0) && (n t o p == there.1)) there.0 there.1 refl there.2
    where
      by_this : (same : Bool) (u m : ℕ) → ((t.0 == u) && (n t o p == m)) ≡ same → live m (acts_of u (q t o p).locals) ≡ Some x
          → locals.holds_object p.locals x ≡ true
      by_this false u m other is =
          (held_law p.locals x).1 (u, m, sym (live_same t.0 (n t o p) o.0 u m p.locals other) ∙ is)
      by_this true u m same is =
          let whose : t.0 ≡ u = eqb-true t.0 u (grind (arith, nat_tests, same)) in
          let which : n t o p ≡ m = eqb-true (n t o p) m (grind (arith, nat_tests, same)) in
          absurd (not_ended m x (acts_of u (q t o p).locals)
          (subst (λ (v : ℕ). live v (acts_of u (q t o p).locals) ≡ None) which
          (subst (λ (v : ℕ). live (n t o p) (acts_of v (q t o p).locals) ≡ None) whose
          (rw (own_acts t.0 (n t o p) o.0 p.locals) (brief_ends (n t o p) o.0 (acts_of t.0 p.locals))))) is)

  locals_held : (x : ℕ) → locals.holds_object (q t o p).locals x ≡ locals.holds_object p.locals x
  locals_held x = both_ways (locals.holds_object (q t o p).locals x) (locals.holds_object p.locals x) (held_before x) (held_later x)

  pending_later : (x : ℕ) → threads.is_pending p.threads x ≡ true → threads.is_pending (q t o p).threads x ≡ true
  pending_later x is =
      let there = (is_pending_law p.threads x).0 is in
      (is_pending_law (q t o p).threads x).1 (there.0, pending_same t o p there.0 ∙ there.1)

  pending_before : (x : ℕ) → threads.is_pending (q t o p).threads x ≡ true → threads.is_pending p.threads x ≡ true
  pending_before x is =
      let there = (is_pending_law (q t o p).threads x).0 is in
      (is_pending_law p.threads x).1 (there.0, sym (pending_same t o p there.0) ∙ there.1)

  all_pending : (x : ℕ) → threads.is_pending (q t o p).threads x ≡ threads.is_pending p.threads x
  all_pending x = both_ways (threads.is_pending (q t o p).threads x) (threads.is_pending p.threads x) (pending_before x) (pending_later x)

  root_same : (x : ℕ) → is_root (q t o p) x ≡ is_root p x
  root_same x = rw (locals_held x, all_pending x) refl

  kept_same : (kept : Option ObjId) → is_kept_here s (q t o p) kept ≡ is_kept_here s p kept
  kept_same None = refl
  kept_same (Some x) = refl

  being_same : (other : Ref) → same_ref (r t o p) other ≡ false → is_in_being (q t o p) other ≡ is_in_being p other
  being_same Null apart = refl
  being_same (To kind maker m) apart = rw (named_same t o p maker.0 (To kind maker m) apart) refl

  so_same : (check : Check) → speaks_of (r t o p) (Checked check) ≡ false → is_so s (q t o p) check ≡ is_so s p check
  so_same (checked.Local u m object) apart = rw (attached_same u.0, live_same t.0 (n t o p) o.0 u.0 m p.locals apart) refl
  so_same (checked.Pending u object) apart = rw (attached_same u.0, pending_same t o p u.0) refl
  so_same (checked.Length x m) apart = refl

  can_same : (x : Fact) → speaks_of (r t o p) x ≡ false → can_be s (q t o p) x ≡ can_be s p x
  can_same (facts.Begin u) apart = rw (attached_same u.0) refl
  can_same (facts.End u) apart = attached_same u.0
  can_same (facts.Enter u) apart = attached_same u.0
  can_same (facts.Leave u kept) apart = rw (attached_same u.0, depth_same t o p u.0, kept_same kept) refl
  can_same (facts.Push u room) apart = attached_same u.0
  can_same (facts.Pop u kept) apart = rw (attached_same u.0, frames_same t o p u.0, kept_same kept) refl
  can_same (facts.Ensure u room) apart = attached_same u.0
  can_same (facts.Raise u x) apart = rw (attached_same u.0) refl
  can_same (facts.Calm u) apart = attached_same u.0
  can_same (facts.Hand u kind x) apart = rw (attached_same u.0) refl
  can_same (facts.Lost other) apart = being_same other apart
  can_same (facts.Lend u family x via m) apart = rw (attached_same u.0) refl
  can_same (facts.Own u x) apart = rw (attached_same u.0) refl
  can_same (facts.Gone x) apart = rw (root_same x.0) refl
  can_same (Checked check) apart = so_same check apart
  can_same x apart = refl

pub brief_is_passed_by : BriefIsPassedBy
brief_is_passed_by s t o w x could apart = can_same s t o (parts_of w) (each_told _ s (keeps_below s) (λ u. tt) w could) x apart

-- ---- its deletion

record Calm (a b c d : Bool) : Type 0 where
  is_own : a ≡ false
  has_session : b ≡ false
  is_free : c ≡ false
  is_quiet : d ≡ false

calm : (a b c d : Bool) → (if a then Some WrongThread else if b then Some Detached else if c then Some InCritical else if d then Some Pending else None) ≡ None → Calm a b c d
calm true b c d none = absurd cc
calm false true c d none = absurd cc
calm false false true d none = absurd cc
calm false false false true none = absurd cc
calm false false false false none = record { is_own = refl; has_session = refl; is_free = refl; is_quiet = refl }

abbrev operands : Tid → ObjId → Parts → List Argument
operands t o p = Reference (r t o p) ∷ []

seen : (t : Tid) (o : ObjId) (p : Parts) (takes : List Takes) → takes ≡ Nullable ∷ [] → judged takes (operands t o p) ≡ allowed (r t o p) ∷ []
seen t o p takes is = rw is refl

pairs : (t : Tid) (o : ObjId) (p : Parts) (takes : List Takes) → takes ≡ Nullable ∷ [] → paired takes (operands t o p) ≡ (Nullable, Reference (r t o p)) ∷ []
pairs t o p takes is = rw is refl

module _ (bounds : Bounds) (s : StatedSetup) (t : Tid) (o : ObjId) (p : Parts) (env : Option EnvId) (row : Columns) (ends : row.effect ≡ Ends Local)
    (takes : row.takes ≡ Nullable ∷ []) (passed : by_caller p t.0 env row ≡ None) where
  caller : Calm (wrong_thread t.0 env row) (detached p t.0 env row) (in_critical p t.0 row) (while_pending p t.0 row)
  caller = calm (wrong_thread t.0 env row) (detached p t.0 env row) (in_critical p t.0 row) (while_pending p t.0 row) passed

  none_broken : (rule : Rule) → broken rule bounds s (handed t o p) t.0 env row (operands t o p) ≡ false
  none_broken WrongThread = caller.is_own
  none_broken Detached = detached_same p (handed t o p) t.0 env row (session_same t o p t.0) ∙ caller.has_session
  none_broken InCritical = caller.is_free
  none_broken Pending = rw (pending_same t o p t.0) caller.is_quiet
  none_broken ForeignLocal = rw (seen t o p row.takes takes, own t.0) refl
  none_broken DeadReference = rw (seen t o p row.takes takes, handed_lives t o p) refl
  none_broken WrongRefKind = rw ends refl
  none_broken NullReference = rw (seen t o p row.takes takes) refl
  none_broken WrongType = rw (seen t o p row.takes takes, handed_lives t o p) refl
  none_broken BadField = rw (pairs t o p row.takes takes) refl
  none_broken BadBuffer = rw (pairs t o p row.takes takes) refl
  none_broken BadArgument = rw (pairs t o p row.takes takes) refl
  none_broken Pinned = rw ends refl
  none_broken NotOwner = rw ends refl
  none_broken BadFrame = rw ends refl
  none_broken NoNativeAccess = rw ends refl
  none_broken NotLinked = rw ends refl

  all_none : (rules : List Rule) → AllFail (λ rule. broken rule bounds s (handed t o p) t.0 env row (operands t o p)) rules
  all_none [] = tt
  all_none (rule ∷ rules) = (none_broken rule, all_none rules)

  ending_passes : verdict bounds s (handed t o p) t.0 env row (operands t o p) ≡ None
  ending_passes = none_found (λ rule. broken rule bounds s (handed t o p) t.0 env row (operands t o p)) rules_in_order (all_none rules_in_order)

pub brief_may_end : BriefMayEnd
brief_may_end bounds s t o w env row ends takes passed = ending_passes bounds s t o (parts_of w) env row ends takes passed
