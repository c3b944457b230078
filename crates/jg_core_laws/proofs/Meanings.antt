-- What references name, one fact later.
use Rattle.std.proofs.Common.{ℕ, ◌≡◌, ◌<◌, Bool, true, false, List, [], ◌∷◌, Option, Some, None, refl, ap, sym, subst, arith, eqb-true, if◌then◌else◌}
use Rattle.std.specs.Prelude.{◌==◌, ◌&&◌, not, nat_le}
use Rattle.std.proofs.lemmas.Bool.Decides.{nat_tests}
use Rattle.jg_words.specs.declared.thread.Tid.{Tid}
use Rattle.jg_words.specs.declared.object.ObjId.{ObjId}
use Rattle.jg_words.specs.declared.reference.Ref.{Ref}
use Rattle.jg_words.specs.declared.reference.Ref.TheVariants.{Null, To}
use Rattle.jg_words.specs.declared.reference.Kind.{Kind}
use Rattle.jg_words.specs.declared.reference.Kind.TheVariants.{Local, Global, Weak}
use Rattle.jg_table_threads.specs.History as threads
use Rattle.jg_table_locals.specs.History as locals
use Rattle.jg_table_locals.specs.History.{Act, Start, Make, Push, Ensure, Enter as EnterAct, Delete, Pop as PopAct, Leave as LeaveAct, End as EndAct, by, acts_of, live, making, Making, seen_after, survives, ends, local_if_live, object_of, how_many, is_enter, is_leave, is_push, is_pop, done_here, Local as LocalRow, depth, frames}
use Rattle.jg_table_locals.proofs.Callers.{acts_more, acts_same, each_thread, live_below}
use Rattle.jg_table_globals.specs.History as globals
use Rattle.jg_table_globals.specs.Laws.{about_strong, about_weak, IsMadeBelow}
use Rattle.jg_table_buffers.specs.History.{same_ref}
use Rattle.jg_rules.specs.declared.named.Named.TheVariants.{Nothing}
use Rattle.jg_rules.specs.Parts.{Parts}
use Rattle.jg_rules.specs.Names.{names, named_by, named_by_target, next_ref}
use Rattle.jg_rules.specs.Rules.{is_nothing}
use Rattle.jg_laws.proofs.Kept.{Below, GlobalsBelow}
use Rattle.jg_laws.proofs.Fresh.{kind_below, same_pair}
use Rattle.jg_core.specs.declared.fact.Fact.{Fact}
use Rattle.jg_core.specs.declared.fact.Fact.TheVariants.{Begin, End, Enter, Leave, Push as PushFact, Pop, Ensure as EnsureFact, Hand, Lost, Gone}
use Rattle.jg_core.specs.Facts.{on, handed_on, kept_on, lost_on}
use Rattle.jg_core_laws.specs.Laws.{hinders, clouds}
use Rattle.jg_core_laws.proofs.Callers.{not_same}

-- ---- local references

-- the act neither makes local n nor ends it
abbrev pub spares : ℕ → Act → Bool
spares n (Make k o) = not (k == n)
spares n (Push room) = true
spares n (Ensure c) = true
spares n EnterAct = true
spares n (Delete k) = not (k == n)
spares n a = false

-- who survived was neither left nor popped more often than entered and pushed
pub level : (n : ℕ) (later : List Act) → survives n later ≡ true
    → (nat_le (how_many is_leave later) (how_many is_enter later) ≡ true) × (nat_le (done_here is_pop later) (done_here is_push later) ≡ true)
level n [] alive = (refl, refl)
level n (a ∷ later) alive = grind (arith, nat_tests, alive)

pub survives_more : (n : ℕ) (a : Act) (later : List Act) → spares n a ≡ true → survives n later ≡ true → survives n (a ∷ later) ≡ true
survives_more n (Make k o) later spared alive = let even = level n later alive in grind (arith, nat_tests, spared, alive, even.0, even.1)
survives_more n (Push room) later spared alive = let even = level n later alive in grind (arith, nat_tests, alive, even.0, even.1)
survives_more n (Ensure c) later spared alive = let even = level n later alive in grind (arith, nat_tests, alive, even.0, even.1)
survives_more n EnterAct later spared alive = let even = level n later alive in grind (arith, nat_tests, alive, even.0, even.1)
survives_more n (Delete k) later spared alive = let even = level n later alive in grind (arith, nat_tests, spared, alive, even.0, even.1)
survives_more n Start later spared alive = absurd cc
survives_more n EndAct later spared alive = absurd cc
survives_more n PopAct later spared alive = absurd cc
survives_more n LeaveAct later spared alive = absurd cc

object_if : (b c : Bool) (row : LocalRow) (o : ℕ) → (b ≡ true → c ≡ true) → object_of (if b then Some row else None) ≡ Some o
    → object_of (if c then Some row else None) ≡ Some o
object_if true c row o more is = rw (more refl) is
object_if false c row o more is = absurd cc

seen_live : (n o : ℕ) (a : Act) (found : Option Making) → spares n a ≡ true → object_of (local_if_live n found) ≡ Some o
    → object_of (local_if_live n (seen_after a found)) ≡ Some o
seen_live n o a None spared is = absurd cc
seen_live n o a (Some m) spared is =
    object_if (survives n m.later) (survives n (a ∷ m.later))
    (record { n = n; object = m.object; depth = depth m.before; frame = frames (depth m.before) m.before }) o (survives_more n a m.later spared) is

live_more : (n o : ℕ) (a : Act) (acts : List Act) → spares n a ≡ true → live n acts ≡ Some o → live n (a ∷ acts) ≡ Some o
live_more n o (Make k q) acts spared is =
    let other : (k == n) ≡ false = grind (arith, nat_tests, spared) in
    rw other (seen_live n o (Make k q) (making n acts) spared is)
live_more n o (Push room) acts spared is = seen_live n o (Push room) (making n acts) spared is
live_more n o (Ensure c) acts spared is = seen_live n o (Ensure c) (making n acts) spared is
live_more n o EnterAct acts spared is = seen_live n o EnterAct (making n acts) spared is
live_more n o (Delete k) acts spared is = seen_live n o (Delete k) (making n acts) spared is
live_more n o Start acts spared is = absurd cc
live_more n o EndAct acts spared is = absurd cc
live_more n o PopAct acts spared is = absurd cc
live_more n o LeaveAct acts spared is = absurd cc

-- t's local n stays live for its object
abbrev Lives : ℕ → ℕ → List locals.Event → List locals.Event → Type 0
Lives t n old new = (o : ℕ) → live n (acts_of t old) ≡ Some o → live n (acts_of t new) ≡ Some o

-- an act that is another thread's, or spares it
one_act : (t n u : ℕ) (a : Act) (e : List locals.Event) → (u ≡ t → spares n a ≡ true) → Lives t n e (by u a ∷ e)
one_act t n u a e spared o is =
    each_thread (λ v. (u ≡ v → spares n a ≡ true) → live n (acts_of v e) ≡ Some o → live n (acts_of v (by u a ∷ e)) ≡ Some o) u
    (λ spared is. rw (acts_more u u a e refl) (live_more n o a (acts_of u e) (spared refl) is))
    (λ v differ spared is. rw (acts_same v u a e differ) is)
    t spared is

other_act : (t n u : ℕ) (a : Act) (e : List locals.Event) → (u == t) ≡ false → Lives t n e (by u a ∷ e)
other_act t n u a e other = one_act t n u a e (λ is. absurd (not_same u t other is))

-- the number that t is handed next is of no local of its
next_spares : (p : Parts) (t n o q u : ℕ) → Below p → live n (acts_of t p.locals) ≡ Some o → u ≡ t → spares n (Make (next_ref p u) q) ≡ true
next_spares p t n o q u below is same =
    let less = live_below (next_ref p t) n o (acts_of t p.locals) (below t) is in
    subst (λ (v : ℕ). not (next_ref p v == n) ≡ true) (sym same) (grind (arith, nat_tests, less))

handed_lives : (t n u : ℕ) (kind : Kind) (q : ℕ) (p : Parts) → Below p → Lives t n p.locals (handed_on u kind q p).locals
handed_lives t n u Local q p below o is = one_act t n u (Make (next_ref p u) q) p.locals (next_spares p t n o q u below is) o is
handed_lives t n u Global q p below o is = is
handed_lives t n u Weak q p below o is = is

kept_lives : (t n u : ℕ) (kept : Option ObjId) (p : Parts) → (u == t) ≡ false → Lives t n p.locals (kept_on u kept p).locals
kept_lives t n u None p other o is = is
kept_lives t n u (Some q) p other o is = other_act t n u (Make (next_ref p u) q.0) p.locals other o is

deleted_spares : (t n u k : ℕ) → ((u == t) && (k == n)) ≡ false → u ≡ t → spares n (Delete k) ≡ true
deleted_spares t n u k apart same = grind (arith, nat_tests, apart, same)

lost_lives : (t n : ℕ) (maker : Tid) (r : Ref) (p : Parts) → maker.0 ≡ t → same_ref r (To Local maker n) ≡ false → Lives t n p.locals (lost_on r p).locals
lost_lives t n maker Null p own apart o is = is
lost_lives t n maker (To Local u k) p own apart o is =
    one_act t n u.0 (Delete k) p.locals
    (deleted_spares t n u.0 k (subst (λ (v : ℕ). ((u.0 == v) && (k == n)) ≡ false) own apart)) o is
lost_lives t n maker (To Global u k) p own apart o is = is
lost_lives t n maker (To Weak u k) p own apart o is = is

fact_lives : (t n : ℕ) (maker : Tid) (x : Fact) (p : Parts) → maker.0 ≡ t → Below p → hinders t x ≡ false → clouds x (To Local maker n) ≡ false
    → Lives t n p.locals (on x p).locals
fact_lives t n maker (Begin u) p own below other clear o is = other_act t n u.0 Start p.locals other o is
fact_lives t n maker (End u) p own below other clear o is = other_act t n u.0 EndAct p.locals other o is
fact_lives t n maker (Enter u) p own below other clear o is = one_act t n u.0 EnterAct p.locals (λ is. refl) o is
fact_lives t n maker (Leave u kept) p own below other clear o is =
    kept_lives t n u.0 kept
    (record p { threads = threads.by u.0 threads.Calm ∷ threads.by u.0 threads.Leave ∷ p.threads; locals = by u.0 LeaveAct ∷ p.locals }) other o
    (other_act t n u.0 LeaveAct p.locals other o is)
fact_lives t n maker (PushFact u room) p own below other clear o is = one_act t n u.0 (Push room) p.locals (λ is. refl) o is
fact_lives t n maker (Pop u kept) p own below other clear o is =
    kept_lives t n u.0 kept (record p { locals = by u.0 PopAct ∷ p.locals }) other o (other_act t n u.0 PopAct p.locals other o is)
fact_lives t n maker (EnsureFact u room) p own below other clear o is = one_act t n u.0 (Ensure room) p.locals (λ is. refl) o is
fact_lives t n maker (Hand u kind q) p own below other clear o is = handed_lives t n u.0 kind q.0 p below o is
fact_lives t n maker (Lost r) p own below other clear o is = lost_lives t n maker r p own clear o is
fact_lives t n maker x p own below other clear o is = is

-- ---- global references

strong_more : (m n o : ℕ) (ev : globals.Event) (e : List globals.Event) → about_strong m n ev ≡ false → globals.strong e m n ≡ Some o
    → globals.strong (ev ∷ e) m n ≡ Some o
strong_more m n o (globals.MakeStrong k i q) e apart is = rw apart is
strong_more m n o (globals.DeleteStrong k i) e apart is = rw apart is
strong_more m n o (globals.MakeWeak k i q) e apart is = is
strong_more m n o (globals.DeleteWeak k i) e apart is = is
strong_more m n o (globals.Clear q) e apart is = is

abbrev pub is_clearing : globals.Event → Bool
is_clearing (globals.Clear o) = true
is_clearing ev = false

clears_none : (o : ℕ) (ev : globals.Event) → is_clearing ev ≡ false → globals.clears o ev ≡ false
clears_none o (globals.Clear q) none = absurd cc
clears_none o (globals.MakeStrong k i q) none = refl
clears_none o (globals.DeleteStrong k i) none = refl
clears_none o (globals.MakeWeak k i q) none = refl
clears_none o (globals.DeleteWeak k i) none = refl

cleared_as : (ev : globals.Event) (later : List globals.Event) (found : Option ℕ) → is_clearing ev ≡ false
    → globals.unless_cleared (ev ∷ later) found ≡ globals.unless_cleared later found
cleared_as ev later None none = refl
cleared_as ev later (Some o) none = rw (clears_none o ev none) refl

pub weak_more : (m n : ℕ) (ev : globals.Event) (e : List globals.Event) → about_weak m n ev ≡ false → is_clearing ev ≡ false
    → globals.weak_target (ev ∷ e) m n ≡ globals.weak_target e m n
weak_more m n (globals.MakeWeak k i q) e apart none =
    rw apart (cleared_as (globals.MakeWeak k i q) (globals.after_making m n e) (globals.weak e m n) refl)
weak_more m n (globals.DeleteWeak k i) e apart none =
    rw apart (cleared_as (globals.DeleteWeak k i) (globals.after_making m n e) (globals.weak e m n) refl)
weak_more m n (globals.MakeStrong k i q) e apart none =
    cleared_as (globals.MakeStrong k i q) (globals.after_making m n e) (globals.weak e m n) refl
weak_more m n (globals.DeleteStrong k i) e apart none =
    cleared_as (globals.DeleteStrong k i) (globals.after_making m n e) (globals.weak e m n) refl
weak_more m n (globals.Clear q) e apart none = absurd cc

made_below : (same : Bool) (t n k i q o m : ℕ) (old : Option ℕ) → globals.is_same t n k i ≡ same → (k ≡ t → i < m) → (old ≡ Some o → n < m)
    → (if same then Some q else old) ≡ Some o → n < m
made_below true t n k i q o m old same below rest is = let both = same_pair t n k i same in omega (arith, below both.0, both.1)
made_below false t n k i q o m old same below rest is = rest is

left_below : (same : Bool) (n m o : ℕ) (old : Option ℕ) → (old ≡ Some o → n < m) → (if same then None else old) ≡ Some o → n < m
left_below true n m o old rest is = absurd cc
left_below false n m o old rest is = rest is

pub weak_below : (e : List globals.Event) (m t n o : ℕ) → IsMadeBelow t m e → globals.weak e t n ≡ Some o → n < m
weak_below [] m t n o below is = absurd cc
weak_below (globals.MakeWeak k i q ∷ e) m t n o below is =
    made_below (globals.is_same t n k i) t n k i q o m (globals.weak e t n) refl below.0 (weak_below e m t n o below.1) is
weak_below (globals.DeleteWeak k i ∷ e) m t n o below is =
    left_below (globals.is_same t n k i) n m o (globals.weak e t n) (weak_below e m t n o below) is
weak_below (globals.MakeStrong k i q ∷ e) m t n o below is = weak_below e m t n o below.1 is
weak_below (globals.DeleteStrong k i ∷ e) m t n o below is = weak_below e m t n o below is
weak_below (globals.Clear q ∷ e) m t n o below is = weak_below e m t n o below is

-- the number that a thread is handed next is of no reference that was handed out
fresh : (p : Parts) (m n u : ℕ) → n < next_ref p m → globals.is_same m n u (next_ref p u) ≡ false
fresh p m n u less = by_thread (u == m) refl
  where
    by_thread : (same : Bool) → (u == m) ≡ same → (same && (next_ref p u == n)) ≡ false
    by_thread false is = refl
    by_thread true is = subst (λ (v : ℕ). (next_ref p v == n) ≡ false) (sym (eqb-true u m is)) (grind (arith, nat_tests, less))

-- ---- all references

-- where the reference names something for t, it names the same
abbrev pub Stays : Ref → ℕ → Parts → Parts → Type 0
Stays r t p q = is_nothing (names p t r) ≡ false → names q t r ≡ names p t r

local_if : (c : Bool) (old new : Option ℕ) → (c ≡ true → (o : ℕ) → old ≡ Some o → new ≡ Some o) → is_nothing (if c then named_by old else Nothing) ≡ false
    → (if c then named_by new else Nothing) ≡ (if c then named_by old else Nothing)
local_if true None new kept alive = absurd cc
local_if true (Some o) new kept alive = rw (kept refl o refl) refl
local_if false old new kept alive = absurd cc

strong_if : (old new : Option ℕ) → ((o : ℕ) → old ≡ Some o → new ≡ Some o) → is_nothing (named_by_target (globals.strong_target old)) ≡ false
    → named_by_target (globals.strong_target new) ≡ named_by_target (globals.strong_target old)
strong_if None new kept alive = absurd cc
strong_if (Some o) new kept alive = rw (kept o refl) refl

strong_event : (m n : ℕ) (ev : globals.Event) (e : List globals.Event) → ((o : ℕ) → globals.strong e m n ≡ Some o → about_strong m n ev ≡ false)
    → is_nothing (named_by_target (globals.strong_target (globals.strong e m n))) ≡ false
    → named_by_target (globals.strong_target (globals.strong (ev ∷ e) m n)) ≡ named_by_target (globals.strong_target (globals.strong e m n))
strong_event m n ev e apart alive =
    strong_if (globals.strong e m n) (globals.strong (ev ∷ e) m n) (λ o is. strong_more m n o ev e (apart o is) is) alive

weak_event : (m n : ℕ) (ev : globals.Event) (e : List globals.Event) (found : Option ℕ) → globals.weak e m n ≡ found → is_clearing ev ≡ false
    → ((o : ℕ) → globals.weak e m n ≡ Some o → about_weak m n ev ≡ false)
    → is_nothing (named_by_target (globals.unless_cleared (globals.after_making m n e) found)) ≡ false
    → named_by_target (globals.weak_target (ev ∷ e) m n) ≡ named_by_target (globals.weak_target e m n)
weak_event m n ev e None is quiet apart alive = absurd cc
weak_event m n ev e (Some o) is quiet apart alive = ap named_by_target (weak_more m n ev e (apart o is) quiet)

module _ (t : ℕ) (p : Parts) (below : GlobalsBelow p) (maker : Tid) (n : ℕ) where
  strong_fresh : (u o : ℕ) → globals.strong p.globals maker.0 n ≡ Some o → globals.is_same maker.0 n u (next_ref p u) ≡ false
  strong_fresh u o is = fresh p maker.0 n u (kind_below Global p.globals (next_ref p maker.0) maker.0 n o (below maker.0) (rw is refl))

  weak_fresh : (u o : ℕ) → globals.weak p.globals maker.0 n ≡ Some o → globals.is_same maker.0 n u (next_ref p u) ≡ false
  weak_fresh u o is = fresh p maker.0 n u (weak_below p.globals (next_ref p maker.0) maker.0 n o (below maker.0) is)

  handed_strong : (u : ℕ) (kind : Kind) (q : ℕ) → Stays (To Global maker n) t p (handed_on u kind q p)
  handed_strong u Local q alive = refl
  handed_strong u Weak q alive = strong_event maker.0 n (globals.MakeWeak u (next_ref p u) q) p.globals (λ o is. refl) alive
  handed_strong u Global q alive = strong_event maker.0 n (globals.MakeStrong u (next_ref p u) q) p.globals (strong_fresh u) alive

  lost_strong : (r : Ref) → same_ref r (To Global maker n) ≡ false → Stays (To Global maker n) t p (lost_on r p)
  lost_strong Null apart alive = refl
  lost_strong (To Local u k) apart alive = refl
  lost_strong (To Global u k) apart alive = strong_event maker.0 n (globals.DeleteStrong u.0 k) p.globals (λ o is. apart) alive
  lost_strong (To Weak u k) apart alive = strong_event maker.0 n (globals.DeleteWeak u.0 k) p.globals (λ o is. refl) alive

  kept_strong : (u : ℕ) (kept : Option ObjId) (q : Parts) → q.globals ≡ p.globals → Stays (To Global maker n) t p (kept_on u kept q)
  kept_strong u None q same alive = rw same refl
  kept_strong u (Some o) q same alive = rw same refl

  strong_means : (x : Fact) → clouds x (To Global maker n) ≡ false → Stays (To Global maker n) t p (on x p)
  strong_means (Leave u kept) clear alive = kept_strong u.0 kept _ refl alive
  strong_means (Pop u kept) clear alive = kept_strong u.0 kept _ refl alive
  strong_means (Hand u kind q) clear alive = handed_strong u.0 kind q.0 alive
  strong_means (Lost r) clear alive = lost_strong r clear alive
  strong_means (Gone o) clear alive = strong_event maker.0 n (globals.Clear o.0) p.globals (λ q is. refl) alive
  strong_means x clear alive = refl

  weak_by : (ev : globals.Event) → is_clearing ev ≡ false → ((o : ℕ) → globals.weak p.globals maker.0 n ≡ Some o → about_weak maker.0 n ev ≡ false)
      → Stays (To Weak maker n) t p (record p { globals = ev ∷ p.globals })
  weak_by ev quiet apart alive = weak_event maker.0 n ev p.globals (globals.weak p.globals maker.0 n) refl quiet apart alive

  handed_weak : (u : ℕ) (kind : Kind) (q : ℕ) → Stays (To Weak maker n) t p (handed_on u kind q p)
  handed_weak u Local q alive = refl
  handed_weak u Global q alive = weak_by (globals.MakeStrong u (next_ref p u) q) refl (λ o is. refl) alive
  handed_weak u Weak q alive = weak_by (globals.MakeWeak u (next_ref p u) q) refl (weak_fresh u) alive

  lost_weak : (r : Ref) → same_ref r (To Weak maker n) ≡ false → Stays (To Weak maker n) t p (lost_on r p)
  lost_weak Null apart alive = refl
  lost_weak (To Local u k) apart alive = refl
  lost_weak (To Global u k) apart alive = weak_by (globals.DeleteStrong u.0 k) refl (λ o is. refl) alive
  lost_weak (To Weak u k) apart alive = weak_by (globals.DeleteWeak u.0 k) refl (λ o is. apart) alive

  kept_weak : (u : ℕ) (kept : Option ObjId) (q : Parts) → q.globals ≡ p.globals → Stays (To Weak maker n) t p (kept_on u kept q)
  kept_weak u None q same alive = rw same refl
  kept_weak u (Some o) q same alive = rw same refl

  weak_means : (x : Fact) → clouds x (To Weak maker n) ≡ false → Stays (To Weak maker n) t p (on x p)
  weak_means (Leave u kept) clear alive = kept_weak u.0 kept _ refl alive
  weak_means (Pop u kept) clear alive = kept_weak u.0 kept _ refl alive
  weak_means (Hand u kind q) clear alive = handed_weak u.0 kind q.0 alive
  weak_means (Lost r) clear alive = lost_weak r clear alive
  weak_means (Gone o) clear alive = absurd cc
  weak_means x clear alive = refl

pub fact_means : (t : ℕ) (x : Fact) (p : Parts) (r : Ref) → Below p → GlobalsBelow p → hinders t x ≡ false → clouds x r ≡ false → Stays r t p (on x p)
fact_means t x p Null below globals_below other clear alive = refl
fact_means t x p (To Local maker n) below globals_below other clear alive =
    local_if (maker.0 == t) (live n (acts_of t p.locals)) (live n (acts_of t (on x p).locals))
    (λ own o is. fact_lives t n maker x p (eqb-true maker.0 t own) below other clear o is) alive
fact_means t x p (To Global maker n) below globals_below other clear alive = strong_means t p globals_below maker n x clear alive
fact_means t x p (To Weak maker n) below globals_below other clear alive = weak_means t p globals_below maker n x clear alive
