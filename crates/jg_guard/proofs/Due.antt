-- What the tables hold where a call is due, and how they stand after it.
use Rattle.std.proofs.Common.{ℕ, ◌≡◌, ◌+◌, ◌<◌, ◌≤◌, ◌^◌, Bool, true, false, List, ◌++◌, map, length, Option, Some, None, refl, ap, ◌∙◌, sym, subst, arith, length-append, eqb-true}
use Rattle.std.specs.Prelude.{◌==◌, ◌&&◌, ◌||◌, not, All, IsNone, IsTrue}
use Rattle.std.proofs.lemmas.Bool.Decides.{nat_tests}
use Rattle.std.proofs.lemmas.List.{length-map}
use Rattle.jg_words.specs.Call.{fun_of}
use Rattle.jg_words.specs.Fun.{needs_env}
use Rattle.jg_words.specs.declared.thread.EnvId.{EnvId}
use Rattle.jg_words.specs.declared.thread.Tid.{Tid}
use Rattle.jg_words.specs.declared.object.ObjId.{ObjId}
use Rattle.jg_words.specs.declared.reference.Ref.TheVariants.{Null, To}
use Rattle.jg_words.specs.declared.reference.Kind.TheVariants.{Local, Global, Weak}
use Rattle.jg_words.specs.declared.value.Value.{Value}
use Rattle.jg_words.specs.declared.value.Value.TheVariants.{Ok as Done, Reference, Buffer as Lent, Busy, Throw as Threw}
use Rattle.jg_words.specs.declared.call.Call.{Call}
use Rattle.jg_words.specs.declared.call.Call.TheVariants.{Vm, Refs, Frames, Exceptions, Objects, Strings, Arrays, Monitors, Buffers}
use Rattle.jg_policy.specs.Stated.{StatedSetup}
use Rattle.jg_table_threads.specs.History as threads
use Rattle.jg_table_threads.specs.declared.row.Row.{Row}
use Rattle.jg_table_threads.specs.Rows.{row_of, CanCount}
use Rattle.jg_table_threads.specs.Standing as thread_standing
use Rattle.jg_table_locals.specs.History.{acts_of, has_session, depth, IsMadeBelow}
use Rattle.jg_table_locals.specs.Rows.{Rows, HasFrame, pushed, entered, top, spare}
use Rattle.jg_table_locals.specs.Standing as local_standing
use Rattle.jg_table_locals.proofs.Callers.{has_frame_law, above_law, pushed_law, entered_law, top_is}
use Rattle.jg_table_globals.proofs.Callers.{above_law as global_above_law}
use Rattle.jg_table_buffers.specs.Rows as buffer_rows
use Rattle.jg_table_buffers.specs.Standing as buffer_standing
use Rattle.jg_table_buffers.proofs.Callers.{above_law as buffer_above_law}
use Rattle.jg_table_monitors.specs.History as monitors
use Rattle.jg_table_monitors.specs.Rows as monitor_rows
use Rattle.jg_table_monitors.specs.Standing as monitor_standing
use Rattle.jg_table_monitors.proofs.Callers.{rows_tell_law, bounded_law}
use Rattle.jg_rules.specs.Parts.{Parts, TableRows, TablesStand}
use Rattle.jg_rules.specs.Names.{next_ref, next_buffer, open_frames, object_in, depth as depth_of}
use Rattle.std.specs.Option.{unwrap_or}
use Rattle.jg_policy.specs.Links as links
use Rattle.jg_rules.specs.Effects.{done_by, done_if, is_effective, settled, passed_on, warning, call_threads, call_buffers}
use Rattle.jg_rules.specs.NativeUse.{native_class, home_of}
use Rattle.jg_rules.specs.declared.named.Named.{Named}
use Rattle.jg_rules.specs.declared.named.Named.TheVariants.{Nothing, Null as NamesNull, Object}
use Rattle.jg_rules.specs.Rules.{detached, is_nothing, is_null, is_by, is_not_owned}
use Rattle.jg_rules.specs.Unbroken.{Unbroken}
use Rattle.jg_rules.specs.Answers.{unnoticed}
use Rattle.jg_rules.specs.declared.answer.Answer.{Answer}
use Rattle.jg_laws.specs.Laws.{AgreeInNatives}
use Rattle.jg_laws.specs.Proper.{IsProper, ProperAnswer, opens_one}
use Rattle.jg_laws.proofs.Proper.{proper}
use Rattle.jg_laws.proofs.Acts.{attached_caller, attached_done, next_done}
use Rattle.jg_laws.proofs.Steps.{each_done}
use Rattle.jg_laws.proofs.Kept.{Agreed, agree_of, agree_steps, below_steps, Below}
use Rattle.jg_laws.proofs.Sizes.{sessions-le, refs-le, buffers-le, depth-le, frames-le, call_threads-le}
use Rattle.jg_guard.specs.declared.tables.Tables.{Tables}
use Rattle.jg_guard.specs.Tables.{rows_of, IsOrdinary, IsDue, CanHandOut, CanMakeGlobal, CanSettle, CanSettleGlobal, CanThrow, makes_local, makes_global}
use Rattle.jg_guard.specs.Settled.{saying_of, warned_on}

-- each count may rise by one
counts_few : (p : Parts) (rows : List (ℕ × Row)) (t : ℕ) → length p.threads < 2 ^ 63 → thread_standing.Stands rows p.threads → CanCount rows t
counts_few p rows t few stands =
    let sessions = ap (λ (r : Row). r.sessions) (stands.threads t) in
    let refs = ap (λ (r : Row). r.refs) (stands.threads t) in
    let buffers = ap (λ (r : Row). r.buffers) (stands.threads t) in
    let depth = ap (λ (r : Row). r.depth) (stands.threads t) in
    record {
      sessions = omega (arith, sessions, sessions-le p.threads t, few);
      refs = omega (arith, refs, refs-le p.threads t, few);
      buffers = omega (arith, buffers, buffers-le p.threads t, few);
      depth = omega (arith, depth, depth-le p.threads t, few);
    }

pub counts : (p : Parts) (rows : List (ℕ × Row)) (t : ℕ) → IsOrdinary p → thread_standing.Stands rows p.threads → CanCount rows t
counts p rows t o stands = counts_few p rows t (omega (arith, o.few_threads)) stands

-- an attached thread has a frame
pub has_frame : (p : Parts) (rows : Rows) (t : ℕ) → IsOrdinary p → local_standing.Stands rows p.locals → threads.attached (threads.acts_of t p.threads) ≡ true
    → HasFrame t rows
has_frame p rows t o stands is = has_frame_law rows p.locals t stands (sym (o.agree t).session ∙ is)

-- a frame may be pushed
pub can_push : (p : Parts) (rows : Rows) (t : ℕ) → IsOrdinary p → local_standing.Stands rows p.locals → pushed t rows < 18446744073709551615
can_push p rows t o stands =
    omega (arith, pushed_law rows p.locals t stands, frames-le (depth (acts_of t p.locals)) t p.locals, o.few_locals)

some_frame : (n : ℕ) → (n == 0) ≡ false → 0 < n
some_frame n is = grind (arith, nat_tests)

-- a frame may be popped
pub can_pop : (p : Parts) (rows : Rows) (t : ℕ) → local_standing.Stands rows p.locals → (open_frames p t == 0) ≡ false → 0 < pushed t rows
can_pop p rows t stands is = subst (λ (n : ℕ). 0 < n) (sym (pushed_law rows p.locals t stands)) (some_frame (open_frames p t) is)

-- an unattached thread may start
pub can_start : (p : Parts) (rows : Rows) (t : ℕ) → IsOrdinary p → local_standing.Stands rows p.locals → threads.attached (threads.acts_of t p.threads) ≡ false
    → IsNone (top t rows.frames)
can_start p rows t o stands is =
    let none : has_session (acts_of t p.locals) ≡ false = sym (o.agree t).session ∙ is in
    rw (top_is rows p.locals t stands, none) refl

-- a native method may be entered
pub can_enter : (p : Parts) (rows : Rows) (t : ℕ) → IsOrdinary p → local_standing.Stands rows p.locals → entered t rows < 18446744073709551615
can_enter p rows t o stands =
    let same = agree_of _ _ (o.agree t) in
    omega (arith, entered_law rows p.locals t stands, same.depth, depth-le p.threads t, o.few_threads)

-- a native method may be left, as both tables see it
pub can_leave : (p : Parts) (rows : Rows) (t : ℕ) → IsOrdinary p → local_standing.Stands rows p.locals → (depth_of p t == 0) ≡ false → 0 < entered t rows
can_leave p rows t o stands is =
    let same = agree_of _ _ (o.agree t) in
    let deep = some_frame (depth_of p t) is in
    omega (arith, entered_law rows p.locals t stands, same.depth, deep)

pub can_leave_native : (p : Parts) (rows : List (ℕ × Row)) (t : ℕ) → thread_standing.Stands rows p.threads → (depth_of p t == 0) ≡ false
    → 0 < (row_of rows t).depth
can_leave_native p rows t stands is =
    let row = ap (λ (r : Row). r.depth) (stands.threads t) in
    let deep = some_frame (depth_of p t) is in
    omega (arith, row, deep)

-- a monitor may be entered once more
pub can_own : (p : Parts) (rows : monitor_rows.Rows) (o : ℕ) → IsOrdinary p → monitor_standing.Stands rows p.monitors
    → monitor_rows.count_in (monitor_rows.row_of o rows) < 18446744073709551615
can_own p rows o ordinary stands = omega (arith, (rows_tell_law rows p.monitors o stands).count, bounded_law p.monitors o, ordinary.few_monitors)

own_owner : (b : Bool) (owner t : ℕ) → (owner == t) ≡ b → not b ≡ false → Some owner ≡ Some t
own_owner true owner t is own = ap Some (eqb-true owner t is)
own_owner false owner t is own = absurd cc

owned_by : (found : Option ℕ) (t : ℕ) → not (is_by t found) ≡ false → found ≡ Some t
owned_by None t own = absurd cc
owned_by (Some owner) t own = own_owner (owner == t) owner t refl own

-- a monitor that the caller owns is its own in the rows, too
pub owns : (p : Parts) (rows : monitor_rows.Rows) (t : ℕ) (named : Named) (a b : Bool) → monitor_standing.Stands rows p.monitors
    → (is_nothing named || a) ≡ false
    → ((true && is_null named) || b) ≡ false → is_not_owned p t (object_in named) ≡ false
    → monitor_rows.owner_in (monitor_rows.row_of (unwrap_or (object_in named) 0) rows) ≡ Some t
owns p rows t Nothing a b stands alive there own = absurd cc
owns p rows t NamesNull a b stands alive there own = absurd cc
owns p rows t (Object x) a b stands alive there own = (rows_tell_law rows p.monitors x.0 stands).owner ∙ owned_by (monitors.owner p.monitors x.0) t own

-- t's next buffer may be opened
pub can_open : (p : Parts) (rows : buffer_rows.Rows) (t n : ℕ) → IsOrdinary p → buffer_standing.Stands rows p.buffers → n ≡ next_buffer p t
    → buffer_rows.IsAbove t n rows
can_open p rows t n o stands is = rw is (buffer_above_law rows p.buffers t (next_buffer p t) stands (o.buffers_below t))

-- ---- where the tables still stand

abbrev pub due_still : (s : StatedSetup) (old new : TableRows) (t : ℕ) (call : Call) (due : IsDue s old t call) → TablesStand s new due.events
    → IsDue s new t call
due_still s old new t call due stand = record {
  events = due.events;
  env = due.env;
  ordinary = due.ordinary;
  stated = due.stated;
  lent = due.lent;
  stand = stand;
  unbroken = due.unbroken;
  counts = counts due.events new.threads t due.ordinary stand.threads;
}

-- ---- what an answer makes can be made

pub is_on : (p : Parts) (rows : List (ℕ × Row)) (t : ℕ) → thread_standing.Stands rows p.threads → threads.attached (threads.acts_of t p.threads) ≡ true
    → IsTrue (row_of rows t).attached
is_on p rows t stands is = ap (λ (r : Row). r.attached) (stands.threads t) ∙ is

-- what is known after a call's own events
pub record After (q : Parts) (t : ℕ) : Type 0 where
  pub few : length q.threads < 2 ^ 63
  pub agree : AgreeInNatives (threads.acts_of t q.threads) (acts_of t q.locals)
  pub below : IsMadeBelow (next_ref q t) (acts_of t q.locals)

threads_few : (s : StatedSetup) (p : Parts) (t : ℕ) (call : Call) → IsOrdinary p → length (map (threads.by t) (call_threads s p t call) ++ p.threads) < 2 ^ 63
threads_few s p t call o =
    let few : length (map (threads.by t) (call_threads s p t call) ++ p.threads) ≤ length p.threads + 1 =
    simp (length-append, length-map) (omega (arith, call_threads-le s p t call)) in
    omega (arith, few, o.few_threads)

-- of a call that opens no buffer
after_other : (s : StatedSetup) (p : Parts) (t : ℕ) (env : Option EnvId) (call : Call) → Unbroken s p t env call → opens_one (call_buffers s p t call) ≡ false
    → IsOrdinary p
    → After (done_by s t call p) t
after_other s p t env call kept none o = record {
  few = threads_few s p t call o;
  agree = each_done (λ q. (u : ℕ) → Agreed (threads.acts_of u q.threads) (acts_of u q.locals)) s (agree_steps s) p t env call kept none o.agree t;
  below = each_done Below s (below_steps s) p t env call kept none o.below t;
}

pub after_done : (s : StatedSetup) (p : Parts) (t : ℕ) (env : Option EnvId) (call : Call) → Unbroken s p t env call → IsOrdinary p
    → After (done_by s t call p) t
after_done s p t env (Vm call) kept o = after_other s p t env (Vm call) kept refl o
after_done s p t env (Refs call) kept o = after_other s p t env (Refs call) kept refl o
after_done s p t env (Frames call) kept o = after_other s p t env (Frames call) kept refl o
after_done s p t env (Exceptions call) kept o = after_other s p t env (Exceptions call) kept refl o
after_done s p t env (Objects call) kept o = after_other s p t env (Objects call) kept refl o
after_done s p t env (Strings call) kept o = after_other s p t env (Strings call) kept refl o
after_done s p t env (Arrays call) kept o = after_other s p t env (Arrays call) kept refl o
after_done s p t env (Monitors call) kept o = after_other s p t env (Monitors call) kept refl o
after_done s p t env (Buffers call) kept o = record { few = threads_few s p t (Buffers call) o; agree = o.agree t; below = o.below t }

-- an attached thread whose tables stand for a call's own events may be handed out its next local
can_hand_out : {A : Type 0} (s : StatedSetup) (p : Parts) (tables : Tables A) (t : ℕ) (n : ℕ) (env : Option EnvId) (call : Call) → After (done_by s t call p) t
    → TablesStand s (rows_of tables) (done_by s t call p) → needs_env (fun_of call) ≡ true → detached p t env call ≡ false → n ≡ next_ref p t
    → 0 < spare tables.locals t → CanHandOut tables t n
can_hand_out s p tables t n env call after stand takes is next room =
    let q : Parts = done_by s t call p in
    let on = attached_done s p t call takes (attached_caller p t env call takes is) in
    record {
      counts = counts_few q tables.threads t after.few stand.threads;
      attached = is_on q tables.threads t stand.threads on;
      started = has_frame_law tables.locals.rows q.locals t stand.locals (sym after.agree.session ∙ on);
      above = subst (λ (k : ℕ). All (λ row. row.tid ≡ t → row.n < k) tables.locals.rows.locals) (next_done s p t call t ∙ sym next)
          (above_law tables.locals.rows q.locals t (next_ref q t) stand.locals after.below);
      room = room;
    }

-- an attached thread may be handed out its next global reference
can_make_global : {A : Type 0} (s : StatedSetup) (p : Parts) (tables : Tables A) (t maker : Tid) (n : ℕ) (env : Option EnvId) (call : Call) → IsOrdinary p
    → TablesStand s (rows_of tables) p → needs_env (fun_of call) ≡ true → detached p t.0 env call ≡ false → maker ≡ t → n ≡ next_ref p t.0
    → CanMakeGlobal tables t.0 maker.0 n
can_make_global s p tables t maker n env call o stand takes is own next =
    record {
      counts = counts p tables.threads t.0 o stand.threads;
      attached = is_on p tables.threads t.0 stand.threads (attached_caller p t.0 env call takes is);
      above = rw (own, next) (global_above_law tables.globals p.globals t.0 (next_ref p t.0) stand.globals (o.globals_below t.0));
    }

pub can_settle : {A : Type 0} (s : StatedSetup) (p : Parts) (tables : Tables A) (t : Tid) (env : Option EnvId) (call : Call) (value : Value) (warned : Bool)
    (o : Option ObjId)
    → IsProper s p t call value warned o → is_effective value ≡ true → makes_global value ≡ false
    → After (done_by s t.0 call p) t.0 → TablesStand s (rows_of tables) (done_by s t.0 call p) → detached p t.0 env call ≡ false
    → (makes_local value ≡ true → needs_env (fun_of call) ≡ true → 0 < spare tables.locals t.0)
    → CanSettle tables t.0 value o
can_settle s p tables t env call (Reference r) warned None own effective not_global after stand is room = absurd own
can_settle s p tables t env call (Reference Null) warned (Some o) own effective not_global after stand is room = absurd own
can_settle s p tables t env call (Reference (To Local maker n)) warned (Some o) own effective not_global after stand is room =
    can_hand_out s p tables t.0 n env call after stand own.0 is own.2 (room refl own.0)
can_settle s p tables t env call (Reference (To Global maker n)) warned (Some o) own effective not_global after stand is room = absurd cc
can_settle s p tables t env call (Reference (To Weak maker n)) warned (Some o) own effective not_global after stand is room = absurd cc
can_settle s p tables t env call (Lent b) warned o own effective not_global after stand is room =
    record {
      counts = counts_few (done_by s t.0 call p) tables.threads t.0 after.few stand.threads;
      attached = is_on (done_by s t.0 call p) tables.threads t.0 stand.threads (attached_done s p t.0 call own.0 (attached_caller p t.0 env call own.0 is));
    }
can_settle s p tables t env call Busy warned o own effective not_global after stand is room = absurd cc
can_settle s p tables t env call (Threw kind) warned o own effective not_global after stand is room = absurd cc
can_settle s p tables t env call Done warned (Some o) own effective not_global after stand is room =
    is_on (done_by s t.0 call p) tables.threads t.0 stand.threads (attached_done s p t.0 call own (attached_caller p t.0 env call own is))
can_settle s p tables t env call value warned o own effective not_global after stand is room = tt

pub can_settle_global : {A : Type 0} (s : StatedSetup) (p : Parts) (tables : Tables A) (t : Tid) (env : Option EnvId) (call : Call) (value : Value)
    (warned : Bool) (o : Option ObjId)
    → IsProper s p t call value warned o → makes_global value ≡ true → IsOrdinary p → TablesStand s (rows_of tables) p → detached p t.0 env call ≡ false
    → CanSettleGlobal tables t.0 value o
can_settle_global s p tables t env call (Reference r) warned None own global before stand is = absurd own
can_settle_global s p tables t env call (Reference Null) warned (Some o) own global before stand is = absurd own
can_settle_global s p tables t env call (Reference (To Local maker n)) warned (Some o) own global before stand is = absurd cc
can_settle_global s p tables t env call (Reference (To Global maker n)) warned (Some o) own global before stand is =
    can_make_global s p tables t maker n env call before stand own.0 is own.1 own.2
can_settle_global s p tables t env call (Reference (To Weak maker n)) warned (Some o) own global before stand is =
    can_make_global s p tables t maker n env call before stand own.0 is own.1 own.2
can_settle_global s p tables t env call value warned o own global before stand is = absurd cc

-- a call that does nothing of its own takes an environment
pub takes_env : (s : StatedSetup) (p : Parts) (t : Tid) (call : Call) (value : Value) (warned : Bool) (o : Option ObjId) → IsProper s p t call value warned o
    → is_effective value ≡ false
    → needs_env (fun_of call) ≡ true
takes_env s p t call (Threw kind) warned None own none = absurd own
takes_env s p t call (Threw kind) warned (Some o) own none = own.0
takes_env s p t call Busy warned o own none = own.0
takes_env s p t call value warned o own none = absurd cc

pub can_throw : (s : StatedSetup) (p : Parts) (t : Tid) (call : Call) (value : Value) (warned : Bool) (o : Option ObjId) → IsProper s p t call value warned o
    → is_effective value ≡ false
    → CanThrow value o
can_throw s p t call (Threw kind) warned None own none = own
can_throw s p t call (Threw kind) warned (Some o) own none = tt
can_throw s p t call Busy warned o own none = tt
can_throw s p t call value warned o own none = absurd cc

-- ---- the tables stand for all events of a passed call

pub stand_at : (s s' : StatedSetup) (rows rows' : TableRows) (p : Parts) → s' ≡ s → rows' ≡ rows → TablesStand s rows p → TablesStand s' rows' p
stand_at s s' rows rows' p same_setup same_rows stand = rw (same_setup, same_rows) stand

pub due_at : (s s' : StatedSetup) (rows rows' : TableRows) (t : ℕ) (call : Call) → s' ≡ s → rows' ≡ rows → IsDue s rows t call → IsDue s' rows' t call
due_at s s' rows rows' t call same_setup same_rows due = rw (same_setup, same_rows) due

pub own_proper : (s : StatedSetup) (p : Parts) (t : Tid) (call : Call) (given : Answer) → given ≡ unnoticed s p t call → ProperAnswer s p t call given
own_proper s p t call given is = rw is (proper s p t call)

-- nothing of its own
settled_none : (s : StatedSetup) (home : Option ℕ) (p : Parts) (t : Tid) (call : Call) (value : Value) (warned : Bool) (o : Option ObjId)
    → IsProper s p t call value warned o
    → is_effective value ≡ false
    → settled None t.0 (saying_of value) o p
    ≡ settled home t.0 (record { value = value; warned = warned; noticed = false }) o (done_if (is_effective value) s t.0 call p)
settled_none s home p t call (Threw kind) warned None own none = absurd own
settled_none s home p t call (Threw kind) warned (Some o) own none = rw own.2 refl
settled_none s home p t call Busy warned o own none = rw own.1 refl
settled_none s home p t call value warned o own none = absurd cc

pub stand_none : (s : StatedSetup) (rows : TableRows) (p : Parts) (t : Tid) (call : Call) (given : Answer) → given ≡ unnoticed s p t call
    → is_effective given.reply.value ≡ false
    → TablesStand s rows (settled None t.0 (saying_of given.reply.value) given.object p) → TablesStand s rows (passed_on s t.0 call given.reply given.object p)
stand_none s rows p t call given is none stand =
    let own : ProperAnswer s p t call given = rw is (proper s p t call) in
    subst (λ (q : Parts). TablesStand s rows q)
    (settled_none s (home_of s (native_class s p t.0 call)) p t call given.reply.value given.reply.warned given.object own none) stand

settled_globals : (s : StatedSetup) (home : Option ℕ) (p : Parts) (t : Tid) (call : Call) (value : Value) (warned : Bool) (o : Option ObjId)
    → IsProper s p t call value warned o
    → makes_global value ≡ true
    → settled None t.0 (saying_of value) o p
    ≡ settled home t.0 (record { value = value; warned = warned; noticed = false }) o (done_if (is_effective value) s t.0 call p)
settled_globals s home p t call (Reference r) warned None own global = absurd own
settled_globals s home p t call (Reference Null) warned (Some o) own global = absurd own
settled_globals s home p t call (Reference (To Local maker n)) warned (Some o) own global = absurd cc
settled_globals s home p t call (Reference (To Global maker n)) warned (Some o) own global =
    rw own.4 (ap (settled None t.0 (saying_of (Reference (To Global maker n))) (Some o)) (sym own.3))
settled_globals s home p t call (Reference (To Weak maker n)) warned (Some o) own global =
    rw own.4 (ap (settled None t.0 (saying_of (Reference (To Weak maker n))) (Some o)) (sym own.3))
settled_globals s home p t call value warned o own global = absurd cc

pub stand_global : (s : StatedSetup) (rows : TableRows) (p : Parts) (t : Tid) (call : Call) (given : Answer) → given ≡ unnoticed s p t call
    → makes_global given.reply.value ≡ true
    → TablesStand s rows (settled None t.0 (saying_of given.reply.value) given.object p) → TablesStand s rows (passed_on s t.0 call given.reply given.object p)
stand_global s rows p t call given is global stand =
    let own : ProperAnswer s p t call given = rw is (proper s p t call) in
    subst (λ (q : Parts). TablesStand s rows q)
    (settled_globals s (home_of s (native_class s p t.0 call)) p t call given.reply.value given.reply.warned given.object own global) stand

pub stand_done : (s : StatedSetup) (rows : TableRows) (home : Option ℕ) (p : Parts) (t : Tid) (call : Call) (given : Answer)
    → warning given.reply.warned home ≡ warning given.reply.warned (home_of s (native_class s p t.0 call))
    → is_effective given.reply.value ≡ true
    → TablesStand s rows (warned_on given.reply.warned home (settled None t.0 (saying_of given.reply.value) given.object (done_by s t.0 call p)))
    → TablesStand s rows (passed_on s t.0 call given.reply given.object p)
stand_done s rows home p t call given is effective stand =
    let done : Parts = settled None t.0 (saying_of given.reply.value) given.object (done_by s t.0 call p) in
    rw effective (subst (λ (w : List links.Event). TablesStand s rows (record done { links = w ++ done.links })) is stand)
