-- What the tables hold where a fact is due, and that a core stands for a fact more.
use Rattle.std.proofs.Common.{ℕ, ◌≡◌, ◌+◌, ◌<◌, ◌≤◌, ◌^◌, Bool, true, false, List, ◌∷◌, Some, None, refl, ap, ◌∙◌, sym, subst, arith, if◌then◌else◌}
use Rattle.std.specs.Prelude.{◌==◌, ◌&&◌, not, All, IsNone, IsTrue}
use Rattle.std.proofs.lemmas.Bool.Decides.{nat_tests}
use Rattle.jg_words.specs.declared.thread.Tid.{Tid}
use Rattle.jg_words.specs.declared.object.ObjId.{ObjId}
use Rattle.jg_words.specs.declared.reference.Ref.{Ref}
use Rattle.jg_words.proofs.Common.{and_first, and_second}
use Rattle.jg_table_buffers.specs.declared.family.Family.{Family}
use Rattle.jg_policy.specs.Stated.{StatedSetup, class_count}
use Rattle.jg_lists.proofs.Acts.{acts_more}
use Rattle.jg_table_threads.specs.History as threads
use Rattle.jg_table_threads.specs.declared.row.Row.{Row}
use Rattle.jg_table_threads.specs.Rows.{row_of, CanCount}
use Rattle.jg_table_threads.specs.Standing as thread_standing
use Rattle.jg_table_locals.specs.History.{acts_of, has_session, depth as locals_depth}
use Rattle.jg_table_locals.specs.Rows.{Rows, HasFrame, pushed, entered, top}
use Rattle.jg_table_locals.specs.Standing as local_standing
use Rattle.jg_table_locals.proofs.Callers.{has_frame_law, above_law, pushed_law, entered_law, top_is}
use Rattle.jg_table_globals.specs.Rows as global_rows
use Rattle.jg_table_globals.specs.Standing as global_standing
use Rattle.jg_table_globals.proofs.Callers.{above_law as global_above_law}
use Rattle.jg_table_buffers.specs.Rows as buffer_rows
use Rattle.jg_table_buffers.specs.Standing as buffer_standing
use Rattle.jg_table_buffers.proofs.Callers.{above_law as buffer_above_law}
use Rattle.jg_table_monitors.specs.History as monitors
use Rattle.jg_table_monitors.specs.Rows as monitor_rows
use Rattle.jg_table_monitors.specs.Standing as monitor_standing
use Rattle.jg_table_monitors.proofs.Callers.{rows_tell_law}
use Rattle.jg_table_heap.specs.History as heap
use Rattle.jg_table_objects.specs.Rows as object_rows
use Rattle.jg_table_objects.specs.Standing.{Tells}
use Rattle.jg_rules.specs.Parts.{Parts, RowsBeside}
use Rattle.jg_rules.specs.Names.{next_ref, next_buffer, open_frames, depth as depth_of, is_here}
use Rattle.jg_laws.proofs.Kept.{Agreed, agree_of, Below, GlobalsBelow}
use Rattle.jg_laws.proofs.Lending.{LentBelow}
use Rattle.jg_core.specs.declared.fact.Fact.{Fact}
use Rattle.jg_core.specs.declared.fact.Fact.TheVariants.{Leave, Pop, Lend}
use Rattle.jg_core.specs.Counts.{AreFew}
use Rattle.jg_core.specs.Facts.{on, parts_of, can_be, is_attached, is_through, is_owner, makes, made_in, History}
use Rattle.jg_core.specs.Kernel.{CoreState, CoreStands}
use Rattle.jg_core.specs.Tables.{HasSession, IsOrdinary, IsDue, Stand}
use Rattle.jg_core.proofs.Few.{are_few, few_on, sessions_most, references_most, buffers_most, depth_most, frames_most, owned_most}
use Rattle.jg_core.proofs.Owners.{owned_by}
use Rattle.jg_core.proofs.Each.{each_fact, each_told, keeps_agree, keeps_below, keeps_globals_below, keeps_lent_below}

-- ---- what holds of the facts

up_to : (k m n : ℕ) (p : Parts) → m ≤ n → AreFew k m p → AreFew k n p
up_to k m n p less few = record {
  threads = λ t. omega (arith, few.threads t, less);
  locals = λ t. omega (arith, few.locals t, less);
  monitors = λ t o. omega (arith, few.monitors t o, less);
  heap = omega (arith, few.heap, less);
}

pub ordinary : (s : StatedSetup) (w : List Fact) → History s w → made_in w ≤ 2 ^ 60 → IsOrdinary s (parts_of w)
ordinary s w could few = record {
  agree = each_told (λ p. (t : ℕ) → Agreed (threads.acts_of t p.threads) (acts_of t p.locals)) s (keeps_agree s)
      (λ t. record { session = refl; enters = refl; leaves = refl; none_entered = λ is. refl; none_left = λ is. refl }) w could;
  below = each_told Below s (keeps_below s) (λ t. tt) w could;
  globals_below = each_told GlobalsBelow s (keeps_globals_below s) (λ t. tt) w could;
  buffers_below = each_told LentBelow s (keeps_lent_below s) (λ t. tt) w could;
  few = up_to (class_count s) (made_in w) (2 ^ 60) (parts_of w) few (are_few (class_count s) w);
}

-- a fact that makes nothing leaves them so
ordinary_on : (s : StatedSetup) (p : Parts) (x : Fact) → can_be s p x ≡ true → makes x ≡ false → IsOrdinary s p → IsOrdinary s (on x p)
ordinary_on s p x can none old = record {
  agree = each_fact (λ q. (t : ℕ) → Agreed (threads.acts_of t q.threads) (acts_of t q.locals)) s (keeps_agree s) p x can old.agree;
  below = each_fact Below s (keeps_below s) p x can old.below;
  globals_below = each_fact GlobalsBelow s (keeps_globals_below s) p x can old.globals_below;
  buffers_below = each_fact LentBelow s (keeps_lent_below s) p x can old.buffers_below;
  few = subst (λ (b : Bool). AreFew (class_count s) (if b then 2 ^ 60 + 1 else 2 ^ 60) (on x p)) none (few_on (class_count s) (2 ^ 60) x p old.few);
}

pub due : (c : CoreState) (w : List Fact) (x : Fact) → CoreStands c w → c.made ≤ 2 ^ 60 → can_be c.setup (parts_of w) x ≡ true → IsDue c.setup c.rows x
due c w x stands few can =
    record { events = parts_of w; ordinary = ordinary c.setup w stands.history (omega (arith, stands.counted, few)); stand = stands.tables; can = can }

-- ---- what the tables hold

pub counts : (s : StatedSetup) (p : Parts) (rows : List (ℕ × Row)) (t : ℕ) → IsOrdinary s p → thread_standing.Stands rows p.threads → CanCount rows t
counts s p rows t o stands =
    let acts = threads.acts_of t p.threads in
    let few = o.few.threads t in
    record {
      sessions = omega (arith, ap (λ (r : Row). r.sessions) (stands.threads t), sessions_most acts, few);
      refs = omega (arith, ap (λ (r : Row). r.refs) (stands.threads t), references_most acts, few);
      buffers = omega (arith, ap (λ (r : Row). r.buffers) (stands.threads t), buffers_most acts, few);
      depth = omega (arith, ap (λ (r : Row). r.depth) (stands.threads t), depth_most acts, few);
    }

pub core_counts : (c : CoreState) (w : List Fact) (t : ℕ) → CoreStands c w → c.made ≤ 2 ^ 60 → CanCount c.rows.threads t
core_counts c w t stands few =
    counts c.setup (parts_of w) c.rows.threads t (ordinary c.setup w stands.history (omega (arith, stands.counted, few))) stands.tables.threads

pub is_on : (p : Parts) (rows : List (ℕ × Row)) (t : ℕ) → thread_standing.Stands rows p.threads → is_attached p t ≡ true → IsTrue (row_of rows t).attached
is_on p rows t stands is = ap (λ (r : Row). r.attached) (stands.threads t) ∙ is

pub has_frame : (s : StatedSetup) (p : Parts) (rows : Rows) (t : ℕ) → IsOrdinary s p → local_standing.Stands rows p.locals → is_attached p t ≡ true
    → HasFrame t rows
has_frame s p rows t o stands is = has_frame_law rows p.locals t stands (sym (o.agree t).session ∙ is)

pub can_push : (s : StatedSetup) (p : Parts) (rows : Rows) (t : ℕ) → IsOrdinary s p → local_standing.Stands rows p.locals → pushed t rows < 18446744073709551615
can_push s p rows t o stands =
    omega (arith, pushed_law rows p.locals t stands, frames_most (locals_depth (acts_of t p.locals)) (acts_of t p.locals), o.few.locals t)

some_of : (n : ℕ) → not (n == 0) ≡ true → 0 < n
some_of n is = grind (arith, nat_tests)

pub can_pop : (p : Parts) (rows : Rows) (t : ℕ) → local_standing.Stands rows p.locals → not (open_frames p t == 0) ≡ true → 0 < pushed t rows
can_pop p rows t stands is = subst (λ (n : ℕ). 0 < n) (sym (pushed_law rows p.locals t stands)) (some_of (open_frames p t) is)

pub can_start : (s : StatedSetup) (p : Parts) (rows : Rows) (t : ℕ) → IsOrdinary s p → local_standing.Stands rows p.locals → is_attached p t ≡ false
    → IsNone (top t rows.frames)
can_start s p rows t o stands is =
    let none : has_session (acts_of t p.locals) ≡ false = sym (o.agree t).session ∙ is in
    rw (top_is rows p.locals t stands, none) refl

pub can_enter : (s : StatedSetup) (p : Parts) (rows : Rows) (t : ℕ) → IsOrdinary s p → local_standing.Stands rows p.locals
    → entered t rows < 18446744073709551615
can_enter s p rows t o stands =
    let same = agree_of _ _ (o.agree t) in
    omega (arith, entered_law rows p.locals t stands, same.depth, depth_most (threads.acts_of t p.threads), o.few.threads t)

pub can_leave : (s : StatedSetup) (p : Parts) (rows : Rows) (t : ℕ) → IsOrdinary s p → local_standing.Stands rows p.locals → not (depth_of p t == 0) ≡ true
    → 0 < entered t rows
can_leave s p rows t o stands is =
    let same = agree_of _ _ (o.agree t) in
    omega (arith, entered_law rows p.locals t stands, same.depth, some_of (depth_of p t) is)

pub can_leave_native : (p : Parts) (rows : List (ℕ × Row)) (t : ℕ) → thread_standing.Stands rows p.threads → not (depth_of p t == 0) ≡ true
    → 0 < (row_of rows t).depth
can_leave_native p rows t stands is = omega (arith, ap (λ (r : Row). r.depth) (stands.threads t), some_of (depth_of p t) is)

pub is_above : (s : StatedSetup) (p : Parts) (rows : Rows) (t n : ℕ) → IsOrdinary s p → local_standing.Stands rows p.locals → n ≡ next_ref p t
    → All (λ row. row.tid ≡ t → row.n < n) rows.locals
is_above s p rows t n o stands next = rw next (above_law rows p.locals t (next_ref p t) stands (o.below t))

pub is_above_globals : (s : StatedSetup) (p : Parts) (rows : global_rows.Rows) (t n : ℕ) → IsOrdinary s p → global_standing.Stands rows p.globals
    → n ≡ next_ref p t → global_rows.IsAbove t n rows
is_above_globals s p rows t n o stands next = rw next (global_above_law rows p.globals t (next_ref p t) stands (o.globals_below t))

pub is_above_buffers : (s : StatedSetup) (p : Parts) (rows : buffer_rows.Rows) (t n : ℕ) → IsOrdinary s p → buffer_standing.Stands rows p.buffers
    → n ≡ next_buffer p t → buffer_rows.IsAbove t n rows
is_above_buffers s p rows t n o stands next = rw next (buffer_above_law rows p.buffers t (next_buffer p t) stands (o.buffers_below t))

pub may_lend : (s : StatedSetup) (p : Parts) (t : Tid) (family : Family) (o : ObjId) (via : Ref) (n : ℕ) → can_be s p (Lend t family o via n) ≡ true
    → is_through family via ≡ true
may_lend s p t family o via n is =
    and_second (is_here s p o.0) (is_through family via) (and_second (is_attached p t.0) (is_here s p o.0 && is_through family via) is)

pub can_own : (s : StatedSetup) (p : Parts) (rows : monitor_rows.Rows) (o : ℕ) → IsOrdinary s p → monitor_standing.Stands rows p.monitors
    → monitor_rows.count_in (monitor_rows.row_of o rows) < 18446744073709551615
can_own s p rows o ordinary stands =
    omega (
      arith,
      (rows_tell_law rows p.monitors o stands).count,
      owned_most p.monitors o (2 ^ 60) (monitors.owner p.monitors o)
          (λ t. ordinary.few.monitors t o),
    )

pub may_free : (p : Parts) (rows : monitor_rows.Rows) (t o : ℕ) → monitor_standing.Stands rows p.monitors → is_owner t (monitors.owner p.monitors o) ≡ true
    → monitor_rows.owner_in (monitor_rows.row_of o rows) ≡ Some t
may_free p rows t o stands is = (rows_tell_law rows p.monitors o stands).owner ∙ owned_by (monitors.owner p.monitors o) t is

pub can_meet : (s : StatedSetup) (p : Parts) (rows : object_rows.Rows) → class_count s < 4294967296 → IsOrdinary s p → Tells rows (class_count s) p.heap
    → rows.count < 9223372036854775808
can_meet s p rows few o tells =
    subst (λ (n : ℕ). n < 9223372036854775808) (sym (tells.stands.count ∙ ap (λ (k : ℕ). heap.count_of k p.heap) tells.classes))
    (omega (arith, o.few.heap, few))

attached_left : (p : Parts) (t : Tid) → is_attached p t.0 ≡ true → is_attached (on (Leave t None) p) t.0 ≡ true
attached_left p t is = rw (acts_more t.0 t.0 threads.Calm (threads.by t.0 threads.Leave ∷ p.threads) refl, acts_more t.0 t.0 threads.Leave p.threads refl) is

-- a thread that left a native method still has its session
pub session_left : (s : StatedSetup) (rows : RowsBeside object_rows.Rows) (p : Parts) (t : Tid) → can_be s p (Leave t None) ≡ true → IsOrdinary s p
    → Stand s rows (on (Leave t None) p)
    → HasSession s rows t.0
session_left s rows p t can o stand = record {
  events = on (Leave t None) p;
  ordinary = ordinary_on s p (Leave t None) can refl o;
  stand = stand;
  attached = attached_left p t (and_first (is_attached p t.0) _ can);
}

pub session_popped : (s : StatedSetup) (rows : RowsBeside object_rows.Rows) (p : Parts) (t : Tid) → can_be s p (Pop t None) ≡ true → IsOrdinary s p
    → Stand s rows (on (Pop t None) p)
    → HasSession s rows t.0
session_popped s rows p t can o stand = record {
  events = on (Pop t None) p;
  ordinary = ordinary_on s p (Pop t None) can refl o;
  stand = stand;
  attached = and_first (is_attached p t.0) _ can;
}

-- ---- one fact more

pub stand_at : (s s' : StatedSetup) (rows rows' : RowsBeside object_rows.Rows) (p : Parts) → s' ≡ s → rows' ≡ rows → Stand s rows p → Stand s' rows' p
stand_at s s' rows rows' p same_setup same_rows stand = rw (same_setup, same_rows) stand

pub told_by : (s s' : StatedSetup) (rows rows' : RowsBeside object_rows.Rows) (x : Fact) (p : Parts) (b : Bool) → s' ≡ s → rows' ≡ rows
    → ((q : Parts) → Stand s' rows' q → b ≡ can_be s' q x) → Stand s rows p → can_be s p x ≡ b
told_by s s' rows rows' x p b same_setup same_rows told stand =
    subst (λ (r : StatedSetup). can_be r p x ≡ b) same_setup (sym (told p (stand_at s s' rows rows' p same_setup same_rows stand)))

pub told_one : (c d : CoreState) (w : List Fact) (x : Fact) → CoreStands c w → d.setup ≡ c.setup → d.made ≡ (if makes x then c.made + 1 else c.made)
    → can_be c.setup (parts_of w) x ≡ true
    → Stand c.setup d.rows (on x (parts_of w)) → CoreStands d (x ∷ w)
told_one c d w x stands same more can tables =
    rw same (record {
      history = (can, stands.history);
      counted = sym (more ∙ ap (λ (n : ℕ). if makes x then n + 1 else n) (sym stands.counted));
      tables = tables;
    })
