-- How the rows stand after one more event.
use Rattle.std.proofs.Common.{◌≡◌, ◌≢◌, ℕ, Bool, true, false, List, [], ◌∷◌, ◌++◌, Option, Some, None, refl, ◌∙◌, ap, sym, arith, eqb-true}
use Rattle.std.specs.Prelude.{◌==◌, filter, map}
use Rattle.std.proofs.lemmas.Bool.Decides.{nat_tests}
use Rattle.std.proofs.lemmas.List.Elements.{filter-append}
use Rattle.std.proofs.lemmas.List.{append-nil}
use Rattle.jg_table_locals.specs.History.{Act, Event, by, acts_of, depth, frames, making, seen_after, live_local, Local}
use Rattle.jg_table_locals.specs.Rows.{LocalRow}
use Rattle.jg_table_locals.specs.Rows.{FrameRow}
use Rattle.jg_table_locals.specs.Rows.{is_local}
use Rattle.jg_table_locals.specs.Standing.{IsAllowed, AllAllowed, rows_of_local, open_frames}
use Rattle.jg_lists.proofs.Acts.{acts_more, acts_same, each_thread}
use Rattle.jg_lists.proofs.Lists.{filter_swap, filter_all}
use Rattle.jg_table_locals.proofs.LocalSteps.{keeps, rows_step}

-- the rows of one local, filtered
one_kept : (t : ℕ) (p k : LocalRow → Bool) (found : Option Local) → ((row : LocalRow) → row.tid ≡ t → p row ≡ k row)
    → filter p (rows_of_local t found) ≡ filter k (rows_of_local t found)
one_kept t p k None alike = refl
one_kept t p k (Some l) alike =
    let row : LocalRow = record { tid = t; n = l.n; object = l.object; depth = l.depth; frame = l.frame } in
    rw (alike row refl) refl

-- the locals that an act leaves: p keeps the other threads' and, of the thread's own, those that the act keeps
pub locals_kept : (rows : List LocalRow) (u : ℕ) (a : Act) (e : List Event) (p : LocalRow → Bool)
    → ((t n : ℕ) → filter (is_local t n) rows ≡ rows_of_local t (live_local n (acts_of t e)))
    → AllAllowed (a ∷ acts_of u e)
    → ((n : ℕ) → making n (a ∷ acts_of u e) ≡ seen_after a (making n (acts_of u e)))
    → ((row : LocalRow) → row.tid ≡ u → p row ≡ keeps a (depth (acts_of u e)) (frames (depth (acts_of u e)) (acts_of u e)) row)
    → ((row : LocalRow) → row.tid ≢ u → p row ≡ true)
    → (t n : ℕ) → filter (is_local t n) (filter p rows) ≡ rows_of_local t (live_local n (acts_of t (by u a ∷ e)))
locals_kept rows u a e p was allowed seen own others t n =
    let acts = acts_of u e in
    let here : filter (is_local u n) (filter p rows) ≡ rows_of_local u (live_local n (acts_of u (by u a ∷ e))) =
    rw (filter_swap (is_local u n) p rows, was u n, acts_more u u a e refl, seen n)
    (one_kept u p _ (live_local n acts) own ∙ sym (rows_step u n a acts (making n acts) refl allowed)) in
    each_thread (λ v. filter (is_local v n) (filter p rows) ≡ rows_of_local v (live_local n (acts_of v (by u a ∷ e)))) u here
    (λ v differ.
    rw (filter_swap (is_local v n) p rows, was v n, acts_same v u a e differ)
    (one_kept v p (λ row. true) (live_local n (acts_of v e)) (λ row is. others row (λ same. differ (sym is ∙ same))) ∙ filter_all _))
    t

others_kept : (v u : ℕ) (p : FrameRow → Bool) (rows : List FrameRow) → v ≢ u → ((row : FrameRow) → row.tid ≢ u → p row ≡ true)
    → filter (λ row. row.tid == v) (filter p rows) ≡ filter (λ row. row.tid == v) rows
others_kept v u p [] differ others = refl
others_kept v u p (row ∷ rows) differ others =
    let tail = others_kept v u p rows differ others in
    let passes = others row in
    grind (arith, nat_tests, tail, passes)

-- the frames that an act leaves
pub frames_kept : (rows : List FrameRow) (u : ℕ) (a : Act) (e : List Event) (p : FrameRow → Bool)
    → ((t : ℕ) → filter (λ row. row.tid == t) rows ≡ open_frames t (acts_of t e))
    → filter p (open_frames u (acts_of u e)) ≡ open_frames u (a ∷ acts_of u e)
    → ((row : FrameRow) → row.tid ≢ u → p row ≡ true)
    → (t : ℕ) → filter (λ row. row.tid == t) (filter p rows) ≡ open_frames t (acts_of t (by u a ∷ e))
frames_kept rows u a e p was own others t =
    each_thread (λ v. filter (λ row. row.tid == v) (filter p rows) ≡ open_frames v (acts_of v (by u a ∷ e))) u
    (rw (filter_swap (λ row. row.tid == u) p rows, was u, acts_more u u a e refl) own)
    (λ v differ. rw (others_kept v u p rows differ others, acts_same v u a e differ) (was v))
    t

-- the frame that an act adds
pub frames_added : (rows : List FrameRow) (u : ℕ) (a : Act) (e : List Event) (row : FrameRow)
    → ((t : ℕ) → filter (λ row. row.tid == t) rows ≡ open_frames t (acts_of t e))
    → row.tid ≡ u
    → open_frames u (acts_of u e) ++ row ∷ [] ≡ open_frames u (a ∷ acts_of u e)
    → (t : ℕ) → filter (λ row. row.tid == t) (rows ++ row ∷ []) ≡ open_frames t (acts_of t (by u a ∷ e))
frames_added rows u a e row was mine own t =
    each_thread (λ v. filter (λ row. row.tid == v) (rows ++ row ∷ []) ≡ open_frames v (acts_of v (by u a ∷ e))) u
    (let passes : (row.tid == u) ≡ true = grind (arith, nat_tests) in
    rw (filter-append, was u, acts_more u u a e refl, passes) own)
    (λ v differ.
    let fails : (row.tid == v) ≡ false = grind (arith, nat_tests) in
    rw (filter-append, was v, acts_same v u a e differ, fails) (append-nil _))
    t

pub others_alike : (v u : ℕ) (g : FrameRow → FrameRow) (rows : List FrameRow) → v ≢ u → ((row : FrameRow) → (g row).tid ≡ row.tid)
    → ((row : FrameRow) → row.tid ≢ u → g row ≡ row)
    → filter (λ row. row.tid == v) (map g rows) ≡ filter (λ row. row.tid == v) rows
others_alike v u g [] differ keeps_tid others = refl
others_alike v u g (row ∷ rows) differ keeps_tid others =
    at v u g row rows differ (keeps_tid row) (others row) (row.tid == v) refl (others_alike v u g rows differ keeps_tid others)
  where
    at : (v u : ℕ) (g : FrameRow → FrameRow) (row : FrameRow) (rows : List FrameRow) → v ≢ u → (g row).tid ≡ row.tid → (row.tid ≢ u → g row ≡ row) → (b : Bool)
        → (row.tid == v) ≡ b
        → filter (λ row. row.tid == v) (map g rows) ≡ filter (λ row. row.tid == v) rows
        → filter (λ row. row.tid == v) (g row ∷ map g rows) ≡ filter (λ row. row.tid == v) (row ∷ rows)
    at v u g row rows differ same_tid other true is later =
        let same : g row ≡ row = other (λ mine. differ (sym (eqb-true row.tid v is) ∙ mine)) in
        rw (same, is) (ap (λ l. row ∷ l) later)
    at v u g row rows differ same_tid other false is later =
        let fails : ((g row).tid == v) ≡ false = ap (λ t. t == v) same_tid ∙ is in
        rw (fails, is) later

pub own_alike : (u : ℕ) (g : FrameRow → FrameRow) (rows : List FrameRow) → ((row : FrameRow) → (g row).tid ≡ row.tid)
    → filter (λ row. row.tid == u) (map g rows) ≡ map g (filter (λ row. row.tid == u) rows)
own_alike u g [] keeps_tid = refl
own_alike u g (row ∷ rows) keeps_tid = at u g row rows (keeps_tid row) (row.tid == u) refl (own_alike u g rows keeps_tid)
  where
    at : (u : ℕ) (g : FrameRow → FrameRow) (row : FrameRow) (rows : List FrameRow) → (g row).tid ≡ row.tid → (b : Bool) → (row.tid == u) ≡ b
        → filter (λ row. row.tid == u) (map g rows) ≡ map g (filter (λ row. row.tid == u) rows)
        → filter (λ row. row.tid == u) (g row ∷ map g rows) ≡ map g (filter (λ row. row.tid == u) (row ∷ rows))
    at u g row rows same_tid true is later =
        let passes : ((g row).tid == u) ≡ true = ap (λ t. t == u) same_tid ∙ is in
        rw (passes, is) (ap (λ l. g row ∷ l) later)
    at u g row rows same_tid false is later =
        let fails : ((g row).tid == u) ≡ false = ap (λ t. t == u) same_tid ∙ is in
        rw (fails, is) later

-- the frames of which an act changes one
pub frames_changed : (rows : List FrameRow) (u : ℕ) (a : Act) (e : List Event) (g : FrameRow → FrameRow)
    → ((t : ℕ) → filter (λ row. row.tid == t) rows ≡ open_frames t (acts_of t e))
    → map g (open_frames u (acts_of u e)) ≡ open_frames u (a ∷ acts_of u e)
    → ((row : FrameRow) → (g row).tid ≡ row.tid) → ((row : FrameRow) → row.tid ≢ u → g row ≡ row)
    → (t : ℕ) → filter (λ row. row.tid == t) (map g rows) ≡ open_frames t (acts_of t (by u a ∷ e))
frames_changed rows u a e g was own keeps_tid others t =
    each_thread (λ v. filter (λ row. row.tid == v) (map g rows) ≡ open_frames v (acts_of v (by u a ∷ e))) u
    (rw (own_alike u g rows keeps_tid, was u, acts_more u u a e refl) own)
    (λ v differ. rw (others_alike v u g rows differ keeps_tid others, acts_same v u a e differ) (was v))
    t

-- the frames that an act does not touch
pub frames_same : (rows : List FrameRow) (u : ℕ) (a : Act) (e : List Event)
    → ((t : ℕ) → filter (λ row. row.tid == t) rows ≡ open_frames t (acts_of t e))
    → open_frames u (acts_of u e) ≡ open_frames u (a ∷ acts_of u e)
    → (t : ℕ) → filter (λ row. row.tid == t) rows ≡ open_frames t (acts_of t (by u a ∷ e))
frames_same rows u a e was own t =
    each_thread (λ v. filter (λ row. row.tid == v) rows ≡ open_frames v (acts_of v (by u a ∷ e))) u
    (rw (acts_more u u a e refl) (was u ∙ own))
    (λ v differ. rw (acts_same v u a e differ) (was v))
    t

-- the locals that an act does not touch
pub locals_same : (rows : List LocalRow) (u : ℕ) (a : Act) (e : List Event)
    → ((t n : ℕ) → filter (is_local t n) rows ≡ rows_of_local t (live_local n (acts_of t e)))
    → AllAllowed (a ∷ acts_of u e)
    → ((n : ℕ) → making n (a ∷ acts_of u e) ≡ seen_after a (making n (acts_of u e)))
    → ((row : LocalRow) → true ≡ keeps a (depth (acts_of u e)) (frames (depth (acts_of u e)) (acts_of u e)) row)
    → (t n : ℕ) → filter (is_local t n) rows ≡ rows_of_local t (live_local n (acts_of t (by u a ∷ e)))
locals_same rows u a e was allowed seen all t n =
    ap (filter (is_local t n)) (sym (filter_all rows)) ∙ locals_kept rows u a e (λ row. true) was allowed seen (λ row is. all row) (λ row is. refl) t n

pub allowed_more : (u : ℕ) (a : Act) (e : List Event) → ((t : ℕ) → AllAllowed (acts_of t e)) → IsAllowed a (acts_of u e) → (t : ℕ)
    → AllAllowed (acts_of t (by u a ∷ e))
allowed_more u a e was now t =
    each_thread (λ v. AllAllowed (acts_of v (by u a ∷ e))) u
    (rw (acts_more u u a e refl) (was u, now))
    (λ v differ. rw (acts_same v u a e differ) (was v))
    t
