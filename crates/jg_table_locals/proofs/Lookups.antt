-- What the look-ups answer where the rows stand.
use Rattle.std.proofs.Common.{◌≡◌, ℕ, ◌<◌, Bool, true, false, List, [], ◌∷◌, Option, Some, None, refl, ap, sym, subst, arith}
use Rattle.std.specs.Prelude.{if◌then◌else◌, nat_lt, filter, find, All, IsTrue, ◌↔◌}
use Rattle.std.specs.List.{AllByRecursion}
use Rattle.std.specs.Option.{is_some, option_map}
use Rattle.std.proofs.lemmas.Bool.Decides.{nat_tests}
use Rattle.std.proofs.lemmas.List.Elements.{recursion_from_All}
use Rattle.jg_lists.proofs.Lists.{find-filter, first}
use Rattle.jg_table_locals.specs.History.{Act, Start, Make, Push, Ensure, Enter, Delete, Pop, Leave, End, Event, acts_of, has_session, session, depth, how_many, is_enter, is_push, done_at, frames, Local, live_local, object_of, live}
use Rattle.jg_table_locals.specs.Rows.{LocalRow}
use Rattle.jg_table_locals.specs.Rows.{FrameRow}
use Rattle.jg_table_locals.specs.Room.{room_here, held_here}
use Rattle.jg_table_locals.specs.Rows.{Rows, Table, is_local, is_past, top, pushed, entered, frame_number, depth_number}
use Rattle.jg_table_locals.specs.Standing.{AllAllowed, rows_of_local, row_of_frame, Stands}
use Rattle.jg_table_locals.proofs.Holding.{held_told, held_without_session}
use Rattle.jg_table_locals.proofs.Tops.{top_told}

-- a number above all of a thread's is new to it
above_fresh : (u n : ℕ) (locals : List LocalRow) → AllByRecursion (λ row. row.tid ≡ u → row.n < n) locals → filter (is_local u n) locals ≡ []
above_fresh u n [] above = refl
above_fresh u n (row ∷ locals) above =
    let tail = above_fresh u n locals above.1 in
    let below = above.0 in
    grind (arith, nat_tests, tail, below)

pub fresh : (u n : ℕ) (locals : List LocalRow) → All (λ row. row.tid ≡ u → row.n < n) locals → filter (is_local u n) locals ≡ []
fresh u n locals above = above_fresh u n locals (recursion_from_All _ _ above)

object_of_first : (t : ℕ) (found : Option Local) → option_map (λ row. row.object) (first (rows_of_local t found)) ≡ object_of found
object_of_first t None = refl
object_of_first t (Some l) = refl

pub get_law : (rows : Rows) (e : List Event) (t n : ℕ) → Stands rows e → option_map (λ row. row.object) (find (is_local t n) rows.locals) ≡ live n (acts_of t e)
get_law rows e t n stands = rw (find-filter, stands.locals t n) (object_of_first t (live_local n (acts_of t e)))

-- without a session nothing is pushed
pub no_pushes : (d : ℕ) (acts : List Act) → AllAllowed acts → has_session acts ≡ false → done_at is_push d acts ≡ 0
no_pushes d [] h none = refl
no_pushes d (Start ∷ acts) h none = cc
no_pushes d (End ∷ acts) h none = refl
no_pushes d (Make n o ∷ acts) h none = cc
no_pushes d (Push room ∷ acts) h none = cc
no_pushes d (Ensure c ∷ acts) h none = cc
no_pushes d (Enter ∷ acts) h none = grind (arith, nat_tests, no_pushes d acts h.0 none)
no_pushes d (Delete n ∷ acts) h none = no_pushes d acts h.0 none
no_pushes d (Pop ∷ acts) h none = no_pushes d acts h.0 none
no_pushes d (Leave ∷ acts) h none = no_pushes d acts h.0 none

frame_of_top : (t : ℕ) (acts : List Act) (b : Bool) → has_session acts ≡ b → AllAllowed acts
    → frame_number (if◌then◌else◌ {A = Option FrameRow} b (Some (row_of_frame t (depth acts) (frames (depth acts) acts) acts)) None) ≡ frames (depth acts) acts
frame_of_top t acts true is h = refl
frame_of_top t acts false is h = omega (arith, no_pushes (depth acts) acts h is)

pub pushed_told : (rows : Rows) (e : List Event) (t : ℕ) → Stands rows e → pushed t rows ≡ frames (depth (acts_of t e)) (acts_of t e)
pushed_told rows e t stands = rw (top_told rows e t stands) (frame_of_top t (acts_of t e) (has_session (acts_of t e)) refl (stands.allowed t))

-- and no native method is entered
no_enters : (acts : List Act) → AllAllowed acts → has_session acts ≡ false → how_many is_enter (session acts) ≡ 0
no_enters [] h none = refl
no_enters (Start ∷ acts) h none = cc
no_enters (End ∷ acts) h none = refl
no_enters (Make n o ∷ acts) h none = cc
no_enters (Push room ∷ acts) h none = cc
no_enters (Ensure c ∷ acts) h none = cc
no_enters (Enter ∷ acts) h none = cc
no_enters (Delete n ∷ acts) h none = no_enters acts h.0 none
no_enters (Pop ∷ acts) h none = no_enters acts h.0 none
no_enters (Leave ∷ acts) h none = no_enters acts h.0 none

depth_of_top : (t : ℕ) (acts : List Act) (b : Bool) → has_session acts ≡ b → AllAllowed acts
    → depth_number (if◌then◌else◌ {A = Option FrameRow} b (Some (row_of_frame t (depth acts) (frames (depth acts) acts) acts)) None) ≡ depth acts
depth_of_top t acts true is h = refl
depth_of_top t acts false is h = omega (arith, no_enters acts h is)

pub depth_law : (rows : Rows) (e : List Event) (t : ℕ) → Stands rows e → entered t rows ≡ depth (acts_of t e)
depth_law rows e t stands = rw (top_told rows e t stands) (depth_of_top t (acts_of t e) (has_session (acts_of t e)) refl (stands.allowed t))

some_of_top : (row : FrameRow) (b : Bool) → is_some (if◌then◌else◌ {A = Option FrameRow} b (Some row) None) ≡ b
some_of_top row true = refl
some_of_top row false = refl

pub has_session_law : (rows : Rows) (e : List Event) (t : ℕ) → Stands rows e → is_some (top t rows.frames) ≡ has_session (acts_of t e)
has_session_law rows e t stands = rw (top_told rows e t stands) (some_of_top _ (has_session (acts_of t e)))

pub can_pop_law : (rows : Rows) (e : List Event) (t : ℕ) (b : Bool) → Stands rows e → IsTrue b ↔ (0 < pushed t rows)
    → IsTrue b ↔ (0 < frames (depth (acts_of t e)) (acts_of t e))
can_pop_law rows e t b stands test =
    let P : ℕ → Type 0 = λ k. IsTrue b ↔ (0 < k) in
    subst P (pushed_told rows e t stands) test

-- a value is seen as its view
pub reopened : (a b : Table) (e : List Event) → a ≡ b → Stands b.rows e → Stands a.rows e
reopened a b e is stands =
    let P : Table → Type 0 = λ v. Stands v.rows e in
    subst P (sym is) stands

past_at : (bound : ℕ → ℕ) (rows : Rows) (e : List Event) (t : ℕ) (b : Bool) → Stands rows e → has_session (acts_of t e) ≡ b
    → is_past bound rows.locals
    (if◌then◌else◌ {A = Option FrameRow} b
    (Some (row_of_frame t (depth (acts_of t e)) (frames (depth (acts_of t e)) (acts_of t e)) (acts_of t e))) None)
    ≡ nat_lt (bound (room_here (acts_of t e))) (held_here (acts_of t e))
past_at bound rows e t true stands is =
    ap (λ n. nat_lt (bound (room_here (acts_of t e))) n)
    (held_told rows e (row_of_frame t (depth (acts_of t e)) (frames (depth (acts_of t e)) (acts_of t e)) (acts_of t e)) stands)
past_at bound rows e t false stands is =
    let none = held_without_session (depth (acts_of t e)) (frames (depth (acts_of t e)) (acts_of t e)) (acts_of t e) (stands.allowed t) is in
    rw none (none_less (bound (room_here (acts_of t e))))
  where
    none_less : (n : ℕ) → false ≡ nat_lt n 0
    none_less n = grind (arith, nat_tests)

-- the rows tell whether the newest frame holds more than what is made of its room
pub past_law : (bound : ℕ → ℕ) (rows : Rows) (e : List Event) (t : ℕ) → Stands rows e
    → is_past bound rows.locals (top t rows.frames) ≡ nat_lt (bound (room_here (acts_of t e))) (held_here (acts_of t e))
past_law bound rows e t stands = rw (top_told rows e t stands) (past_at bound rows e t (has_session (acts_of t e)) stands refl)
