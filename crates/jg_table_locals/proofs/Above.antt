-- Numbers above those that were made, and above those that are live.
use Rattle.std.proofs.Common.{◌≡◌, ℕ, ◌<◌, Bool, true, false, List, [], ◌∷◌, ◌++◌, Option, Some, None, refl, sym, subst, arith, inl}
use Rattle.std.specs.Prelude.{All, IsSome, IsTrue, ◌↔◌}
use Rattle.std.proofs.lemmas.Bool.Decides.{nat_tests}
use Rattle.std.proofs.lemmas.List.Elements.{All-from_recursion, recursion_from_All}
use Rattle.jg_table_locals.specs.History.{Act, Start, Make, Push, Ensure, Enter, Delete, Pop, Leave, End, Event, acts_of, has_session, frames, Making, making, local_if_live, Local, live_local, object_of, live, IsMadeBelow}
use Rattle.jg_table_locals.specs.Rows.{LocalRow}
use Rattle.jg_table_locals.specs.Rows.{Rows, is_local, HasFrame}
use Rattle.jg_table_locals.specs.Standing.{AllAllowed, rows_of_local, Stands}
use Rattle.jg_table_locals.proofs.LocalSteps.{making_splits}
use Rattle.jg_table_locals.proofs.Lives.{live_was_made}
use Rattle.jg_table_locals.proofs.Lookups.{no_pushes}
use Rattle.jg_lists.proofs.Lists.{Member, member_filter, member_filtered, at_member, each_member}
use Rattle.jg_table_locals.proofs.Tops.{top_told}

-- a thread with a session has a frame
pub has_frame : (rows : Rows) (e : List Event) (t : ℕ) → Stands rows e → has_session (acts_of t e) ≡ true → HasFrame t rows
has_frame rows e t stands is = rw (top_told rows e t stands, is) refl

session_cases : (d : ℕ) (acts : List Act) (b : Bool) → has_session acts ≡ b → AllAllowed acts → 0 < frames d acts → has_session acts ≡ true
session_cases d acts true is h some = is
session_cases d acts false is h some = absurd (omega (arith, no_pushes d acts h is))

-- a frame is pushed in a session alone
session_if_pushed : (d : ℕ) (acts : List Act) → AllAllowed acts → 0 < frames d acts → has_session acts ≡ true
session_if_pushed d acts h some = session_cases d acts (has_session acts) refl h some

made_before : (n k o : ℕ) (before later : List Act) → IsMadeBelow n (later ++ Make k o ∷ before) → k < n
made_before n k o before [] below = below.0
made_before n k o before (Make j p ∷ later) below = made_before n k o before later below.1
made_before n k o before (Start ∷ later) below = made_before n k o before later below
made_before n k o before (End ∷ later) below = made_before n k o before later below
made_before n k o before (Push room ∷ later) below = made_before n k o before later below
made_before n k o before (Ensure c ∷ later) below = made_before n k o before later below
made_before n k o before (Enter ∷ later) below = made_before n k o before later below
made_before n k o before (Delete j ∷ later) below = made_before n k o before later below
made_before n k o before (Pop ∷ later) below = made_before n k o before later below
made_before n k o before (Leave ∷ later) below = made_before n k o before later below

found_below : (t n k : ℕ) (acts : List Act) (row : LocalRow) (found : Option Making) → making k acts ≡ found → IsMadeBelow n acts
    → Member row (rows_of_local t (local_if_live k found)) → k < n
found_below t n k acts row None is below m = absurd m
found_below t n k acts row (Some made) is below m =
    let P : List Act → Type 0 = λ xs. IsMadeBelow n xs in
    made_before n k made.object made.before made.later (subst P (making_splits k acts made is) below)

row_below : (rows : Rows) (e : List Event) (t n : ℕ) → Stands rows e → IsMadeBelow n (acts_of t e) → (row : LocalRow) → Member row rows.locals → row.tid ≡ t
    → row.n < n
row_below rows e t n stands below row m mine =
    let own : is_local t row.n row ≡ true = grind (arith, nat_tests) in
    let kept = member_filter (is_local t row.n) row rows.locals m own in
    let P : List LocalRow → Type 0 = λ l. Member row l in
    let there = subst P (stands.locals t row.n) kept in
    found_below t n row.n (acts_of t e) row (making row.n (acts_of t e)) refl below there

-- a number above all that were made is above all that are live
pub above_rows : (rows : Rows) (e : List Event) (t n : ℕ) → Stands rows e → IsMadeBelow n (acts_of t e) → All (λ row. row.tid ≡ t → row.n < n) rows.locals
above_rows rows e t n stands below = All-from_recursion _ _ (each_member _ rows.locals (row_below rows e t n stands below))

live_of_row : (t k : ℕ) (row : LocalRow) (found : Option Local) → Member row (rows_of_local t found) → IsSome (object_of found)
live_of_row t k row None m = absurd m
live_of_row t k row (Some l) m = refl

row_of_live : (t k : ℕ) (found : Option Local) → IsSome (object_of found) → (row : LocalRow) × Member row (rows_of_local t found)
row_of_live t k None some = cc
row_of_live t k (Some l) some = (record { tid = t; n = l.n; object = l.object; depth = l.depth; frame = l.frame }, inl refl)

live_below : (rows : Rows) (e : List Event) (t n k : ℕ) → Stands rows e → All (λ row. row.tid ≡ t → row.n < n) rows.locals → IsSome (live k (acts_of t e))
    → k < n
live_below rows e t n k stands all some =
    let there = row_of_live t k (live_local k (acts_of t e)) some in
    let row : LocalRow = there.0 in
    let P : List LocalRow → Type 0 = λ l. Member row l in
    let kept = member_filtered (is_local t k) row rows.locals (subst P (sym (stands.locals t k)) there.1) in
    let below = at_member (λ row. row.tid ≡ t → row.n < n) row rows.locals (recursion_from_All _ _ all) kept.0 in
    let is : is_local t k row ≡ true = kept.1 in
    let mine : row.tid ≡ t = grind (arith, nat_tests) in
    let number : row.n ≡ k = grind (arith, nat_tests) in
    omega (arith, below mine)

below_live : (rows : Rows) (e : List Event) (t n : ℕ) → Stands rows e → ((k : ℕ) → IsSome (live k (acts_of t e)) → k < n) → (row : LocalRow)
    → Member row rows.locals → row.tid ≡ t → row.n < n
below_live rows e t n stands each row m mine =
    let own : is_local t row.n row ≡ true = grind (arith, nat_tests) in
    let P : List LocalRow → Type 0 = λ l. Member row l in
    let there = subst P (stands.locals t row.n) (member_filter (is_local t row.n) row rows.locals m own) in
    each row.n (live_of_row t row.n row (live_local row.n (acts_of t e)) there)

-- a number is above all of a thread's rows where it is above all its live locals
pub above_live : (rows : Rows) (e : List Event) (t n : ℕ) (b : Bool) → Stands rows e → IsTrue b ↔ All (λ row. row.tid ≡ t → row.n < n) rows.locals
    → IsTrue b ↔ ((k : ℕ) → IsSome (live k (acts_of t e)) → k < n)
above_live rows e t n b stands test = (
  (λ is k some. live_below rows e t n k stands (test.0 is) some),
  (λ each. test.1 (All-from_recursion _ _ (each_member _ rows.locals (below_live rows e t n stands each)))),
)

-- a live local was made, so its number is below
pub live_is_made_below : (n k o : ℕ) (acts : List Act) → IsMadeBelow n acts → live k acts ≡ Some o → k < n
live_is_made_below n k o acts below is =
    let was = live_was_made k o acts is in
    made_before n k o was.1 was.0 (subst (λ (xs : List Act). IsMadeBelow n xs) was.2 below)
