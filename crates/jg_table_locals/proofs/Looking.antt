-- What one more act does to what is seen by looking back.
use Rattle.std.proofs.Common.{◌≡◌, ℕ, ◌+◌, ◌≤◌, true, List, [], ◌∷◌, ◌++◌, arith}
use Rattle.std.proofs.lemmas.Bool.Decides.{nat_tests}
use Rattle.jg_table_locals.specs.History.{how_many, Act, Start, Make, Push, Ensure, Enter, Delete, Pop, Leave, End, is_enter, is_leave, is_push, is_pop, session, depth, done_at, frames, done_here, survives}
use Rattle.jg_table_locals.specs.Standing.{AllAllowed}

-- no activation is left that was not entered
pub leaves_at_most_enters : (acts : List Act) → AllAllowed acts → how_many is_leave (session acts) ≤ how_many is_enter (session acts)
leaves_at_most_enters [] h = omega arith
leaves_at_most_enters (Start ∷ acts) h = omega arith
leaves_at_most_enters (End ∷ acts) h = omega arith
leaves_at_most_enters (Make n o ∷ acts) h = leaves_at_most_enters acts h.0
leaves_at_most_enters (Push room ∷ acts) h = leaves_at_most_enters acts h.0
leaves_at_most_enters (Ensure c ∷ acts) h = leaves_at_most_enters acts h.0
leaves_at_most_enters (Enter ∷ acts) h = omega (arith, leaves_at_most_enters acts h.0)
leaves_at_most_enters (Delete n ∷ acts) h = leaves_at_most_enters acts h.0
leaves_at_most_enters (Pop ∷ acts) h = leaves_at_most_enters acts h.0
leaves_at_most_enters (Leave ∷ acts) h = omega (arith, leaves_at_most_enters acts h.0, h.1)

-- no frame is popped that was not pushed
pub pops_at_most_pushes : (d : ℕ) (acts : List Act) → AllAllowed acts → done_at is_pop d acts ≤ done_at is_push d acts
pops_at_most_pushes d [] h = omega arith
pops_at_most_pushes d (Start ∷ acts) h = omega arith
pops_at_most_pushes d (End ∷ acts) h = omega arith
pops_at_most_pushes d (Make n o ∷ acts) h = pops_at_most_pushes d acts h.0
pops_at_most_pushes d (Push room ∷ acts) h = grind (arith, nat_tests, pops_at_most_pushes d acts h.0)
pops_at_most_pushes d (Ensure c ∷ acts) h = pops_at_most_pushes d acts h.0
pops_at_most_pushes d (Enter ∷ acts) h = grind (arith, nat_tests, pops_at_most_pushes d acts h.0)
pops_at_most_pushes d (Delete n ∷ acts) h = pops_at_most_pushes d acts h.0
pops_at_most_pushes d (Pop ∷ acts) h = grind (arith, nat_tests, pops_at_most_pushes d acts h.0, h.1)
pops_at_most_pushes d (Leave ∷ acts) h = pops_at_most_pushes d acts h.0

-- what survived is still there one act later, where the act does not end it
pub survived_before : (n : ℕ) (a : Act) (later : List Act) → survives n (a ∷ later) ≡ true → survives n later ≡ true
survived_before n a later h = grind (arith, nat_tests)

-- the depth now, from the depth at the making
pub depth_since : (n o : ℕ) (before later : List Act) → AllAllowed (later ++ Make n o ∷ before) → survives n later ≡ true
    → depth (later ++ Make n o ∷ before) + how_many is_leave later ≡ depth before + how_many is_enter later
depth_since n o before [] h s = omega arith
depth_since n o before (Start ∷ later) h s = grind (arith, nat_tests)
depth_since n o before (End ∷ later) h s = grind (arith, nat_tests)
depth_since n o before (Make m p ∷ later) h s = depth_since n o before later h.0 (survived_before n (Make m p) later s)
depth_since n o before (Push room ∷ later) h s = depth_since n o before later h.0 (survived_before n (Push room) later s)
depth_since n o before (Ensure c ∷ later) h s = depth_since n o before later h.0 (survived_before n (Ensure c) later s)
depth_since n o before (Enter ∷ later) h s =
    omega (arith, depth_since n o before later h.0 (survived_before n Enter later s), leaves_at_most_enters (later ++ Make n o ∷ before) h.0)
depth_since n o before (Delete m ∷ later) h s = depth_since n o before later h.0 (survived_before n (Delete m) later s)
depth_since n o before (Pop ∷ later) h s = depth_since n o before later h.0 (survived_before n Pop later s)
depth_since n o before (Leave ∷ later) h s = omega (arith, depth_since n o before later h.0 (survived_before n Leave later s), h.1)

-- who survived was not left, and its frame was not popped
pub survived_here : (n : ℕ) (later : List Act) → survives n later ≡ true → how_many is_leave later ≤ how_many is_enter later
survived_here n [] s = omega arith
survived_here n (a ∷ later) s = grind (arith, nat_tests)

pub survived_frame : (n : ℕ) (later : List Act) → survives n later ≡ true → done_here is_pop later ≤ done_here is_push later
survived_frame n [] s = omega arith
survived_frame n (a ∷ later) s = grind (arith, nat_tests)

-- the open frames now at the depth of the making, from those at the making
pub frames_since : (n o : ℕ) (before later : List Act) → AllAllowed (later ++ Make n o ∷ before) → survives n later ≡ true
    → frames (depth before) (later ++ Make n o ∷ before) + done_here is_pop later ≡ frames (depth before) before + done_here is_push later
frames_since n o before [] h s = omega arith
frames_since n o before (Start ∷ later) h s = grind (arith, nat_tests)
frames_since n o before (End ∷ later) h s = grind (arith, nat_tests)
frames_since n o before (Make m p ∷ later) h s = frames_since n o before later h.0 (survived_before n (Make m p) later s)
frames_since n o before (Push room ∷ later) h s =
    let old = survived_before n (Push room) later s in
    grind (
      arith,
      nat_tests,
      frames_since n o before later h.0 old,
      depth_since n o before later h.0 old,
      pops_at_most_pushes (depth before)
          (later ++ Make n o ∷ before) h.0,
    )
frames_since n o before (Ensure c ∷ later) h s = frames_since n o before later h.0 (survived_before n (Ensure c) later s)
frames_since n o before (Enter ∷ later) h s =
    let old = survived_before n Enter later s in
    grind (arith, nat_tests, frames_since n o before later h.0 old, depth_since n o before later h.0 old, survived_here n later old)
frames_since n o before (Delete m ∷ later) h s = frames_since n o before later h.0 (survived_before n (Delete m) later s)
frames_since n o before (Pop ∷ later) h s =
    let old = survived_before n Pop later s in
    grind (
      arith,
      nat_tests,
      frames_since n o before later h.0 old,
      depth_since n o before later h.0 old,
      pops_at_most_pushes (depth before) (later ++ Make n o ∷ before) h.0,
      pops_at_most_pushes (depth before) (Pop ∷ (later ++ Make n o ∷ before)) h,
    )
frames_since n o before (Leave ∷ later) h s = frames_since n o before later h.0 (survived_before n Leave later s)
