-- What one more act does to the rows of live locals.
use Rattle.std.proofs.Common.{◌≡◌, ℕ, Bool, true, false, List, [], ◌∷◌, ◌++◌, Option, Some, None, refl, ap, sym, subst, arith, eqb, eqb-true}
use Rattle.std.specs.Prelude.{◌==◌, ◌&&◌, not, if◌then◌else◌, filter}
use Rattle.std.proofs.lemmas.Bool.Decides.{nat_tests}
use Rattle.jg_table_locals.specs.History.{Act, Start, Make, Push, Ensure, Enter, Delete, Pop, Leave, End, has_session, depth, frames, survives, Making, making, seen_after, local_if_live, live_local}
use Rattle.jg_table_locals.specs.Standing.{AllAllowed, rows_of_local}
use Rattle.jg_table_locals.proofs.Looking.{depth_since, frames_since, survived_before, survived_here, survived_frame}
use Rattle.jg_table_locals.specs.Rows.{LocalRow}

-- whether the act, done at a depth and a count of open frames, leaves the local
abbrev pub keeps : Act → ℕ → ℕ → LocalRow → Bool
keeps Start d f row = false
keeps End d f row = false
keeps (Delete n) d f row = not (row.n == n)
keeps Pop d f row = not (row.depth == d && row.frame == f)
keeps Leave d f row = not (row.depth == d)
keeps a d f row = true

abbrev pub row_made : ℕ → ℕ → ℕ → List Act → LocalRow
row_made t n o before = record { tid = t; n = n; object = o; depth = depth before; frame = frames (depth before) before }

-- one moment more is survived where the act keeps the row
survives_more : (t n o : ℕ) (before later : List Act) (a : Act) → AllAllowed (a ∷ (later ++ Make n o ∷ before)) → survives n later ≡ true
    → survives n (a ∷ later) ≡ keeps a (depth (later ++ Make n o ∷ before)) (frames (depth (later ++ Make n o ∷ before)) (later ++ Make n o ∷ before))
    (row_made t n o before)
survives_more t n o before later Start h s = grind (arith, nat_tests)
survives_more t n o before later End h s = grind (arith, nat_tests)
survives_more t n o before later (Make m p) h s = grind (arith, nat_tests, survived_here n later s, survived_frame n later s)
survives_more t n o before later (Push room) h s = grind (arith, nat_tests, survived_here n later s, survived_frame n later s)
survives_more t n o before later (Ensure c) h s = grind (arith, nat_tests, survived_here n later s, survived_frame n later s)
survives_more t n o before later Enter h s = grind (arith, nat_tests, survived_here n later s, survived_frame n later s)
survives_more t n o before later (Delete m) h s = grind (arith, nat_tests, survived_here n later s, survived_frame n later s)
survives_more t n o before later Pop h s =
    grind (arith, nat_tests, survived_here n later s, survived_frame n later s, depth_since n o before later h.0 s, frames_since n o before later h.0 s)
survives_more t n o before later Leave h s = grind (arith, nat_tests, survived_here n later s, survived_frame n later s, depth_since n o before later h.0 s)

-- the acts that a making is one of
abbrev pub whole : ℕ → Making → List Act
whole n m = m.later ++ Make n m.object ∷ m.before

-- the making that is found is one of the acts
splits_after : (n : ℕ) (a : Act) (acts : List Act) (found : Option Making) (m : Making) → ((k : Making) → found ≡ Some k → acts ≡ whole n k)
    → seen_after a found ≡ Some m → a ∷ acts ≡ whole n m
splits_after n a acts None m earlier is = cc
splits_after n a acts (Some k) m earlier is =
    let same : record k { later = a ∷ k.later } ≡ m = cc in
    let P : Making → Type 0 = λ x. a ∷ acts ≡ whole n x in
    subst P same (ap (λ l. a ∷ l) (earlier k refl))

splits_made : (n j o : ℕ) (acts : List Act) (m : Making) (same : Bool) → eqb j n ≡ same → ((k : Making) → making n acts ≡ Some k → acts ≡ whole n k)
    → (if same then Some (record { later = []; object = o; before = acts }) else seen_after (Make j o) (making n acts)) ≡ Some m → Make j o ∷ acts ≡ whole n m
splits_made n j o acts m true is earlier found =
    let eq : j ≡ n = eqb-true j n is in
    let made : record { later = []; object = o; before = acts } ≡ m = cc in
    let P : Making → Type 0 = λ x. Make j o ∷ acts ≡ whole n x in
    subst P made (ap (λ i. Make i o ∷ acts) eq)
splits_made n j o acts m false is earlier found = splits_after n (Make j o) acts (making n acts) m earlier found

pub making_splits : (n : ℕ) (acts : List Act) (m : Making) → making n acts ≡ Some m → acts ≡ whole n m
making_splits n [] m is = cc
making_splits n (Make j o ∷ acts) m is = splits_made n j o acts m (eqb j n) refl (making_splits n acts) is
making_splits n (Start ∷ acts) m is = splits_after n Start acts (making n acts) m (making_splits n acts) is
making_splits n (End ∷ acts) m is = splits_after n End acts (making n acts) m (making_splits n acts) is
making_splits n (Push room ∷ acts) m is = splits_after n (Push room) acts (making n acts) m (making_splits n acts) is
making_splits n (Ensure c ∷ acts) m is = splits_after n (Ensure c) acts (making n acts) m (making_splits n acts) is
making_splits n (Enter ∷ acts) m is = splits_after n Enter acts (making n acts) m (making_splits n acts) is
making_splits n (Delete j ∷ acts) m is = splits_after n (Delete j) acts (making n acts) m (making_splits n acts) is
making_splits n (Pop ∷ acts) m is = splits_after n Pop acts (making n acts) m (making_splits n acts) is
making_splits n (Leave ∷ acts) m is = splits_after n Leave acts (making n acts) m (making_splits n acts) is

-- the row of a local that is seen from one act later
row_step : (t n : ℕ) (a : Act) (m : Making) (alive : Bool) → survives n m.later ≡ alive → AllAllowed (a ∷ whole n m)
    → rows_of_local t (local_if_live n (Some (record m { later = a ∷ m.later })))
    ≡ filter (keeps a (depth (whole n m)) (frames (depth (whole n m)) (whole n m))) (rows_of_local t (local_if_live n (Some m)))
row_step t n a m true is h =
    let more = survives_more t n m.object m.before m.later a h is in
    grind (arith, nat_tests, more)
row_step t n a m false is h = rw is refl

pub rows_step : (t n : ℕ) (a : Act) (acts : List Act) (found : Option Making) → making n acts ≡ found → AllAllowed (a ∷ acts)
    → rows_of_local t (local_if_live n (seen_after a found))
    ≡ filter (keeps a (depth acts) (frames (depth acts) acts)) (rows_of_local t (local_if_live n found))
rows_step t n a acts None is h = refl
rows_step t n a acts (Some m) is h =
    let split = making_splits n acts m is in
    let P : List Act → Type 0 = λ xs. AllAllowed (a ∷ xs) → rows_of_local t (local_if_live n (seen_after a (Some m)))
    ≡ filter (keeps a (depth xs) (frames (depth xs) xs)) (rows_of_local t (local_if_live n (Some m))) in
    subst P (sym split) (λ k. row_step t n a m (survives n m.later) refl k) h

-- a local that survived was made in the session that still stands
session_since : (n o : ℕ) (before later : List Act) → AllAllowed (later ++ Make n o ∷ before) → survives n later ≡ true
    → has_session (later ++ Make n o ∷ before) ≡ true
session_since n o before [] h s = h.1
session_since n o before (Start ∷ later) h s = refl
session_since n o before (End ∷ later) h s = grind (arith, nat_tests)
session_since n o before (Make m p ∷ later) h s = session_since n o before later h.0 (survived_before n (Make m p) later s)
session_since n o before (Push room ∷ later) h s = session_since n o before later h.0 (survived_before n (Push room) later s)
session_since n o before (Ensure c ∷ later) h s = session_since n o before later h.0 (survived_before n (Ensure c) later s)
session_since n o before (Enter ∷ later) h s = session_since n o before later h.0 (survived_before n Enter later s)
session_since n o before (Delete m ∷ later) h s = session_since n o before later h.0 (survived_before n (Delete m) later s)
session_since n o before (Pop ∷ later) h s = session_since n o before later h.0 (survived_before n Pop later s)
session_since n o before (Leave ∷ later) h s = session_since n o before later h.0 (survived_before n Leave later s)

none_alive : (n : ℕ) (m : Making) (alive : Bool) → survives n m.later ≡ alive → AllAllowed (whole n m) → has_session (whole n m) ≡ false
    → local_if_live n (Some m) ≡ None
none_alive n m true is h none = let since = session_since n m.object m.before m.later h is in cc
none_alive n m false is h none = rw is refl

none_found : (n : ℕ) (acts : List Act) (found : Option Making) → making n acts ≡ found → AllAllowed acts → has_session acts ≡ false
    → local_if_live n found ≡ None
none_found n acts None is h none = refl
none_found n acts (Some m) is h none =
    let split = making_splits n acts m is in
    let P : List Act → Type 0 = λ xs. AllAllowed xs → has_session xs ≡ false → local_if_live n (Some m) ≡ None in
    subst P (sym split) (none_alive n m (survives n m.later) refl) h none

-- without a session no local is live
pub none_live : (n : ℕ) (acts : List Act) → AllAllowed acts → has_session acts ≡ false → live_local n acts ≡ None
none_live n acts h none = none_found n acts (making n acts) refl h none
