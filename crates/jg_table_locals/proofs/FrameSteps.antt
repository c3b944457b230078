-- What one more act does to the rows of open frames.
use Rattle.std.proofs.Common.{◌≡◌, ◌≢◌, ℕ, zero, suc, ◌+◌, ◌<◌, ◌≤◌, Bool, true, false, List, [], ◌∷◌, ◌++◌, refl, ◌∙◌, ap, sym, arith, append_assoc}
use Rattle.std.proofs.lemmas.List.{append-nil, map-append}
use Rattle.std.specs.Prelude.{◌==◌, ◌&&◌, not, if◌then◌else◌, filter, map}
use Rattle.std.proofs.lemmas.Bool.Decides.{nat_tests}
use Rattle.std.proofs.lemmas.List.Elements.{filter-append}
use Rattle.jg_table_locals.specs.History.{Act, Push, Ensure, Enter, Pop, Leave, has_session, depth, frames}
use Rattle.jg_table_locals.specs.Room.{greater, frame_room, held_here, room_here}
use Rattle.jg_table_locals.specs.Standing.{AllAllowed, row_of_frame, rows_at, rows_up_to, open_frames}
use Rattle.jg_table_locals.proofs.Looking.{leaves_at_most_enters, pops_at_most_pushes}
use Rattle.jg_table_locals.proofs.Rooms.{greater_none, room_pushed, room_of_others_pushed, room_ensured, room_of_others_ensured}
use Rattle.jg_table_locals.specs.Rows.{FrameRow}

-- the rows of an activation, and those up to a depth, tell the frames, their rooms, and no more
rows_at_same : (t d k : ℕ) (acts others : List Act) → ((j : ℕ) → j ≤ k → frame_room d j acts ≡ frame_room d j others)
    → rows_at t d k acts ≡ rows_at t d k others
rows_at_same t d zero acts others same = rw (same 0 (omega arith)) refl
rows_at_same t d (suc k) acts others same = rw (rows_at_same t d k acts others (λ j h. same j (omega arith)), same (suc k) (omega arith)) refl

pub rows_up_to_same : (t d : ℕ) (acts others : List Act) → ((k : ℕ) → k ≤ d → frames k acts ≡ frames k others)
    → ((i j : ℕ) → i ≤ d → j ≤ frames i others → frame_room i j acts ≡ frame_room i j others) → rows_up_to t d acts ≡ rows_up_to t d others
rows_up_to_same t zero acts others same rooms =
    ap (λ k. rows_at t 0 k acts) (same 0 (omega arith)) ∙ rows_at_same t 0 (frames 0 others) acts others (λ j h. rooms 0 j (omega arith) h)
rows_up_to_same t (suc d) acts others same rooms =
    let below = rows_up_to_same t d acts others (λ k h. same k (omega arith)) (λ i j h in_it. rooms i j (omega arith) in_it) in
    let here = ap (λ k. rows_at t (suc d) k acts) (same (suc d) (omega arith))
    ∙ rows_at_same t (suc d) (frames (suc d) others) acts others (λ j h. rooms (suc d) j (omega arith) h) in
    cc

frames_push : (d room : ℕ) (acts : List Act) → AllAllowed acts → d ≡ depth acts → frames d (Push room ∷ acts) ≡ suc (frames d acts)
frames_push d room acts h is = grind (arith, nat_tests, pops_at_most_pushes d acts h)

frames_other_push : (d room : ℕ) (acts : List Act) → d ≢ depth acts → frames d (Push room ∷ acts) ≡ frames d acts
frames_other_push d room acts differ = grind (arith, nat_tests)

frames_pop : (d : ℕ) (acts : List Act) → 0 < frames d acts → d ≡ depth acts → suc (frames d (Pop ∷ acts)) ≡ frames d acts
frames_pop d acts some is = grind (arith, nat_tests)

frames_other_pop : (d : ℕ) (acts : List Act) → d ≢ depth acts → frames d (Pop ∷ acts) ≡ frames d acts
frames_other_pop d acts differ = grind (arith, nat_tests)

pub frames_enter : (d : ℕ) (acts : List Act) → d ≡ suc (depth acts) → frames d (Enter ∷ acts) ≡ 0
frames_enter d acts is = grind (arith, nat_tests)

pub frames_other_enter : (d : ℕ) (acts : List Act) → d ≤ depth acts → frames d (Enter ∷ acts) ≡ frames d acts
frames_other_enter d acts below = grind (arith, nat_tests)

pub depth_enter : (acts : List Act) → AllAllowed acts → depth (Enter ∷ acts) ≡ suc (depth acts)
depth_enter acts h = omega (arith, leaves_at_most_enters acts h)

-- a filter that all rows of the lower depths pass
kept_at : (p : FrameRow → Bool) (t d k : ℕ) (acts : List Act)
    → ((j room : ℕ) → j ≤ k → p (record { tid = t; depth = d; frame = j; room = room }) ≡ true)
    → filter p (rows_at t d k acts) ≡ rows_at t d k acts
kept_at p t d zero acts passes = rw (passes 0 _ (omega arith)) refl
kept_at p t d (suc k) acts passes = rw (filter-append, kept_at p t d k acts (λ j room h. passes j room (omega arith)), passes (suc k) _ (omega arith)) refl

kept_up_to : (p : FrameRow → Bool) (t d : ℕ) (acts : List Act)
    → ((i j room : ℕ) → i ≤ d → p (record { tid = t; depth = i; frame = j; room = room }) ≡ true)
    → filter p (rows_up_to t d acts) ≡ rows_up_to t d acts
kept_up_to p t zero acts passes = kept_at p t 0 (frames 0 acts) acts (λ j room _. passes 0 j room (omega arith))
kept_up_to p t (suc d) acts passes =
    rw (
      filter-append,
      kept_up_to p t d acts (λ i j room h. passes i j room (omega arith)),
      kept_at p t (suc d) (frames (suc d) acts) acts
          (λ j room _. passes (suc d) j room (omega arith)),
    ) refl

dropped_at : (p : FrameRow → Bool) (t d k : ℕ) (acts : List Act) → ((j room : ℕ) → p (record { tid = t; depth = d; frame = j; room = room }) ≡ false)
    → filter p (rows_at t d k acts) ≡ []
dropped_at p t d zero acts fails = rw (fails 0 _) refl
dropped_at p t d (suc k) acts fails = rw (filter-append, dropped_at p t d k acts fails, fails (suc k) _) refl

abbrev pub row_pushed : ℕ → ℕ → ℕ → ℕ → FrameRow
row_pushed t d k room = record { tid = t; depth = d; frame = suc k; room = room }

rows_at-push : (t d room : ℕ) (acts : List Act) → AllAllowed acts → d ≡ depth acts
    → rows_at t d (frames d (Push room ∷ acts)) (Push room ∷ acts) ≡ rows_at t d (frames d acts) acts ++ row_pushed t d (frames d acts) room ∷ []
rows_at-push t d room acts h is =
    let below = rows_at_same t d (frames d acts) (Push room ∷ acts) acts (λ j le. room_of_others_pushed d j room acts le) in
    let here : row_of_frame t d (suc (frames d acts)) (Push room ∷ acts) ≡ row_pushed t d (frames d acts) room =
    ap (row_pushed t d (frames d acts)) (room_pushed d room acts is) in
    ap (λ k. rows_at t d k (Push room ∷ acts)) (frames_push d room acts h is)
    ∙ (ap (λ l. l ++ row_of_frame t d (suc (frames d acts)) (Push room ∷ acts) ∷ []) below ∙ ap (λ r. rows_at t d (frames d acts) acts ++ r ∷ []) here)

-- a push at the present depth
pub rows_up_to-push : (t d room : ℕ) (acts : List Act) → AllAllowed acts → d ≡ depth acts
    → rows_up_to t d (Push room ∷ acts) ≡ rows_up_to t d acts ++ row_pushed t d (frames d acts) room ∷ []
rows_up_to-push t zero room acts h is = rows_at-push t 0 room acts h is
rows_up_to-push t (suc d) room acts h is =
    let below = rows_up_to_same t d (Push room ∷ acts) acts (λ k le. frames_other_push k room acts (omega arith))
    (λ i j le in_it. room_of_others_pushed i j room acts in_it) in
    let here = rows_at-push t (suc d) room acts h is in
    rw (below, here) (rw append_assoc refl)

-- the row is not that one frame's
abbrev pub is_not_frame : ℕ → ℕ → ℕ → FrameRow → Bool
is_not_frame t d f row = not (row.tid == t && (row.depth == d && row.frame == f))

-- the row is of another thread, or of another depth
abbrev pub is_not_depth : ℕ → ℕ → FrameRow → Bool
is_not_depth t d row = not (row.tid == t && row.depth == d)

last_dropped : (p : FrameRow → Bool) (t d k : ℕ) (acts : List Act) → ((j room : ℕ) → j ≤ k → p (record { tid = t; depth = d; frame = j; room = room }) ≡ true)
    → ((room : ℕ) → p (record { tid = t; depth = d; frame = suc k; room = room }) ≡ false) → filter p (rows_at t d (suc k) acts) ≡ rows_at t d k acts
last_dropped p t d k acts passes fails = rw (filter-append, kept_at p t d k acts passes, fails _) (append-nil _)

-- the newest frame at the depth goes
frame_dropped : (t d k : ℕ) (acts : List Act) → filter (is_not_frame t d (suc k)) (rows_at t d (suc k) acts) ≡ rows_at t d k acts
frame_dropped t d k acts = last_dropped (is_not_frame t d (suc k)) t d k acts (λ j room h. grind (arith, nat_tests)) (λ room. grind (arith, nat_tests))

rows_at-pop : (t d : ℕ) (acts : List Act) → 0 < frames d acts → d ≡ depth acts
    → filter (is_not_frame t d (frames d acts)) (rows_at t d (frames d acts) acts) ≡ rows_at t d (frames d (Pop ∷ acts)) (Pop ∷ acts)
rows_at-pop t d acts some is =
    let gone : filter (is_not_frame t d (frames d acts)) (rows_at t d (frames d acts) acts) ≡ rows_at t d (frames d (Pop ∷ acts)) acts =
    rw (← frames_pop d acts some is) (frame_dropped t d (frames d (Pop ∷ acts)) acts) in
    gone ∙ rows_at_same t d (frames d (Pop ∷ acts)) acts (Pop ∷ acts) (λ j h. sym (greater_none (frame_room d j acts)))

-- the newest frame at the present depth is popped
pub rows_up_to-pop : (t d : ℕ) (acts : List Act) → 0 < frames d acts → d ≡ depth acts
    → filter (is_not_frame t d (frames d acts)) (rows_up_to t d acts) ≡ rows_up_to t d (Pop ∷ acts)
rows_up_to-pop t zero acts some is = rows_at-pop t 0 acts some is
rows_up_to-pop t (suc d) acts some is =
    let below = kept_up_to (is_not_frame t (suc d) (frames (suc d) acts)) t d acts (λ i j room h. grind (arith, nat_tests)) in
    let same = rows_up_to_same t d acts (Pop ∷ acts) (λ k h. sym (frames_other_pop k acts (omega arith)))
    (λ i j h in_it. sym (greater_none (frame_room i j acts))) in
    let here = rows_at-pop t (suc d) acts some is in
    rw (filter-append, below, same, here) refl

-- the present activation is left
pub rows_up_to-leave : (t d : ℕ) (acts : List Act) → suc d ≡ depth acts
    → filter (is_not_depth t (suc d)) (rows_up_to t (suc d) acts) ≡ rows_up_to t d (Leave ∷ acts)
rows_up_to-leave t d acts is =
    let below = kept_up_to (is_not_depth t (suc d)) t d acts (λ i j room h. grind (arith, nat_tests)) in
    let same = rows_up_to_same t d acts (Leave ∷ acts) (λ k h. refl) (λ i j h in_it. sym (greater_none (frame_room i j acts))) in
    let here = dropped_at (is_not_depth t (suc d)) t (suc d) (frames (suc d) acts) acts (λ j room. grind (arith, nat_tests)) in
    rw (filter-append, below, same, here) (append-nil _)

dropped_up_to : (p : FrameRow → Bool) (t d : ℕ) (acts : List Act) → ((i j room : ℕ) → p (record { tid = t; depth = i; frame = j; room = room }) ≡ false)
    → filter p (rows_up_to t d acts) ≡ []
dropped_up_to p t zero acts fails = dropped_at p t 0 (frames 0 acts) acts (fails 0)
dropped_up_to p t (suc d) acts fails =
    rw (filter-append, dropped_up_to p t d acts fails, dropped_at p t (suc d) (frames (suc d) acts) acts (fails (suc d))) refl

pub dropped_open : (p : FrameRow → Bool) (t : ℕ) (acts : List Act) → ((i j room : ℕ) → p (record { tid = t; depth = i; frame = j; room = room }) ≡ false)
    → filter p (open_frames t acts) ≡ []
dropped_open p t acts fails =
    elim (has_session acts) as (λ b. filter p (if b then rows_up_to t (depth acts) acts else []) ≡ [])
    [ true ↦ dropped_up_to p t (depth acts) acts fails | false ↦ refl ]

-- ---- the present frame has more room

-- the row with that room, where it is the frame's
abbrev pub raised : ℕ → ℕ → ℕ → ℕ → FrameRow → FrameRow
raised t d k room row = if row.tid == t && (row.depth == d && row.frame == k) then record row { room = room } else row

rows_at-map : (g : FrameRow → FrameRow) (t d k : ℕ) (acts others : List Act) → ((j : ℕ) → j ≤ k → g (row_of_frame t d j acts) ≡ row_of_frame t d j others)
    → map g (rows_at t d k acts) ≡ rows_at t d k others
rows_at-map g t d zero acts others each = ap (λ r. r ∷ []) (each 0 (omega arith))
rows_at-map g t d (suc k) acts others each =
    map-append g (rows_at t d k acts) (row_of_frame t d (suc k) acts ∷ [])
    ∙ (ap (λ l. l ++ g (row_of_frame t d (suc k) acts) ∷ []) (rows_at-map g t d k acts others (λ j h. each j (omega arith)))
    ∙ ap (λ r. rows_at t d k others ++ r ∷ []) (each (suc k) (omega arith)))

rows_up_to-map : (g : FrameRow → FrameRow) (t d : ℕ) (acts others : List Act) → ((k : ℕ) → frames k others ≡ frames k acts)
    → ((i j : ℕ) → g (row_of_frame t i j acts) ≡ row_of_frame t i j others) → map g (rows_up_to t d acts) ≡ rows_up_to t d others
rows_up_to-map g t zero acts others same each =
    rows_at-map g t 0 (frames 0 acts) acts others (λ j h. each 0 j) ∙ ap (λ k. rows_at t 0 k others) (sym (same 0))
rows_up_to-map g t (suc d) acts others same each =
    let below = rows_up_to-map g t d acts others same each in
    let here = rows_at-map g t (suc d) (frames (suc d) acts) acts others (λ j h. each (suc d) j) ∙ ap (λ k. rows_at t (suc d) k others) (sym (same (suc d))) in
    map-append g (rows_up_to t d acts) (rows_at t (suc d) (frames (suc d) acts) acts)
    ∙ (ap (λ l. l ++ map g (rows_at t (suc d) (frames (suc d) acts) acts)) below ∙ ap (λ l. rows_up_to t d others ++ l) here)

-- what EnsureLocalCapacity makes the present frame's room
abbrev pub room_after : ℕ → List Act → ℕ
room_after c acts = greater (room_here acts) (c + held_here acts)

raised_at : (t c i j : ℕ) (acts : List Act) (b : Bool) → (i == depth acts && j == frames (depth acts) acts) ≡ b
    → raised t (depth acts) (frames (depth acts) acts) (room_after c acts) (row_of_frame t i j acts) ≡ row_of_frame t i j (Ensure c ∷ acts)
raised_at t c i j acts true is =
    let mine : (t == t && (i == depth acts && j == frames (depth acts) acts)) ≡ true = grind (arith, nat_tests, is) in
    let deep : i ≡ depth acts = grind (arith, nat_tests, is) in
    let here : j ≡ frames (depth acts) acts = grind (arith, nat_tests, is) in
    let place : row_of_frame t (depth acts) (frames (depth acts) acts) (Ensure c ∷ acts)
    ≡ record { tid = t; depth = depth acts; frame = frames (depth acts) acts; room = room_after c acts } =
    ap (λ x. record { tid = t; depth = depth acts; frame = frames (depth acts) acts; room = x })
    (room_ensured (depth acts) (frames (depth acts) acts) c acts refl refl) in
    let same : row_of_frame t i j (Ensure c ∷ acts) ≡ row_of_frame t (depth acts) (frames (depth acts) acts) (Ensure c ∷ acts) =
    ap (λ x. row_of_frame t x j (Ensure c ∷ acts)) deep ∙ ap (λ x. row_of_frame t (depth acts) x (Ensure c ∷ acts)) here in
    rw mine (ap (λ x. record { tid = t; depth = x; frame = j; room = room_after c acts }) deep
    ∙ (ap (λ x. record { tid = t; depth = depth acts; frame = x; room = room_after c acts }) here ∙ sym (same ∙ place)))
raised_at t c i j acts false is =
    let other : (t == t && (i == depth acts && j == frames (depth acts) acts)) ≡ false = grind (arith, nat_tests, is) in
    let apart : (i == depth acts && j == frames i acts) ≡ false = grind (arith, nat_tests, is) in
    rw other (ap (λ x. record { tid = t; depth = i; frame = j; room = x }) (sym (room_of_others_ensured i j c acts apart)))

pub rows_up_to-ensure : (t d c : ℕ) (acts : List Act)
    → map (raised t (depth acts) (frames (depth acts) acts) (room_after c acts)) (rows_up_to t d acts) ≡ rows_up_to t d (Ensure c ∷ acts)
rows_up_to-ensure t d c acts =
    rows_up_to-map (raised t (depth acts) (frames (depth acts) acts) (room_after c acts)) t d acts (Ensure c ∷ acts) (λ k. refl)
    (λ i j. raised_at t c i j acts (i == depth acts && j == frames (depth acts) acts) refl)
