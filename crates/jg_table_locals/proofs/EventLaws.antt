-- The rows stand after each event, if they stood before it.
use Rattle.std.proofs.Common.{◌≡◌, ◌≢◌, ℕ, suc, ◌+◌, ◌-◌, ◌<◌, Bool, true, false, List, [], ◌∷◌, ◌++◌, Some, None, refl, sym, subst, arith, add-one, eqb, eqb-true}
use Rattle.std.specs.Prelude.{◌==◌, ◌&&◌, not, if◌then◌else◌, filter, map}
use Rattle.std.proofs.lemmas.Bool.Decides.{nat_tests}
use Rattle.std.proofs.lemmas.List.{append-nil}
use Rattle.std.proofs.lemmas.List.Elements.{filter-append}
use Rattle.jg_lists.specs.Acts.{how_many}
use Rattle.jg_table_locals.specs.History.{Act, Start, Make, Push, Ensure, Enter, Delete, Pop, Leave, End, Event, by, acts_of, has_session, depth, frames, making, live_local}
use Rattle.jg_table_locals.specs.Rows.{LocalRow}
use Rattle.jg_table_locals.specs.Rows.{FrameRow}
use Rattle.jg_table_locals.specs.Rows.{Rows, is_local, is_of_frame, top}
use Rattle.jg_table_locals.specs.Room.{promised, greater, frame_room, held_here}
use Rattle.jg_table_locals.specs.Standing.{AllAllowed, rows_of_local, row_of_frame, open_frames, Stands}
use Rattle.jg_table_locals.proofs.LocalSteps.{row_made, rows_step, none_live}
use Rattle.jg_table_locals.proofs.FrameSteps.{is_not_frame, is_not_depth, row_pushed, raised, rows_up_to_same, rows_up_to-push, rows_up_to-pop, rows_up_to-leave, rows_up_to-ensure, depth_enter, frames_enter, frames_other_enter, dropped_open}
use Rattle.jg_table_locals.proofs.Rooms.{greater_none, room_entered, room_of_others_entered}
use Rattle.jg_table_locals.proofs.Holding.{held_told}
use Rattle.jg_table_locals.proofs.Tops.{by_top, by_no_top}
use Rattle.jg_lists.proofs.Acts.{acts_more, acts_same, each_thread}
use Rattle.jg_lists.proofs.Lists.{filter_all}
use Rattle.jg_table_locals.proofs.StandingSteps.{locals_kept, locals_same, frames_kept, frames_added, frames_changed, frames_same, allowed_more}

open_frames-push : (t room : ℕ) (acts : List Act) → AllAllowed acts → has_session acts ≡ true
    → open_frames t acts ++ row_pushed t (depth acts) (frames (depth acts) acts) room ∷ [] ≡ open_frames t (Push room ∷ acts)
open_frames-push t room acts h is = rw is (sym (rows_up_to-push t (depth acts) room acts h refl))

push_stands : (rows : Rows) (e : List Event) (u room : ℕ) → Stands rows e → has_session (acts_of u e) ≡ true
    → Stands (record {
      locals = rows.locals;
      frames =
          rows.frames ++ row_pushed u (depth (acts_of u e)) (frames (depth (acts_of u e)) (acts_of u e)) room ∷ [];
    }) (by u (Push room) ∷ e)
push_stands rows e u room stands is = record {
  locals = locals_same rows.locals u (Push room) e stands.locals (stands.allowed u, is) (λ n. refl) (λ row. refl);
  frames = frames_added rows.frames u (Push room) e _ stands.frames refl (open_frames-push u room (acts_of u e) (stands.allowed u) is);
  allowed = allowed_more u (Push room) e stands.allowed is;
}

open_frames-pop : (t : ℕ) (acts : List Act) → has_session acts ≡ true → 0 < frames (depth acts) acts
    → filter (is_not_frame t (depth acts) (frames (depth acts) acts)) (open_frames t acts) ≡ open_frames t (Pop ∷ acts)
open_frames-pop t acts is some = rw is (rows_up_to-pop t (depth acts) acts some refl)

pub push_law : (rows : Rows) (e : List Event) (u room : ℕ) (r : FrameRow) → Stands rows e → top u rows.frames ≡ Some r
    → Stands (record { locals = rows.locals; frames = rows.frames ++ record { tid = u; depth = r.depth; frame = r.frame + 1; room = room } ∷ [] })
    (by u (Push room) ∷ e)
push_law rows e u room r stands is =
    by_top rows e u r (λ x.
    Stands (record {
      locals = rows.locals;
      frames = rows.frames ++ record { tid = u; depth = x.depth; frame = x.frame + 1; room = room } ∷ [];
    })
    (by u (Push room) ∷ e)) stands is
    (λ open_session. rw add-one (push_stands rows e u room stands open_session))

-- the local is not of that frame
abbrev pub is_not_in : ℕ → ℕ → ℕ → LocalRow → Bool
is_not_in t d f row = not (row.tid == t && (row.depth == d && row.frame == f))

pub pop_law : (rows : Rows) (e : List Event) (u : ℕ) (r : FrameRow) → Stands rows e → top u rows.frames ≡ Some r → 0 < r.frame
    → Stands (record { locals = filter (is_not_in u r.depth r.frame) rows.locals; frames = filter (is_not_frame u r.depth r.frame) rows.frames }) (by u Pop ∷ e)
pop_law rows e u r stands is =
    by_top rows e u r (λ x. 0 < x.frame
    → Stands (record { locals = filter (is_not_in u x.depth x.frame) rows.locals; frames = filter (is_not_frame u x.depth x.frame) rows.frames })
    (by u Pop ∷ e))
    stands is
    (λ open_session some. record {
      locals = locals_kept rows.locals u Pop e _ stands.locals (stands.allowed u, some) (λ n. refl) (λ row same. grind (arith, nat_tests))
          (λ row differ. grind (arith, nat_tests));
      frames = frames_kept rows.frames u Pop e _ stands.frames (open_frames-pop u (acts_of u e) open_session some) (λ row differ. grind (arith, nat_tests));
      allowed = allowed_more u Pop e stands.allowed some;
    })

open_frames-leave : (t d : ℕ) (acts : List Act) → has_session acts ≡ true → suc d ≡ depth acts
    → filter (is_not_depth t (depth acts)) (open_frames t acts) ≡ open_frames t (Leave ∷ acts)
open_frames-leave t d acts is at =
    let now : depth (Leave ∷ acts) ≡ d = omega arith in
    rw (is, now, ← at) (rows_up_to-leave t d acts at)

-- the local is of another activation
abbrev pub is_not_at : ℕ → ℕ → LocalRow → Bool
is_not_at t d row = not (row.tid == t && row.depth == d)

pub leave_law : (rows : Rows) (e : List Event) (u : ℕ) (r : FrameRow) → Stands rows e → top u rows.frames ≡ Some r → 0 < r.depth
    → Stands (record { locals = filter (is_not_at u r.depth) rows.locals; frames = filter (is_not_depth u r.depth) rows.frames }) (by u Leave ∷ e)
leave_law rows e u r stands is =
    by_top rows e u r (λ x. 0 < x.depth
    → Stands (record { locals = filter (is_not_at u x.depth) rows.locals; frames = filter (is_not_depth u x.depth) rows.frames }) (by u Leave ∷ e)) stands
    is
    (λ open_session some. record {
      locals = locals_kept rows.locals u Leave e _ stands.locals (stands.allowed u, some) (λ n. refl) (λ row same. grind (arith, nat_tests))
          (λ row differ. grind (arith, nat_tests));
      frames = frames_kept rows.frames u Leave e _ stands.frames (open_frames-leave u (depth (acts_of u e) - 1) (acts_of u e) open_session (omega arith))
          (λ row differ. grind (arith, nat_tests));
      allowed = allowed_more u Leave e stands.allowed some;
    })

open_frames-enter : (t : ℕ) (acts : List Act) → AllAllowed acts → has_session acts ≡ true
    → open_frames t acts ++ record { tid = t; depth = suc (depth acts); frame = 0; room = promised } ∷ [] ≡ open_frames t (Enter ∷ acts)
open_frames-enter t acts h is =
    let deeper = depth_enter acts h in
    let below = rows_up_to_same t (depth acts) (Enter ∷ acts) acts (λ k le. frames_other_enter k acts le) (λ i j le in_it. room_of_others_entered i j acts le)
    in
    let here = frames_enter (suc (depth acts)) acts refl in
    rw (is, deeper, below, here, room_entered (suc (depth acts)) acts refl) refl

pub enter_law : (rows : Rows) (e : List Event) (u : ℕ) (r : FrameRow) → Stands rows e → top u rows.frames ≡ Some r
    → Stands (record { locals = rows.locals; frames = rows.frames ++ record { tid = u; depth = r.depth + 1; frame = 0; room = promised } ∷ [] })
    (by u Enter ∷ e)
enter_law rows e u r stands is =
    by_top rows e u r (λ x. Stands
    (record { locals = rows.locals; frames = rows.frames ++ record { tid = u; depth = x.depth + 1; frame = 0; room = promised } ∷ [] }) (by u Enter ∷ e))
    stands is
    (λ open_session. rw add-one record {
      locals = locals_same rows.locals u Enter e stands.locals (stands.allowed u, open_session) (λ n. refl) (λ row. refl);
      frames = frames_added rows.frames u Enter e _ stands.frames refl (open_frames-enter u (acts_of u e) (stands.allowed u) open_session);
      allowed = allowed_more u Enter e stands.allowed open_session;
    })

start_locals : (rows : Rows) (e : List Event) (u n : ℕ) → Stands rows e → has_session (acts_of u e) ≡ false
    → filter (is_local u n) rows.locals ≡ rows_of_local u (live_local n (Start ∷ acts_of u e))
start_locals rows e u n stands none =
    let nothing = none_live n (acts_of u e) (stands.allowed u) none in
    let step = rows_step u n Start (acts_of u e) (making n (acts_of u e)) refl (stands.allowed u, none) in
    let before = stands.locals u n in
    rw (before, step, nothing) refl

pub start_law : (rows : Rows) (e : List Event) (u : ℕ) → Stands rows e → top u rows.frames ≡ None
    → Stands (record { locals = rows.locals; frames = rows.frames ++ record { tid = u; depth = 0; frame = 0; room = promised } ∷ [] }) (by u Start ∷ e)
start_law rows e u stands is =
    let none = by_no_top rows e u stands is in
    record {
      locals = λ t n. each_thread (λ v. filter (is_local v n) rows.locals ≡ rows_of_local v (live_local n (acts_of v (by u Start ∷ e)))) u
          (rw (acts_more u u Start e refl) (start_locals rows e u n stands none))
          (λ v differ. rw (acts_same v u Start e differ) (stands.locals v n))
          t;
      frames = frames_added rows.frames u Start e _ stands.frames refl (rw none refl);
      allowed = allowed_more u Start e stands.allowed none;
    }

pub end_law : (rows : Rows) (e : List Event) (u : ℕ) → Stands rows e
    → Stands (record { locals = filter (λ row. not (row.tid == u)) rows.locals; frames = filter (λ row. not (row.tid == u)) rows.frames }) (by u End ∷ e)
end_law rows e u stands = record {
  locals = locals_kept rows.locals u End e _ stands.locals (stands.allowed u, tt) (λ n. refl) (λ row same. grind (arith, nat_tests))
      (λ row differ. grind (arith, nat_tests));
  frames = frames_kept rows.frames u End e _ stands.frames (dropped_open _ u (acts_of u e) (λ i j room. grind (arith, nat_tests)))
      (λ row differ. grind (arith, nat_tests));
  allowed = allowed_more u End e stands.allowed tt;
}

-- the act opens and closes no frame
quiet : (t : ℕ) (a : Act) (acts : List Act) → has_session (a ∷ acts) ≡ has_session acts → depth (a ∷ acts) ≡ depth acts
    → ((k : ℕ) → frames k (a ∷ acts) ≡ frames k acts)
    → ((i j : ℕ) → frame_room i j (a ∷ acts) ≡ frame_room i j acts)
    → open_frames t acts ≡ open_frames t (a ∷ acts)
quiet t a acts session_same depth_same same rooms =
    let all = rows_up_to_same t (depth acts) (a ∷ acts) acts (λ k h. same k) (λ i j le in_it. rooms i j) in
    rw (session_same, depth_same, all) refl

pub delete_law : (rows : Rows) (e : List Event) (u n : ℕ) → Stands rows e
    → Stands (record { locals = filter (λ row. not (row.tid == u && row.n == n)) rows.locals; frames = rows.frames }) (by u (Delete n) ∷ e)
delete_law rows e u n stands = record {
  locals = locals_kept rows.locals u (Delete n) e _ stands.locals (stands.allowed u, tt) (λ k. refl) (λ row same. grind (arith, nat_tests))
      (λ row differ. grind (arith, nat_tests));
  frames = frames_same rows.frames u (Delete n) e stands.frames
      (quiet u (Delete n) (acts_of u e) refl refl (λ k. refl) (λ i j. greater_none (frame_room i j (acts_of u e))));
  allowed = allowed_more u (Delete n) e stands.allowed tt;
}

made_here : (u n o k : ℕ) (acts : List Act) (locals : List LocalRow) (same : Bool) → eqb n k ≡ same → AllAllowed (Make n o ∷ acts)
    → filter (is_local u k) locals ≡ rows_of_local u (live_local k acts) → filter (is_local u n) locals ≡ []
    → filter (is_local u k) (locals ++ row_made u n o acts ∷ []) ≡ rows_of_local u (live_local k (Make n o ∷ acts))
made_here u n o k acts locals true is h was fresh =
    let eq = eqb-true n k is in
    let P : ℕ → Type 0 = λ x. filter (is_local u x) (locals ++ row_made u n o acts ∷ []) ≡ rows_of_local u (live_local x (Make n o ∷ acts)) in
    let yes : is_local u n (row_made u n o acts) ≡ true = grind (arith, nat_tests) in
    let self : (n == n) ≡ true = grind (arith, nat_tests) in
    subst P eq (rw (filter-append, fresh, yes, self) refl)
made_here u n o k acts locals false is h was fresh =
    let no : is_local u k (row_made u n o acts) ≡ false = grind (arith, nat_tests) in
    let step = rows_step u k (Make n o) acts (making k acts) refl h in
    rw (filter-append, was, no, is, step, filter_all) (append-nil _)

make_stands : (rows : Rows) (e : List Event) (u n o : ℕ) → Stands rows e → has_session (acts_of u e) ≡ true → filter (is_local u n) rows.locals ≡ []
    → Stands (record { locals = rows.locals ++ row_made u n o (acts_of u e) ∷ []; frames = rows.frames }) (by u (Make n o) ∷ e)
make_stands rows e u n o stands is fresh = record {
  locals = λ t k. each_thread
      (λ v. filter (is_local v k) (rows.locals ++ row_made u n o (acts_of u e) ∷ []) ≡ rows_of_local v (live_local k (acts_of v (by u (Make n o) ∷ e)))) u
      (rw (acts_more u u (Make n o) e refl) (made_here u n o k (acts_of u e) rows.locals (eqb n k) refl (stands.allowed u, is) (stands.locals u k) fresh))
      (λ v differ.
      let no : is_local v k (row_made u n o (acts_of u e)) ≡ false = grind (arith, nat_tests) in
      rw (acts_same v u (Make n o) e differ, filter-append, stands.locals v k, no) (append-nil _))
      t;
  frames = frames_same rows.frames u (Make n o) e stands.frames
      (quiet u (Make n o) (acts_of u e) refl refl (λ k. refl) (λ i j. greater_none (frame_room i j (acts_of u e))));
  allowed = allowed_more u (Make n o) e stands.allowed is;
}

pub make_law : (rows : Rows) (e : List Event) (u n o : ℕ) (r : FrameRow) → Stands rows e → top u rows.frames ≡ Some r
    → filter (is_local u n) rows.locals ≡ []
    → Stands (record { locals = rows.locals ++ record { tid = u; n = n; object = o; depth = r.depth; frame = r.frame } ∷ []; frames = rows.frames })
    (by u (Make n o) ∷ e)
make_law rows e u n o r stands is fresh =
    by_top rows e u r (λ x. Stands
    (record { locals = rows.locals ++ record { tid = u; n = n; object = o; depth = x.depth; frame = x.frame } ∷ []; frames = rows.frames })
    (by u (Make n o) ∷ e)) stands
    is
    (λ open_session. make_stands rows e u n o stands open_session fresh)

open_frames-ensure : (t c : ℕ) (acts : List Act) → has_session acts ≡ true
    → map (raised t (depth acts) (frames (depth acts) acts)
    (greater (frame_room (depth acts) (frames (depth acts) acts) acts) (c + held_here acts))) (open_frames t acts)
    ≡ open_frames t (Ensure c ∷ acts)
open_frames-ensure t c acts is = rw is (rows_up_to-ensure t (depth acts) c acts)

pub other_raised : (t d k room : ℕ) (row : FrameRow) → row.tid ≢ t → raised t d k room row ≡ row
other_raised t d k room row differ =
    let fails : (row.tid == t && (row.depth == d && row.frame == k)) ≡ false = grind (arith, nat_tests) in
    rw fails refl

pub same_tid : (t d k room : ℕ) (row : FrameRow) → (raised t d k room row).tid ≡ row.tid
same_tid t d k room row =
    elim (row.tid == t && (row.depth == d && row.frame == k)) as (λ b. (if b then record row { room = room } else row).tid ≡ row.tid)
    [ true ↦ refl | false ↦ refl ]

-- the room that EnsureLocalCapacity makes the frame's, as its row and the rows of locals tell it
abbrev pub room_made : ℕ → FrameRow → List LocalRow → ℕ
room_made c r locals = greater r.room (c + how_many (is_of_frame r) locals)

pub ensure_law : (rows : Rows) (e : List Event) (u c : ℕ) (r : FrameRow) → Stands rows e → top u rows.frames ≡ Some r
    → Stands (record { locals = rows.locals; frames = map (raised u r.depth r.frame (room_made c r rows.locals)) rows.frames }) (by u (Ensure c) ∷ e)
ensure_law rows e u c r stands is =
    by_top rows e u r (λ x. Stands (record { locals = rows.locals; frames = map (raised u x.depth x.frame (room_made c x rows.locals)) rows.frames })
    (by u (Ensure c) ∷ e)) stands is
    (λ open_session.
    let acts = acts_of u e in
    let holds = held_told rows e (row_of_frame u (depth acts) (frames (depth acts) acts) acts) stands in
    rw holds record {
      locals = locals_same rows.locals u (Ensure c) e stands.locals (stands.allowed u, open_session) (λ n. refl) (λ row. refl);
      frames = frames_changed rows.frames u (Ensure c) e _ stands.frames (open_frames-ensure u c acts open_session) (λ row. same_tid u _ _ _ row)
          (λ row differ. other_raised u _ _ _ row differ);
      allowed = allowed_more u (Ensure c) e stands.allowed open_session;
    })
