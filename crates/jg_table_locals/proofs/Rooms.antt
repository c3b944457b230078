-- What one more act does to a frame's room.
use Rattle.std.proofs.Common.{◌≡◌, ℕ, suc, ◌+◌, ◌≤◌, Bool, true, false, List, [], ◌∷◌, ◌++◌, refl, arith}
use Rattle.std.specs.Prelude.{◌==◌, ◌&&◌}
use Rattle.std.specs.Option.{is_some}
use Rattle.std.specs.List.{list_any}
use Rattle.jg_lists.specs.Acts.{moments}
use Rattle.jg_table_locals.specs.Laws.{opens_at, RoomMeans}
use Rattle.std.proofs.lemmas.Bool.Decides.{nat_tests}
use Rattle.std.proofs.option.Match.{None-if_not_some}
use Rattle.std.proofs.lemmas.Bool.{or_parts}
use Rattle.jg_table_locals.specs.History.{Act, Push, Ensure, Enter, depth, frames}
use Rattle.jg_table_locals.specs.Room.{promised, held, only_if, greater, if_opened, opened_with, frame_room}

pub greater_none : (a : ℕ) → greater a 0 ≡ a
greater_none a = grind (arith, nat_tests)

is_opened : (b : Bool) (room before : ℕ) → b ≡ true → if_opened (only_if b room) before ≡ room
is_opened true room before is = refl
is_opened false room before is = cc

not_opened : (b : Bool) (room before : ℕ) → b ≡ false → if_opened (only_if b room) (greater before 0) ≡ before
not_opened true room before is = cc
not_opened false room before is = greater_none before

pub room_pushed : (d room : ℕ) (acts : List Act) → d ≡ depth acts → frame_room d (suc (frames d acts)) (Push room ∷ acts) ≡ room
room_pushed d room acts is = is_opened (depth acts == d && frames d acts + 1 == suc (frames d acts)) room _ (grind (arith, nat_tests))

pub room_of_others_pushed : (d k room : ℕ) (acts : List Act) → k ≤ frames d acts → frame_room d k (Push room ∷ acts) ≡ frame_room d k acts
room_of_others_pushed d k room acts le = not_opened (depth acts == d && frames d acts + 1 == k) room (frame_room d k acts) (grind (arith, nat_tests, le))

pub room_entered : (d : ℕ) (acts : List Act) → d ≡ suc (depth acts) → frame_room d 0 (Enter ∷ acts) ≡ promised
room_entered d acts is = is_opened (depth acts + 1 == d && 0 == 0) promised _ (grind (arith, nat_tests))

pub room_of_others_entered : (d k : ℕ) (acts : List Act) → d ≤ depth acts → frame_room d k (Enter ∷ acts) ≡ frame_room d k acts
room_of_others_entered d k acts le = not_opened (depth acts + 1 == d && k == 0) promised (frame_room d k acts) (grind (arith, nat_tests, le))

pub room_ensured : (d k c : ℕ) (acts : List Act) → d ≡ depth acts → k ≡ frames d acts
    → frame_room d k (Ensure c ∷ acts) ≡ greater (frame_room d k acts) (c + held d k acts)
room_ensured d k c acts at here =
    let is : (depth acts == d && frames d acts == k) ≡ true = grind (arith, nat_tests) in
    rw is refl

pub room_of_others_ensured : (d k c : ℕ) (acts : List Act) → (d == depth acts && k == frames d acts) ≡ false
    → frame_room d k (Ensure c ∷ acts) ≡ frame_room d k acts
room_of_others_ensured d k c acts apart =
    let is : (depth acts == d && frames d acts == k) ≡ false = grind (arith, nat_tests, apart) in
    rw is (greater_none (frame_room d k acts))

pub room_means : RoomMeans
room_means d k room [] before a is none = rw is refl
room_means d k room (x ∷ later) before a is none =
    let both = or_parts (is_some (opened_with d k x (later ++ a ∷ before))) (list_any (opens_at d k) (moments later (a ∷ before))) none in
    rw (None-if_not_some (opened_with d k x (later ++ a ∷ before)) both.0, room_means d k room later before a is both.1) refl
