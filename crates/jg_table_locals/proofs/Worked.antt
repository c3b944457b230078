-- The definitions at worked lists of acts, the newest first: each fact holds by computing.
use Rattle.std.proofs.Common.{◌≡◌, true, false, List, [], ◌∷◌, Some, None, refl}
use Rattle.jg_table_locals.specs.History.{Act, Start, Make, Push, Ensure, Enter, Delete, Pop, Leave, End, depth, frames, live}
use Rattle.jg_table_locals.specs.Room.{held, held_here, room_here, crowded}

abbrev frames_of_a_native : List Act
frames_of_a_native = Leave ∷ Make 3 9 ∷ Push 5 ∷ Push 5 ∷ Make 2 8 ∷ Enter ∷ Make 1 7 ∷ Start ∷ []

outer_stays : live 1 frames_of_a_native ≡ Some 7
outer_stays = refl

activation_goes : live 2 frames_of_a_native ≡ None
activation_goes = refl

pushed_goes : live 3 frames_of_a_native ≡ None
pushed_goes = refl

none_pushed : frames (depth frames_of_a_native) frames_of_a_native ≡ 0
none_pushed = refl

-- a pop ends what was made in the frame, and what was made before it stays
popped_goes : live 2 (Pop ∷ Make 2 8 ∷ Push 5 ∷ Make 1 7 ∷ Start ∷ []) ≡ None
popped_goes = refl

below_stays : live 1 (Pop ∷ Make 2 8 ∷ Push 5 ∷ Make 1 7 ∷ Start ∷ []) ≡ Some 7
below_stays = refl

-- a pop at another depth ends nothing outside
outside_stays : live 1 (Pop ∷ Push 5 ∷ Enter ∷ Make 1 7 ∷ Push 5 ∷ Start ∷ []) ≡ Some 7
outside_stays = refl

-- a frame pushed before the native method was entered is not counted in it
not_through_native : frames (depth (Enter ∷ Push 5 ∷ Start ∷ [])) (Enter ∷ Push 5 ∷ Start ∷ []) ≡ 0
not_through_native = refl

back_outside : frames 0 (Leave ∷ Enter ∷ Push 5 ∷ Start ∷ []) ≡ 1
back_outside = refl

session_ends : live 1 (Start ∷ End ∷ Make 1 7 ∷ Start ∷ []) ≡ None
session_ends = refl

-- ---- room

-- a frame pushed for one, with two: a deletion lowers what it holds; room asked for is beside what is held
abbrev pushed_for_one : List Act
pushed_for_one = Make 2 8 ∷ Make 1 7 ∷ Push 1 ∷ Start ∷ []

two_are_held : held_here pushed_for_one ≡ 2
two_are_held = refl

two_are_too_many : crowded pushed_for_one ≡ true
two_are_too_many = refl

one_is_held : held_here (Delete 1 ∷ pushed_for_one) ≡ 1
one_is_held = refl

one_fits : crowded (Delete 1 ∷ pushed_for_one) ≡ false
one_fits = refl

room_beside : room_here (Ensure 1 ∷ pushed_for_one) ≡ 3
room_beside = refl

room_never_falls : room_here (Ensure 0 ∷ Ensure 5 ∷ pushed_for_one) ≡ 7
room_never_falls = refl

-- the frame below keeps its own
room_below : room_here (Pop ∷ Ensure 1 ∷ pushed_for_one) ≡ 16
room_below = refl

held_below : held_here (Make 3 8 ∷ Pop ∷ Ensure 1 ∷ pushed_for_one) ≡ 1
held_below = refl

room_asked_below : room_here (Pop ∷ Push 0 ∷ Ensure 20 ∷ Make 1 7 ∷ Start ∷ []) ≡ 21
room_asked_below = refl

-- a native method has room of its own, and back outside stands what stood
native_room : room_here (Enter ∷ Push 3 ∷ Start ∷ []) ≡ 16
native_room = refl

room_outside : room_here (Leave ∷ Ensure 40 ∷ Push 7 ∷ Enter ∷ Push 3 ∷ Start ∷ []) ≡ 3
room_outside = refl

-- a frame pushed again has the room that it is pushed with
pushed_again : room_here (Push 2 ∷ Pop ∷ Ensure 9 ∷ Push 1 ∷ Start ∷ []) ≡ 2
pushed_again = refl

-- a number that is made again is held once
held_once : held_here (Make 1 9 ∷ Delete 1 ∷ Make 1 7 ∷ Start ∷ []) ≡ 1
held_once = refl

deleted_outside : held 0 0 (Delete 1 ∷ Make 3 9 ∷ Push 4 ∷ Make 2 8 ∷ Make 1 7 ∷ Start ∷ []) ≡ 1
deleted_outside = refl
