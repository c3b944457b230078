-- The definitions at worked lists of acts, the newest first: each fact holds by computing.
use Rattle.std.proofs.Common.{◌≡◌, true, false, List, [], ◌∷◌, Some, None, refl}
use Rattle.jg_table_threads.specs.History.{Act, Attach, Detach, Enter, Leave, Raise, Calm, CountRef, CountBuffer, Event, by, acts_of, sessions, session, depth, pending, refs, buffers, is_pending}

-- detaching a thread that is not attached, and attaching one that is, change nothing
abbrev twice : List Act
twice = Attach ∷ Attach ∷ Detach ∷ Detach ∷ Attach ∷ []

second_session : session twice ≡ Some 2
second_session = refl

no_session : session (Detach ∷ twice) ≡ None
no_session = refl

still_two : sessions (Detach ∷ Detach ∷ twice) ≡ 2
still_two = refl

-- the numbers go on after a detachment
abbrev over_sessions : List Act
over_sessions = CountRef ∷ Attach ∷ Detach ∷ CountBuffer ∷ CountRef ∷ CountRef ∷ Attach ∷ []

refs_go_on : refs over_sessions ≡ 3
refs_go_on = refl

buffers_go_on : buffers over_sessions ≡ 1
buffers_go_on = refl

-- an exception stays pending when the native method is left
stays_pending : pending (Leave ∷ Raise 7 ∷ Enter ∷ Attach ∷ []) ≡ Some 7
stays_pending = refl

latest_pending : pending (Raise 8 ∷ Raise 7 ∷ Attach ∷ []) ≡ Some 8
latest_pending = refl

calmed : pending (Calm ∷ Raise 7 ∷ Attach ∷ []) ≡ None
calmed = refl

-- a detachment drops it, and the native methods entered
abbrev detached : List Act
detached = Attach ∷ Detach ∷ Raise 7 ∷ Enter ∷ Attach ∷ []

dropped : pending detached ≡ None
dropped = refl

outside : depth detached ≡ 0
outside = refl

inside : depth (Enter ∷ Leave ∷ Enter ∷ Enter ∷ Attach ∷ []) ≡ 2
inside = refl

-- each thread for itself
abbrev of_two : List Event
of_two = by 2 Calm ∷ by 1 (Raise 7) ∷ by 2 Attach ∷ by 1 Attach ∷ []

pending_in_one : is_pending of_two 7 ≡ true
pending_in_one = refl

other_object : is_pending of_two 8 ≡ false
other_object = refl

not_in_two : pending (acts_of 2 of_two) ≡ None
not_in_two = refl
