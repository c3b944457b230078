-- At which entries of a journal the answer to a question turned. A history has its newest entry first; an
-- entry's place is the number of entries before it.
use Rattle.std.specs.Prelude.{ℕ, Bool, true, false, not, List, [], ◌∷◌, length, Some, None}
use Rattle.jg_words.specs.Entry.{Entry}
use Rattle.jg_breaches.specs.declared.turns.Turns.{Turns}

-- none yet
abbrev pub still : Turns
still = record { latest = None; earlier = None }

-- one entry more, at that place: it is the latest, and what was the latest is the earlier one
abbrev pub turned : Bool → ℕ → Turns → Turns
turned true place ts = ts
turned false place ts = record { latest = Some place; earlier = ts.latest }

abbrev pub same : Bool → Bool → Bool
same true b = b
same false b = not b

-- the latest entry before which the test answered otherwise than after it, and the one before that
abbrev pub turns : (List Entry → Bool) → List Entry → Turns
turns test [] = still
turns test (x ∷ h) = turned (same (test h) (test (x ∷ h))) (length h) (turns test h)
