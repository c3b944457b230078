use Rattle.std.proofs.Common.{ℕ, ◌<◌, length}
use Rattle.std.specs.Prelude.{map}
use Rattle.jg_lists.specs.ByNumber.{number_of}
use Rattle.jg_lists.specs.Searches.{home, spot}
use Rattle.jg_lists.proofs.Searched.{Passes}
use Rattle.jg_lists.proofs.slots.find_slot.Given as goal

-- none of the slots so far is free, or has the place of the number's seat
abbrev pub invariant-loop-step : goal.invariant-loop-step
invariant-loop-step g l = (j : ℕ) → j < l.step
    → Passes l.slots.items (map number_of l.seats.items) l.number (spot (length l.slots.items) (home (length l.slots.items) l.number) j)
