use Rattle.std.proofs.Common.{ℕ, ◌<◌, ◌≤◌, length, get_or}
use Rattle.jg_lists.specs.Searches.{home, spot}
use Rattle.jg_lists.proofs.slots.free_slot.Given as goal

-- none of the slots so far is free
abbrev pub invariant-loop-step : goal.invariant-loop-step
invariant-loop-step g l = (j : ℕ) → j < l.step → 1 ≤ get_or l.slots.items (spot (length l.slots.items) (home (length l.slots.items) l.number) j) 0
