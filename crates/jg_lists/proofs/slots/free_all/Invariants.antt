use Rattle.std.proofs.Common.{◌≡◌, ℕ, ◌<◌, get_or}
use Rattle.jg_lists.proofs.slots.free_all.Given as goal

-- the slots so far are free
abbrev pub invariant-loop-slot : goal.invariant-loop-slot
invariant-loop-slot l = (j : ℕ) → j < l.slot → get_or l.slots j 0 ≡ 0
