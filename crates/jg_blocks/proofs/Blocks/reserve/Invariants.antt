use Rattle.std.proofs.Common.{◌≡◌, ◌≤◌, ◌+◌, ◌-◌, max}
use Rattle.jg_blocks.proofs.Blocks.reserve.Given as goal

abbrev pub invariant-loop-self : goal.invariant-loop-self
invariant-loop-self g l = (l.self.items ≡ l.initial.self.items) × (l.initial.self.spare ≤ l.self.spare)
    × (l.self.spare ≤ max l.initial.self.spare (l.additional + 1023))

abbrev pub decreases-loop-self : goal.decreases-loop-self
decreases-loop-self g l = l.additional - l.self.spare
