use Rattle.std.proofs.Common.{ℕ, All}
use Rattle.jg_guard.specs.Guard.{State}
use Rattle.jg_explain.specs.Explained.{IsFront}
use Rattle.jg_explain.specs.Followed.{IsSeen}
use Rattle.jg_explain.proofs.traces.see_each.Given as goal

-- what was found so far is so
abbrev pub invariant-loop-i : goal.invariant-loop-i
invariant-loop-i g l =
    (whole : State) (place : ℕ) → IsFront whole l.again place → All (IsSeen whole.setup whole.journal place) l.seen.items
