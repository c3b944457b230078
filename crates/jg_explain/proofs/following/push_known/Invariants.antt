use Rattle.std.proofs.Common.{◌≡◌, ◌≤◌, ℕ, length, map, take}
use Rattle.jg_guard.specs.Guard.{State}
use Rattle.jg_rules.specs.Legal.{Legal}
use Rattle.jg_explain.specs.Explained.{IsFront}
use Rattle.jg_explain.specs.Followed.{IsFollowed}
use Rattle.jg_explain.specs.Watched.{watched}
use Rattle.jg_explain.proofs.following.push_known.Given as goal

-- what is known so far is that of the first watches
abbrev pub invariant-loop : goal.invariant-loop
invariant-loop g l =
    (whole : State) (end : ℕ) → IsFront whole l.again l.at → Legal whole.setup whole.journal → l.at ≤ end → end ≤ length whole.journal
    → IsFollowed whole l.at l.following.traces.items l.following.steady.items
    → l.fn.found.items ≡ map (watched whole.setup whole.journal end) (take (length l.fn.found.items) l.watches)
    → l.found.items ≡ map (watched whole.setup whole.journal end) (take (length l.found.items) l.watches)
