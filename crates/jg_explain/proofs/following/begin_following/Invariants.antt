use Rattle.jg_guard.specs.Guard.{State}
use Rattle.jg_explain.specs.Explained.{IsFront}
use Rattle.jg_explain.specs.Followed.{IsFollowed}
use Rattle.jg_explain.proofs.following.begin_following.Given as goal

-- nothing is said of what was taken up but what is so
abbrev pub invariant-loop-watch : goal.invariant-loop-watch
invariant-loop-watch g l =
    (whole : State) → IsFront whole l.again 0 → IsFollowed whole 0 l.following.traces.items l.following.steady.items
