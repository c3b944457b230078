use Rattle.std.proofs.Common.{◌+◌, ◌<◌, length, All}
use Rattle.jg_guard.specs.Guard.{State}
use Rattle.jg_explain.specs.Explained.{IsFront}
use Rattle.jg_explain.specs.Followed.{IsSeen, IsTraced}
use Rattle.jg_explain.proofs.traces.trace_each.Given as goal

-- what the traces say stays so
abbrev pub invariant-loop-before : goal.invariant-loop-before
invariant-loop-before g l =
    (whole : State) → IsFront whole l.again (l.at + 1) → l.at < length whole.journal → All (IsSeen whole.setup whole.journal l.at) l.seen
    → All (IsTraced whole.setup whole.journal) l.fn.traces → All (IsTraced whole.setup whole.journal) l.traces
