use Rattle.std.proofs.Common.{◌≡◌, ◌++◌, length}
use Rattle.jg_c.proofs.advising.put_all.Given as goal

-- what waits and what is left are all
abbrev pub invariant-loop-advice : goal.invariant-loop-advice
invariant-loop-advice l = l.initial.waiting.items ++ l.advised ≡ l.waiting.items ++ l.rest

abbrev pub decreases-loop-advice : goal.decreases-loop-advice
decreases-loop-advice l = length l.rest
