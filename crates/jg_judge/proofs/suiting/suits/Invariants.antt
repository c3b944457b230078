use Rattle.std.proofs.Common.{◌≡◌, length}
use Rattle.jg_judge.specs.Suits.{suits}
use Rattle.jg_judge.proofs.suiting.suits.Given as goal

abbrev pub invariant-loop-argument : goal.invariant-loop-argument
invariant-loop-argument l = suits l.wanted l.rest ≡ suits l.takes l.arguments

abbrev pub decreases-loop-argument : goal.decreases-loop-argument
decreases-loop-argument l = length l.rest
