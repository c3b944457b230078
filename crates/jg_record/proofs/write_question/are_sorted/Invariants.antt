use Rattle.std.proofs.Common.{◌≡◌, length}
use Rattle.jg_record.specs.Texts.{are_sorted}
use Rattle.jg_record.proofs.write_question.are_sorted.Given as goal

abbrev pub invariant-loop-argument : goal.invariant-loop-argument
invariant-loop-argument l = are_sorted l.wanted l.rest ≡ are_sorted l.takes l.arguments

abbrev pub decreases-loop-argument : goal.decreases-loop-argument
decreases-loop-argument l = length l.rest
