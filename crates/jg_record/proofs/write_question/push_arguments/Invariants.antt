use Rattle.std.proofs.Common.{length}
use Rattle.std.specs.Prelude.{string_bytes}
use Rattle.jg_record.specs.Texts.{argument_text, FitsArgument}
use Rattle.jg_record.proofs.Appending.{LeavesWords}
use Rattle.jg_record.proofs.write_question.push_arguments.Given as goal

abbrev pub invariant-loop-argument : goal.invariant-loop-argument
invariant-loop-argument l = LeavesWords argument_text FitsArgument (string_bytes l.initial.out) l.arguments (string_bytes l.out) l.rest

abbrev pub decreases-loop-argument : goal.decreases-loop-argument
decreases-loop-argument l = length l.rest
