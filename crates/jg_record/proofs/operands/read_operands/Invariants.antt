use Rattle.std.proofs.Common.{length}
use Rattle.std.specs.Option.{option_copied}
use Rattle.jg_text.specs.Pieces.{rest_fields}
use Rattle.jg_record.proofs.Asking.{GoesOn}
use Rattle.jg_record.proofs.operands.read_operands.Given as goal

abbrev pub invariant-loop-word : goal.invariant-loop-word
invariant-loop-word l = GoesOn l.fn.takes (rest_fields (option_copied l.fn.rest)) l.wanted (rest_fields (option_copied l.left)) l.arguments.items

abbrev pub decreases-loop-word : goal.decreases-loop-word
decreases-loop-word l = length (rest_fields (option_copied l.left))
