use Rattle.std.proofs.Common.{length}
use Rattle.std.specs.Option.{option_copied}
use Rattle.jg_text.specs.Pieces.{rest_fields}
use Rattle.jg_record.proofs.Going.{GoneThen}
use Rattle.jg_record.proofs.facts.read_gone.Given as goal

abbrev pub invariant-loop-word : goal.invariant-loop-word
invariant-loop-word l = GoneThen (rest_fields (option_copied l.fn.rest)) l.objects.items (rest_fields (option_copied l.left))

abbrev pub decreases-loop-word : goal.decreases-loop-word
decreases-loop-word l = length (rest_fields (option_copied l.left))
