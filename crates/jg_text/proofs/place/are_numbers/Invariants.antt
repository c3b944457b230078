use Rattle.std.proofs.Common.{◌↔◌}
use Rattle.std.specs.Option.{option_copied}
use Rattle.jg_text.specs.Pieces.{AreNumbers, rest_numbers, left_length}
use Rattle.jg_text.proofs.Lists.{pieces}
use Rattle.jg_text.proofs.place.are_numbers.Given as goal

abbrev pub invariant-loop-left : goal.invariant-loop-left
invariant-loop-left l = record {
  so_far : AreNumbers (pieces l.text) ↔ AreNumbers (rest_numbers (option_copied l.left));
}

abbrev pub decreases-loop-left : goal.decreases-loop-left
decreases-loop-left l = left_length (option_copied l.left)
