use Rattle.std.proofs.Common.{take, All}
use Rattle.std.specs.Int.{IsInRange}
use Rattle.jg_text.proofs.place.before_odd.Given as goal

abbrev pub invariant-loop-i : goal.invariant-loop-i
invariant-loop-i l = record {
  seen : All (λ b. IsInRange 32 126 b) (take l.i l.line);
}
