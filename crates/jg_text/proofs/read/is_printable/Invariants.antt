use Rattle.std.proofs.Common.{take, All, ◌↔◌, ◌≡◌}
use Rattle.std.specs.Int.{IsInRange}
use Rattle.jg_text.proofs.read.is_printable.Given as goal

abbrev pub invariant-loop-i : goal.invariant-loop-i
invariant-loop-i l = record {
  so_far : (l.others ≡ 0) ↔ All (λ b. IsInRange 32 126 b) (take l.i l.line);
}
