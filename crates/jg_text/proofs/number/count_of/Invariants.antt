use Rattle.std.proofs.Common.{◌≡◌, ◌+◌, ◌≤◌, ◌==◌, length, count_by}
use Rattle.jg_text.proofs.number.count_of.Given as goal

abbrev pub invariant-loop-rest : goal.invariant-loop-rest
invariant-loop-rest l = record {
  counted : l.count + count_by (λ b. b == l.byte) l.rest ≡ count_by (λ b. b == l.byte) l.text;
  within : l.count + length l.rest ≤ length l.text;
}

abbrev pub decreases-loop-rest : goal.decreases-loop-rest
decreases-loop-rest l = length l.rest
