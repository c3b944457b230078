use Rattle.std.proofs.Common.{◌≡◌, ◌<◌, ◌≤◌, ◌==◌, take, count_by}
use Rattle.jg_text.proofs.begun.end_of_fields.Given as goal

abbrev pub invariant-loop-i : goal.invariant-loop-i
invariant-loop-i l = record {
  counted : l.spaces ≡ count_by (λ b. b == 32) (take l.i l.text);
  within : l.spaces ≤ l.i;
  few : l.spaces < l.count;
}
