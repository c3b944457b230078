use Rattle.std.proofs.Common.{◌≤◌, ◌-◌, length}
use Rattle.jg_record.specs.Parts.{NoMark}
use Rattle.jg_record.proofs.cut.find_mark.Given as goal

abbrev pub invariant-loop-from : goal.invariant-loop-from
invariant-loop-from l = record {
  within : l.from ≤ length l.text;
  none : NoMark l.mark l.text l.from;
}

abbrev pub decreases-loop-from : goal.decreases-loop-from
decreases-loop-from l = length l.text - l.from
