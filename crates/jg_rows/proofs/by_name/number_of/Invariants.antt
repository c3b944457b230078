use Rattle.std.proofs.Common.{◌≡◌, ◌<◌, length}
use Rattle.jg_rows.specs.ByName.{name_number}
use Rattle.jg_rows.proofs.by_name.number_of.Given as goal

abbrev pub invariant-loop-byte : goal.invariant-loop-byte
invariant-loop-byte l = record {
  is : name_number l.number l.rest ≡ name_number 0 l.text;
  within : l.number < 65536;
}

abbrev pub decreases-loop-byte : goal.decreases-loop-byte
decreases-loop-byte l = length l.rest
