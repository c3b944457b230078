use Rattle.std.proofs.Common.{◌≡◌, ◌≤◌, ◌+◌, drop}
use Rattle.jg_fault_text.specs.Setups.{column_from}
use Rattle.jg_fault_text.proofs.setup.position.column_behind.Given as goal

-- what is left leads to the last column
abbrev pub invariant-loop-byte : goal.invariant-loop-byte
invariant-loop-byte l = record {
  leads : column_from l.column (drop l.byte-index l.front) ≡ column_from 1 l.front;
  small : l.column ≤ l.byte-index + 1;
}
