use Rattle.std.proofs.Common.{◌≡◌, take, length, ◌≤◌, ◌*◌}
use Rattle.std.specs.List.{flat_map}
use Rattle.jg_table_heap.specs.Spelling.{spelling}
use Rattle.jg_table_heap.proofs.mutf8.spell.mutf8_len.Given as goal

abbrev pub invariant-loop-unit : goal.invariant-loop-unit
invariant-loop-unit l = record {
  total : l.total ≡ length (flat_map spelling (take l.unit-index l.units));
  small : l.total ≤ 3 * l.unit-index;
}
