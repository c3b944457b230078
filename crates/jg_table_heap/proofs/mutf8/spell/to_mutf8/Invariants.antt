use Rattle.std.proofs.Common.{◌≡◌, take}
use Rattle.std.specs.List.{flat_map}
use Rattle.jg_table_heap.specs.Spelling.{spelling}
use Rattle.jg_table_heap.proofs.mutf8.spell.to_mutf8.Given as goal

abbrev pub invariant-loop-unit : goal.invariant-loop-unit
invariant-loop-unit g l = l.bytes.items ≡ flat_map spelling (take l.unit-index l.units)
