use Rattle.std.proofs.Common.{◌≡◌, map, take}
use Rattle.jg_table_heap.specs.Reading.{natural}
use Rattle.jg_guard.proofs.groups.strings.units_from.Given as goal

abbrev pub invariant-loop-item : goal.invariant-loop-item
invariant-loop-item g l = l.units.items ≡ map natural (take l.item-index l.items)
