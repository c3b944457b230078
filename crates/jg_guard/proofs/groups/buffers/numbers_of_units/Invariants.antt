use Rattle.std.proofs.Common.{◌≡◌, map, pos, take}
use Rattle.jg_guard.proofs.groups.buffers.numbers_of_units.Given as goal

abbrev pub invariant-loop-unit : goal.invariant-loop-unit
invariant-loop-unit g l = l.numbers.items ≡ map pos (take l.unit-index l.units)
