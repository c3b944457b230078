use Rattle.std.proofs.Common.{◌≡◌, map, take, pos}
use Rattle.jg_guard.proofs.region.units_in.Given as goal

abbrev pub invariant-loop-unit : goal.invariant-loop-unit
invariant-loop-unit l = l.numbers.items ≡ map pos (take l.unit-index l.first)
