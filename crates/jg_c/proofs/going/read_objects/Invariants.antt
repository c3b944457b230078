use Rattle.std.proofs.Common.{◌≡◌, ◌++◌, length}
use Rattle.jg_c.specs.Telling.{objects_of}
use Rattle.jg_c.proofs.going.read_objects.Given as goal

abbrev pub invariant-loop-number : goal.invariant-loop-number
invariant-loop-number l = objects_of l.numbers ≡ l.objects.items ++ objects_of l.rest

abbrev pub decreases-loop-number : goal.decreases-loop-number
decreases-loop-number l = length l.rest
