use Rattle.std.proofs.Common.{◌≡◌, ◌+◌, length, map}
use Rattle.jg_shell.specs.Work.{fresh}
use Rattle.jg_shell.proofs.shared.hire.Given as goal

abbrev pub invariant-loop-lines : goal.invariant-loop-lines
invariant-loop-lines g l =
    (goal.iterator-loop-lines g).can_next l.lines-iterator ×
    (goal.iterator-loop-lines g).is_finite l.lines-iterator ×
    (l.workers.items ≡ map fresh l.yielded) × (l.rest.parts + length l.yielded ≡ l.initial.rest.parts) × (l.rest.amount ≡ 0)
