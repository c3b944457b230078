use Rattle.std.proofs.Common.{◌≡◌, ◌++◌, take, map}
use Rattle.jg_breaches.specs.declared.condition.Condition.TheVariants.{IsOpen}
use Rattle.jg_breaches.proofs.cause.push_open.Given as goal

-- the buffers so far are asked for
abbrev pub invariant-loop-buffer : goal.invariant-loop-buffer
invariant-loop-buffer g l = l.conditions.items ≡ l.initial.conditions.items ++ map (λ b. IsOpen b) (take l.buffer-index l.buffers)
