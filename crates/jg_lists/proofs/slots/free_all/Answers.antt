use Rattle.std.proofs.Common.{arith}
use Rattle.jg_lists.proofs.Searched.{filled_none}
use Rattle.jg_lists.proofs.slots.free_all.Goals as goal

pub returns : goal.returns
returns c = filled_none c.loop-slot.slots (λ j inside. c.loop-slot.invariant j (omega (arith, inside)))
