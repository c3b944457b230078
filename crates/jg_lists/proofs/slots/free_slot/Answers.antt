use Rattle.std.proofs.Common.{◌<◌, ◌≤◌, length, get_or, arith}
use Rattle.jg_lists.specs.Searches.{home}
use Rattle.jg_lists.proofs.Searched.{home_within, looked_at, filled_all}
use Rattle.jg_lists.proofs.slots.free_slot.Goals as goal

-- a search comes to each slot, and one is free
pub returns : goal.returns
returns g c =
    let slots = c.args.slots.now.items in
    let some : 0 < length slots = omega (arith, c.requires) in
    let full = filled_all slots
    (λ u inside. looked_at (length slots) (home (length slots) c.args.number) u (λ k. 1 ≤ get_or slots k 0) (home_within (length slots) c.args.number some)
    inside
    (λ k before. c.loop-step.invariant k (omega (arith, before)))) in
    absurd (omega (arith, full, c.requires))
