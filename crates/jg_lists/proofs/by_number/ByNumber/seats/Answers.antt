use Rattle.jg_lists.proofs.Seats.{once}
use Rattle.jg_lists.proofs.by_number.ByNumber.seats.Goals as goal

pub returns-clause-once : goal.returns-clause-once
returns-clause-once g c = once c.self.inside.slots.items c.self.inside.seats.items c.args.self.now c.self.invariant.placed c.self.view_is
