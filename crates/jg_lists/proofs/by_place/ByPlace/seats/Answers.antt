use Rattle.jg_lists.proofs.Places.{once}
use Rattle.jg_lists.proofs.by_place.ByPlace.seats.Goals as goal

pub returns-clause-once : goal.returns-clause-once
returns-clause-once g c = once c.self.inside.places.items c.self.inside.seats.items c.args.self.now c.self.invariant c.self.view_is
