use Rattle.std.proofs.Common.{arith}
use Rattle.jg_lists.proofs.Searched.{filled_over}
use Rattle.jg_lists.proofs.slots.move_place.Goals as goal

pub returns-in-Some-clause-counted : goal.returns-in-Some-clause-counted
returns-in-Some-clause-counted g c = filled_over c.args.slots.now.items c.in-Some.found.slot c.args.place (omega (arith, c.in-Some.ensures.found.place))
