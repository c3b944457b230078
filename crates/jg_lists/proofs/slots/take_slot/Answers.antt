use Rattle.jg_lists.proofs.Searched.{filled_set}
use Rattle.jg_lists.proofs.slots.take_slot.Goals as goal

pub returns-clause-counted : goal.returns-clause-counted
returns-clause-counted g c = filled_set c.args.slots.now.items c.free_slot-slot.result c.args.place
