use Rattle.std.proofs.Common.{sym}
use Rattle.jg_lists.proofs.Searched.{spot_front, spot_back}
use Rattle.jg_lists.proofs.slots.spot.Goals as goal

pub returns-then-step-rest-clause-value : goal.returns-then-step-rest-clause-value
returns-then-step-rest-clause-value c = sym (spot_front c.args.count c.args.first c.args.step c.if-step-rest.true)

pub returns-else-step-rest-clause-value : goal.returns-else-step-rest-clause-value
returns-else-step-rest-clause-value c = sym (spot_back c.args.count c.args.first c.args.step c.if-step-rest.false)
