use Rattle.std.proofs.Common.{sym}
use Rattle.jg_lists.proofs.Searched.{following_front, following_back}
use Rattle.jg_lists.proofs.slots.following.Goals as goal

pub returns-then-next-count-clause-value : goal.returns-then-next-count-clause-value
returns-then-next-count-clause-value c = sym (following_front c.args.count c.args.slot c.if-next-count.true)

pub returns-else-next-count-clause-value : goal.returns-else-next-count-clause-value
returns-else-next-count-clause-value c = sym (following_back c.args.count c.args.slot c.if-next-count.false)
