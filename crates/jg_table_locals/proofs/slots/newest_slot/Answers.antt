use Rattle.std.proofs.Common.{◌∙◌}
use Rattle.jg_table_locals.proofs.Numbers.{get-last}
use Rattle.jg_table_locals.proofs.slots.newest_slot.Goals as goal

pub returns : goal.returns
returns c = c.copied.ensures ∙ (c.last.ensures.value ∙ get-last c.args.slots.now)
