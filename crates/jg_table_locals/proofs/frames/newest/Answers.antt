use Rattle.std.proofs.Common.{◌∙◌}
use Rattle.jg_table_locals.proofs.Numbers.{get-last}
use Rattle.jg_table_locals.proofs.frames.newest.Goals as goal

pub returns : goal.returns
returns c = c.copied.ensures ∙ (c.last.ensures.value ∙ get-last c.args.frames.now)
