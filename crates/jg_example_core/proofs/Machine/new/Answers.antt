use Rattle.std.proofs.Common.{[]}
use Rattle.jg_example_core.proofs.Machine.new.Goals as goal

pub returns : goal.returns
returns c = c.in_ok-env.ensures.ok.stands [] c.new-core.ensures.stands
