use Rattle.std.proofs.Common.{◌∙◌, sym}
use Rattle.jg_lists.specs.Marks.{but_last}
use Rattle.jg_lists.proofs.Marks.{none_of_it}
use Rattle.jg_lists.proofs.object_marks.is_noted.Goals as goal

pub returns-in-None : goal.returns-in-None
returns-in-None c = sym (none_of_it (but_last c.args.turns.now) c.args.turn c.args.object (sym c.turn_of.ensures ∙ c.in-None.is))
