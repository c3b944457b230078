use Rattle.std.proofs.Common.{◌∙◌, ap}
use Rattle.std.specs.Prelude.{◌==◌}
use Rattle.std.specs.Option.{option_map}
use Rattle.jg_table_locals.specs.declared.row.LocalSlot.{LocalSlot}
use Rattle.jg_table_locals.proofs.Found.{find_live}
use Rattle.jg_table_locals.proofs.slots.number_of.Goals as goal

pub returns-in-None : goal.returns-in-None
returns-in-None c = ap (option_map (λ (s : LocalSlot). s.n)) (c.in-None.ensures ∙ find_live (λ s. s.object == c.args.object) c.args.slots.now)

pub returns-in-Some : goal.returns-in-Some
returns-in-Some c = ap (option_map (λ (s : LocalSlot). s.n)) (c.in-Some.ensures ∙ find_live (λ s. s.object == c.args.object) c.args.slots.now)
