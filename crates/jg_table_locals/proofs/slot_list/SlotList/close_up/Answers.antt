use Rattle.std.proofs.Common.{rules, ◌∙◌, ap}
use Rattle.std.specs.Prelude.{filter}
use Rattle.std.proofs.lemmas.Fn.{filter_same}
use Rattle.jg_table_locals.specs.Seen.{SlotsSeen, is_live}
use Rattle.jg_table_locals.proofs.slot_list.SlotList.close_up.Goals as goal

pub returns-clause-items : goal.returns-clause-items
returns-clause-items g c = filter_same _ _ _ (λ x b f' k. search rules) _ _ c.retain.ensures.filtered
    ∙ ap (λ (r : SlotsSeen). filter is_live r.items) c.self.view_is
