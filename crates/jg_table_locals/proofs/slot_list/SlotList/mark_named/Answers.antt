use Rattle.std.proofs.Common.{◌∙◌, ℕ, List, subst}
use Rattle.std.specs.Prelude.{◌==◌, filter}
use Rattle.std.specs.List.{list_any}
use Rattle.jg_lists.specs.Marks.{Marks}
use Rattle.jg_table_locals.specs.Seen.{SlotsSeen, is_live}
use Rattle.jg_table_locals.proofs.Named.{marked_live}
use Rattle.jg_table_locals.proofs.slot_list.SlotList.mark_named.Goals as goal

pub returns : goal.returns
returns g c =
    let old = g.M.Marking.mark_of c.args.marks.now in
    let new = g.M.Marking.mark_of c.set_all.new.self in
    let marked = subst (λ (objects : List ℕ). Marks (λ o. list_any (λ x. x == o) objects) old new) (c.deref.ensures.value ∙ c.self.invariant)
    c.set_all.ensures.set in
    subst (λ (r : SlotsSeen). Marks (λ o. list_any (λ s. s.object == o) (filter is_live r.items)) old new) c.self.view_is
    (marked_live c.self.inside.slots.items old new c.set_all.ensures.none marked)
