use Rattle.std.proofs.Common.{ap, ◌∙◌, slice_get, sym, Option, List}
use Rattle.std.specs.List.{list_any}
use Rattle.jg_lists.proofs.Marks.{marks_stay}
use Rattle.jg_lists.proofs.Visited.{marks_alike}
use Rattle.jg_words.specs.declared.object.ObjId.{ObjId}
use Rattle.jg_table_heap.specs.declared.object.Slot.TheVariants.{Object as ToObject}
use Rattle.jg_table_heap.specs.History.{holds}
use Rattle.jg_table_heap.specs.Kept.{slots_of_body}
use Rattle.jg_table_heap.proofs.Items.{numbers_hold, references_hold}
use Rattle.jg_table_heap.proofs.collect.mark_slots.Goals as goal

pub returns-in-Numbers : goal.returns-in-Numbers
returns-in-Numbers g c =
    marks_alike _ _ _ _ (λ o. sym (ap (λ body. list_any (holds o) (slots_of_body body)) c.in-Numbers.is ∙ numbers_hold o c.in-Numbers.items.items))
    (marks_stay (slice_get c.args.marks.now))

pub returns-in-References : goal.returns-in-References
returns-in-References g c =
    marks_alike _ _ _ _
    (λ o. ap (λ (items : List (Option ObjId)). list_any (λ target. holds o (ToObject target)) items) c.deref-in-References.ensures.value
    ∙ sym (ap (λ body. list_any (holds o) (slots_of_body body)) c.in-References.is ∙ references_hold o c.in-References.items.items))
    c.mark_items.ensures
