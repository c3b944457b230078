use Rattle.std.proofs.Common.{slice_get, take}
use Rattle.std.specs.List.{list_any}
use Rattle.jg_lists.specs.Marks.{Marks}
use Rattle.jg_table_heap.specs.declared.object.Slot.TheVariants.{Object as ToObject}
use Rattle.jg_table_heap.specs.History.{holds}
use Rattle.jg_table_heap.proofs.collect.mark_items.Given as goal

abbrev pub invariant-loop-target : goal.invariant-loop-target
invariant-loop-target g l =
    Marks (λ o. list_any (λ target. holds o (ToObject target)) (take l.target-index l.items)) (slice_get l.initial.marks) (slice_get l.marks)
