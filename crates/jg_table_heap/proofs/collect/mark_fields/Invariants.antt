use Rattle.std.proofs.Common.{slice_get, take}
use Rattle.std.specs.List.{list_any}
use Rattle.jg_lists.specs.Marks.{Marks}
use Rattle.jg_table_heap.specs.History.{holds}
use Rattle.jg_table_heap.proofs.collect.mark_fields.Given as goal

abbrev pub invariant-loop-slot : goal.invariant-loop-slot
invariant-loop-slot g l = Marks (λ o. list_any (holds o) (take l.slot-index l.slots)) (slice_get l.initial.marks) (slice_get l.marks)
