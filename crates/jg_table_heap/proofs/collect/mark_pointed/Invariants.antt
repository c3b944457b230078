use Rattle.std.proofs.Common.{map, slice_get, take}
use Rattle.std.specs.List.{list_any}
use Rattle.jg_lists.specs.Marks.{Marks}
use Rattle.jg_table_heap.specs.Kept.{row_of_body, slot_of_row_holds}
use Rattle.jg_table_heap.proofs.collect.mark_pointed.Given as goal

abbrev pub invariant-loop-object : goal.invariant-loop-object
invariant-loop-object g l =
    Marks (λ o. list_any (slot_of_row_holds (map row_of_body l.objects) o) (take l.object-index l.pointing)) (slice_get l.initial.marks) (slice_get l.marks)
