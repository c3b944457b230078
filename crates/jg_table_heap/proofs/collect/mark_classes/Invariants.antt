use Rattle.std.proofs.Common.{nat_lt, slice_get}
use Rattle.jg_lists.specs.Marks.{Marks}
use Rattle.jg_table_heap.proofs.collect.mark_classes.Given as goal

abbrev pub invariant-loop-object : goal.invariant-loop-object
invariant-loop-object g l = Marks (λ o. nat_lt o l.object) (slice_get l.initial.marks) (slice_get l.marks)
