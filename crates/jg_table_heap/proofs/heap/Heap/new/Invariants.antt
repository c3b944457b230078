use Rattle.std.proofs.Common.{◌≡◌, map, replicate, []}
use Rattle.jg_table_heap.specs.Making.{Plain}
use Rattle.jg_table_heap.specs.Kept.{objects_of, row_of, trues, Stored}
use Rattle.jg_table_heap.specs.Rows.{row_of_making}
use Rattle.jg_table_heap.proofs.heap.Heap.new.Given as goal

abbrev pub invariant-loop-class : goal.invariant-loop-class
invariant-loop-class g l = record {
  rows : map row_of (objects_of l.objects.items l.there.items) ≡ replicate l.class (row_of_making (Plain 1 []));
  keeps : Stored l.objects.items l.there.items [] 0 [];
  all : l.class ≡ trues l.there.items;
}
