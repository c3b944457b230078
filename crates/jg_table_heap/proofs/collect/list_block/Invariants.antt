use Rattle.std.proofs.Common.{◌≡◌, ◌*◌, ◌++◌}
use Rattle.std.specs.Prelude.{filter}
use Rattle.std.specs.List.{range_with_len}
use Rattle.jg_table_heap.specs.Kept.{unheld_in}
use Rattle.jg_table_heap.proofs.collect.list_block.Given as goal

abbrev pub invariant-loop-part : goal.invariant-loop-part
invariant-loop-part g l = l.unheld.items ≡ l.initial.unheld.items ++ filter (unheld_in l.there l.marks) (range_with_len l.first (l.part * 8))
