use Rattle.std.proofs.Common.{◌≡◌, take}
use Rattle.std.specs.Prelude.{filter, flat_map}
use Rattle.jg_table_heap.specs.Kept.{unheld_in, block_of}
use Rattle.jg_table_heap.proofs.collect.list_unheld.Given as goal

abbrev pub invariant-loop-block : goal.invariant-loop-block
invariant-loop-block g l = l.unheld.items ≡ filter (unheld_in l.there l.marks) (flat_map block_of (take l.block-index l.blocks))
