use Rattle.std.proofs.Common.{◌≡◌, ◌+◌, take}
use Rattle.std.specs.Prelude.{flat_map}
use Rattle.jg_table_heap.specs.Kept.{LetsGo, marked_or_root, trues, block_of}
use Rattle.jg_table_heap.proofs.collect.let_unheld_go.Given as goal

-- of the objects of the blocks so far those that aren't held are let go
abbrev pub invariant-loop-block : goal.invariant-loop-block
invariant-loop-block g l =
    LetsGo (marked_or_root l.marks (g.R.Roots.is_root l.roots)) (flat_map block_of (take l.block-index l.blocks)) l.initial.there l.there
    × (l.count + trues l.there ≡ trues l.initial.there)
