use Rattle.std.proofs.Common.{◌∙◌, ◌++◌, ap, get_or, List, ℕ, Bool}
use Rattle.std.specs.Prelude.{filter}
use Rattle.jg_table_heap.specs.Kept.{unheld_in, block_of}
use Rattle.jg_table_heap.proofs.Blocks.{filter_block_more}
use Rattle.jg_table_heap.proofs.collect.list_unheld.Goals as goal

pub loop-block-preserved : goal.loop-block-preserved
loop-block-preserved g c =
    let p : ℕ → Bool = unheld_in c.args.there.now c.args.marks.now in
    c.in_ok-list_block.ensures
    ∙ ap (λ (os : List ℕ). os ++ filter p (block_of (get_or c.args.blocks.now c.loop-block.block-index 0))) c.loop-block.invariant
    ∙ filter_block_more p c.args.blocks.now c.loop-block.block-index c.loop-block-test.true
