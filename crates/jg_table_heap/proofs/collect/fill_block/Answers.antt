use Rattle.std.proofs.Common.{◌∙◌, ◌+◌, ap, arith, List, ℕ}
use Rattle.jg_table_heap.specs.Kept.{numbers_in}
use Rattle.jg_table_heap.proofs.Blocks.{numbers_filled}
use Rattle.jg_table_heap.proofs.collect.fill_block.Goals as goal

pub returns-clause-same : goal.returns-clause-same
returns-clause-same g c =
    ap (λ (bs : List ℕ). numbers_in bs (c.args.loose + 32) c.args.count) c.push_reserved.ensures.items
    ∙ numbers_filled c.args.blocks.now.items c.args.loose c.args.count (omega (arith, c.if-count-loose-lt-BLOCK.false, c.requires.loose))
