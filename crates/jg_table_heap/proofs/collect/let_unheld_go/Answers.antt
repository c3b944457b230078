use Rattle.std.proofs.Common.{◌≡◌, ◌<◌, ◌^◌, ◌+◌, ◌-◌, ◌∙◌, ap, arith, rules, sym, subst, get_or, length, ℕ, Bool}
use Rattle.std.specs.List.{range_with_len}
use Rattle.jg_table_heap.specs.Kept.{LetsGo, marked_or_root}
use Rattle.jg_table_heap.proofs.Blocks.{block_is}
use Rattle.jg_table_heap.proofs.Letting.{lets_block, trues_within}
use Rattle.jg_table_heap.proofs.collect.let_unheld_go.Goals as goal

pub overflow_add-count : goal.overflow_add-count
overflow_add-count g c =
    let fits : length c.args.there.now < 2 ^ 63 = search rules in
    omega (arith, c.loop-block.invariant.1, c.let_go_among-count.ensures.count, trues_within c.args.there.now, fits)

pub overflow_add-result : goal.overflow_add-result
overflow_add-result g c =
    let fits : length c.args.there.now < 2 ^ 63 = search rules in
    omega (arith, c.loop-block.invariant.1, c.let_go_among.ensures.count, trues_within c.args.there.now, fits)

pub loop-block-preserved : goal.loop-block-preserved
loop-block-preserved g c =
    let held : ℕ → Bool = marked_or_root c.args.marks.now (g.R.Roots.is_root c.args.roots.now) in
    let first : ℕ = get_or c.args.blocks.now c.loop-block.block-index 0 in
    let count : first + 32 - first ≡ 32 = omega arith in
    let block = subst (λ os. LetsGo held os c.loop-block.there c.let_go_among-count.new.there) (ap (range_with_len first) count ∙ sym (block_is first))
    c.let_go_among-count.ensures.there in (
      lets_block held c.args.blocks.now c.loop-block.block-index c.args.there.now c.loop-block.there c.let_go_among-count.new.there c.loop-block-test.true
          c.loop-block.invariant.0 block,
      omega (arith, c.loop-block.invariant.1, c.let_go_among-count.ensures.count),
    )
