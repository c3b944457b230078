use Rattle.std.proofs.Common.{None, arith}
use Rattle.jg_lists.proofs.Marks.{marks_stay, marks_item, marks_all}
use Rattle.jg_table_heap.specs.declared.object.Slot.TheVariants.{Object as ToObject}
use Rattle.jg_table_heap.specs.History.{holds}
use Rattle.jg_table_heap.proofs.collect.mark_items.Goals as goal

pub loop-target-init : goal.loop-target-init
loop-target-init g c = marks_stay _

pub loop-target-preserved : goal.loop-target-preserved
loop-target-preserved g c =
    marks_item (λ target o. holds o (ToObject target)) c.args.items.now c.loop-target.target-index None _ _ _
    c.loop-target-test.true c.loop-target.invariant c.mark_target.ensures

pub returns : goal.returns
returns g c =
    marks_all (λ target o. holds o (ToObject target)) c.args.items.now c.loop-target.target-index _ _ (omega (arith, c.loop-target-test.false))
    c.loop-target.invariant
