use Rattle.std.proofs.Common.{pos, arith}
use Rattle.jg_lists.proofs.Marks.{marks_stay, marks_item, marks_all}
use Rattle.jg_table_heap.specs.declared.object.Slot.TheVariants.{Number}
use Rattle.jg_table_heap.specs.History.{holds}
use Rattle.jg_table_heap.proofs.collect.mark_fields.Goals as goal

pub loop-slot-init : goal.loop-slot-init
loop-slot-init g c = marks_stay _

pub loop-slot-preserved : goal.loop-slot-preserved
loop-slot-preserved g c =
    marks_item (λ slot o. holds o slot) c.args.slots.now c.loop-slot.slot-index (Number (pos 0)) _ _ _
    c.loop-slot-test.true c.loop-slot.invariant c.mark_slot.ensures

pub returns : goal.returns
returns g c = marks_all (λ slot o. holds o slot) c.args.slots.now c.loop-slot.slot-index _ _ (omega (arith, c.loop-slot-test.false)) c.loop-slot.invariant
