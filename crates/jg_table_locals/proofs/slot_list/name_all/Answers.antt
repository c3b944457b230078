use Rattle.std.proofs.Common.{◌∙◌, ◌++◌, ◌∷◌, [], ap, arith}
use Rattle.jg_table_locals.proofs.Named.{named_more}
use Rattle.jg_table_locals.proofs.slot_list.name_all.Goals as goal

pub loop-slot-preserved : goal.loop-slot-preserved
loop-slot-preserved g c = record {
  items =
      c.push_reserved.ensures.items
      ∙ (ap (λ objects. objects ++ c.named.result ∷ []) c.loop-slot.invariant.items
      ∙ (rw c.named.ensures (named_more c.args.slots.now c.loop-slot.slot-index _ c.loop-slot-test.true)));
  capacity = omega (arith, c.loop-slot.invariant.capacity, c.push_reserved.ensures.capacity);
}
