use Rattle.std.proofs.Common.{arith}
use Rattle.jg_table_heap.proofs.Marking.{classes_none, classes_more, classes_all}
use Rattle.jg_table_heap.proofs.collect.mark_classes.Goals as goal

pub loop-object-init : goal.loop-object-init
loop-object-init g c = classes_none _

pub loop-object-preserved : goal.loop-object-preserved
loop-object-preserved g c = classes_more c.loop-object.object _ _ _ c.loop-object.invariant c.set.ensures

pub returns : goal.returns
returns g c = classes_all c.loop-object.object c.args.class_count _ _ (omega arith) c.loop-object.invariant
