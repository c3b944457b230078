use Rattle.std.proofs.Common.{arith}
use Rattle.jg_table_heap.proofs.Objects.{none_goes, one_goes}
use Rattle.jg_table_heap.proofs.collect.let_all_go.Goals as goal

pub loop-object-init : goal.loop-object-init
loop-object-init c o = none_goes c.args.there.now o

pub loop-object-preserved : goal.loop-object-preserved
loop-object-preserved c o = one_goes c.args.there.now c.loop-object.there c.args.unheld.now c.loop-object.object-index o c.loop-object-test.true
    (omega (arith, c.requires c.loop-object.object-index 0 c.loop-object-test.true, c.loop-object.auto.there)) (c.loop-object.invariant o)
