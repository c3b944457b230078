use Rattle.std.proofs.Common.{arith}
use Rattle.jg_test_tables.proofs.tests.globals.make_for_all.Goals as goal

pub loop-t-init : goal.loop-t-init
loop-t-init c = λ maker to_come. c.requires maker 1

pub make_strong-requires : goal.make_strong-requires
make_strong-requires c = c.loop-t.invariant c.loop-t.t (omega arith)

pub loop-t-preserved : goal.loop-t-preserved
loop-t-preserved c = λ maker to_come.
    c.make_strong.ensures.numbers maker 1 (c.loop-t.invariant maker (omega arith)) (λ is. absurd (omega arith))
