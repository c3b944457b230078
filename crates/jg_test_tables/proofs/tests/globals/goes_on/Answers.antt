use Rattle.std.proofs.Common.{arith}
use Rattle.jg_test_tables.proofs.tests.globals.goes_on.Goals as goal

pub make_strong-requires : goal.make_strong-requires
make_strong-requires c = c.requires 1 1

pub make_weak-requires : goal.make_weak-requires
make_weak-requires c = c.make_strong.ensures.numbers 1 2 (c.requires 1 2) (λ is. omega arith)

pub make_strong-requires-2 : goal.make_strong-requires-2
make_strong-requires-2 c =
    c.make_weak.ensures.numbers 1 3 (c.make_strong.ensures.numbers 1 3 (c.requires 1 3) (λ is. omega arith)) (λ is. omega arith)

pub make_weak-requires-2 : goal.make_weak-requires-2
make_weak-requires-2 c =
    c.make_strong-2.ensures.numbers 1 4
    (c.make_weak.ensures.numbers 1 4 (c.make_strong.ensures.numbers 1 4 (c.requires 1 4) (λ is. omega arith)) (λ is. omega arith))
    (λ is. omega arith)
