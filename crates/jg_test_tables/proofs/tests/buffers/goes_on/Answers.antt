use Rattle.std.proofs.Common.{arith}
use Rattle.jg_test_tables.proofs.tests.buffers.goes_on.Goals as goal

pub open_copy-requires-clause-above : goal.open_copy-requires-clause-above
open_copy-requires-clause-above c = c.requires 1 1

pub open_pin-requires-clause-above : goal.open_pin-requires-clause-above
open_pin-requires-clause-above c = c.open_copy.ensures.numbers 1 2 (c.requires 1 2) (λ is. omega arith)

pub open_copy-requires-2-clause-above : goal.open_copy-requires-2-clause-above
open_copy-requires-2-clause-above c =
    c.open_pin.ensures.numbers 1 3 (c.open_copy.ensures.numbers 1 3 (c.requires 1 3) (λ is. omega arith)) (λ is. omega arith)

pub open_pin-requires-2-clause-above : goal.open_pin-requires-2-clause-above
open_pin-requires-2-clause-above c =
    c.open_copy-2.ensures.numbers 1 4
    (c.open_pin.ensures.numbers 1 4 (c.open_copy.ensures.numbers 1 4 (c.requires 1 4) (λ is. omega arith)) (λ is. omega arith))
    (λ is. omega arith)
