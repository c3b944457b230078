use Rattle.std.proofs.Common.{ap, sym, length}
use Rattle.jg_table_heap.proofs.Shapes.{spelling_one, spelling_short, spelling_long}
use Rattle.jg_table_heap.proofs.mutf8.spell.unit_len.Goals as goal

pub returns-then-unit-lt128-clause-len : goal.returns-then-unit-lt128-clause-len
returns-then-unit-lt128-clause-len c = sym (ap length (spelling_one c.args.unit c.if-unit-gt0.true c.if-unit-lt128.true))

pub returns-then-unit-lt2048-clause-len : goal.returns-then-unit-lt2048-clause-len
returns-then-unit-lt2048-clause-len c = sym (ap length (spelling_short c.args.unit c.else-unit-gt0.either c.if-unit-lt2048.true))

pub returns-else-unit-lt2048-clause-len : goal.returns-else-unit-lt2048-clause-len
returns-else-unit-lt2048-clause-len c = sym (ap length (spelling_long c.args.unit c.if-unit-lt2048.false))
