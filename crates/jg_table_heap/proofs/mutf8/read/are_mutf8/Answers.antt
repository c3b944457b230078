use Rattle.std.proofs.Common.{map, pos, ap}
use Rattle.jg_table_heap.proofs.Bytes.{same_bytes}
use Rattle.jg_table_heap.proofs.mutf8.read.are_mutf8.Goals as goal

pub returns : goal.returns
returns c = (
  λ yes.
      let found = c.spells.ensures.0 yes in
      (found.0, (found.1.0, same_bytes c.args.bytes.now _ found.1.1)),
  λ some. c.spells.ensures.1 (some.0, (some.1.0, ap (map pos) some.1.1)),
)
