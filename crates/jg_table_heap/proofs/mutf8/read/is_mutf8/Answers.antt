use Rattle.std.proofs.lemmas.List.{map-id}
use Rattle.jg_table_heap.proofs.Decoding.{some_decoded}
use Rattle.jg_table_heap.proofs.mutf8.read.is_mutf8.Goals as goal

pub returns-clause-decoded : goal.returns-clause-decoded
returns-clause-decoded c = some_decoded c.args.items.now _ c.spells.result (map-id c.args.items.now) c.spells.ensures
