use Rattle.std.proofs.lemmas.List.{map-id}
use Rattle.jg_table_heap.proofs.Decoding.{found_decoded}
use Rattle.jg_table_heap.proofs.mutf8.read.from_mutf8_items.Goals as goal

pub returns-clause-decoded : goal.returns-clause-decoded
returns-clause-decoded g c = found_decoded c.args.items.now _ c.units_of.result (map-id c.args.items.now) c.units_of.ensures.found c.units_of.ensures.none
