use Rattle.jg_table_heap.proofs.Decoding.{decoded_means}
use Rattle.jg_table_heap.proofs.meanings.decoded_means.Goals as goal

pub returns : goal.returns
returns c = decoded_means
