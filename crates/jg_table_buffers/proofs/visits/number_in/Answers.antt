use Rattle.std.proofs.Common.{◌∙◌}
use Rattle.std.specs.Prelude.{◌==◌}
use Rattle.jg_table_buffers.specs.declared.pinned.Pinned.{Pinned}
use Rattle.jg_lists.proofs.Found.{found_seat}
use Rattle.jg_table_buffers.proofs.visits.number_in.Goals as goal

pub returns : goal.returns
returns g c = c.number_of.ensures ∙ found_seat (λ (w : Pinned). w.object == c.args.object) c.seats.result.now c.args.numbers.now c.seats.ensures.seats
