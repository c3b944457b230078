use Rattle.std.proofs.Common.{◌∙◌}
use Rattle.std.specs.Prelude.{◌==◌}
use Rattle.jg_words.specs.declared.object.ObjId.{ObjId}
use Rattle.jg_lists.proofs.Found.{found_seat}
use Rattle.jg_table_globals.proofs.visits.number_in.Goals as goal

pub returns : goal.returns
returns g c = c.number_of.ensures ∙ found_seat (λ (o : ObjId). o.0 == c.args.object.0) c.seats.result.now c.args.numbers.now c.seats.ensures.seats
