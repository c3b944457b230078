use Rattle.std.proofs.Common.{◌++◌, ◌∙◌, ap}
use Rattle.std.proofs.lemmas.Result.{on_ok_weaker}
use Rattle.jg_lists.proofs.Visited.{seat_names}
use Rattle.jg_table_buffers.specs.Seen.{key_name}
use Rattle.jg_table_buffers.proofs.visits.list_in.Goals as goal

pub returns-clause-ok : goal.returns-clause-ok
returns-clause-ok g c = on_ok_weaker c.list_numbers.result
    (λ listed. listed ∙ ap (λ l. c.args.buffers.now.items ++ l)
    (seat_names (λ n. key_name (c.args.maker, n)) c.seats.result.now c.args.numbers.now c.seats.ensures.seats)) c.list_numbers.ensures.ok
