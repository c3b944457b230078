use Rattle.std.proofs.Common.{◌++◌, ◌∙◌, ap}
use Rattle.std.proofs.lemmas.Result.{on_ok_weaker}
use Rattle.jg_table_buffers.specs.History.{same_ref}
use Rattle.jg_table_buffers.specs.Seen.{key_name}
use Rattle.jg_table_buffers.proofs.Listed.{seats_passing}
use Rattle.jg_table_buffers.proofs.visits.list_in_through.Goals as goal

pub returns : goal.returns
returns g c = on_ok_weaker c.list_numbers_through.result
    (λ listed. listed
    ∙ ap (λ l. c.args.buffers.now.items ++ l)
    (seats_passing (λ n. key_name (c.args.maker, n)) (λ pin. same_ref pin.via c.args.via) c.seats.result.now c.args.numbers.now c.seats.ensures.seats))
    c.list_numbers_through.ensures
