use Rattle.std.proofs.Common.{rules, ◌≡◌, None, Some, ◌++◌, ◌∙◌, ap, sym}
use Rattle.std.proofs.lemmas.List.{append-nil}
use Rattle.std.proofs.lemmas.Result.{on_ok_weaker}
use Rattle.jg_lists.specs.ByThread.{at}
use Rattle.jg_table_buffers.specs.Seen.{key_name}
use Rattle.jg_table_buffers.proofs.Listed.{own_names}
use Rattle.jg_table_buffers.proofs.visits.list_pins_of.Goals as goal

pub returns-in-None : goal.returns-in-None
returns-in-None g c =
    let none : at c.args.maker c.args.pins.now ≡ None = search rules in
    sym (append-nil c.args.buffers.now.items)
    ∙ ap (λ l. c.args.buffers.now.items ++ l) (own_names key_name c.args.maker c.args.pins.now None c.get.ensures.once (sym none))

pub returns-in-Some : goal.returns-in-Some
returns-in-Some g c =
    let is : at c.args.maker c.args.pins.now ≡ Some c.in-Some.numbers.now = search rules in
    on_ok_weaker c.list_in.result
    (λ listed. listed ∙ ap (λ l. c.args.buffers.now.items ++ l)
    (own_names key_name c.args.maker c.args.pins.now (Some c.in-Some.numbers.now) c.get.ensures.once (sym is)))
    c.list_in.ensures.ok
