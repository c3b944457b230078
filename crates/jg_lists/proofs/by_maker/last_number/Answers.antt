use Rattle.std.proofs.Common.{rules, ◌≡◌, ◌-◌, length, None, Some, ◌∙◌, ap, sym}
use Rattle.std.specs.Prelude.{slice_get}
use Rattle.jg_lists.specs.ByThread.{at}
use Rattle.jg_lists.specs.ByMaker.{table_in}
use Rattle.jg_lists.proofs.Taken.{number_found, none_found, no_seat}
use Rattle.jg_lists.proofs.by_maker.last_number.Goals as goal

pub returns-in_err-numbers-clause-none : goal.returns-in_err-numbers-clause-none
returns-in_err-numbers-clause-none g c = λ _.
    let none : at c.args.maker c.args.tables.now ≡ None = search rules in
    none_found c.args.maker c.args.tables.now c.get.ensures.once (ap table_in none)

pub returns-in_err-seat-clause-none : goal.returns-in_err-seat-clause-none
returns-in_err-seat-clause-none g c = λ _.
    let is : at c.args.maker c.args.tables.now ≡ Some c.in_ok-numbers.numbers.now = search rules in
    let none : slice_get c.seats.result.now (length c.seats.result.now - 1) ≡ None = search rules in
    none_found c.args.maker c.args.tables.now c.get.ensures.once (ap table_in is ∙ sym c.seats.ensures.seats ∙ no_seat c.seats.result.now none)

pub returns-clause-found : goal.returns-clause-found
returns-clause-found g c =
    let is : at c.args.maker c.args.tables.now ≡ Some c.in_ok-numbers.numbers.now = search rules in
    let last : slice_get c.seats.result.now (length c.seats.result.now - 1) ≡ Some c.in_ok-seat.seat.now = search rules in
    number_found c.args.maker c.args.tables.now c.in_ok-numbers.numbers.now c.seats.result.now _ c.in_ok-seat.seat.now c.get.ensures.once is
    c.seats.ensures.seats last
