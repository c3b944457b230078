use Rattle.std.proofs.Common.{◌≡◌, ◌≤◌, ◌∙◌, arith}
use Rattle.std.proofs.lemmas.Bool.Decides.{nat_tests}
use Rattle.jg_lists.proofs.Places.{not_found, seat_of}
use Rattle.jg_lists.proofs.by_place.ByPlace.place_of.Goals as goal

pub returns-then-place-eq0-clause-none : goal.returns-then-place-eq0-clause-none
returns-then-place-eq0-clause-none g c _ =
    let none : 0 ≡ c.number_at-place.result = grind (arith, nat_tests, c.if-place-eq0.true) in
    not_found c.self.inside.places.items c.self.inside.seats.items c.args.self.now c.args.number c.self.invariant c.self.view_is
    (none ∙ c.number_at-place.ensures)

pub returns-clause-found : goal.returns-clause-found
returns-clause-found g c =
    let some : 1 ≤ c.number_at-place.result = grind (arith, nat_tests, c.if-place-eq0.false) in
    seat_of c.self.inside.places.items c.self.inside.seats.items c.args.self.now c.args.number c.number_at-place.result c.self.invariant c.self.view_is
    c.number_at-place.ensures some
