use Rattle.std.proofs.Common.{◌≡◌, ◌≤◌, Some, sym, ap, ◌∙◌, arith}
use Rattle.std.proofs.lemmas.Bool.Decides.{nat_tests}
use Rattle.jg_lists.specs.declared.by_number.Numbered.{Numbered}
use Rattle.jg_lists.proofs.Places.{once, within, found, not_found}
use Rattle.jg_lists.proofs.by_place.ByPlace.get.Goals as goal

pub returns-then-place-eq0-clause-value : goal.returns-then-place-eq0-clause-value
returns-then-place-eq0-clause-value g c =
    let none : 0 ≡ c.number_at-place.result = grind (arith, nat_tests, c.if-place-eq0.true) in
    sym (not_found c.self.inside.places.items c.self.inside.seats.items c.args.self.now c.args.number c.self.invariant c.self.view_is
    (none ∙ c.number_at-place.ensures))

pub returns-then-place-eq0-clause-once : goal.returns-then-place-eq0-clause-once
returns-then-place-eq0-clause-once g c = once c.self.inside.places.items c.self.inside.seats.items c.args.self.now c.self.invariant c.self.view_is

pub index-requires : goal.index-requires
index-requires g c =
    let some : 1 ≤ c.number_at-place.result = grind (arith, nat_tests, c.if-place-eq0.false) in
    omega (
      arith,
      within c.self.inside.places.items c.self.inside.seats.items c.args.number c.number_at-place.result c.self.invariant c.number_at-place.ensures
          some,
      c.self.inside.seats.ok,
    )

pub returns-clause-value : goal.returns-clause-value
returns-clause-value g c =
    let some : 1 ≤ c.number_at-place.result = grind (arith, nat_tests, c.if-place-eq0.false) in
    ap (λ (s : Numbered g.row.V.Denot). Some s.value) c.index.ensures
    ∙ sym (found c.self.inside.places.items c.self.inside.seats.items c.args.self.now c.args.number c.number_at-place.result
    c.index.result.now c.self.invariant c.self.view_is c.number_at-place.ensures some)

pub returns-clause-once : goal.returns-clause-once
returns-clause-once g c = once c.self.inside.places.items c.self.inside.seats.items c.args.self.now c.self.invariant c.self.view_is
