use Rattle.std.proofs.Common.{◌≡◌, ◌≤◌, ◌<◌, ◌-◌, length, Some, sym, ap, ◌∙◌, arith}
use Rattle.std.specs.Prelude.{map}
use Rattle.std.proofs.lemmas.Bool.Decides.{nat_tests}
use Rattle.jg_lists.specs.declared.by_number.Numbered.{Numbered}
use Rattle.jg_lists.specs.ByNumber.{seen}
use Rattle.jg_lists.proofs.Values.{removed_at, removed_none}
use Rattle.jg_lists.proofs.Places.{once, within, found, not_found, seat_inside, placed_after, none_now, taken_it, once_left}
use Rattle.jg_lists.proofs.by_place.ByPlace.remove.Goals as goal

pub returns-then-place-eq0-clause-was : goal.returns-then-place-eq0-clause-was
returns-then-place-eq0-clause-was g c =
    let none : 0 ≡ c.number_at-place.result = grind (arith, nat_tests, c.if-place-eq0.true) in
    sym (not_found c.self.inside.places.items c.self.inside.seats.items c.args.self.now c.args.number c.self.invariant c.self.view_is
    (none ∙ c.number_at-place.ensures))

pub returns-then-place-eq0-clause-removed : goal.returns-then-place-eq0-clause-removed
returns-then-place-eq0-clause-removed g c = λ q. removed_none c.args.self.now c.args.number q (sym (returns-then-place-eq0-clause-was g c))

pub returns-then-place-eq0-clause-once : goal.returns-then-place-eq0-clause-once
returns-then-place-eq0-clause-once g c = once c.self.inside.places.items c.self.inside.seats.items c.args.self.now c.self.invariant c.self.view_is

pub overflow_sub-len : goal.overflow_sub-len
overflow_sub-len g c =
    let some : 1 ≤ c.number_at-place.result = grind (arith, nat_tests, c.if-place-eq0.false) in
    omega (
      arith,
      within c.self.inside.places.items c.self.inside.seats.items c.args.number c.number_at-place.result
          c.self.invariant c.number_at-place.ensures some,
      c.len.ensures,
      c.self.inside.seats.ok,
    )

pub index-requires : goal.index-requires
index-requires g c =
    let some : 1 ≤ c.number_at-place.result = grind (arith, nat_tests, c.if-place-eq0.false) in
    omega (
      arith,
      within c.self.inside.places.items c.self.inside.seats.items c.args.number c.number_at-place.result
          c.self.invariant c.number_at-place.ensures some,
      c.len.ensures,
      c.self.inside.seats.ok,
    )

pub index_mut-requires : goal.index_mut-requires
index_mut-requires g c =
    let some : 1 ≤ c.number_at-place.result = grind (arith, nat_tests, c.if-place-eq0.false) in
    let seated = within c.self.inside.places.items c.self.inside.seats.items c.args.number c.number_at-place.result c.self.invariant c.number_at-place.ensures
    some in
    let inside : c.len.result - 1 < length c.self.inside.seats.items = omega (arith, seated, c.len.ensures, c.self.inside.seats.ok) in
    omega (
      arith,
      seat_inside c.self.inside.places.items c.self.inside.seats.items (c.len.result - 1) c.index.result.now c.self.invariant inside
          c.index.ensures,
      c.self.inside.places.ok,
    )

pub swap_remove-seat-requires : goal.swap_remove-seat-requires
swap_remove-seat-requires g c =
    let some : 1 ≤ c.number_at-place.result = grind (arith, nat_tests, c.if-place-eq0.false) in
    omega (
      arith,
      within c.self.inside.places.items c.self.inside.seats.items c.args.number c.number_at-place.result c.self.invariant c.number_at-place.ensures
          some,
      c.self.inside.seats.ok,
    )

pub invariant_of-self : goal.invariant_of-self
invariant_of-self g c =
    let some : 1 ≤ c.number_at-place.result = grind (arith, nat_tests, c.if-place-eq0.false) in
    placed_after c.self.inside.places.items c.self.inside.seats.items c.swap_remove-seat.new.self.items c.args.self.now c.args.number
    c.number_at-place.result c.swap_remove-seat.result c.self.invariant c.self.view_is c.number_at-place.ensures some
    c.swap_remove-seat.ensures.value c.swap_remove-seat.ensures.items c.len.result c.index.result.now
    (let e : c.len.result ≡ length c.self.inside.seats.items = omega (arith, c.len.ensures, c.self.inside.seats.ok) in e) c.index.ensures

pub returns-clause-was : goal.returns-clause-was
returns-clause-was g c =
    let some : 1 ≤ c.number_at-place.result = grind (arith, nat_tests, c.if-place-eq0.false) in
    ap (λ (s : Numbered g.row.V.Denot). Some s.value) c.swap_remove-seat.ensures.value
    ∙ sym (found c.self.inside.places.items c.self.inside.seats.items c.args.self.now c.args.number c.number_at-place.result
    c.swap_remove-seat.result c.self.invariant c.self.view_is c.number_at-place.ensures some)

pub returns-clause-taken : goal.returns-clause-taken
returns-clause-taken g c =
    let some : 1 ≤ c.number_at-place.result = grind (arith, nat_tests, c.if-place-eq0.false) in
    taken_it c.self.inside.places.items c.self.inside.seats.items c.swap_remove-seat.new.self.items c.args.self.now c.args.number
    c.number_at-place.result c.swap_remove-seat.result c.self.invariant c.self.view_is c.number_at-place.ensures some
    c.swap_remove-seat.ensures.value c.swap_remove-seat.ensures.items

pub returns-clause-removed : goal.returns-clause-removed
returns-clause-removed g c = λ q.
    let some : 1 ≤ c.number_at-place.result = grind (arith, nat_tests, c.if-place-eq0.false) in
    removed_at c.args.self.now (map seen c.swap_remove-seat.new.self.items) c.args.number q c.swap_remove-seat.result.value
    (once c.self.inside.places.items c.self.inside.seats.items c.args.self.now c.self.invariant c.self.view_is) (returns-clause-taken g c)
    (none_now c.self.inside.places.items c.self.inside.seats.items c.swap_remove-seat.new.self.items c.args.self.now c.args.number
    c.number_at-place.result c.swap_remove-seat.result c.self.invariant c.self.view_is c.number_at-place.ensures some
    c.swap_remove-seat.ensures.value c.swap_remove-seat.ensures.items)

pub returns-clause-once : goal.returns-clause-once
returns-clause-once g c =
    let some : 1 ≤ c.number_at-place.result = grind (arith, nat_tests, c.if-place-eq0.false) in
    once_left c.self.inside.places.items c.self.inside.seats.items c.swap_remove-seat.new.self.items c.args.self.now c.args.number
    c.number_at-place.result c.swap_remove-seat.result c.self.invariant c.self.view_is c.number_at-place.ensures some
    c.swap_remove-seat.ensures.value c.swap_remove-seat.ensures.items
