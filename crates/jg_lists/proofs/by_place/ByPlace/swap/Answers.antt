use Rattle.std.proofs.Common.{refl, arith}
use Rattle.jg_lists.proofs.Places.{once, seat_inside, swapped_placed, swapped_view, swapped_at}
use Rattle.jg_lists.proofs.Seats.{within_view}
use Rattle.jg_lists.proofs.by_place.ByPlace.swap.Goals as goal

pub swap-requires-clause-i_in_bounds : goal.swap-requires-clause-i_in_bounds
swap-requires-clause-i_in_bounds g c =
    omega (
      arith,
      seat_inside c.self.inside.places.items c.self.inside.seats.items c.args.i c.index.result.now c.self.invariant
          (within_view c.self.inside.seats.items c.args.self.now c.args.i c.self.view_is c.requires.one) c.index.ensures,
      c.self.inside.places.ok,
    )

pub swap-requires-clause-j_in_bounds : goal.swap-requires-clause-j_in_bounds
swap-requires-clause-j_in_bounds g c =
    omega (
      arith,
      seat_inside c.self.inside.places.items c.self.inside.seats.items c.args.j c.index-2.result.now c.self.invariant
          (within_view c.self.inside.seats.items c.args.self.now c.args.j c.self.view_is c.requires.other) c.index-2.ensures,
      c.self.inside.places.ok,
    )

pub invariant_of-self : goal.invariant_of-self
invariant_of-self g c =
    swapped_placed c.self.inside.places.items c.swap.new.self.items c.self.inside.seats.items c.swap-2.new.self.items c.args.self.now c.args.i
    c.args.j c.index.result.now c.index-2.result.now c.self.invariant c.self.view_is c.requires.one c.requires.other
    c.index.ensures c.index-2.ensures c.swap-2.ensures.items c.swap-2.ensures.by_index c.swap.ensures.by_index

pub returns-clause-moved : goal.returns-clause-moved
returns-clause-moved g c =
    swapped_view c.self.inside.places.items c.swap.new.self.items c.self.inside.seats.items c.swap-2.new.self.items c.args.self.now c.args.i
    c.args.j c.index.result.now c.index-2.result.now c.self.invariant c.self.view_is c.requires.one c.requires.other
    c.index.ensures c.index-2.ensures c.swap-2.ensures.items c.swap-2.ensures.by_index

pub returns-clause-found : goal.returns-clause-found
returns-clause-found g c =
    swapped_at c.self.inside.places.items c.swap.new.self.items c.self.inside.seats.items c.swap-2.new.self.items c.args.self.now c.args.i
    c.args.j c.index.result.now c.index-2.result.now c.self.invariant c.self.view_is c.requires.one c.requires.other
    c.index.ensures c.index-2.ensures c.swap-2.ensures.items c.swap-2.ensures.by_index

pub returns-clause-once : goal.returns-clause-once
returns-clause-once g c = once c.swap.new.self.items c.swap-2.new.self.items _ (invariant_of-self g c) refl
