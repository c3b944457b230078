use Rattle.std.proofs.Common.{Some, ap, sym, ◌∙◌, refl}
use Rattle.std.specs.Prelude.{map}
use Rattle.jg_lists.specs.declared.by_number.Numbered.{Numbered}
use Rattle.jg_lists.specs.ByNumber.{seen}
use Rattle.jg_lists.proofs.Values.{removed_at, removed_none}
use Rattle.jg_lists.proofs.Seats.{once, within, own_seat, found, not_found, standing_without, seen_less, none_left}
use Rattle.jg_lists.proofs.by_number.ByNumber.remove.Goals as goal

pub returns-in_default-clause-was : goal.returns-in_default-clause-was
returns-in_default-clause-was g c =
    sym (not_found c.self.inside.slots.items c.self.inside.seats.items c.args.self.now c.args.number c.self.invariant.placed c.self.view_is
    (c.find_slot.ensures.none c.in_default.is))

pub returns-in_default-clause-removed : goal.returns-in_default-clause-removed
returns-in_default-clause-removed g c = λ q. removed_none c.args.self.now c.args.number q (sym (returns-in_default-clause-was g c))

pub returns-in_default-clause-once : goal.returns-in_default-clause-once
returns-in_default-clause-once g c = once c.self.inside.slots.items c.self.inside.seats.items c.args.self.now c.self.invariant.placed c.self.view_is

pub invariant_of-self : goal.invariant_of-self
invariant_of-self g c =
    standing_without c.self.inside.slots.items c.leave_slot-used.new.slots.items c.self.inside.seats.items c.swap_remove-seat.new.self.items
    c.args.number c.in-Some.found.slot c.in-Some.found.seat c.swap_remove-seat.result
    c.self.invariant.placed c.in-Some.ensures.found c.leave_slot-used.ensures.leaves c.swap_remove-seat.ensures.value c.swap_remove-seat.ensures.items
    c.leave_slot-used.result c.leave_slot-used.ensures.counted c.leave_slot-used.ensures.live c.leave_slot-used.ensures.room

pub returns-clause-was : goal.returns-clause-was
returns-clause-was g c =
    let slots = c.self.inside.slots.items in
    let seats = c.self.inside.seats.items in
    let finds = c.in-Some.ensures.found in
    ap (λ (s : Numbered g.row.V.Denot). Some s.value) c.swap_remove-seat.ensures.value
    ∙ sym (found slots seats c.args.self.now c.args.number c.in-Some.found.seat c.swap_remove-seat.result c.self.invariant.placed c.self.view_is
    (within slots seats c.args.number c.in-Some.found.slot c.in-Some.found.seat finds)
    (own_seat slots seats c.args.number c.in-Some.found.slot c.in-Some.found.seat c.swap_remove-seat.result finds))

pub returns-clause-taken : goal.returns-clause-taken
returns-clause-taken g c =
    seen_less c.self.inside.slots.items c.leave_slot-used.new.slots.items c.self.inside.seats.items c.swap_remove-seat.new.self.items
    c.args.number c.in-Some.found.slot c.in-Some.found.seat c.swap_remove-seat.result
    c.self.invariant.placed c.in-Some.ensures.found c.leave_slot-used.ensures.leaves c.swap_remove-seat.ensures.value c.swap_remove-seat.ensures.items
    c.args.self.now c.self.view_is

pub returns-clause-removed : goal.returns-clause-removed
returns-clause-removed g c = λ q.
    let none = none_left c.self.inside.slots.items c.leave_slot-used.new.slots.items c.self.inside.seats.items
    c.swap_remove-seat.new.self.items c.args.number c.in-Some.found.slot c.in-Some.found.seat c.swap_remove-seat.result
    c.self.invariant.placed c.in-Some.ensures.found c.leave_slot-used.ensures.leaves c.swap_remove-seat.ensures.value c.swap_remove-seat.ensures.items in
    removed_at c.args.self.now (map seen c.swap_remove-seat.new.self.items) c.args.number q c.swap_remove-seat.result.value
    (once c.self.inside.slots.items c.self.inside.seats.items c.args.self.now c.self.invariant.placed c.self.view_is) (returns-clause-taken g c) none

pub returns-clause-once : goal.returns-clause-once
returns-clause-once g c =
    once c.leave_slot-used.new.slots.items c.swap_remove-seat.new.self.items (map seen c.swap_remove-seat.new.self.items) (invariant_of-self g c).placed refl
