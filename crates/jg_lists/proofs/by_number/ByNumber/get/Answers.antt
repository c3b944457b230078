use Rattle.std.proofs.Common.{Some, sym, ap, ◌∙◌}
use Rattle.jg_lists.specs.declared.by_number.Numbered.{Numbered}
use Rattle.jg_lists.proofs.Seats.{once, within, own_seat, found, not_found}
use Rattle.jg_lists.proofs.by_number.ByNumber.get.Goals as goal

pub returns-in_default-clause-value : goal.returns-in_default-clause-value
returns-in_default-clause-value g c =
    sym (not_found c.self.inside.slots.items c.self.inside.seats.items c.args.self.now c.args.number c.self.invariant.placed c.self.view_is
    (c.find_slot.ensures.none c.in_default.is))

pub returns-in_default-clause-once : goal.returns-in_default-clause-once
returns-in_default-clause-once g c = once c.self.inside.slots.items c.self.inside.seats.items c.args.self.now c.self.invariant.placed c.self.view_is

pub returns-clause-value : goal.returns-clause-value
returns-clause-value g c =
    let slots = c.self.inside.slots.items in
    let seats = c.self.inside.seats.items in
    let finds = c.in-Some.ensures.found in
    ap (λ (s : Numbered g.row.V.Denot). Some s.value) c.index.ensures
    ∙ sym (found slots seats c.args.self.now c.args.number c.in-Some.found.seat c.index.result.now c.self.invariant.placed c.self.view_is
    (within slots seats c.args.number c.in-Some.found.slot c.in-Some.found.seat finds)
    (own_seat slots seats c.args.number c.in-Some.found.slot c.in-Some.found.seat c.index.result.now finds))

pub returns-clause-once : goal.returns-clause-once
returns-clause-once g c = once c.self.inside.slots.items c.self.inside.seats.items c.args.self.now c.self.invariant.placed c.self.view_is
