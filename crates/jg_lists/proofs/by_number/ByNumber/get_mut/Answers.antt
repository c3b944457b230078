use Rattle.std.proofs.Common.{refl, sym, ap, ◌∙◌, get_or}
use Rattle.jg_lists.proofs.Seats.{once, keys_seen, not_found}
use Rattle.jg_lists.proofs.Values.{through, through_none}
use Rattle.jg_lists.proofs.by_number.ByNumber.get_mut.Goals as goal

pub value_at-requires-clause-own : goal.value_at-requires-clause-own
value_at-requires-clause-own g c = ap (λ l. get_or l c.in-Some.found.seat 0) (keys_seen c.self.inside.seats.items c.args.self.now c.self.view_is)
    ∙ c.in-Some.ensures.found.own

pub returns-in-Some : goal.returns-in-Some
returns-in-Some g c = (
  (refl, λ w. through c.args.self.now c.args.number c.value_at.result.now w c.value_at.ensures.once (sym c.value_at.ensures.value), refl),
  record { writes_back = tt; value = c.value_at.ensures.value; once = c.value_at.ensures.once },
)

pub returns-in-None : goal.returns-in-None
returns-in-None g c =
    let slots = c.self.inside.slots.items in
    let seats = c.self.inside.seats.items in
    let whole = once slots seats c.args.self.now c.self.invariant.placed c.self.view_is in
    let none = not_found slots seats c.args.self.now c.args.number c.self.invariant.placed c.self.view_is (c.find_slot.ensures.none c.in-None.is) in (
      (refl, λ w. through_none c.args.self.now c.args.number w whole none, refl),
      record { writes_back = tt; value = sym none; once = whole },
    )
