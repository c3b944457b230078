use Rattle.std.proofs.Common.{sym, ap, ◌∙◌, get_or}
use Rattle.jg_lists.proofs.Seats.{once, keys_seen, not_found}
use Rattle.jg_lists.proofs.Values.{set_at, set_once, none_some}
use Rattle.jg_lists.proofs.by_number.ByNumber.set.Goals as goal

pub value_at-requires-clause-own : goal.value_at-requires-clause-own
value_at-requires-clause-own g c = ap (λ l. get_or l c.in-Some.found.seat 0) (keys_seen c.self.inside.seats.items c.args.self.now c.self.view_is)
    ∙ c.in-Some.ensures.found.own

pub returns-in-Some-clause-set : goal.returns-in-Some-clause-set
returns-in-Some-clause-set g c = λ q. set_at c.args.self.now c.args.number q c.value_at.result.now c.args.value (sym c.value_at.ensures.value)

pub returns-in-Some-clause-once : goal.returns-in-Some-clause-once
returns-in-Some-clause-once g c = set_once c.args.self.now c.args.number c.args.value c.value_at.ensures.once

-- the number has a value, so it is found
pub returns-in_default-clause-entries : goal.returns-in_default-clause-entries
returns-in_default-clause-entries g c =
    none_some _ (not_found c.self.inside.slots.items c.self.inside.seats.items c.args.self.now c.args.number c.self.invariant.placed c.self.view_is
    (c.find_slot.ensures.none c.in_default.is)) c.requires

pub returns-in_default-clause-set : goal.returns-in_default-clause-set
returns-in_default-clause-set g c =
    none_some _ (not_found c.self.inside.slots.items c.self.inside.seats.items c.args.self.now c.args.number c.self.invariant.placed c.self.view_is
    (c.find_slot.ensures.none c.in_default.is)) c.requires

pub returns-in_default-clause-once : goal.returns-in_default-clause-once
returns-in_default-clause-once g c = once c.self.inside.slots.items c.self.inside.seats.items c.args.self.now c.self.invariant.placed c.self.view_is
