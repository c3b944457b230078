use Rattle.std.proofs.Common.{sym, subst}
use Rattle.jg_policy.specs.LinkKept.{IsUpTo}
use Rattle.jg_policy.specs.LinkRows.{Table}
use Rattle.jg_policy.specs.LinkStanding.{Stands}
use Rattle.jg_policy.proofs.LinkSteps.{rows_of, after_reserve, up_to_alike}
use Rattle.std.proofs.lemmas.List.Sorted.{IsPermutation-refl}
use Rattle.jg_policy.proofs.links.Links.reserve.Goals as goal

pub returns-clause-stands : goal.returns-clause-stands
returns-clause-stands g c e stands =
    let before : Stands (rows_of c.self.inside.linked.keys c.self.inside.warned.keys) e = subst (λ (t : Table). Stands t.rows e) (sym c.self.view_is) stands in
    after_reserve c.self.inside.linked.keys c.self.inside.warned.keys e before c.try_reserve.new.self.keys c.try_reserve-3.new.self.keys
    c.try_reserve.ensures.keys.0 c.try_reserve-3.ensures.keys.0

pub returns-in_err-try_reserve-2-clause-stands : goal.returns-in_err-try_reserve-2-clause-stands
returns-in_err-try_reserve-2-clause-stands g c e stands =
    let before : Stands (rows_of c.self.inside.linked.keys c.self.inside.warned.keys) e = subst (λ (t : Table). Stands t.rows e) (sym c.self.view_is) stands in
    after_reserve c.self.inside.linked.keys c.self.inside.warned.keys e before c.try_reserve.new.self.keys c.self.inside.warned.keys
    c.try_reserve.ensures.keys.0
    (IsPermutation-refl c.self.inside.warned.keys)

pub invariant_of-self-in_err-try_reserve-2 : goal.invariant_of-self-in_err-try_reserve-2
invariant_of-self-in_err-try_reserve-2 g c =
    up_to_alike c.self.inside.linked.keys c.try_reserve.new.self.keys c.self.inside.greatest.entries c.try_reserve-2.new.self.entries
    c.try_reserve.ensures.keys.2
    (λ k n. subst (IsUpTo n) (sym (c.try_reserve-2.ensures.entries.2 k))) c.self.invariant

pub invariant_of-self-2 : goal.invariant_of-self-2
invariant_of-self-2 g c =
    up_to_alike c.self.inside.linked.keys c.try_reserve.new.self.keys c.self.inside.greatest.entries c.try_reserve-2.new.self.entries
    c.try_reserve.ensures.keys.2
    (λ k n. subst (IsUpTo n) (sym (c.try_reserve-2.ensures.entries.2 k))) c.self.invariant
