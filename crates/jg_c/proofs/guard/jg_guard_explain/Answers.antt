use Rattle.std.proofs.Common.{rules, ◌≡◌, Option, sym, subst, to_z, of_z, w64}
use Rattle.jg_guard.specs.Guard.{State}
use Rattle.jg_c.specs.Guards.{ExplainsNewest}
use Rattle.jg_c.specs.Sessions.{Of}
use Rattle.jg_c.proofs.guard.jg_guard_explain.Goals as goal

pub returns-in-Some-clause-is : goal.returns-in-Some-clause-is
returns-in-Some-clause-is c =
    let plain : to_z w64 (of_z w64 c.explain.result) ≡ c.explain.result = search rules in
    rw plain (λ fine. subst (λ (held : Option State). Of held (λ g. ExplainsNewest g c.args.text.now c.explain.new.text c.explain.result))
    (sym c.in-Some.ensures.value)
    (subst (λ (g : State). ExplainsNewest g c.args.text.now c.explain.new.text c.explain.result) c.kept.view_is (c.explain.ensures.is fine)))
