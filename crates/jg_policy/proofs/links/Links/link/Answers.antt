use Rattle.std.proofs.Common.{ap, refl, sym, subst}
use Rattle.std.specs.List.{list_any}
use Rattle.jg_policy.specs.LinkKept.{same_link}
use Rattle.jg_policy.specs.LinkRows.{Table}
use Rattle.jg_policy.specs.LinkStanding.{Stands}
use Rattle.jg_policy.proofs.LinkSteps.{rows_of, link_at, after_link, up_to_alike, up_to_linked}
use Rattle.jg_policy.proofs.links.Links.link.Goals as goal

pub returns-clause-ok : goal.returns-clause-ok
returns-clause-ok g c e stands =
    let before : Stands (rows_of c.self.inside.linked.keys c.self.inside.warned.keys) e = subst (λ (t : Table). Stands t.rows e) (sym c.self.view_is) stands in
    after_link c.self.inside.linked.keys c.self.inside.warned.keys e before c.args.class c.args.native c.in-Ok-insert._added
    c.insert.new.self.keys c.in-Ok-insert.ensures.added c.in-Ok-insert.ensures.keys

pub invariant_of-self : goal.invariant_of-self
invariant_of-self g c =
    up_to_alike c.self.inside.linked.keys c.self.inside.linked.keys c.self.inside.greatest.entries c.raise.new.greatest.entries
    (λ q. refl) c.in_default.ensures.others c.self.invariant

pub invariant_of-self-in_default-insert : goal.invariant_of-self-in_default-insert
invariant_of-self-in_default-insert g c =
    up_to_alike c.self.inside.linked.keys c.insert.new.self.keys c.self.inside.greatest.entries c.raise.new.greatest.entries
    (λ q. ap (list_any (same_link q)) c.in_default-insert.ensures.err) c.in-Ok.ensures.others
    c.self.invariant

pub invariant_of-self-2 : goal.invariant_of-self-2
invariant_of-self-2 g c =
    up_to_linked c.self.inside.linked.keys c.insert.new.self.keys c.self.inside.greatest.entries c.raise.new.greatest.entries
    (link_at c.args.class c.args.native) c.in-Ok-insert.ensures.updates.0 c.in-Ok.ensures.own
    c.in-Ok.ensures.others c.self.invariant
