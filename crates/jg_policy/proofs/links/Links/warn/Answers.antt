use Rattle.std.proofs.Common.{sym, subst}
use Rattle.jg_policy.specs.LinkRows.{Table}
use Rattle.jg_policy.specs.LinkStanding.{Stands}
use Rattle.jg_policy.proofs.LinkSteps.{rows_of, after_warn}
use Rattle.jg_policy.proofs.links.Links.warn.Goals as goal

pub returns-clause-ok : goal.returns-clause-ok
returns-clause-ok g c e stands =
    let before : Stands (rows_of c.self.inside.linked.keys c.self.inside.warned.keys) e = subst (λ (t : Table). Stands t.rows e) (sym c.self.view_is) stands in
    after_warn c.self.inside.linked.keys c.self.inside.warned.keys e before c.args.home c.in-Ok._added c.insert.new.self.keys c.in-Ok.ensures.added
    c.in-Ok.ensures.keys
