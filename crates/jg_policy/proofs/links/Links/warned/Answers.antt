use Rattle.std.proofs.Common.{◌∙◌, sym, subst}
use Rattle.jg_policy.specs.LinkRows.{Table}
use Rattle.jg_policy.specs.LinkStanding.{Stands}
use Rattle.jg_policy.proofs.LinkSteps.{rows_of, found_warning}
use Rattle.jg_policy.proofs.links.Links.warned.Goals as goal

pub returns : goal.returns
returns g c e stands =
    let before : Stands (rows_of c.self.inside.linked.keys c.self.inside.warned.keys) e = subst (λ (t : Table). Stands t.rows e) (sym c.self.view_is) stands in
    c.contains.ensures ∙ found_warning c.self.inside.linked.keys c.self.inside.warned.keys e before c.args.home
