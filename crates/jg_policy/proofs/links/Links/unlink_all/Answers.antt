use Rattle.std.proofs.Common.{◌∙◌, sym, subst}
use Rattle.jg_policy.specs.LinkRows.{Table}
use Rattle.jg_policy.specs.LinkStanding.{Stands}
use Rattle.jg_policy.proofs.LinkSteps.{rows_of, after_unlink, linked_once, counted_once, gone_all, gone_none}
use Rattle.jg_policy.proofs.links.Links.unlink_all.Goals as goal

pub returns-in_default-clause-stands : goal.returns-in_default-clause-stands
returns-in_default-clause-stands g c e stands =
    let links = c.self.inside.linked.keys in
    let before : Stands (rows_of links c.self.inside.warned.keys) e = subst (λ (t : Table). Stands t.rows e) (sym c.self.view_is) stands in
    after_unlink links c.self.inside.warned.keys e before c.args.class links (linked_once links c.self.inside.warned.keys e before)
    (gone_none links c.self.inside.greatest.entries c.args.class (sym c.in_default.ensures.value) c.self.invariant)

pub returns-clause-stands : goal.returns-clause-stands
returns-clause-stands g c e stands =
    let links = c.self.inside.linked.keys in
    let before : Stands (rows_of links c.self.inside.warned.keys) e = subst (λ (t : Table). Stands t.rows e) (sym c.self.view_is) stands in
    after_unlink links c.self.inside.warned.keys e before c.args.class c.drop_class.new.linked.keys
    (counted_once c.drop_class.new.linked.keys c.drop_class.ensures.once)
    (gone_all links c.drop_class.new.linked.keys c.self.inside.greatest.entries c.args.class c.in-Some.most (sym c.in-Some.ensures.value)
    c.drop_class.ensures.dropped c.self.invariant)
