use Rattle.std.proofs.Common.{refl, sym, ◌∙◌}
use Rattle.std.specs.Prelude.{map}
use Rattle.jg_table_monitors.specs.Standing.{Stands}
use Rattle.jg_table_monitors.specs.Seen.{seen}
use Rattle.jg_table_monitors.proofs.Lookups.{reopened, row_law, owner_law}
use Rattle.jg_table_monitors.proofs.monitors.Monitors.owner.Goals as goal

pub returns-in-Some-clause-row : goal.returns-in-Some-clause-row
returns-in-Some-clause-row g c =
    rw (row_law c.self.inside.owned _ c.args.object.0 c.self.view_is, sym c.look.ensures ∙ c.in-Some.is) refl

pub returns-in-Some-clause-stands : goal.returns-in-Some-clause-stands
returns-in-Some-clause-stands g c = λ e stands.
    let was : Stands (record { owned = map seen c.self.inside.owned }) e = reopened _ _ e c.self.view_is stands in
    rw (owner_law c.self.inside.owned e c.args.object.0 was, sym c.look.ensures ∙ c.in-Some.is) refl

pub returns-in-None-clause-row : goal.returns-in-None-clause-row
returns-in-None-clause-row g c =
    rw (row_law c.self.inside.owned _ c.args.object.0 c.self.view_is, sym c.look.ensures ∙ c.in-None.is) refl

pub returns-in-None-clause-stands : goal.returns-in-None-clause-stands
returns-in-None-clause-stands g c = λ e stands.
    let was : Stands (record { owned = map seen c.self.inside.owned }) e = reopened _ _ e c.self.view_is stands in
    rw (owner_law c.self.inside.owned e c.args.object.0 was, sym c.look.ensures ∙ c.in-None.is) refl
