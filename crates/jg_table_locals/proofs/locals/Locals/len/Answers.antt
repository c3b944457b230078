use Rattle.std.proofs.Common.{◌<◌, ◌^◌, ◌∙◌, length, ap, rules}
use Rattle.jg_table_locals.specs.Rows.{Table}
use Rattle.jg_table_locals.proofs.Tallies.{live_bound}
use Rattle.jg_table_locals.proofs.locals.Locals.len.Goals as goal

pub returns-clause-count : goal.returns-clause-count
returns-clause-count g c = c.self.invariant.all ∙ ap (λ (t : Table). length t.rows.locals) c.self.view_is

pub returns-clause-few : goal.returns-clause-few
returns-clause-few g c =
    let few : length c.seats-stacks.result.now < 2 ^ 63 = search rules in
    live_bound c.seats-stacks.result.now c.self.inside.stacks c.self.inside.live c.seats-stacks.ensures.seats few c.self.invariant
