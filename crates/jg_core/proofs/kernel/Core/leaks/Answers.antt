use Rattle.std.proofs.Common.{rules, ◌≡◌}
use Rattle.jg_table_objects.specs.Standing.{Tells}
use Rattle.jg_rules.specs.View.{rows_in}
use Rattle.jg_rules.proofs.Holders.{holders_stand}
use Rattle.jg_core.specs.Facts.{parts_of}
use Rattle.jg_core.proofs.Answered.{viewed}
use Rattle.jg_core.proofs.kernel.Core.leaks.Goals as goal

pub returns : goal.returns
returns g c = λ w stands.
    let setup_is : c.view.result.setup.now ≡ c.args.self.now.setup = search rules in
    let rows_is : rows_in c.view.result ≡ c.args.self.now.rows = search rules in
    c.in_ok-list_left.ensures (parts_of w)
    (holders_stand Tells c.view.result.setup.now (rows_in c.view.result) (parts_of w) (viewed c.args.self.now c.view.result w setup_is rows_is stands))
