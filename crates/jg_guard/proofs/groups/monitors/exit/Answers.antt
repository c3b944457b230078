use Rattle.std.proofs.Common.{◌∙◌, ap, false}
use Rattle.jg_table_monitors.specs.Rows.{owner_in, row_of}
use Rattle.jg_rules.specs.Names.{names}
use Rattle.jg_guard.proofs.Due.{stand_at, owns}
use Rattle.jg_guard.proofs.groups.monitors.exit.Goals as goal

pub exit-requires : goal.exit-requires
exit-requires g c =
    let due = c.requires in
    let object = c.the_object-object.ensures due.events (stand_at _ _ _ _ due.events c.view.ensures.setup c.view.ensures.rows due.stand) in
    ap (λ o. owner_in (row_of o c.args.tables.now.monitors)) object
    ∙ owns due.events c.args.tables.now.monitors c.args.tid.0 (names due.events c.args.tid.0 c.args.of) false false due.stand.monitors due.unbroken.alive
    due.unbroken.not_null due.unbroken.owned
