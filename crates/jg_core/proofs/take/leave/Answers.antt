use Rattle.std.proofs.Common.{rules}
use Rattle.std.specs.Prelude.{◌==◌, not}
use Rattle.jg_words.proofs.Common.{and_first, and_second}
use Rattle.jg_rules.specs.Names.{depth}
use Rattle.jg_core.specs.Facts.{is_attached}
use Rattle.jg_core.proofs.Due.{can_leave, can_leave_native, session_left}
use Rattle.jg_core.proofs.take.leave.Goals as goal

pub leave-requires : goal.leave-requires
leave-requires g c =
    let p = c.requires.events in
    let t = c.args.tid.0 in
    can_leave c.args.setup.now p c.args.tables.now.locals.rows t c.requires.ordinary c.requires.stand.locals
    (and_first (not (depth p t == 0)) _ (and_second (is_attached p t) _ c.requires.can))

pub leave_native-requires-clause-inside : goal.leave_native-requires-clause-inside
leave_native-requires-clause-inside g c =
    let p = c.requires.events in
    let t = c.args.tid.0 in
    can_leave_native p c.args.tables.now.threads t c.requires.stand.threads (and_first (not (depth p t == 0)) _ (and_second (is_attached p t) _ c.requires.can))

pub returns-clause-session : goal.returns-clause-session
returns-clause-session g c = session_left c.args.setup.now _ c.requires.events c.args.tid c.requires.can c.requires.ordinary (search rules)
