use Rattle.std.proofs.Common.{rules}
use Rattle.std.specs.Prelude.{◌==◌, not}
use Rattle.jg_words.proofs.Common.{and_first, and_second}
use Rattle.jg_rules.specs.Names.{open_frames}
use Rattle.jg_core.specs.Facts.{is_attached}
use Rattle.jg_core.proofs.Due.{can_pop, session_popped}
use Rattle.jg_core.proofs.take.pop.Goals as goal

pub pop-requires : goal.pop-requires
pop-requires g c =
    let p = c.requires.events in
    let t = c.args.tid.0 in
    can_pop p c.args.tables.now.locals.rows t c.requires.stand.locals (and_first (not (open_frames p t == 0)) _ (and_second (is_attached p t) _ c.requires.can))

pub returns-clause-session : goal.returns-clause-session
returns-clause-session g c = session_popped c.args.setup.now _ c.requires.events c.args.tid c.requires.can c.requires.ordinary (search rules)
