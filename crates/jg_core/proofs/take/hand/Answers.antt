use Rattle.jg_core.proofs.Due.{counts, has_frame, is_above, is_above_globals}
use Rattle.jg_core.proofs.take.hand.Goals as goal

pub next_ref-n-requires : goal.next_ref-n-requires
next_ref-n-requires g c = (counts c.args.setup.now c.requires.events c.args.tables.now.threads c.args.tid.0 c.requires.ordinary c.requires.stand.threads).refs

pub make-requires-clause-started : goal.make-requires-clause-started
make-requires-clause-started g c =
    has_frame c.args.setup.now c.requires.events c.args.tables.now.locals.rows c.args.tid.0 c.requires.ordinary c.requires.stand.locals c.requires.attached

pub make-requires-clause-above : goal.make-requires-clause-above
make-requires-clause-above g c =
    is_above c.args.setup.now c.requires.events c.args.tables.now.locals.rows c.args.tid.0 c.next_ref-n.result c.requires.ordinary c.requires.stand.locals
    (c.next_ref-n.ensures.history c.requires.events.threads c.requires.stand.threads)

pub make_strong-requires : goal.make_strong-requires
make_strong-requires g c =
    is_above_globals c.args.setup.now c.requires.events c.args.tables.now.globals c.args.tid.0 c.next_ref-n.result c.requires.ordinary c.requires.stand.globals
    (c.next_ref-n.ensures.history c.requires.events.threads c.requires.stand.threads)

pub make_weak-requires : goal.make_weak-requires
make_weak-requires g c =
    is_above_globals c.args.setup.now c.requires.events c.args.tables.now.globals c.args.tid.0 c.next_ref-n.result c.requires.ordinary c.requires.stand.globals
    (c.next_ref-n.ensures.history c.requires.events.threads c.requires.stand.threads)

pub count_ref-requires-clause-room : goal.count_ref-requires-clause-room
count_ref-requires-clause-room g c =
    (counts c.args.setup.now c.requires.events c.args.tables.now.threads c.args.tid.0 c.requires.ordinary c.requires.stand.threads).refs

pub count_ref-requires-in-Global-clause-room : goal.count_ref-requires-in-Global-clause-room
count_ref-requires-in-Global-clause-room g c =
    (counts c.args.setup.now c.requires.events c.args.tables.now.threads c.args.tid.0 c.requires.ordinary c.requires.stand.threads).refs

pub count_ref-requires-in-Weak-clause-room : goal.count_ref-requires-in-Weak-clause-room
count_ref-requires-in-Weak-clause-room g c =
    (counts c.args.setup.now c.requires.events c.args.tables.now.threads c.args.tid.0 c.requires.ordinary c.requires.stand.threads).refs
