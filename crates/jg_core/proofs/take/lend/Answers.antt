use Rattle.jg_core.proofs.Due.{counts, is_above_buffers, may_lend}
use Rattle.jg_core.proofs.take.lend.Goals as goal

pub next_buf-n-requires : goal.next_buf-n-requires
next_buf-n-requires g c =
    (counts c.args.setup.now c.requires.events c.args.tables.now.threads c.args.tid.0 c.requires.ordinary c.requires.stand.threads).buffers

pub open-requires-clause-above : goal.open-requires-clause-above
open-requires-clause-above g c =
    is_above_buffers c.args.setup.now c.requires.events c.args.tables.now.buffers c.args.tid.0 c.next_buf-n.result c.requires.ordinary c.requires.stand.buffers
    (c.next_buf-n.ensures.history c.requires.events.threads c.requires.stand.threads)

pub open-requires-clause-through : goal.open-requires-clause-through
open-requires-clause-through g c = may_lend c.args.setup.now c.requires.events c.args.tid c.args.family c.args.object c.args.via c.args.length c.requires.can

pub count_buf-requires-clause-room : goal.count_buf-requires-clause-room
count_buf-requires-clause-room g c =
    (counts c.args.setup.now c.requires.events c.args.tables.now.threads c.args.tid.0 c.requires.ordinary c.requires.stand.threads).buffers
