use Rattle.std.proofs.Common.{sym, ◌∙◌}
use Rattle.jg_guard.proofs.Due.{counts, can_start}
use Rattle.jg_guard.proofs.groups.vm.attach.Goals as goal

pub attach-requires : goal.attach-requires
attach-requires g c = (counts c.requires.due.events c.args.tables.now.threads c.args.tid.0 c.requires.due.ordinary c.requires.due.stand.threads).sessions

pub attach-requires-else-is_attached : goal.attach-requires-else-is_attached
attach-requires-else-is_attached g c =
    (counts c.requires.due.events c.args.tables.now.threads c.args.tid.0 c.requires.due.ordinary c.requires.due.stand.threads).sessions

pub start_thread-requires : goal.start_thread-requires
start_thread-requires g c =
    rw c.in_ok-reserve_start.ensures.rows
    (can_start c.requires.due.events c.args.tables.now.locals.rows c.args.tid.0 c.requires.due.ordinary c.requires.due.stand.locals
    (sym (c.is_attached.ensures.history c.requires.due.events.threads c.requires.due.stand.threads) ∙ c.if-is_attached.false))
