use Rattle.std.proofs.Common.{refl}
use Rattle.jg_laws.proofs.Acts.{attached_caller}
use Rattle.jg_guard.proofs.Due.{has_frame, can_push, can_pop}
use Rattle.jg_guard.proofs.groups.frames.perform_frames.Goals as goal

pub push-requires-clause-started : goal.push-requires-clause-started
push-requires-clause-started g c =
    has_frame c.requires.due.events c.args.tables.now.locals.rows c.args.tid.0 c.requires.due.ordinary c.requires.due.stand.locals
    (attached_caller c.requires.due.events c.args.tid.0 c.requires.due.env _ refl c.requires.due.unbroken.is_attached)

pub push-requires-clause-fits : goal.push-requires-clause-fits
push-requires-clause-fits g c = can_push c.requires.due.events c.args.tables.now.locals.rows c.args.tid.0 c.requires.due.ordinary c.requires.due.stand.locals

pub pop-requires : goal.pop-requires
pop-requires g c =
    can_pop c.requires.due.events c.args.tables.now.locals.rows c.args.tid.0 c.requires.due.stand.locals
    (rw c.in-PopLocalFrame.is at c.requires.due.unbroken.right_frame)

pub ensure-requires : goal.ensure-requires
ensure-requires g c =
    has_frame c.requires.due.events c.args.tables.now.locals.rows c.args.tid.0 c.requires.due.ordinary c.requires.due.stand.locals
    (attached_caller c.requires.due.events c.args.tid.0 c.requires.due.env _ refl c.requires.due.unbroken.is_attached)
