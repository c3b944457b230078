use Rattle.std.proofs.Common.{refl}
use Rattle.jg_laws.proofs.Acts.{attached_caller}
use Rattle.jg_guard.proofs.Due.{counts, can_enter, can_leave, can_leave_native, has_frame, is_on}
use Rattle.jg_guard.proofs.groups.vm.perform_vm.Goals as goal

pub enter-requires-clause-started : goal.enter-requires-clause-started
enter-requires-clause-started g c =
    has_frame c.requires.effective.due.events c.args.tables.now.locals.rows c.args.tid.0 c.requires.effective.due.ordinary c.requires.effective.due.stand.locals
    (attached_caller c.requires.effective.due.events c.args.tid.0 c.requires.effective.due.env _ refl
    (rw c.in-NativeEnter.is at c.requires.effective.due.unbroken.is_attached))

pub enter-requires-clause-fits : goal.enter-requires-clause-fits
enter-requires-clause-fits g c =
    can_enter c.requires.effective.due.events c.args.tables.now.locals.rows c.args.tid.0 c.requires.effective.due.ordinary c.requires.effective.due.stand.locals

pub enter_native-requires-clause-seen : goal.enter_native-requires-clause-seen
enter_native-requires-clause-seen g c =
    is_on c.requires.effective.due.events c.args.tables.now.threads c.args.tid.0 c.requires.effective.due.stand.threads
    (attached_caller c.requires.effective.due.events c.args.tid.0 c.requires.effective.due.env _ refl
    (rw c.in-NativeEnter.is at c.requires.effective.due.unbroken.is_attached))

pub enter_native-requires-clause-room : goal.enter_native-requires-clause-room
enter_native-requires-clause-room g c =
    (counts c.requires.effective.due.events c.args.tables.now.threads c.args.tid.0 c.requires.effective.due.ordinary
    c.requires.effective.due.stand.threads).depth

pub leave-requires : goal.leave-requires
leave-requires g c =
    can_leave c.requires.effective.due.events c.args.tables.now.locals.rows c.args.tid.0 c.requires.effective.due.ordinary c.requires.effective.due.stand.locals
    (rw c.in-NativeLeave.is at c.requires.effective.due.unbroken.right_frame)

pub leave_native-requires-clause-seen : goal.leave_native-requires-clause-seen
leave_native-requires-clause-seen g c =
    is_on c.requires.effective.due.events c.args.tables.now.threads c.args.tid.0 c.requires.effective.due.stand.threads
    (attached_caller c.requires.effective.due.events c.args.tid.0 c.requires.effective.due.env _ refl
    (rw c.in-NativeLeave.is at c.requires.effective.due.unbroken.is_attached))

pub leave_native-requires-clause-inside : goal.leave_native-requires-clause-inside
leave_native-requires-clause-inside g c =
    can_leave_native c.requires.effective.due.events c.args.tables.now.threads c.args.tid.0 c.requires.effective.due.stand.threads
    (rw c.in-NativeLeave.is at c.requires.effective.due.unbroken.right_frame)
