use Rattle.std.proofs.Common.{rules, ◌≡◌, true, false}
use Rattle.jg_rules.specs.Effects.{is_effective}
use Rattle.jg_guard.specs.Tables.{makes_global}
use Rattle.jg_laws.proofs.Acts.{attached_caller}
use Rattle.jg_guard.proofs.Due.{is_on, takes_env, can_throw, can_settle_global, own_proper, stand_none, stand_global}
use Rattle.jg_guard.proofs.perform.perform.Goals as goal

pub throw_if-requires-clause-attached : goal.throw_if-requires-clause-attached
throw_if-requires-clause-attached g c =
    let due = c.requires.answered.due in
    let given = c.args.given.now in
    let none : is_effective given.reply.value ≡ false = search rules in
    let own = own_proper c.args.setup.now due.events c.args.tid c.args.call.now given c.requires.answered.answered in
    is_on due.events c.args.tables.now.threads c.args.tid.0 due.stand.threads
    (attached_caller due.events c.args.tid.0 due.env c.args.call.now
    (takes_env c.args.setup.now due.events c.args.tid c.args.call.now given.reply.value given.reply.warned given.object own none)
    due.unbroken.is_attached)

pub throw_if-requires-clause-exception : goal.throw_if-requires-clause-exception
throw_if-requires-clause-exception g c =
    let given = c.args.given.now in
    let none : is_effective given.reply.value ≡ false = search rules in
    can_throw c.args.setup.now c.requires.answered.due.events c.args.tid c.args.call.now given.reply.value given.reply.warned given.object
    (own_proper c.args.setup.now c.requires.answered.due.events c.args.tid c.args.call.now given c.requires.answered.answered) none

pub returns-then-not-is_effective-clause-stands : goal.returns-then-not-is_effective-clause-stands
returns-then-not-is_effective-clause-stands g c =
    let none : is_effective c.args.given.now.reply.value ≡ false = search rules in
    λ p stands is _. stand_none c.args.setup.now _ p c.args.tid c.args.call.now c.args.given.now is none
    (c.in_ok-throw_if.ensures.stands c.args.setup.now p stands)

pub settle_global-requires : goal.settle_global-requires
settle_global-requires g c =
    let due = c.requires.answered.due in
    let given = c.args.given.now in
    let global : makes_global given.reply.value ≡ true = search rules in
    can_settle_global c.args.setup.now due.events c.args.tables.now c.args.tid due.env c.args.call.now given.reply.value given.reply.warned given.object
    (own_proper c.args.setup.now due.events c.args.tid c.args.call.now given c.requires.answered.answered) global due.ordinary due.stand
    due.unbroken.is_attached

pub returns-then-makes_global-clause-stands : goal.returns-then-makes_global-clause-stands
returns-then-makes_global-clause-stands g c =
    let global : makes_global c.args.given.now.reply.value ≡ true = search rules in
    λ p stands is _. stand_global c.args.setup.now _ p c.args.tid c.args.call.now c.args.given.now is global
    (c.in_ok-settle_global.ensures.stands c.args.setup.now p stands)
