use Rattle.std.proofs.Common.{arith, ap, sym, ◌∙◌}
use Rattle.jg_rules.specs.Parts.{Parts}
use Rattle.jg_rules.specs.declared.answer.Answer.{Answer}
use Rattle.jg_rules.specs.Effects.{is_effective}
use Rattle.jg_policy.specs.Stated.{StatedSetup}
use Rattle.jg_guard.proofs.Due.{due_still, can_settle, after_done, own_proper, stand_done}
use Rattle.jg_guard.proofs.perform.do_and_settle.Goals as goal

pub do_call-requires-clause-effective : goal.do_call-requires-clause-effective
do_call-requires-clause-effective g c =
    let due = c.requires.answered.due in
    let stand = c.in_ok-make_room.ensures.still c.args.setup.now due.events due.stand in
    record {
      due = due_still _ _ _ _ c.args.call.now due stand;
      effective = ap (λ (a : Answer). is_effective a.reply.value) (sym c.requires.answered.answered) ∙ c.requires.effective;
    }

pub do_call-requires-clause-ready : goal.do_call-requires-clause-ready
do_call-requires-clause-ready g c = rw c.in_ok-make_room.ensures.heap c.requires.ready

pub settle-requires : goal.settle-requires
settle-requires g c =
    let due = c.requires.answered.due in
    let s : StatedSetup = c.args.setup.now in
    let p : Parts = due.events in
    let given = c.args.given.now in
    let stand = c.in_ok-do_call.ensures.stands p (c.in_ok-make_room.ensures.still s p due.stand) c.requires.answered.found in
    can_settle s p c.do_call.new.tables c.args.tid due.env c.args.call.now given.reply.value given.reply.warned given.object
    (own_proper s p c.args.tid c.args.call.now given c.requires.answered.answered) c.requires.effective c.requires.not_global
    (after_done s p c.args.tid.0 due.env c.args.call.now due.unbroken due.ordinary) stand due.unbroken.is_attached
    (λ makes takes. omega (arith, c.in_ok-make_room.ensures.ok.locals makes, c.in_ok-do_call.ensures.room.locals takes))

pub returns-clause-stands : goal.returns-clause-stands
returns-clause-stands g c = λ p stands is found.
    let s : StatedSetup = c.args.setup.now in
    let still = c.in_ok-make_room.ensures.still s p stands in
    stand_done s _ c.home_warned-home.result p c.args.tid c.args.call.now c.args.given.now (c.home_warned-home.ensures p still) c.requires.effective
    (c.warn_if.ensures s _ (c.settle.ensures.stands s _ (c.in_ok-do_call.ensures.stands p still found)))
