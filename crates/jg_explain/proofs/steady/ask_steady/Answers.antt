use Rattle.jg_explain.specs.Followed.{asked_steady}
use Rattle.jg_explain.proofs.Watches.{written_more}
use Rattle.jg_explain.proofs.steady.ask_steady.Goals as goal

pub loop-steady-preserved : goal.loop-steady-preserved
loop-steady-preserved g c =
    let again = c.args.again.now in
    written_more (asked_steady again.setup again.journal c.args.entry.now c.args.at) c.args.all.now c.loop-steady.all c.loop-steady.steady-index _
    c.ask_one.result
    c.loop-steady-test.true c.loop-steady.auto.all c.loop-steady.invariant c.ask_one.ensures
