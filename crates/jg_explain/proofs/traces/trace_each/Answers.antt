use Rattle.std.proofs.Common.{◌<◌, length, arith}
use Rattle.jg_explain.proofs.traces.trace_each.Goals as goal

pub loop-before-preserved : goal.loop-before-preserved
loop-before-preserved g c whole front below seen old =
    let inside : c.loop-before.before-index < length c.args.seen.now = omega (arith, c.loop-before-test.true) in
    c.trace_one.ensures whole front below (seen c.loop-before.before-index _ inside) (c.loop-before.invariant whole front below seen old)
