use Rattle.std.proofs.Common.{◌+◌, ◌<◌, length, arith}
use Rattle.std.proofs.lemmas.List.Elements.{All-set}
use Rattle.jg_explain.specs.Followed.{IsTraced}
use Rattle.jg_explain.proofs.traces.trace_one.Goals as goal

pub returns-then-before-traces : goal.returns-then-before-traces
returns-then-before-traces g c whole front below seen old =
    let inside : c.args.before.trace < length c.args.traces.now = omega (arith, c.if-before-traces.true) in
    let found = c.traced.ensures whole.setup whole.journal below (old c.args.before.trace _ inside) c.see-after.ensures.condition seen
    (c.see-after.ensures.seen whole (c.args.at + 1) front) in
    All-set (IsTraced whole.setup whole.journal) c.args.traces.now c.args.before.trace c.traced.result found old
