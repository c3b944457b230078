use Rattle.std.proofs.Common.{arith}
use Rattle.jg_explain.specs.Watched.{watched}
use Rattle.jg_explain.proofs.Leaving.{through}
use Rattle.jg_explain.proofs.following.watch_each.Goals as goal

pub returns : goal.returns
returns g c =
    let whole = c.args.guard.now in
    let kept = c.args.watches in
    through (watched whole.setup whole.journal c.args.end) kept.len kept.items c.deref_mut.result.now c.watch_until.new.watches
    (omega (arith, kept.ok)) c.deref_mut.ensures.value
    c.in_ok-watch_until.ensures
