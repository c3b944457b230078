use Rattle.std.proofs.Common.{◌<◌, length, map, ap, ◌∙◌, arith}
use Rattle.jg_explain.specs.Watched.{asked_at}
use Rattle.jg_explain.proofs.Watches.{all_asked}
use Rattle.jg_explain.proofs.watching.watch_until.Goals as goal

pub loop-at-preserved : goal.loop-at-preserved
loop-at-preserved g c =
    let whole = c.args.guard.now in
    let again = c.replay_entry.new.again in
    let below : c.loop-at.at < length whole.journal = omega (arith, c.loop-at-test.true, c.requires.within) in
    record {
      front = c.in_ok-replay_entry.ensures;
      watches = c.ask_each.ensures ∙ ap (λ ws. map (asked_at again.setup again.journal c.loop-at.at) ws) c.loop-at.invariant.watches
          ∙ all_asked whole again c.loop-at.at below c.in_ok-replay_entry.ensures c.args.watches.now;
    }
