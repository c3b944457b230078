use Rattle.std.proofs.Common.{ℕ, ◌<◌, ◌≤◌, ◌∙◌, List, Some, Ok, subst, arith}
use Rattle.jg_script.specs.Entries.{ReplaysLine}
use Rattle.jg_script.proofs.Reread.{is_legal, is_past, is_cut_short, is_other, replay_failed, past_sound, failed_sound, goes_on}
use Rattle.jg_script.proofs.replay.replay_beside.Goals as goal

pub returns-in-Nothing-clause-replays : goal.returns-in-Nothing-clause-replays
returns-in-Nothing-clause-replays g c =
    let reads = g.R.Read.remaining in
    let bytes = rw c.in-Nothing.is at c.in-Ok.ensures.bytes in
    is_legal _ (reads c.loop-line.reader.device) _ _ _ _ c.loop-line.guard c.loop-line.invariant.replayed c.next_line.new.line.items bytes.0 bytes.1

pub returns-then-line-limit-clause-replays : goal.returns-then-line-limit-clause-replays
returns-then-line-limit-clause-replays g c =
    let reads = g.R.Read.remaining in
    let above : c.args.guard.now.limit < c.loop-line.line = omega (arith, c.if-line-limit.true, c.from-limit.ensures, c.limit.ensures) in
    let past = rw c.deref.ensures.value at c.past_limit.ensures in
    is_past _ (reads c.loop-line.reader.device) _ _ c.args.guard.now.limit _ c.loop-line.guard c.loop-line.invariant.replayed c.next_line.new.line.items
    c.in-Ok.taken c.past_limit.result
    c.in-Ok.ensures.bytes c.in_default.not-Nothing c.in-Ok.ensures.clean c.in-Ok.ensures.front above past

pub returns-then-line-limit-clause-reader : goal.returns-then-line-limit-clause-reader
returns-then-line-limit-clause-reader g c =
    past_sound _ _ c.deref.result.now c.loop-line.line c.past_limit.result (c.in-Ok.ensures.sound ∙ c.loop-line.invariant.sound) c.past_limit.ensures

pub returns-in-LastLine-clause-replays : goal.returns-in-LastLine-clause-replays
returns-in-LastLine-clause-replays g c =
    let reads = g.R.Read.remaining in
    let below : c.loop-line.line ≤ c.args.guard.now.limit = omega (arith, c.if-line-limit.false, c.from-limit.ensures, c.limit.ensures) in
    let bytes = rw c.in-LastLine.is at c.in-Ok.ensures.bytes in
    is_cut_short _ (reads c.loop-line.reader.device) _ _ c.args.guard.now.limit _ c.loop-line.guard c.loop-line.invariant.replayed c.next_line.new.line.items
    bytes.0 bytes.1 bytes.2
    c.in-Ok.ensures.clean c.in-Ok.ensures.front below

pub returns-in-Ok-Some-clause-replays : goal.returns-in-Ok-Some-clause-replays
returns-in-Ok-Some-clause-replays g c =
    let reads = g.R.Read.remaining in
    let below : c.loop-line.line ≤ c.args.guard.now.limit = omega (arith, c.if-line-limit.false, c.from-limit.ensures, c.limit.ensures) in
    let told = rw c.in-Ok-Some.field-0-is at c.in-Ok-Some.ensures.replays in
    let other = subst (λ (text : List ℕ). ReplaysLine c.loop-line.guard c.replay_line.new.guard text c.loop-line.line (Ok (Some c.in-Ok-Some.how)))
    c.deref-in-loop-line.ensures.value told in
    is_other _ (reads c.loop-line.reader.device) _ _ c.args.guard.now.limit _ c.loop-line.guard c.loop-line.invariant.replayed c.next_line.new.line.items
    c.in-Ok.taken c.replay_line.new.guard
    c.in-Ok-Some.how c.in-Ok.ensures.bytes c.in_default.not-Nothing c.in-Ok.ensures.clean c.in-Ok.ensures.front below other

pub returns-in-Err-clause-replays : goal.returns-in-Err-clause-replays
returns-in-Err-clause-replays g c =
    let reads = g.R.Read.remaining in
    replay_failed _ (reads c.loop-line.reader.device) _ _ _ _ c.loop-line.guard c.loop-line.invariant.replayed c.next_line.new.line.items
    c.deref-in-loop-line.result.now c.replay_line.new.guard
    c.in-Err.fault c.in-Ok.ensures.front c.in-Err.ensures.replays

pub returns-in-Err-clause-reader : goal.returns-in-Err-clause-reader
returns-in-Err-clause-reader g c =
    failed_sound _ _ c.loop-line.guard c.replay_line.new.guard c.deref-in-loop-line.result.now c.loop-line.line c.in-Err.fault
    (c.in-Ok.ensures.sound ∙ c.loop-line.invariant.sound)
    c.in-Err.ensures.replays

pub loop-line-preserved : goal.loop-line-preserved
loop-line-preserved g c =
    let reads = g.R.Read.remaining in
    let same = rw (c.in-Ok-None.field-0-is, c.deref-in-loop-line.ensures.value) at c.in-Ok-None.ensures.replays in
    record {
      replayed = goes_on _ (reads c.loop-line.reader.device) _ _ _ _ c.loop-line.guard c.loop-line.invariant.replayed c.next_line.new.line.items c.in-Ok.taken
          c.replay_line.new.guard
          c.in-Ok.ensures.bytes c.in_default.not-Nothing c.in_default-taken.not-LastLine c.replay_line.ensures.setup c.replay_line.ensures.limit
          c.replay_line.ensures.legal same;
      legal = c.replay_line.ensures.legal c.loop-line.invariant.legal;
      sound = c.in-Ok.ensures.sound ∙ c.loop-line.invariant.sound;
      follows = λ first none. c.replay_line.ensures.follows first (c.loop-line.invariant.follows first none);
    }
