use Rattle.std.proofs.Common.{◌≡◌, ◌∙◌, false, true, string_bytes, refl, inr}
use Rattle.jg_guard.specs.Guard.{next_entry}
use Rattle.jg_script.proofs.Taking.{newest_told}
use Rattle.jg_script.proofs.Replaying.{no_call, not_taken, is_its_line, is_other_line}
use Rattle.jg_script.proofs.replay.replay_line.Goals as goal

pub returns-in_default-begun-clause-replays : goal.returns-in_default-begun-clause-replays
returns-in_default-begun-clause-replays g c =
    let none = rw c.in_default-begun.is at c.in-Ok.ensures.none in
    (no_call c.args.guard.now c.args.text.now none, refl, none)

pub returns-in-Err-clause-replays : goal.returns-in-Err-clause-replays
returns-in-Err-clause-replays g c =
    let some = c.in-Some in
    not_taken c.args.guard.now c.take_call.new.guard (next_entry c.args.guard.now some.tid some.env some.call) c.args.text.now c.args.line c.in-Err.fault
    c.requires c.in-Err.ensures.err

pub returns-in_default-push_entry-clause-replays : goal.returns-in_default-push_entry-clause-replays
returns-in_default-push_entry-clause-replays g c =
    let some = c.in-Some in
    (refl, inr (next_entry c.args.guard.now some.tid some.env some.call, c.in_default-take_call.ensures.took))

pub returns-then-is_line_of-clause-replays : goal.returns-then-is_line_of-clause-replays
returns-then-is_line_of-clause-replays g c =
    let some = c.in-Some in
    let begun = rw some.is at c.in-Ok.ensures.some in
    let took = c.in_default-take_call.ensures.took in
    let made = rw c.clear.ensures.bytes at c.in-Ok-push_entry.ensures.written in
    let told = newest_told c.args.guard.now c.take_call.new.guard (next_entry c.args.guard.now some.tid some.env some.call) c.newest.result.now
    (string_bytes c.push_entry.new.out) took
    c.newest.ensures
    c.in-Ok-push_entry.ensures.fits made in
    is_its_line c.args.guard.now c.take_call.new.guard c.args.text.now c.as_bytes.result.now some.tid some.env some.call c.args.line begun told.1 took
    (c.as_bytes.ensures.value ∙ told.0) (c.if-is_line_of.ensures.0 refl)

pub returns-else-is_line_of-clause-replays : goal.returns-else-is_line_of-clause-replays
returns-else-is_line_of-clause-replays g c =
    let some = c.in-Some in
    let begun = rw some.is at c.in-Ok.ensures.some in
    let took = c.in_default-take_call.ensures.took in
    let made = rw c.clear.ensures.bytes at c.in-Ok-push_entry.ensures.written in
    let told = newest_told c.args.guard.now c.take_call.new.guard (next_entry c.args.guard.now some.tid some.env some.call) c.newest.result.now
    (string_bytes c.push_entry.new.out) took
    c.newest.ensures
    c.in-Ok-push_entry.ensures.fits made in
    is_other_line c.args.guard.now c.take_call.new.guard c.args.text.now c.as_bytes.result.now some.tid some.env some.call c.args.line begun told.1 took
    (c.as_bytes.ensures.value ∙ told.0) (λ line. let clash : false ≡ true = c.if-is_line_of.ensures.1 line in absurd (cc))
