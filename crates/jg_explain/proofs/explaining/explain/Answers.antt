use Rattle.std.proofs.Common.{◌≤◌, length, ◌∙◌, arith}
use Rattle.jg_explain.specs.Watched.{watched}
use Rattle.jg_explain.proofs.Leaving.{through}
use Rattle.jg_explain.proofs.Single.{one_explained}
use Rattle.jg_explain.proofs.explaining.explain.Goals as goal

pub returns : goal.returns
returns g c =
    let whole = c.args.guard.now in
    let place = c.args.place in
    let kept = c.in_ok-denials.field-0.watches in
    let ask = watched whole.setup whole.journal place in
    let below : place ≤ length whole.journal = omega (arith, c.if-place-journal_len.false, c.journal_len.ensures.len) in
    let items = through ask kept.len kept.items c.deref_mut.result.now c.watch_until.new.watches (omega (arith, kept.ok)) c.deref_mut.ensures.value
    c.in_ok-watch_until.ensures in
    one_explained whole.setup whole.journal place c.deref.result.now c.in-Some.denial.now kept.items _ below c.in-Some.ensures.lookup.3.0
    (c.deref.ensures.value ∙ c.in_ok-denials.ensures.denials) c.in-Some.ensures.lookup.1 c.in_ok-denials.ensures.watches items
