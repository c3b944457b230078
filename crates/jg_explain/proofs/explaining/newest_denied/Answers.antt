use Rattle.std.proofs.Common.{◌≤◌, ◌-◌, length, ap, sym, subst, arith}
use Rattle.jg_explain.specs.Explained.{IsOneIf, cause_at, causes}
use Rattle.jg_explain.proofs.Causing.{oldest_all}
use Rattle.jg_explain.proofs.Newest.{newest_at, one_back}
use Rattle.jg_explain.proofs.explaining.newest_denied.Goals as goal

pub loop-place-init : goal.loop-place-init
loop-place-init g c =
    let whole = c.args.guard.now in
    let end = c.journal_len-place in
    ap (causes whole.setup) (sym (oldest_all whole.journal end.result (omega (arith, end.ensures.len))))

pub returns-then-is_denied-clause-newest : goal.returns-then-is_denied-clause-newest
returns-then-is_denied-clause-newest g c =
    let whole = c.args.guard.now in
    let place = c.loop-place.place in
    let within : place ≤ length whole.journal = omega (arith, c.loop-place.auto.place, c.journal_len-place.ensures.len) in
    let one = subst (λ b. IsOneIf b (cause_at whole.setup whole.journal (place - 1))) c.if-is_denied.true c.is_denied.ensures in
    newest_at whole.setup whole.journal place c.loop-place-test.true within c.loop-place.invariant one.0 one.1

pub loop-place-preserved : goal.loop-place-preserved
loop-place-preserved g c =
    let whole = c.args.guard.now in
    let place = c.loop-place.place in
    let within : place ≤ length whole.journal = omega (arith, c.loop-place.auto.place, c.journal_len-place.ensures.len) in
    let none = subst (λ b. IsOneIf b (cause_at whole.setup whole.journal (place - 1))) c.if-is_denied.false c.is_denied.ensures in
    one_back whole.setup whole.journal place c.loop-place-test.true within c.loop-place.invariant none
