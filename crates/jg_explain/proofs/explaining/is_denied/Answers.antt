use Rattle.std.proofs.Common.{reverse, slice_get}
use Rattle.jg_explain.specs.Explained.{as_it_was}
use Rattle.jg_explain.proofs.Newest.{one_cause}
use Rattle.jg_explain.proofs.explaining.is_denied.Goals as goal

pub returns-in-Some-rule : goal.returns-in-Some-rule
returns-in-Some-rule g c =
    let whole = c.args.guard.now in
    let place = c.args.place in
    one_cause whole.setup (as_it_was place whole.journal) (slice_get (reverse whole.journal) place) c.in-Some.entry.now c.in-Some-rule.field-0
    c.in-Some.ensures.entry c.in-Some-rule.ensures
