use Rattle.std.proofs.Common.{ap, ◌∙◌, take, drop}
use Rattle.jg_explain.proofs.Sharing.{one_told}
use Rattle.jg_explain.proofs.texts.push_explanations.Goals as goal

pub loop-i-preserved : goal.loop-i-preserved
loop-i-preserved g c told denials watches =
    let whole = c.args.guard.now in
    let so_far = c.loop-i.invariant told denials watches in
    let rest = c.loop-i.rest.now in
    one_told whole.setup whole.journal told c.args.denials.now c.loop-i.i c.in-Some.denial.now rest _ _ _ _ _ c.loop-i-test.true denials
    c.in-Some.ensures.lookup.1 so_far.0
    (c.split_at.ensures.front ∙ ap (λ n. take n rest) c.min.ensures) (c.split_at.ensures.back ∙ ap (λ n. drop n rest) c.min.ensures) so_far.1
    c.in_ok-push_explanation.ensures
