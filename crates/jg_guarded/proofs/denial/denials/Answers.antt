use Rattle.std.proofs.Common.{sym, ◌∙◌}
use Rattle.std.proofs.lemmas.List.{append-nil}
use Rattle.jg_guarded.proofs.Listing.{one_more}
use Rattle.jg_guarded.proofs.denial.denials.Goals as goal
use Rattle.jg_guarded.proofs.denial.denials.Goals.{in-Some-rule+in_ok-push, in_default-rule}

pub loop-place-preserved : goal.loop-place-preserved
loop-place-preserved g c =
    let more = one_more c.args.guard.now.journal c.loop-place.place c.in-Some.entry.now (sym c.in-Some.ensures.entry) in
    elim c.match-rule.branch [
      | in-Some-rule+in_ok-push w ↦ (
          let denied = rw (sym c.rule.ensures ∙ w.in-Some-rule.is) at more in
          rw (w.list-is, w.in_ok-push.ensures.items, c.loop-place.invariant) (sym denied))
      | in_default-rule w ↦ (
          let passed = rw (sym c.rule.ensures ∙ w.in_default-rule.is) at more in
          rw (w.list-is, c.loop-place.invariant) (sym (passed ∙ append-nil _)))
    ]
