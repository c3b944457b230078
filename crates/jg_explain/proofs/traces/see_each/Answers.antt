use Rattle.std.proofs.Common.{sym, subst, All}
use Rattle.jg_explain.specs.Followed.{IsSeen}
use Rattle.jg_explain.proofs.Followed.{all_pushed}
use Rattle.jg_explain.proofs.traces.see_each.Goals as goal
use Rattle.jg_explain.proofs.traces.see_each.Goals.{in-Some+in_ok-push, in_default}

pub loop-i-preserved : goal.loop-i-preserved
loop-i-preserved g c whole place front = elim c.match-get.branch [
  | in-Some+in_ok-push w ↦
      subst (λ v. All (IsSeen whole.setup whole.journal place) v.items) (sym w.seen-is)
      (all_pushed (IsSeen whole.setup whole.journal place) _ _ _ w.in_ok-push.ensures.items (c.loop-i.invariant whole place front)
      (w.see.ensures.seen whole place front))
  | in_default w ↦ subst (λ v. All (IsSeen whole.setup whole.journal place) v.items) (sym w.seen-is) (c.loop-i.invariant whole place front)
]
