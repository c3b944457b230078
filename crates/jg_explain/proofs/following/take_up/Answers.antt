use Rattle.std.proofs.Common.{sym, ◌∙◌, subst}
use Rattle.jg_explain.specs.Followed.{IsSteady, IsTraced}
use Rattle.jg_explain.proofs.Followed.{all_pushed, steady_begun}
use Rattle.jg_explain.proofs.following.take_up.Goals as goal

pub returns-in_ok-push : goal.returns-in_ok-push
returns-in_ok-push g c whole front old = record {
  seen = all_pushed (IsTraced whole.setup whole.journal) _ _ _ c.in_ok-push.ensures.items old.seen
      (c.untraced.ensures (sym c.comes_once.ensures ∙ c.if-comes_once.true) whole.setup whole.journal);
  asked = old.asked;
}

pub returns-in_ok-push-2 : goal.returns-in_ok-push-2
returns-in_ok-push-2 g c whole front old = record {
  seen = old.seen;
  asked = all_pushed (IsSteady whole.setup whole.journal 0) _ _ _ c.in_ok-push-2.ensures.items old.asked
      (subst (IsSteady whole.setup whole.journal 0) (sym c.begin_steady.ensures) (steady_begun whole c.args.again.now c.args.condition front));
}
