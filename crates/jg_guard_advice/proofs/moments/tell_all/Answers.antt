use Rattle.std.proofs.Common.{◌≡◌, ◌∷◌, length, rules, ◌∙◌, ap, sym, subst}
use Rattle.jg_advice.specs.Moments.{Told}
use Rattle.jg_advice.specs.Told.{LogStands}
use Rattle.jg_guard_advice.specs.Logged.{with_facts}
use Rattle.jg_guard_advice.proofs.Telling.{none_told}
use Rattle.jg_guard_advice.proofs.moments.tell_all.Goals as goal

-- one more is told
pub loop-fact-preserved : goal.loop-fact-preserved
loop-fact-preserved g c = record {
  told = λ h p logs sees.
      let before = c.loop-fact.invariant.told h p logs sees in
      let rest : c.loop-fact.rest.now ≡ c.in-Some.fact.now ∷ c.in-Some.later.now = search rules in (
        record { line = c.args.line; what = Told c.in-Some.fact.now; parts = p } ∷ before.0,
        c.told.ensures.logs before.0 p before.1 sees,
        ap (λ l. with_facts c.args.line p l before.0) (sym rest) ∙ before.2,
      );
  most = c.told.ensures.most ∙ c.loop-fact.invariant.most;
  all = c.told.ensures.all ∙ c.loop-fact.invariant.all;
}

-- none is left
pub returns-clause-logs : goal.returns-clause-logs
returns-clause-logs g c = λ h p logs sees.
    let before = c.loop-fact.invariant.told h p logs sees in
    let none : length c.loop-fact.rest.now ≡ 0 = search rules in
    subst (LogStands c.loop-fact.log) (sym (none_told c.args.line p c.loop-fact.rest.now before.0 none) ∙ before.2) before.1
