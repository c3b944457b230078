use Rattle.std.proofs.Common.{ℕ, List, ◌∷◌, subst}
use Rattle.jg_policy.specs.Stated.{StatedSetup}
use Rattle.jg_core.specs.Facts.{parts_of}
use Rattle.jg_advice.specs.Moments.{Called, Moment, facts_of}
use Rattle.jg_advice.specs.Told.{LogStands}
use Rattle.jg_watch.proofs.advising.note_question.Goals as goal

pub returns-clause-logs : goal.returns-clause-logs
returns-clause-logs g c = λ h logs stands.
    let asked : StatedSetup → List ℕ
    → Moment = λ s name. record { line = c.args.line; what = Called s c.args.tid c.args.function c.args.arguments.now name; parts = parts_of (facts_of h) }
    in
    subst (λ (name : List ℕ). LogStands c.called.new.self (asked c.args.core.now.setup name ∷ h)) c.name_of-name.ensures
    (subst (λ (s : StatedSetup). LogStands c.called.new.self (asked s c.name_of-name.result.now ∷ h)) c.view.ensures.setup
    (c.called.ensures.logs h (parts_of (facts_of h)) logs (c.view.ensures.tells (facts_of h) stands)))
