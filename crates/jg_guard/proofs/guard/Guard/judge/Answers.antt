use Rattle.std.proofs.Common.{rules, ◌≡◌, ◌∙◌, ◌<◌, ap, subst, sym}
use Rattle.jg_policy.specs.Stated.{StatedSetup, class_count}
use Rattle.jg_rules.specs.Effects.{parts}
use Rattle.jg_rules.specs.Legal.{Legal}
use Rattle.jg_rules.specs.Names.{class_of}
use Rattle.jg_rules.specs.Parts.{Parts}
use Rattle.jg_rules.specs.Rules.{verdict}
use Rattle.jg_rules.specs.View.{ViewStands}
use Rattle.jg_judge.specs.Written.{AreStated}
use Rattle.jg_laws.proofs.HandedHere.{classes_are_stated}
use Rattle.jg_guard.specs.Guard.{State}
use Rattle.jg_guard.proofs.guard.Guard.judge.Goals as goal

pub returns : goal.returns
returns g c =
    let s : State = c.args.self.now in
    let p : Parts = parts s.setup s.journal in
    let legal : Legal s.setup s.journal = subst (λ (x : State). Legal x.setup x.journal) c.self.view_is c.self.invariant.0.legal in
    let stands : ViewStands c.view.result p = search rules in
    let setup_is : c.view.result.setup.now ≡ s.setup = search rules in
    let stated : AreStated c.view.result.setup.now p =
    λ o. subst (λ (x : StatedSetup). class_of x p o < class_count x) (sym setup_is) (classes_are_stated s.setup s.journal o legal) in
    let judged : c.verdict_on_call.result ≡ verdict c.view.result.setup.now p c.args.tid.0 c.args.env c.args.call.now =
    c.verdict_on_call.ensures p stands stated in
    judged ∙ ap (λ (x : StatedSetup). verdict x p c.args.tid.0 c.args.env c.args.call.now) setup_is
