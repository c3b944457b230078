use Rattle.std.proofs.Common.{ℕ, Bool, ◌≡◌, ◌<◌, Option, IfSome, sym, subst, ◌∙◌, arith}
use Rattle.std.proofs.lemmas.Bool.Decides.{nat_tests}
use Rattle.jg_explain.specs.Followed.{GaveOther, was_given}
use Rattle.jg_explain.proofs.Concluding.{given_away, ungiven}
use Rattle.jg_explain.proofs.traces.is_never.Goals as goal

pub returns-in-Some-false : goal.returns-in-Some-false
returns-in-Some-false c s journal legal within sound given is =
    let asked = c.args.trace.condition in
    let none = subst (λ (o : Option Bool). IfSome o (λ g. g ≡ was_given s asked journal c.args.place)) c.in-Some-false.is given in
    ungiven s journal legal asked sound.once c.args.place within (sym none ∙ c.in-Some-false.field-0-test)

pub returns-in-Some : goal.returns-in-Some
returns-in-Some c s journal legal within sound given is =
    let asked = c.args.trace.condition in
    let other = subst (λ (o : Option ℕ). IfSome o (GaveOther s journal asked)) c.in-Some.is sound.other in
    let before : c.in-Some.other < c.args.place = grind (arith, nat_tests, is) in
    given_away s journal legal asked sound.once c.in-Some.other c.args.place before within other
