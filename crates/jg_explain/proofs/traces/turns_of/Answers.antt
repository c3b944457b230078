use Rattle.std.proofs.Common.{ℕ, true, false, Option, IfSome, sym, subst, ◌∙◌, arith}
use Rattle.jg_explain.specs.Followed.{Was}
use Rattle.jg_explain.proofs.Concluding.{since_ended, since_made}
use Rattle.jg_explain.proofs.traces.turns_of.Goals as goal

pub returns-then-holds : goal.returns-then-holds
returns-then-holds c s journal legal within sound is given =
    let asked = c.args.trace.condition in
    let made = subst (λ (o : Option ℕ). IfSome o (Was s journal asked false true)) c.in-Some.is sound.made in
    sym (since_made s journal legal asked sound.once c.in-Some.made c.args.place (omega (arith, c.if-made-place.false)) within made (sym is ∙ c.if-holds.true))

pub returns : goal.returns
returns c s journal legal within sound is given =
    let asked = c.args.trace.condition in
    let made = subst (λ (o : Option ℕ). IfSome o (Was s journal asked false true)) c.in-Some.is sound.made in
    let ended = subst (λ (o : Option ℕ). IfSome o (Was s journal asked true false)) c.in_ok-ended.was sound.ended in
    sym (since_ended s journal legal asked sound.once c.in-Some.made c.in_ok-ended.ended c.args.place (omega (arith, c.if-made-ended.false))
    (omega (arith, c.if-ended-place.false)) within made ended)
