use Rattle.std.proofs.Common.{rules, ◌∙◌, ◌≡◌, ◌++◌, Some, List, Option, ℕ, string_bytes, ap, subst, sym}
use Rattle.std.specs.Option.{option_map}
use Rattle.jg_advice.specs.Told.{AdviceLogState}
use Rattle.jg_program.specs.Recorded.{IsAdvice}
use Rattle.jg_program.proofs.watching.with_advice.Goals as goal

pub returns-in-Ok-clause-said : goal.returns-in-Ok-clause-said
returns-in-Ok-clause-said c =
    let said : option_map string_bytes c.args.explained ≡ Some (string_bytes c.in_ok-said.said) = search rules in
    let advises : IsAdvice (Some c.in-Some.log) (string_bytes c.in_ok-advice.advice) = c.in_ok-advice.ensures in (
      string_bytes c.in_ok-said.said,
      string_bytes c.in_ok-advice.advice,
      said,
      subst (λ (x : Option AdviceLogState). IsAdvice x (string_bytes c.in_ok-advice.advice)) (sym c.in-Some.is) advises,
      c.in-Ok.ensures.bytes ∙ ap (λ (a : List ℕ). string_bytes c.in_ok-said.said ++ a) c.as_str.ensures.value,
    )
