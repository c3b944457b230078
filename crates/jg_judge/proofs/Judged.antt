-- What a question comes to, by the rules on its caller, what one pass over its operands found, and the rules on what its function does.
use Rattle.std.proofs.Common.{◌≡◌, ◌∙◌, ℕ, true, List, Option, Some, None, ap, sym}
use Rattle.std.specs.Prelude.{if◌then◌else◌}
use Rattle.std.specs.Option.{option_map, option_or}
use Rattle.jg_words.specs.declared.thread.EnvId.{EnvId}
use Rattle.jg_words.specs.declared.rule.Rule.{Rule}
use Rattle.jg_policy.specs.Stated.{StatedSetup}
use Rattle.jg_rules.specs.declared.named.Named.{Named}
use Rattle.jg_rules.specs.Parts.{Parts}
use Rattle.jg_rules.specs.Names.{names}
use Rattle.jg_rows.specs.Columns.{Columns}
use Rattle.jg_judge.specs.declared.argument.Argument.{Argument}
use Rattle.jg_judge.specs.declared.argument.Bounds.{Bounds}
use Rattle.jg_judge.specs.declared.judge.Broken.{Broken as BrokenBy}
use Rattle.jg_judge.specs.declared.question.Verdict.TheVariants.{Misfit, Broken}
use Rattle.jg_judge.specs.Asked.{paired, first_reference}
use Rattle.jg_judge.specs.Broken.{by_caller, of_effect, wrong_kind}
use Rattle.jg_judge.specs.Culprit.{first_broken, with_operand}
use Rattle.jg_judge.specs.Faults.{of_operands, places_from}
use Rattle.jg_judge.specs.Question.{beside_of, by_rule, verdict_on}
use Rattle.jg_judge.specs.Suits.{suits}
use Rattle.jg_judge.proofs.Callers.{by_its_caller}
use Rattle.jg_judge.proofs.Split.{broken_after_four}

pub of_caller : (bounds : Bounds) (s : StatedSetup) (p : Parts) (t : ℕ) (env : Option EnvId) (row : Columns) (xs : List Argument) (rule : Rule)
    → Some rule ≡ by_caller p t env row
    → (if suits row.takes xs then Broken (record { rule = rule; operand = None }) else Misfit) ≡ verdict_on bounds s p t env row xs
of_caller bounds s p t env row xs rule is =
    ap (λ b. if suits row.takes xs then by_rule (names p t (first_reference xs)) b else Misfit) (by_its_caller bounds s p t env row xs rule is)

pub of_others : (bounds : Bounds) (s : StatedSetup) (p : Parts) (t : ℕ) (env : Option EnvId) (row : Columns) (xs : List Argument) (named : Named)
    (given : Option BrokenBy)
    → by_caller p t env row ≡ None → suits row.takes xs ≡ true → named ≡ names p t (first_reference xs)
    → given ≡ option_or (of_operands (places_from s p t (beside_of bounds p xs) 0 (paired row.takes xs)) (wrong_kind row.effect (first_reference xs)))
    (option_map with_operand (of_effect s p t row.effect (first_reference xs) xs))
    → by_rule named given ≡ verdict_on bounds s p t env row xs
of_others bounds s p t env row xs named given passes suit named_is given_is =
    ap (λ n. by_rule n given) named_is
    ∙ (ap (by_rule (names p t (first_reference xs))) (given_is ∙ sym (broken_after_four bounds s p t env row xs passes))
    ∙ sym (ap (λ b. if b then by_rule (names p t (first_reference xs)) (first_broken bounds s p t env row xs) else Misfit) suit))
