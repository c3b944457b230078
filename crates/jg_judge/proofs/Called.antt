-- A call breaks the rule first that its question breaks first, by its function's row.
use Rattle.std.proofs.Common.{◌≡◌, ◌∙◌, ℕ, true, List, Option, Some, None, refl, ap, sym}
use Rattle.std.specs.Prelude.{if◌then◌else◌}
use Rattle.std.specs.Option.{option_map, unwrap_or}
use Rattle.jg_words.specs.declared.thread.EnvId.{EnvId}
use Rattle.jg_words.specs.declared.rule.Rule.{Rule}
use Rattle.jg_words.specs.declared.call.Call.{Call}
use Rattle.jg_words.specs.Call.{fun_of}
use Rattle.jg_policy.specs.Stated.{StatedSetup}
use Rattle.jg_rules.specs.declared.named.Named.{Named}
use Rattle.jg_rules.specs.Parts.{Parts}
use Rattle.jg_rules.specs.Names.{names}
use Rattle.jg_rules.specs.Rules as rules
use Rattle.jg_rows.specs.Columns.{Columns}
use Rattle.jg_judge.specs.declared.argument.Argument.{Argument}
use Rattle.jg_judge.specs.declared.argument.Bounds.{Bounds}
use Rattle.jg_judge.specs.declared.judge.Broken.{Broken as BrokenBy}
use Rattle.jg_judge.specs.declared.question.Verdict.{Verdict}
use Rattle.jg_judge.specs.declared.question.Verdict.TheVariants.{Misfit, Broken, Passed}
use Rattle.jg_judge.specs.Asked.{first_reference}
use Rattle.jg_judge.specs.Broken.{verdict}
use Rattle.jg_judge.specs.Culprit.{first_broken, with_culprit}
use Rattle.jg_judge.specs.Question.{by_rule, verdict_on}
use Rattle.jg_judge.specs.Suits.{suits}
use Rattle.jg_judge.specs.Written.{AreStated, arguments_of, row_for, written_bounds}
use Rattle.jg_judge.proofs.Agreed.{judged_as_written}
use Rattle.jg_judge.proofs.Sorts.{calls_suit}

-- the rule that a verdict names
abbrev pub rule_of : Verdict → Option Rule
rule_of Misfit = None
rule_of (Passed named) = None
rule_of (Broken broken) = Some broken.rule

of_rule : (named : Named) (found : Option BrokenBy) → rule_of (by_rule named found) ≡ option_map (λ broken. broken.rule) found
of_rule named None = refl
of_rule named (Some broken) = refl

of_culprit : (named : Rule → BrokenBy) (found : Option Rule) → ((rule : Rule) → (named rule).rule ≡ rule)
    → option_map (λ broken. broken.rule) (option_map named found) ≡ found
of_culprit named None kept = refl
of_culprit named (Some rule) kept = ap Some (kept rule)

-- a question with operands that suit comes to the first rule that it breaks
pub asked : (bounds : Bounds) (s : StatedSetup) (p : Parts) (t : ℕ) (env : Option EnvId) (row : Columns) (xs : List Argument) (given : Verdict)
    → given ≡ verdict_on bounds s p t env row xs → suits row.takes xs ≡ true → rule_of given ≡ verdict bounds s p t env row xs
asked bounds s p t env row xs given is suit =
    let named : Named = names p t (first_reference xs) in
    ap rule_of (is ∙ ap (λ b. if b then by_rule named (first_broken bounds s p t env row xs) else Misfit) suit)
    ∙ (of_rule named (first_broken bounds s p t env row xs)
    ∙ of_culprit (with_culprit bounds s p t row.takes xs) (verdict bounds s p t env row xs) (λ rule. refl))

-- the question that a call is, of its function's row and its operands
pub judged : (s : StatedSetup) (p : Parts) (t : ℕ) (env : Option EnvId) (call : Call) (row : Columns) (found : Option Columns) (xs : List Argument)
    (given : Option Rule)
    → found ≡ Some row → found ≡ Some (row_for (fun_of call)) → xs ≡ arguments_of s p t call
    → (suits row.takes xs ≡ true → given ≡ verdict written_bounds s p t env row xs) → AreStated s p → given ≡ rules.verdict s p t env call
judged s p t env call row found xs given here there xs_are by_row stated =
    let row_is : row ≡ row_for (fun_of call) = ap (λ (x : Option Columns). unwrap_or x row) (sym here ∙ there) in
    by_row (ap (λ (r : Columns). suits r.takes xs) row_is ∙ (ap (suits (row_for (fun_of call)).takes) xs_are ∙ calls_suit s p t call))
    ∙ (ap (λ (r : Columns). verdict written_bounds s p t env r xs) row_is
    ∙ (ap (verdict written_bounds s p t env (row_for (fun_of call))) xs_are ∙ judged_as_written s p t env call stated))
