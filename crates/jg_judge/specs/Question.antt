-- What one pass over its operands finds of a question, and what the question comes to.
use Rattle.std.specs.Prelude.{ℕ, ◌≡◌, false, if◌then◌else◌, List, [], ◌∷◌, Option, Some, None}
use Rattle.std.specs.Option.{option_or}
use Rattle.jg_words.specs.declared.thread.EnvId.{EnvId}
use Rattle.jg_policy.specs.Stated.{StatedSetup}
use Rattle.jg_rules.specs.declared.named.Named.{Named}
use Rattle.jg_rules.specs.Parts.{Parts}
use Rattle.jg_rules.specs.Names.{names}
use Rattle.jg_rows.specs.Columns.{Columns}
use Rattle.jg_rows.specs.declared.row.Takes.{Takes}
use Rattle.jg_judge.specs.declared.argument.Argument.{Argument}
use Rattle.jg_judge.specs.declared.argument.Argument.TheVariants.{Reference}
use Rattle.jg_judge.specs.declared.argument.Bounds.{Bounds}
use Rattle.jg_judge.specs.declared.judge.Broken.{Broken as BrokenBy}
use Rattle.jg_judge.specs.declared.pass.Found.{Found}
use Rattle.jg_judge.specs.declared.question.Verdict.{Verdict}
use Rattle.jg_judge.specs.declared.question.Verdict.TheVariants.{Misfit, Broken, Passed}
use Rattle.jg_judge.specs.Asked.{paired, first_reference, first_buffer}
use Rattle.jg_judge.specs.Broken.{buffer_meant}
use Rattle.jg_judge.specs.Culprit.{first_broken}
use Rattle.jg_judge.specs.Faults.{Beside, of_operands, places_from}
use Rattle.jg_judge.specs.Suits.{suits}

-- what the operands are judged beside
abbrev pub beside_of : Bounds → Parts → List Argument → Beside
beside_of bounds p xs = record { bounds = bounds; via = first_reference xs; info = buffer_meant p (first_buffer xs) }

-- what an operand names, if it is a reference
abbrev pub named_in : Parts → ℕ → Argument → Option Named
named_in p t (Reference r) = Some (names p t r)
named_in p t x = None

-- what the first reference names, if there is one
abbrev pub first_named : Parts → ℕ → List Argument → Option Named
first_named p t [] = None
first_named p t (x ∷ xs) = option_or (named_in p t x) (first_named p t xs)

-- what the first reference names, and the first of rules 5, 6 and 8 to 12 that an operand breaks
pub record AreFound (bounds : Bounds) (s : StatedSetup) (p : Parts) (t : ℕ) (takes : List Takes) (xs : List Argument)
    (found : Found) : Type 0 where
  pub named : found.named ≡ names p t (first_reference xs)
  pub broken : found.broken ≡ of_operands (places_from s p t (beside_of bounds p xs) 0 (paired takes xs)) false

abbrev pub by_rule : Named → Option BrokenBy → Verdict
by_rule named None = Passed named
by_rule named (Some broken) = Broken broken

-- what a question for the function of this row comes to, with these operands
abbrev pub verdict_on : Bounds → StatedSetup → Parts → ℕ → Option EnvId → Columns → List Argument → Verdict
verdict_on bounds s p t env row xs =
    if suits row.takes xs then by_rule (names p t (first_reference xs)) (first_broken bounds s p t env row xs)
    else Misfit
