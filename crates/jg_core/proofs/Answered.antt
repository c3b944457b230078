-- What a question comes to is what it is answered.
use Rattle.std.proofs.Common.{◌≡◌, ◌∙◌, ℕ, Bool, true, false, List, Option, Some, None, slice_get, refl, ap, subst, sym}
use Rattle.std.specs.Prelude.{if◌then◌else◌}
use Rattle.std.specs.Option.{option_map}
use Rattle.jg_words.specs.declared.thread.Tid.{Tid}
use Rattle.jg_words.specs.declared.thread.EnvId.{EnvId}
use Rattle.jg_words.specs.declared.rule.Rule.{Rule}
use Rattle.jg_policy.specs.Stated.{StatedSetup}
use Rattle.jg_rules.specs.declared.named.Named.{Named}
use Rattle.jg_rules.specs.Parts.{Parts, RowsBeside, StandBeside}
use Rattle.jg_rules.specs.View.{ViewTells, rows_in}
use Rattle.jg_rules.specs.declared.view.View.{View}
use Rattle.jg_table_objects.specs.Rows.{Rows}
use Rattle.jg_table_objects.specs.Standing.{Tells}
use Rattle.jg_rules.specs.Names.{names}
use Rattle.jg_rows.specs.Columns.{Columns}
use Rattle.jg_rows.specs.Table.{functions}
use Rattle.jg_judge.specs.declared.argument.Argument.{Argument}
use Rattle.jg_judge.specs.declared.argument.Bounds.{Bounds}
use Rattle.jg_judge.specs.declared.judge.Broken.{Broken as BrokenBy}
use Rattle.jg_judge.specs.declared.question.Verdict.{Verdict}
use Rattle.jg_judge.specs.declared.question.Verdict.TheVariants.{Misfit, Broken, Passed}
use Rattle.jg_judge.specs.Asked.{first_reference}
use Rattle.jg_judge.specs.Broken.{verdict}
use Rattle.jg_judge.specs.Culprit.{first_broken, with_culprit}
use Rattle.jg_judge.specs.Question.{by_rule, verdict_on}
use Rattle.jg_judge.specs.Suits.{suits}
use Rattle.jg_core.specs.declared.asking.Answer.{Answer}
use Rattle.jg_core.specs.declared.asking.Answer.TheVariants.{Passed as Passes, Denied, Misfit as Misfits}
use Rattle.jg_core.specs.Asking.{asked, by_row, by_verdict, denied_ticket}
use Rattle.jg_core.specs.Expected.{expected_of}
use Rattle.jg_core.specs.declared.fact.Fact.{Fact}
use Rattle.jg_core.specs.Facts.{parts_of}
use Rattle.jg_core.specs.Kernel.{CoreState, CoreStands}

abbrev pub answer_by : Bounds → StatedSetup → Parts → Tid → Option EnvId → Columns → List Argument → Verdict → Answer
answer_by bounds s p t env row xs Misfit = Misfits
answer_by bounds s p t env row xs (Broken broken) = Denied broken.rule broken.operand (denied_ticket s p t env row xs broken.rule)
answer_by bounds s p t env row xs (Passed named) = Passes (record { tid = t; expected = expected_of s p t row row.effect xs })

answer_if : (bounds : Bounds) (s : StatedSetup) (p : Parts) (t : Tid) (env : Option EnvId) (row : Columns) (xs : List Argument) (suited : Bool) (named : Named)
    (found : Option Rule)
    → answer_by bounds s p t env row xs (if suited then by_rule named (option_map (with_culprit bounds s p t.0 row.takes xs) found) else Misfit)
    ≡ (if suited then by_verdict bounds s p t env row xs found else Misfits)
answer_if bounds s p t env row xs true named None = refl
answer_if bounds s p t env row xs true named (Some rule) = refl
answer_if bounds s p t env row xs false named found = refl

pub answered : (bounds : Bounds) (s : StatedSetup) (p : Parts) (t : Tid) (env : Option EnvId) (function : ℕ) (row : Columns) (xs : List Argument)
    (out : Verdict)
    → slice_get functions function ≡ Some row → out ≡ verdict_on bounds s p t.0 env row xs
    → answer_by bounds s p t env row xs out ≡ asked bounds s p t env function xs
answered bounds s p t env function row xs out is_row is =
    ap (answer_by bounds s p t env row xs) is
    ∙ (answer_if bounds s p t env row xs (suits row.takes xs) (names p t.0 (first_reference xs)) (verdict bounds s p t.0 env row xs)
    ∙ sym (ap (by_row bounds s p t env xs) is_row))

abbrev named_by : Named → Verdict → Named
named_by named Misfit = named
named_by named (Broken broken) = named
named_by named (Passed other) = other

passed_if : (suited : Bool) (named other : Named) (found : Option BrokenBy) → Passed other ≡ (if suited then by_rule named found else Misfit) → other ≡ named
passed_if true named other None is = ap (named_by named) is
passed_if true named other (Some broken) is = ap (named_by named) is
passed_if false named other found is = ap (named_by named) is

-- a question that passes says what its first reference names
pub passed_names : (bounds : Bounds) (s : StatedSetup) (p : Parts) (t : ℕ) (env : Option EnvId) (row : Columns) (xs : List Argument) (named : Named)
    → Passed named ≡ verdict_on bounds s p t env row xs → named ≡ names p t (first_reference xs)
passed_names bounds s p t env row xs named is = passed_if (suits row.takes xs) (names p t (first_reference xs)) named (first_broken bounds s p t env row xs) is

-- what a core's view lends stands for what the core was told
pub viewed : {A I : Type 0} (core : CoreState) (view : View A Rows I) (w : List Fact) → view.setup.now ≡ core.setup → rows_in view ≡ core.rows
    → CoreStands core w → ViewTells Tells view (parts_of w)
viewed core view w setup_is rows_is stands =
    subst (λ s. StandBeside Tells s (rows_in view) (parts_of w)) (sym setup_is)
    (subst (λ (r : RowsBeside Rows). StandBeside Tells core.setup r (parts_of w)) (sym rows_is) stands.tables)
