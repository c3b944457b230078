-- The rules on the caller come first.
use Rattle.std.proofs.Common.{◌≡◌, ◌∙◌, ℕ, Bool, true, false, List, [], ◌∷◌, Option, Some, None, refl, ap, sym}
use Rattle.std.specs.Prelude.{if◌then◌else◌}
use Rattle.std.specs.List.{find}
use Rattle.std.specs.Option.{option_map}
use Rattle.jg_words.specs.declared.thread.EnvId.{EnvId}
use Rattle.jg_words.specs.declared.rule.Rule.{Rule}
use Rattle.jg_words.specs.declared.rule.Rule.TheVariants.{WrongThread, Detached, InCritical, Pending, ForeignLocal, DeadReference, WrongRefKind, NullReference, WrongType, BadField, BadBuffer, BadArgument, Pinned, NotOwner, BadFrame, NoNativeAccess, NotLinked}
use Rattle.jg_policy.specs.Stated.{StatedSetup}
use Rattle.jg_rules.specs.Parts.{Parts}
use Rattle.jg_rows.specs.Columns.{Columns}
use Rattle.jg_judge.specs.declared.argument.Argument.{Argument}
use Rattle.jg_judge.specs.declared.argument.Bounds.{Bounds}
use Rattle.jg_judge.specs.declared.judge.Broken.{Broken}
use Rattle.jg_judge.specs.Broken.{broken, by_caller, wrong_thread, detached, in_critical, while_pending}
use Rattle.jg_judge.specs.Culprit.{first_broken, with_culprit}

-- a caller who breaks none of the four
pub record Passes (p : Parts) (t : ℕ) (env : Option EnvId) (row : Columns) : Type 0 where
  pub own : wrong_thread t env row ≡ false
  pub attached : detached p t env row ≡ false
  pub outside : in_critical p t row ≡ false
  pub calm : while_pending p t row ≡ false

four : (a b c d : Bool) → (if a then Some WrongThread else if b then Some Detached else if c then Some InCritical else if d then Some Pending else None) ≡ None
    → (a ≡ false) × (b ≡ false) × (c ≡ false) × (d ≡ false)
four true b c d none = absurd cc
four false true c d none = absurd cc
four false false true d none = absurd cc
four false false false true none = absurd cc
four false false false false none = (refl, refl, refl, refl)

pub caller_passes : (p : Parts) (t : ℕ) (env : Option EnvId) (row : Columns) → by_caller p t env row ≡ None → Passes p t env row
caller_passes p t env row none =
    let all = four (wrong_thread t env row) (detached p t env row) (in_critical p t row) (while_pending p t row) none in
    record { own = all.0; attached = all.1; outside = all.2; calm = all.3 }

abbrev by_no_operand : Rule → Broken
by_no_operand rule = record { rule = rule; operand = None }

named_first : (named : Rule → Broken) (a b c d : Bool) (later : Option Rule) (rule : Rule)
    → named WrongThread ≡ by_no_operand WrongThread → named Detached ≡ by_no_operand Detached → named InCritical ≡ by_no_operand InCritical
    → named Pending ≡ by_no_operand Pending
    → Some rule ≡ (if a then Some WrongThread else if b then Some Detached else if c then Some InCritical else if d then Some Pending else None)
    → Some (by_no_operand rule)
    ≡ option_map named (if a then Some WrongThread else if b then Some Detached else if c then Some InCritical else if d then Some Pending else later)
named_first named true b c d later rule na nb nc nd is = ap (option_map by_no_operand) is ∙ ap Some (sym na)
named_first named false true c d later rule na nb nc nd is = ap (option_map by_no_operand) is ∙ ap Some (sym nb)
named_first named false false true d later rule na nb nc nd is = ap (option_map by_no_operand) is ∙ ap Some (sym nc)
named_first named false false false true later rule na nb nc nd is = ap (option_map by_no_operand) is ∙ ap Some (sym nd)
named_first named false false false false later rule na nb nc nd is = absurd cc

-- a rule on the caller is about no operand
pub by_its_caller : (bounds : Bounds) (s : StatedSetup) (p : Parts) (t : ℕ) (env : Option EnvId) (row : Columns) (xs : List Argument) (rule : Rule)
    → Some rule ≡ by_caller p t env row → Some (by_no_operand rule) ≡ first_broken bounds s p t env row xs
by_its_caller bounds s p t env row xs rule is =
    named_first (with_culprit bounds s p t row.takes xs) (wrong_thread t env row) (detached p t env row) (in_critical p t row) (while_pending p t row)
    (find (λ r. broken r bounds s p t env row xs)
    (ForeignLocal ∷ DeadReference ∷ WrongRefKind ∷ NullReference ∷ WrongType ∷ BadField ∷ BadBuffer ∷ BadArgument ∷ Pinned ∷ NotOwner ∷ BadFrame
    ∷ NoNativeAccess ∷ NotLinked ∷ [])) rule refl refl refl refl is
