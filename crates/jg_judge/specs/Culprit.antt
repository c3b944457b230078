-- Which operand breaks a rule.
use Rattle.std.specs.Prelude.{ℕ, Option, Some, None, List}
use Rattle.std.specs.Option.{option_map}
use Rattle.jg_words.specs.declared.thread.EnvId.{EnvId}
use Rattle.jg_words.specs.declared.rule.Rule.{Rule}
use Rattle.jg_words.specs.declared.rule.Rule.TheVariants.{WrongThread, Detached, InCritical, Pending, WrongRefKind, Pinned, NotOwner, BadFrame, NoNativeAccess, NotLinked}
use Rattle.jg_policy.specs.Stated.{StatedSetup}
use Rattle.jg_rules.specs.Parts.{Parts}
use Rattle.jg_rows.specs.Columns.{Columns}
use Rattle.jg_rows.specs.declared.row.Takes.{Takes}
use Rattle.jg_judge.specs.declared.argument.Argument.{Argument}
use Rattle.jg_judge.specs.declared.argument.Bounds.{Bounds}
use Rattle.jg_judge.specs.declared.judge.Broken.{Broken}
use Rattle.jg_judge.specs.Asked.{paired, first_reference, first_buffer}
use Rattle.jg_judge.specs.Broken.{buffer_meant, verdict}
use Rattle.jg_judge.specs.Faults.{first_that}

-- of the rules on what the function does: the reference that is deleted, the object whose monitor is given back, and
-- the class that native methods are of stand first; a native method's name stands behind its class
abbrev pub operand_of : Rule → Option ℕ
operand_of Pinned = Some 0
operand_of NotOwner = Some 0
operand_of NoNativeAccess = Some 0
operand_of NotLinked = Some 1
operand_of rule = None

abbrev pub with_operand : Rule → Broken
with_operand rule = record { rule = rule; operand = operand_of rule }

-- of all: the rules on the caller are about no operand; of those on operands it is the first that breaks the rule
abbrev pub culprit : Bounds → StatedSetup → Parts → ℕ → Rule → List Takes → List Argument → Option ℕ
culprit bounds s p t WrongThread takes xs = None
culprit bounds s p t Detached takes xs = None
culprit bounds s p t InCritical takes xs = None
culprit bounds s p t Pending takes xs = None
culprit bounds s p t WrongRefKind takes xs = Some 0
culprit bounds s p t Pinned takes xs = operand_of Pinned
culprit bounds s p t NotOwner takes xs = operand_of NotOwner
culprit bounds s p t BadFrame takes xs = operand_of BadFrame
culprit bounds s p t NoNativeAccess takes xs = operand_of NoNativeAccess
culprit bounds s p t NotLinked takes xs = operand_of NotLinked
culprit bounds s p t rule takes xs = first_that s p t
    (record { bounds = bounds; via = first_reference xs; info = buffer_meant p (first_buffer xs) }) rule 0
    (paired takes xs)

abbrev pub with_culprit : Bounds → StatedSetup → Parts → ℕ → List Takes → List Argument → Rule → Broken
with_culprit bounds s p t takes xs rule = record { rule = rule; operand = culprit bounds s p t rule takes xs }

-- the first rule that a question breaks, and the operand that breaks it
abbrev pub first_broken : Bounds → StatedSetup → Parts → ℕ → Option EnvId → Columns → List Argument → Option Broken
first_broken bounds s p t env row xs =
    option_map (with_culprit bounds s p t row.takes xs) (verdict bounds s p t env row xs)
