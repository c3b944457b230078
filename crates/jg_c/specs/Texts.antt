-- The version, and rules by their numbers and what is told of them.
use Rattle.std.specs.Prelude.{ℕ, ℤ, ◌≡◌, codes, List, Option, Some, None, if◌then◌else◌, nat_eq}
use Rattle.jg_words.specs.declared.rule.Rule.{Rule}
use Rattle.jg_words.specs.declared.rule.Rule.TheVariants.{WrongThread, Detached, InCritical, Pending, ForeignLocal, DeadReference, WrongRefKind, NullReference, WrongType, BadField, BadBuffer, BadArgument, Pinned, NotOwner, BadFrame, NoNativeAccess, NotLinked}
use Rattle.jg_c.specs.Errors as errors
use Rattle.jg_c.specs.Lines.{Writes}

-- as `jg --version` prints it
abbrev pub version : List ℕ
version = codes "0.2.0"

-- the rule of this number, from 1
abbrev pub rule_of : ℕ → Option Rule
rule_of n =
    if nat_eq n 1 then Some WrongThread
    else if nat_eq n 2 then Some Detached
    else if nat_eq n 3 then Some InCritical
    else if nat_eq n 4 then Some Pending
    else if nat_eq n 5 then Some ForeignLocal
    else if nat_eq n 6 then Some DeadReference
    else if nat_eq n 7 then Some WrongRefKind
    else if nat_eq n 8 then Some NullReference
    else if nat_eq n 9 then Some WrongType
    else if nat_eq n 10 then Some BadField
    else if nat_eq n 11 then Some BadBuffer
    else if nat_eq n 12 then Some BadArgument
    else if nat_eq n 13 then Some Pinned
    else if nat_eq n 14 then Some NotOwner
    else if nat_eq n 15 then Some BadFrame
    else if nat_eq n 16 then Some NoNativeAccess
    else if nat_eq n 17 then Some NotLinked
    else None

-- what is told of the rule is written, or there is none and nothing is
abbrev pub TellsRule : (Rule → List ℕ) → Option Rule → List ℕ → List ℕ → ℤ → Type 0
TellsRule text None old new n = (n ≡ errors.no_rule) × (new ≡ old)
TellsRule text (Some rule) old new n = Writes (text rule) old new n
