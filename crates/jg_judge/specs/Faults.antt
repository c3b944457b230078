-- What the operands of a question break, each rule for itself, and which operand breaks it first.
use Rattle.std.specs.Prelude.{ℕ, ◌&&◌, ◌||◌, Bool, false, not, if◌then◌else◌, nat_lt, List, [], ◌∷◌, Option, Some, None}
use Rattle.std.specs.List.{position_from}
use Rattle.std.specs.Option.{option_map, option_or}
use Rattle.jg_words.specs.declared.reference.Ref.{Ref}
use Rattle.jg_words.specs.declared.rule.Rule.{Rule}
use Rattle.jg_words.specs.declared.rule.Rule.TheVariants.{ForeignLocal, DeadReference, WrongRefKind, NullReference, WrongType, BadField, BadBuffer, BadArgument}
use Rattle.jg_words.specs.Rule.{number_of}
use Rattle.jg_table_buffers.specs.declared.info.Info.{Info}
use Rattle.jg_policy.specs.Stated.{StatedSetup}
use Rattle.jg_rules.specs.Parts.{Parts}
use Rattle.jg_rules.specs.Names.{names}
use Rattle.jg_rules.specs.Rules.{is_foreign, is_nothing, is_null}
use Rattle.jg_rows.specs.declared.row.Takes.{Takes}
use Rattle.jg_judge.specs.declared.argument.Argument.{Argument}
use Rattle.jg_judge.specs.declared.judge.Broken.{Broken}
use Rattle.jg_judge.specs.declared.argument.Bounds.{Bounds}
use Rattle.jg_judge.specs.Asked.{Judged, judged_of}
use Rattle.jg_judge.specs.Broken.{is_wrong_kind, is_unfit, is_wrong_buffer, is_out_of_bounds}

-- which rules an operand breaks
pub record Faults : Type 0 where
  pub foreign_local : Bool
  pub dead_reference : Bool
  pub null_reference : Bool
  pub wrong_type : Bool
  pub bad_field : Bool
  pub bad_buffer : Bool
  pub bad_argument : Bool

-- which operand breaks each rule first: its place, counted from 0, where one does
pub record Places : Type 0 where
  pub foreign_local : Option ℕ
  pub dead_reference : Option ℕ
  pub null_reference : Option ℕ
  pub wrong_type : Option ℕ
  pub bad_field : Option ℕ
  pub bad_buffer : Option ℕ
  pub bad_argument : Option ℕ

-- what the operands are judged beside: the reference that a release names, and the buffer that a place counts in
pub record Beside : Type 0 where
  pub bounds : Bounds
  pub via : Ref
  pub info : Option Info

-- what a reference breaks that is judged so
abbrev pub of_reference : StatedSetup → Parts → ℕ → Judged → Faults
of_reference s p t judged = record {
  foreign_local = is_foreign t judged.reference;
  dead_reference = is_nothing (names p t judged.reference);
  null_reference = not judged.nullable && is_null (names p t judged.reference);
  wrong_type = is_wrong_kind s p judged.kind (names p t judged.reference);
  bad_field = false;
  bad_buffer = false;
  bad_argument = false;
}

abbrev pub faults_of : StatedSetup → Parts → ℕ → Beside → Takes → Argument → Faults
faults_of s p t beside takes x = record {
  foreign_local = is_foreign t (judged_of takes x).reference;
  dead_reference = is_nothing (names p t (judged_of takes x).reference);
  null_reference = not (judged_of takes x).nullable && is_null (names p t (judged_of takes x).reference);
  wrong_type = is_wrong_kind s p (judged_of takes x).kind (names p t (judged_of takes x).reference);
  bad_field = is_unfit x;
  bad_buffer = is_wrong_buffer p t beside.via takes x;
  bad_argument = is_out_of_bounds beside.bounds s p beside.info takes x;
}

-- the first of them
abbrev pub first_of : Faults → Option Rule
first_of faults =
    if faults.foreign_local then Some ForeignLocal
    else if faults.dead_reference then Some DeadReference
    else if faults.null_reference then Some NullReference
    else if faults.wrong_type then Some WrongType
    else if faults.bad_field then Some BadField
    else if faults.bad_buffer then Some BadBuffer
    else if faults.bad_argument then Some BadArgument
    else None

abbrev pub either : Faults → Faults → Faults
either a b = record {
  foreign_local = a.foreign_local || b.foreign_local;
  dead_reference = a.dead_reference || b.dead_reference;
  null_reference = a.null_reference || b.null_reference;
  wrong_type = a.wrong_type || b.wrong_type;
  bad_field = a.bad_field || b.bad_field;
  bad_buffer = a.bad_buffer || b.bad_buffer;
  bad_argument = a.bad_argument || b.bad_argument;
}

abbrev pub no_faults : Faults
no_faults = record {
  foreign_local = false;
  dead_reference = false;
  null_reference = false;
  wrong_type = false;
  bad_field = false;
  bad_buffer = false;
  bad_argument = false;
}

abbrev pub faults_in : StatedSetup → Parts → ℕ → Beside → List (Takes × Argument) → Faults
faults_in s p t beside [] = no_faults
faults_in s p t beside (x ∷ xs) = either (faults_of s p t beside x.0 x.1) (faults_in s p t beside xs)

-- one operand alone breaks the rule
abbrev pub breaks : Rule → Faults → Bool
breaks ForeignLocal faults = faults.foreign_local
breaks DeadReference faults = faults.dead_reference
breaks NullReference faults = faults.null_reference
breaks WrongType faults = faults.wrong_type
breaks BadField faults = faults.bad_field
breaks BadBuffer faults = faults.bad_buffer
breaks BadArgument faults = faults.bad_argument
breaks rule faults = false

-- the place of the first that does, where the first of these has this place
abbrev pub first_that : StatedSetup → Parts → ℕ → Beside → Rule → ℕ → List (Takes × Argument) → Option ℕ
first_that s p t beside rule n xs = position_from (λ x. breaks rule (faults_of s p t beside x.0 x.1)) n xs

abbrev pub places_from : StatedSetup → Parts → ℕ → Beside → ℕ → List (Takes × Argument) → Places
places_from s p t beside n xs = record {
  foreign_local = first_that s p t beside ForeignLocal n xs;
  dead_reference = first_that s p t beside DeadReference n xs;
  null_reference = first_that s p t beside NullReference n xs;
  wrong_type = first_that s p t beside WrongType n xs;
  bad_field = first_that s p t beside BadField n xs;
  bad_buffer = first_that s p t beside BadBuffer n xs;
  bad_argument = first_that s p t beside BadArgument n xs;
}

-- the place that was found, else this one where it breaks the rule
abbrev pub or_here : Option ℕ → ℕ → Bool → Option ℕ
or_here found n breaks_it = option_or found (if breaks_it then Some n else None)

abbrev pub with_one : Places → ℕ → Faults → Places
with_one places n faults = record {
  foreign_local = or_here places.foreign_local n faults.foreign_local;
  dead_reference = or_here places.dead_reference n faults.dead_reference;
  null_reference = or_here places.null_reference n faults.null_reference;
  wrong_type = or_here places.wrong_type n faults.wrong_type;
  bad_field = or_here places.bad_field n faults.bad_field;
  bad_buffer = or_here places.bad_buffer n faults.bad_buffer;
  bad_argument = or_here places.bad_argument n faults.bad_argument;
}

-- the operand at this place breaks the rule, where there is one
abbrev pub by : Rule → Option ℕ → Option Broken
by rule operand = option_map (λ place. record { rule = rule; operand = Some place }) operand

-- the first of rules 5 to 12, where operands break these; the reference that is deleted stands first
abbrev pub of_operands : Places → Bool → Option Broken
of_operands places is_wrong_kind =
    option_or (option_or (option_or (option_or (option_or (option_or (option_or
    (by ForeignLocal places.foreign_local)
    (by DeadReference places.dead_reference))
    (by WrongRefKind (if is_wrong_kind then Some 0 else None)))
    (by NullReference places.null_reference))
    (by WrongType places.wrong_type))
    (by BadField places.bad_field))
    (by BadBuffer places.bad_buffer))
    (by BadArgument places.bad_argument)

-- the one of the earlier rule; the one that was found before where both are of one
abbrev pub sooner : Option Broken → Broken → Broken
sooner None found = found
sooner (Some before) found = if nat_lt (number_of found.rule) (number_of before.rule) then found else before

-- what was found before, or what the operand at this place breaks
abbrev pub with_rule : Option Broken → Option Rule → ℕ → Option Broken
with_rule before None n = before
with_rule before (Some rule) n = Some (sooner before (record { rule = rule; operand = Some n }))
