-- The text of a journal, whose newest entry stands first in the list.
use Rattle.std.specs.Prelude.{ℕ, Bool, true, false, List, [], ◌∷◌, ◌++◌, codes, FitsSigned}
use Rattle.std.specs.Int.{w64}
use Rattle.std.specs.Fmt.{decimal, signed_decimal}
use Rattle.jg_words.specs.Rule.{number_of, name_of}
use Rattle.jg_words.specs.Entry.{Entry}
use Rattle.jg_words.specs.declared.entry.Outcome.{Outcome}
use Rattle.jg_words.specs.declared.entry.Outcome.TheVariants.{Passed, Denied}
use Rattle.jg_words.specs.declared.entry.Reply.{Reply}
use Rattle.jg_words.specs.declared.value.Thrown.{Thrown}
use Rattle.jg_words.specs.declared.value.Thrown.TheVariants.{ArrayIndexOutOfBounds, StringIndexOutOfBounds, NoClassDefFound, NoSuchField, NoSuchMethod}
use Rattle.jg_words.specs.declared.value.Value.{Value}
use Rattle.jg_words.specs.declared.value.Value.TheVariants as value
use Rattle.jg_text.specs.Words.{ref_text, buf_text, field_text, env_id_text, items_text, FitsRef, FitsBuf, FitsField, FitsEnvId, FitsItems}
use Rattle.jg_text.specs.Spelling.{spelling}

abbrev pub thrown_name : Thrown → List ℕ
thrown_name ArrayIndexOutOfBounds = codes "java/lang/ArrayIndexOutOfBoundsException"
thrown_name StringIndexOutOfBounds = codes "java/lang/StringIndexOutOfBoundsException"
thrown_name NoClassDefFound = codes "java/lang/NoClassDefFoundError"
thrown_name NoSuchField = codes "java/lang/NoSuchFieldError"
thrown_name NoSuchMethod = codes "java/lang/NoSuchMethodError"

abbrev pub value_text : Value → List ℕ
value_text value.Ok = codes "ok"
value_text (value.Number n) = signed_decimal n
value_text (value.Truth true) = codes "true"
value_text (value.Truth false) = codes "false"
value_text value.Null = codes "null"
value_text (value.Reference r) = ref_text r
value_text (value.Buffer b) = buf_text b
value_text (value.Field f) = field_text f
value_text (value.Environment e) = env_id_text e
value_text (value.List xs) = items_text xs
value_text value.Busy = codes "busy"
value_text value.Detached = codes "detached"
value_text (value.Throw t) = codes "throw " ++ thrown_name t

abbrev pub warning_text : Bool → List ℕ
warning_text true = codes " warn"
warning_text false = []

-- where the frame then holds more local references than it has room for
abbrev pub notice_text : Bool → List ℕ
notice_text true = codes " notice"
notice_text false = []

abbrev pub reply_text : Reply → List ℕ
reply_text r = value_text r.value ++ notice_text r.noticed ++ warning_text r.warned

abbrev pub outcome_text : Outcome → List ℕ
outcome_text (Passed reply) = reply_text reply
outcome_text (Denied rule) = codes "deny " ++ decimal (number_of rule) ++ 32 ∷ name_of rule

-- what stands behind the call in its entry's line
abbrev pub answer_text : Outcome → List ℕ
answer_text outcome = codes " = " ++ outcome_text outcome ++ 10 ∷ []

abbrev pub call_line : Entry → List ℕ
call_line e = spelling e.tid e.env e.call

-- which outcomes the program's types can hold
abbrev pub FitsValue : Value → Type 0
FitsValue (value.Number n) = FitsSigned w64 n
FitsValue (value.Reference r) = FitsRef r
FitsValue (value.Buffer b) = FitsBuf b
FitsValue (value.Field f) = FitsField f
FitsValue (value.Environment e) = FitsEnvId e
FitsValue (value.List xs) = FitsItems xs
FitsValue _ = Unit {0}

abbrev pub FitsOutcome : Outcome → Type 0
FitsOutcome (Passed reply) = FitsValue reply.value
FitsOutcome (Denied rule) = Unit {0}

unfoldable pub entry_text : Entry → List ℕ
entry_text e = call_line e ++ codes " = " ++ outcome_text e.outcome ++ 10 ∷ []

-- the lines of the calls, and the text: the oldest entry's first
abbrev pub call_lines : List Entry → List (List ℕ)
call_lines [] = []
call_lines (e ∷ h) = call_lines h ++ call_line e ∷ []

abbrev pub journal_text : List Entry → List ℕ
journal_text [] = []
journal_text (e ∷ h) = journal_text h ++ entry_text e
