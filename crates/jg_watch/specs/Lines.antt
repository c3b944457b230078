-- The lines of a record, and what is written of them.
use Rattle.std.specs.Prelude.{◌≡◌, ◌++◌, ◌==◌, ◌⊎◌, ℕ, Bool, true, false, if◌then◌else◌, List, [], ◌∷◌, drop, length, nat_lt, slice_index_or, Option, Some, None}
use Rattle.std.specs.List.{list_any}
use Rattle.jg_lists.specs.Acts.{how_many}
use Rattle.jg_words.specs.declared.object.ObjId.{ObjId}
use Rattle.jg_words.specs.declared.rule.Rule.{Rule}
use Rattle.jg_words.specs.Rule.{number_of}
use Rattle.jg_policy.specs.Stated.{StatedSetup}
use Rattle.jg_text.specs.Faults.{fields}
use Rattle.jg_advice.specs.Moments.{What, Called, Told as WasTold, Went}
use Rattle.jg_advice.specs.Functions.{find_class}
use Rattle.jg_judge.specs.declared.argument.Argument.{Argument}
use Rattle.jg_record.specs.declared.event.Event.{Event}
use Rattle.jg_record.specs.declared.event.Event.TheVariants.{Question, Fact as FactTold, Gone as AreGone, Bounds}
use Rattle.jg_record.specs.declared.reply.Reply.{Reply}
use Rattle.jg_record.specs.declared.reply.Reply.TheVariants.{Denied, Nothing, Passed}
use Rattle.jg_record.specs.Events.{SpellsEvent}
use Rattle.jg_record.specs.Parts.{AreParts}
use Rattle.jg_record.specs.Replies.{reply_text}
use Rattle.jg_watch.specs.declared.watch.Shown.{Shown}
use Rattle.jg_watch.specs.declared.watch.Shown.TheVariants.{All, Denials}
use Rattle.jg_watch.specs.Told.{Told, after, can_be_told, nothing_told, operand_denied, replied}

-- ---- a line

-- it begins with `#`
abbrev pub is_comment : List ℕ → Bool
is_comment [] = false
is_comment (byte ∷ line) = byte == 35

-- what a line says: its event, with the answer that it tells and its note
pub record Said : Type 0 where
  pub event : List ℕ
  pub answer : Option (List ℕ)
  pub note : Option (List ℕ)
  pub says : Event
  pub operands : List Argument
  pub gone : List ObjId

pub record Says (s : StatedSetup) (line : List ℕ) (x : Said) : Type 0 where
  pub event : is_comment line ≡ false
  pub parts : AreParts line x.event x.answer x.note
  pub spelt : SpellsEvent s x.event x.says x.operands x.gone

-- ---- what is written of it

-- the text of a reply, where there is one
abbrev pub answer_of : Reply → Option (List ℕ)
answer_of Nothing = None
answer_of reply = Some (reply_text reply)

-- the answer behind ` = `, the note behind ` @ `
abbrev pub behind : ℕ → Option (List ℕ) → List ℕ
behind mark None = []
behind mark (Some text) = 32 ∷ mark ∷ 32 ∷ text

abbrev pub line_text : List ℕ → Option (List ℕ) → Option (List ℕ) → List ℕ
line_text event answer note = event ++ behind 61 answer ++ behind 64 note ++ 10 ∷ []

abbrev pub is_denial : Reply → Bool
is_denial (Denied rule) = true
is_denial reply = false

-- all is written, or denied questions alone
abbrev pub is_shown : Shown → Reply → Bool
is_shown All reply = true
is_shown Denials reply = is_denial reply

abbrev pub shown_text : Shown → List ℕ → Option (List ℕ) → Reply → List ℕ
shown_text shown event note reply =
    if is_shown shown reply then line_text event (answer_of reply) note else []

abbrev pub comment_text : Shown → List ℕ → List ℕ
comment_text All line = line ++ 10 ∷ []
comment_text Denials line = []

-- ---- how it is answered

-- the line tells no answer, or the core's
abbrev pub Agrees : Option (List ℕ) → Reply → Type 0
Agrees told reply = (told ≡ None) ⊎ (told ≡ answer_of reply)

-- the event can be, and is answered so
pub record IsReplied (s : StatedSetup) (told : Told) (x : Said) (reply : Reply) : Type 0 where
  pub can : can_be_told s told x.says x.gone ≡ true
  pub is : reply ≡ replied s told x.says x.operands

-- the fourth field of a line, in which FindClass has its name
abbrev pub fourth : List (List ℕ) → List ℕ
fourth (first ∷ second ∷ third ∷ text ∷ texts) = text
fourth texts = []

abbrev pub name_in : List ℕ → List ℕ
name_in line = fourth (fields line)

-- what happened by a line's event that was answered so under the setup, as far as advice looks at it
abbrev pub what_of : StatedSetup → List ℕ → Option Event → Reply → List Argument → List ObjId → Option What
what_of s line None reply xs gone = None
what_of s line (Some (Question t env f)) Passed xs gone =
    Some (Called s t f xs (if f == find_class then name_in line else []))
what_of s line (Some (Question t env f)) reply xs gone = None
what_of s line (Some (FactTold fact)) reply xs gone = Some (WasTold fact)
what_of s line (Some AreGone) reply xs gone = Some (Went gone)
what_of s line (Some (Bounds bounds)) reply xs gone = None

-- a line, what it was answered, by which operand a question was denied, what happened by it, and what is written of it
pub record Answered : Type 0 where
  pub line : List ℕ
  pub reply : Reply
  pub operand : Option Argument
  pub what : Option What
  pub out : List ℕ

-- what a line says is told, and it is answered
abbrev pub IsAnswered : StatedSetup → Shown → Told → Answered → Told → Type 0
IsAnswered s shown told l told' =
    ((is_comment l.line ≡ true) × (l.reply ≡ Nothing) × (l.operand ≡ None) × (l.what ≡ None) × (told' ≡ told)
    × (l.out ≡ comment_text shown l.line))
    ⊎ ((x : Said) × Says s l.line x × IsReplied s told x l.reply × Agrees x.answer l.reply
    × (l.operand ≡ operand_denied s told x.says x.operands)
    × (l.what ≡ what_of s l.line (Some x.says) l.reply x.operands x.gone) × (told' ≡ after x.says x.gone told)
    × (l.out ≡ shown_text shown x.event x.note l.reply))

-- these lines, the newest first, were answered one after the other, and told this
abbrev pub AreAnswered : StatedSetup → Shown → List Answered → Told → Type 0
AreAnswered s shown [] told = told ≡ nothing_told
AreAnswered s shown (l ∷ lines) told =
    (before : Told) × AreAnswered s shown lines before × IsAnswered s shown before l told

-- their text, and what is written of them
abbrev pub text_of : List Answered → List ℕ
text_of [] = []
text_of (l ∷ lines) = text_of lines ++ (l.line ++ 10 ∷ [])

abbrev pub written_of : List Answered → List ℕ
written_of [] = []
written_of (l ∷ lines) = written_of lines ++ l.out

-- ---- how many

-- 0 of a question that passed, and of a denied one the number of its rule
abbrev pub reply_number : Reply → Option ℕ
reply_number Passed = Some 0
reply_number (Denied rule) = Some (number_of rule)
reply_number reply = None

abbrev pub is_number : ℕ → Option ℕ → Bool
is_number k None = false
is_number k (Some n) = n == k

-- how many lines have the number
abbrev pub tallied : ℕ → List Answered → ℕ
tallied k lines = how_many (λ l. is_number k (reply_number l.reply)) lines

abbrev pub passed_in : List Answered → ℕ
passed_in lines = tallied 0 lines

abbrev pub denied_in : Rule → List Answered → ℕ
denied_in rule lines = tallied (number_of rule) lines

-- how many questions were denied
abbrev pub denials_in : List Answered → ℕ
denials_in lines = how_many (λ l. is_denial l.reply) lines

-- the list has it of each number
abbrev pub IsTally : List Answered → List ℕ → Type 0
IsTally lines tally = (length tally ≡ 18) × ((k : ℕ) → slice_index_or tally k 0 ≡ tallied k lines)

-- some rule denied a question
abbrev pub any_denied : List ℕ → Bool
any_denied tally = list_any (λ count. nat_lt 0 count) (drop 1 tally)
