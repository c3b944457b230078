-- Lines of a record, and the facts that they tell.
use Rattle.std.specs.Prelude.{ℕ, ◌≡◌, ◌≤◌, Bool, true, false, List, [], ◌∷◌, ◌++◌, length, map}
use Rattle.jg_words.specs.declared.thread.Tid.{Tid}
use Rattle.jg_words.specs.declared.object.ObjId.{ObjId}
use Rattle.jg_policy.specs.Stated.{StatedSetup}
use Rattle.jg_judge.specs.declared.argument.Argument.{Argument}
use Rattle.jg_core.specs.declared.fact.Fact.{Fact}
use Rattle.jg_core.specs.declared.fact.Fact.TheVariants.{Gone}
use Rattle.jg_record.specs.declared.event.Event.{Event}
use Rattle.jg_record.specs.declared.event.Event.TheVariants.{Question, Fact as Told, Gone as AreGone, Bounds}
use Rattle.jg_record.specs.Writing.{IsTextOf}

-- what a line says: an event, told by a thread where it is no thread's own, with the operands of a question and the
-- objects that are gone
pub record Line : Type 0 where
  pub by : Tid
  pub event : Event
  pub arguments : List Argument
  pub gone : List ObjId

-- the text is that of the line's event, of at most 65,536 bytes
abbrev pub IsLineText : StatedSetup → Line → List ℕ → Type 0
IsLineText s line own = IsTextOf s line.by line.event line.arguments line.gone own × (length own ≤ 65536)

-- the text is that of the lines, each with its line feed
abbrev pub AreLines : StatedSetup → List Line → List ℕ → Type 0
AreLines s [] text = text ≡ []
AreLines s (line ∷ lines) text =
    (own rest : List ℕ) × IsLineText s line own × AreLines s lines rest × (text ≡ own ++ 10 ∷ rest)

-- the line of such an event was appended
abbrev pub AddsLine : StatedSetup → Line → List ℕ → List ℕ → Type 0
AddsLine s line old new = (own : List ℕ) × IsLineText s line own × (new ≡ old ++ (own ++ 10 ∷ []))

-- the facts that an event tells, oldest first
abbrev pub facts_in : Event → List ObjId → List Fact
facts_in (Told fact) gone = fact ∷ []
facts_in AreGone gone = map (λ o. Gone o) gone
facts_in (Question t env place) gone = []
facts_in (Bounds bounds) gone = []

-- an event tells facts: it asks nothing, and states no bounds
abbrev pub tells : Event → Bool
tells (Told fact) = true
tells AreGone = true
tells (Question t env place) = false
tells (Bounds bounds) = false

-- the lines tell these facts, oldest first, and nothing else
abbrev pub Tell : Tid → List Line → List Fact → Type 0
Tell by [] facts = facts ≡ []
Tell by (line ∷ lines) facts = (line.by ≡ by) × (tells line.event ≡ true) × (rest : List Fact) × Tell by lines rest
    × (facts ≡ facts_in line.event line.gone ++ rest)

-- the facts that lines tell, oldest first
abbrev pub facts_told : List Line → List Fact
facts_told [] = []
facts_told (line ∷ lines) = facts_in line.event line.gone ++ facts_told lines

-- lines that tell the facts were appended
abbrev pub AddsFacts : StatedSetup → Tid → List Fact → List ℕ → List ℕ → Type 0
AddsFacts s by facts old new = (lines : List Line) × Tell by lines facts × (text : List ℕ) × AreLines s lines text
    × (new ≡ old ++ text)

-- the same in mid-course: the text has lines that tell these facts behind its start, but for objects that are gone,
-- which are listed
pub record IsTelling (s : StatedSetup) (by : Tid) (start : List ℕ) (told : List Fact) (listed : List ObjId)
    (text : List ℕ) : Type 0 where
  pub lines : List Line
  pub facts : List Fact
  pub own : List ℕ
  pub are : AreLines s lines own
  pub tell : Tell by lines facts
  pub all : told ≡ facts ++ map (λ o. Gone o) listed
  pub is : text ≡ start ++ own
