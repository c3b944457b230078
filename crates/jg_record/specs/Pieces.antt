-- What the readers of an event's parts say to one another. No public contract stands on this.
use Rattle.std.specs.Prelude.{◌≡◌, ◌≢◌, ◌<◌, ℕ, true, false, List, ◌∷◌, length, slice_get, Option, Some}
use Rattle.jg_words.specs.declared.thread.Tid.{Tid}
use Rattle.jg_words.specs.declared.thread.EnvId.{EnvId}
use Rattle.jg_words.specs.declared.object.ObjId.{ObjId}
use Rattle.jg_policy.specs.Stated.{StatedSetup}
use Rattle.jg_rows.specs.declared.row.Takes.{Takes}
use Rattle.jg_rows.specs.ByName.{name_at}
use Rattle.jg_rows.specs.Columns.{Columns}
use Rattle.jg_rows.specs.Table.{functions}
use Rattle.jg_judge.specs.declared.argument.Argument.{Argument}
use Rattle.jg_record.specs.declared.event.Event.{Event}
use Rattle.jg_record.specs.declared.event.Event.TheVariants.{Question}
use Rattle.jg_record.specs.declared.fault.RecordFault.{RecordFault}
use Rattle.jg_record.specs.declared.fault.RecordFault.TheVariants.{UnknownFunction, WrongCount, BadOperand, NoMemory}
use Rattle.jg_record.specs.declared.verb.Verb.{Verb}
use Rattle.jg_record.specs.declared.verb.Verb.TheVariants.{Gone, Bounds}
use Rattle.jg_record.specs.Operands.{Asks, is_count}
use Rattle.jg_record.specs.Events.{AreGone, Tells, is_told_count}

-- operands aren't read where memory runs out, or where the words spell none
abbrev pub IsOperandFault : List Takes → List (List ℕ) → RecordFault → Type 0
IsOperandFault takes words f = f ≢ NoMemory → (f ≡ BadOperand) × ((xs : List Argument) → ¬ Asks takes words xs)

-- the same of objects
abbrev pub IsGoneFault : List (List ℕ) → RecordFault → Type 0
IsGoneFault words f = f ≢ NoMemory → (f ≡ BadOperand) × ((gone : List ObjId) → ¬ AreGone words gone)

-- its words are a fact's
abbrev pub IsOwn : Verb → Type 0
IsOwn Gone = ⊥
IsOwn Bounds = ⊥
IsOwn v = Unit {0}

-- the same of the words of a fact
abbrev pub IsToldFault : StatedSetup → Verb → Tid → List (List ℕ) → RecordFault → Type 0
IsToldFault s v t words f =
    f ≢ NoMemory → (f ≡ BadOperand) × ((e : Event) (gone : List ObjId) → ¬ Tells s v t words e gone)

-- the row is that of the function whose name stands first, and of no other
pub record HasRow (words : List (List ℕ)) (place : ℕ) (row : Columns) (rest : List (List ℕ)) : Type 0 where
  pub below : place < 243
  pub name : name_at place ≡ row.name
  pub at : slice_get functions place ≡ Some row
  pub split : words ≡ row.name ∷ rest
  pub one : (other : ℕ) (r : Columns) → slice_get functions other ≡ Some r → r.name ≡ row.name → r ≡ row

-- what stands behind a question's thread and environment asks that
abbrev pub AsksBehind : Tid → Option EnvId → List (List ℕ) → Event → List Argument → Type 0
AsksBehind t env words e xs = (place : ℕ) × (row : Columns) × (rest : List (List ℕ)) × HasRow words place row rest
    × (e ≡ Question t env place) × Asks row.takes rest xs

-- why it asks nothing
abbrev pub IsQuestionFault : List (List ℕ) → RecordFault → Type 0
IsQuestionFault words UnknownFunction = (place : ℕ) → place < 243 → slice_get words 0 ≢ Some (name_at place)
IsQuestionFault words WrongCount = (place : ℕ) × (row : Columns) × (rest : List (List ℕ)) × HasRow words place row rest
    × (is_count row.takes (length rest) ≡ false)
IsQuestionFault words BadOperand = (place : ℕ) × (row : Columns) × (rest : List (List ℕ)) × HasRow words place row rest
    × (is_count row.takes (length rest) ≡ true) × ((xs : List Argument) → ¬ Asks row.takes rest xs)
IsQuestionFault words NoMemory = Unit {0}
IsQuestionFault words f = ⊥

-- why the words of a fact tell nothing
abbrev pub IsWordsFault : StatedSetup → Verb → Tid → List (List ℕ) → RecordFault → Type 0
IsWordsFault s v t words WrongCount = is_told_count v (length words) ≡ false
IsWordsFault s v t words BadOperand = (is_told_count v (length words) ≡ true)
    × ((e : Event) (gone : List ObjId) → ¬ Tells s v t words e gone)
IsWordsFault s v t words NoMemory = Unit {0}
IsWordsFault s v t words f = ⊥
