-- What can be wrong with an event of a record, each fault for itself, and which of them is named.
use Rattle.std.specs.Prelude.{◌≡◌, ◌≢◌, ◌<◌, ℕ, false, List, length, slice_get, Option, Some, All}
use Rattle.std.specs.Int.{IsInRange}
use Rattle.jg_words.specs.declared.thread.Tid.{Tid}
use Rattle.jg_words.specs.declared.thread.EnvId.{EnvId}
use Rattle.jg_words.specs.declared.object.ObjId.{ObjId}
use Rattle.jg_policy.specs.Stated.{StatedSetup}
use Rattle.jg_text.specs.Words.{tid_text, env_text, FitsTid, FitsEnv}
use Rattle.jg_text.specs.Faults.{fields}
use Rattle.jg_rows.specs.ByName.{name_at}
use Rattle.jg_rows.specs.Columns.{Columns}
use Rattle.jg_judge.specs.declared.argument.Argument.{Argument}
use Rattle.jg_record.specs.declared.event.Event.{Event}
use Rattle.jg_record.specs.declared.fault.RecordFault.{RecordFault}
use Rattle.jg_record.specs.declared.fault.RecordFault.TheVariants.{LineTooLong, NotAscii, NoThread, NoEvent, UnknownFunction, WrongCount, BadOperand, NoMemory}
use Rattle.jg_record.specs.declared.verb.Verb.{Verb}
use Rattle.jg_record.specs.Words.{verb_named}
use Rattle.jg_record.specs.Operands.{Asks, is_count}
use Rattle.jg_record.specs.Events.{Tells, is_told_count, AsksFor, TellsOf}

abbrev pub HasFault : RecordFault → StatedSetup → List ℕ → Type 0
-- more than 65,536 bytes
HasFault LineTooLong s text = 65536 < length text
-- some byte outside 0x20 to 0x7E
HasFault NotAscii s text = ¬ All (λ b. IsInRange 32 126 b) text
-- the first field spells no thread
HasFault NoThread s text = (t : Tid) → FitsTid t → slice_get (fields text) 0 ≢ Some (tid_text t)
-- there is no second field, or it is neither an environment nor a fact's word
HasFault NoEvent s text =
    ((env : Option EnvId) → FitsEnv env → slice_get (fields text) 1 ≢ Some (env_text env))
    × ((word : List ℕ) (v : Verb) → slice_get (fields text) 1 ≡ Some word → verb_named word ≢ Some v)
-- in a question there is no third field, or it is no function of the table
HasFault UnknownFunction s text =
    (env : Option EnvId) × FitsEnv env × (slice_get (fields text) 1 ≡ Some (env_text env))
    × ((place : ℕ) → place < 243 → slice_get (fields text) 2 ≢ Some (name_at place))
-- the fields after it are more or fewer than the function's operands, or than the words of the fact
HasFault WrongCount s text =
    ((t : Tid) (env : Option EnvId) (place : ℕ) (row : Columns) (words : List (List ℕ))
    → AsksFor text t env place row words → is_count row.takes (length words) ≡ false)
    × ((t : Tid) (v : Verb) (words : List (List ℕ)) → TellsOf text t v words → is_told_count v (length words) ≡ false)
-- one of them spells no operand of the kind that stands there
HasFault BadOperand s text =
    ((t : Tid) (env : Option EnvId) (place : ℕ) (row : Columns) (words : List (List ℕ))
    → AsksFor text t env place row words → (xs : List Argument) → ¬ Asks row.takes words xs)
    × ((t : Tid) (v : Verb) (words : List (List ℕ)) → TellsOf text t v words
    → (e : Event) (gone : List ObjId) → ¬ Tells s v t words e gone)
HasFault NoMemory s text = ⊥

-- the order in which faults are named
abbrev pub rank : RecordFault → ℕ
rank LineTooLong = 0
rank NotAscii = 1
rank NoThread = 2
rank NoEvent = 3
rank UnknownFunction = 4
rank WrongCount = 5
rank BadOperand = 6
rank NoMemory = 7

-- the event has the fault, and none that is named before it
pub record IsFirstFault (s : StatedSetup) (text : List ℕ) (f : RecordFault) : Type 0 where
  pub fault : HasFault f s text
  pub first : (g : RecordFault) → rank g < rank f → ¬ HasFault g s text

-- the fault is the first; want of memory says nothing of the event
abbrev pub NamesFirstFault : StatedSetup → List ℕ → RecordFault → Type 0
NamesFirstFault s text f = f ≢ NoMemory → IsFirstFault s text f
