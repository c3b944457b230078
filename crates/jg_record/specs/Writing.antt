-- What is written of an event, and which events have no text.
use Rattle.std.specs.Prelude.{◌≡◌, ◌<◌, ◌≤◌, ◌++◌, ◌∷◌, ℕ, List, length, slice_get, Some, All}
use Rattle.std.specs.Int.{IsInRange}
use Rattle.jg_words.specs.declared.thread.Tid.{Tid}
use Rattle.jg_words.specs.declared.object.ObjId.{ObjId}
use Rattle.jg_policy.specs.Stated.{StatedSetup}
use Rattle.jg_text.specs.Words.{tid_text}
use Rattle.jg_text.specs.Faults.{fields}
use Rattle.jg_judge.specs.declared.argument.Argument.{Argument}
use Rattle.jg_core.specs.declared.fact.Fact.{Fact as FactOf}
use Rattle.jg_core.specs.declared.fact.Fact.TheVariants as fact
use Rattle.jg_core.specs.declared.fact.Checked.{Checked}
use Rattle.jg_core.specs.declared.fact.Checked.TheVariants as checked
use Rattle.jg_record.specs.declared.event.Event.{Event}
use Rattle.jg_record.specs.declared.event.Event.TheVariants.{Question, Fact}
use Rattle.jg_record.specs.declared.unwritten.Unwritten.{Unwritten}
use Rattle.jg_record.specs.declared.unwritten.Unwritten.TheVariants.{NoText, TooLong, NoMemory}
use Rattle.jg_record.specs.Events.{SpellsEvent}

-- whose thread stands first: the fact's own, or else this one
abbrev pub teller_of_checked : Tid → Checked → Tid
teller_of_checked by (checked.Local t n o) = t
teller_of_checked by (checked.Pending t o) = t
teller_of_checked by (checked.Length o n) = by

abbrev pub teller_of : Tid → FactOf → Tid
teller_of by (fact.Begin t) = t
teller_of by (fact.End t) = t
teller_of by (fact.Enter t) = t
teller_of by (fact.Leave t kept) = t
teller_of by (fact.Push t room) = t
teller_of by (fact.Pop t kept) = t
teller_of by (fact.Ensure t room) = t
teller_of by (fact.Raise t o) = t
teller_of by (fact.Calm t) = t
teller_of by (fact.Hand t kind o) = t
teller_of by (fact.Lend t family o via n) = t
teller_of by (fact.Own t o) = t
teller_of by (fact.Free t o) = t
teller_of by (fact.Checked c) = teller_of_checked by c
teller_of by f = by

abbrev pub teller : Tid → Event → Tid
teller by (Question t env place) = t
teller by (Fact f) = teller_of by f
teller by e = by

-- the text is that of the event, with its thread or this one, and has no byte that a reader refuses
pub record IsTextOf (s : StatedSetup) (by : Tid) (e : Event) (xs : List Argument) (gone : List ObjId) (text : List ℕ)
    : Type 0 where
  pub spelt : SpellsEvent s text e xs gone
  pub told : slice_get (fields text) 0 ≡ Some (tid_text (teller by e))
  pub printable : All (λ b. IsInRange 32 126 b) text

-- such a text was appended, which begins with `T`
pub record AppendsText (s : StatedSetup) (by : Tid) (e : Event) (xs : List Argument) (gone : List ObjId)
    (old new : List ℕ) : Type 0 where
  pub tail : List ℕ
  pub is : IsTextOf s by e xs gone (84 ∷ tail)
  pub appended : new ≡ old ++ 84 ∷ tail

-- one was, of at most 65,536 bytes
abbrev pub IsWritten : StatedSetup → Tid → Event → List Argument → List ObjId → List ℕ → List ℕ → Type 0
IsWritten s by e xs gone old new =
    (text : List ℕ) × (length text ≤ 65536) × IsTextOf s by e xs gone text × (new ≡ old ++ text)

-- why nothing is written
abbrev pub IsUnwritten : StatedSetup → Tid → Event → List Argument → List ObjId → Unwritten → Type 0
-- no text is that of the event
IsUnwritten s by e xs gone NoText = (text : List ℕ) → ¬ SpellsEvent s text e xs gone
-- what would be written is longer
IsUnwritten s by e xs gone TooLong = (text : List ℕ) × (65536 < length text) × IsTextOf s by e xs gone text
IsUnwritten s by e xs gone NoMemory = Unit {0}
