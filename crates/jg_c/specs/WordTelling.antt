-- What a witness is told by numbers, and what it answers of a word.
use Rattle.std.specs.Prelude.{ℕ, ℤ, pos, ◌≡◌, ◌≢◌, ◌⊎◌, true, false, List, ◌∷◌, Option, Some, None, Result, Ok, Err, slice_index_or}
use Rattle.std.specs.Option.{option_and_then}
use Rattle.jg_words.specs.declared.object.ObjId.{ObjId}
use Rattle.jg_words.specs.declared.reference.Kind.{Kind}
use Rattle.jg_words.specs.declared.reference.Ref.{Ref}
use Rattle.jg_words.specs.declared.reference.Ref.TheVariants.{To}
use Rattle.jg_words.specs.declared.thread.Tid.{Tid}
use Rattle.jg_rules.specs.Names.{next_ref}
use Rattle.jg_core.specs.declared.asking.Ticket.{Ticket}
use Rattle.jg_core.specs.declared.fact.Fact.{Fact}
use Rattle.jg_core.specs.declared.fact.Fact.TheVariants.{Hand}
use Rattle.jg_core.specs.declared.gone.Holder.{Holder}
use Rattle.jg_core.specs.declared.kernel.Untold.{Untold}
use Rattle.jg_core.specs.declared.kernel.Untold.TheVariants.{NoMemory}
use Rattle.jg_core.specs.declared.says.Given.{Given}
use Rattle.jg_core.specs.declared.says.Says.{Says}
use Rattle.jg_core.specs.Asking.{RefusesReturn}
use Rattle.jg_core.specs.Facts.{first_held, is_in_being, parts_of}
use Rattle.jg_core.specs.Implied.{given_by}
use Rattle.jg_core.specs.Kernel.{Keeps, Refuses}
use Rattle.jg_witness.specs.Events.{Event, Told, Handed, Lapsed, facts_of, meaning, newest, told_gone}
use Rattle.jg_witness.specs.Standing.{WitnessStands, Stays, Takes}
use Rattle.jg_witness.specs.Words.{Returned}
use Rattle.jg_c.specs.declared.held.JgHeld.{JgHeld}
use Rattle.jg_c.specs.declared.value.JgValue.{JgValue}
use Rattle.jg_c.specs.declared.word_telling.Hands.{Hands}
use Rattle.jg_c.specs.Errors as errors
use Rattle.jg_c.specs.Given.{of_given}
use Rattle.jg_c.specs.Holders.{holder_of}
use Rattle.jg_c.specs.Telling.{CanSay, objects_of}
use Rattle.jg_c.specs.Values.{kind_of, object_of, of_reference, thread_of}
use Rattle.jg_c.specs.Witnesses.{WitnessHeld, core_in}

-- nothing was handed out and the word means nothing from now on: for want of memory, or so it is
pub record IsRefused (old new : WitnessHeld) (word : ℕ) (Is : Untold → Type 0) (n : ℤ) : Type 0 where
  pub lapsed : Takes old.witness new.witness (Lapsed word)
  pub why : Untold
  pub number : n ≡ errors.of_untold why
  pub is : why ≢ NoMemory → Is why

-- ---- a word is handed out

-- whose reference of which kind is handed out to which object, or the error of the numbers that don't say so: of the
-- thread, then of the kind and the object
abbrev hands_to : Tid → Option Kind → Option ObjId → Result Hands ℤ
hands_to t None object = Err errors.bad_value
hands_to t (Some kind) None = Err errors.bad_value
hands_to t (Some kind) (Some object) = Ok (record { tid = t; kind = kind; object = object })

abbrev hands_by : Option Tid → Option Kind → Option ObjId → Result Hands ℤ
hands_by None kind object = Err errors.bad_thread
hands_by (Some t) kind object = hands_to t kind object

abbrev pub hands_of : ℕ → ℕ → JgValue → Result Hands ℤ
hands_of thread kind object = hands_by (thread_of thread) (kind_of kind) (option_and_then (λ o. o) (object_of object))

-- the thread's next reference was told, and the word handed out for it; that is its name
pub record IsHanded (old new : WitnessHeld) (word : ℕ) (h : Hands) (given : JgValue) : Type 0 where
  pub name : Ref
  pub written : given ≡ of_reference name
  pub next : (e : List Event) → WitnessStands old.witness e
      → name ≡ To h.kind h.tid (next_ref (parts_of (facts_of e)) h.tid.0)
  pub stands : (e : List Event) → WitnessStands old.witness e
      → WitnessStands new.witness (Handed word name ∷ Told (Hand h.tid h.kind h.object) ∷ e)

-- numbers that say nothing change nothing
abbrev pub HandsWord : WitnessHeld → WitnessHeld → ℕ → Result Hands ℤ → JgValue → ℤ → Type 0
HandsWord old new word (Err why) given n = (n ≡ why) × (new ≡ old)
HandsWord old new word (Ok h) given n =
    ((n ≡ errors.done) × IsHanded old new word h given)
    ⊎ IsRefused old new word (Refuses old.witness.core (Hand h.tid h.kind h.object)) n

-- there is no such reference
abbrev pub IsNone : WitnessHeld → Ref → Untold → Type 0
IsNone old name why = (e : List Event) → WitnessStands old.witness e → is_in_being (parts_of (facts_of e)) name ≡ false

-- the word was handed out for the reference of the name, or there is none
abbrev pub HandsFor : WitnessHeld → WitnessHeld → ℕ → Option Ref → ℤ → Type 0
HandsFor old new word None n = (n ≡ errors.bad_value) × (new ≡ old)
HandsFor old new word (Some name) n =
    ((n ≡ errors.done) × Takes old.witness new.witness (Handed word name))
    ⊎ IsRefused old new word (IsNone old name) n

-- ---- a fact

-- the fact was taken, and that is the name of what it handed out; or it was refused
abbrev pub TellsFactOf : WitnessHeld → WitnessHeld → Fact → JgValue → ℤ → Type 0
TellsFactOf old new fact given n =
    ((n ≡ errors.done) × Takes old.witness new.witness (Told fact)
    × ((e : List Event) → WitnessStands old.witness e
    → given ≡ of_given (given_by old.witness.core.setup (parts_of (facts_of e)) fact)))
    ⊎ ((why : Untold) × (n ≡ errors.of_untold why) × Refuses old.witness.core fact why
    × Stays old.witness new.witness)

-- numbers that state no fact change nothing
abbrev pub TellsOf : WitnessHeld → WitnessHeld → Option Fact → JgValue → ℤ → Type 0
TellsOf old new None given n = (n ≡ errors.bad_fact) × (new ≡ old)
TellsOf old new (Some fact) given n = TellsFactOf old new fact given n

-- ---- a call that returned

-- what it implies was taken, and the word handed out for the reference that it is; or it was refused, or the machine
-- can't say so, and the word means nothing from now on
abbrev pub ReturnsWord : WitnessHeld → WitnessHeld → Ticket → Says → ℕ → JgValue → ℤ → Type 0
ReturnsWord old new ticket says word given n =
    ((n ≡ errors.done) × CanSay (core_in old) says true
    × ((out : Given) × Returned old.witness new.witness ticket says word out × (given ≡ of_given out)))
    ⊎ IsRefused old new word (RefusesReturn old.witness.core ticket says) n
    ⊎ ((n ≡ errors.impossible) × CanSay (core_in old) says false × Takes old.witness new.witness (Lapsed word))

abbrev pub ReturnsWordBy : WitnessHeld → WitnessHeld → Ticket → Option Says → ℕ → JgValue → ℤ → Type 0
ReturnsWordBy old new ticket None word given n = (n ≡ errors.bad_value) × (new ≡ old)
ReturnsWordBy old new ticket (Some says) word given n = ReturnsWord old new ticket says word given n

-- numbers that are no ticket, or say nothing, change nothing
abbrev pub DidOf : WitnessHeld → WitnessHeld → Option Ticket → Option Says → ℕ → JgValue → ℤ → Type 0
DidOf old new None says word given n = (n ≡ errors.bad_ticket) × (new ≡ old)
DidOf old new (Some ticket) says word given n = ReturnsWordBy old new ticket says word given n

-- ---- what is gone

-- the first object that can't be gone is told, and what keeps it
pub record IsHeld (a : WitnessHeld) (ns : List ℕ) (held : JgHeld) : Type 0 where
  pub first : (e : List Event) → WitnessStands a.witness e
      → first_held a.witness.core.setup (parts_of (facts_of e)) (objects_of ns) ≡ Some held.place
  pub holder : Holder
  pub is : holder_of held ≡ Some holder
  pub keeps : (e : List Event) → WitnessStands a.witness e
      → Keeps a.witness.core.setup (parts_of (facts_of e))
      (slice_index_or (objects_of ns) held.place (record { 0 = 0 })).0 holder

-- all are gone, or none is and why is told
abbrev pub LetsGoOf : WitnessHeld → WitnessHeld → List ℕ → JgHeld → ℤ → Type 0
LetsGoOf old new ns held n =
    ((n ≡ errors.done) × ((e : List Event) → WitnessStands old.witness e
    → WitnessStands new.witness (told_gone (objects_of ns) e)))
    ⊎ ((n ≡ errors.impossible) × Stays old.witness new.witness × IsHeld old ns held)

-- ---- what a word means

-- the name is written, or there is none
abbrev pub WritesName : Option Ref → JgValue → JgValue → ℤ → Type 0
WritesName None old new n = (n ≡ pos 0) × (new ≡ old)
WritesName (Some name) old new n = (n ≡ pos 1) × (new ≡ of_reference name)

abbrev pub TellsMeaning : WitnessHeld → ℕ → JgValue → JgValue → ℤ → Type 0
TellsMeaning a word old new n = (e : List Event) → WitnessStands a.witness e
    → WritesName (meaning word e) old new n

-- the newest name, or none, and then the word means nothing
pub record TellsNewest (a : WitnessHeld) (word : ℕ) (old new : JgValue) (n : ℤ) : Type 0 where
  pub name : Option Ref
  pub written : WritesName name old new n
  pub is_newest : (e : List Event) → WitnessStands a.witness e → name ≢ None → newest word e ≡ name
  pub none : (e : List Event) → WitnessStands a.witness e → name ≡ None → meaning word e ≡ None
