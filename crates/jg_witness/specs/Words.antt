-- Questions whose references are words.
use Rattle.std.specs.Prelude.{ℕ, ◌≡◌, ◌==◌, ◌-◌, ◌^◌, false, if◌then◌else◌, List, ◌∷◌, map, Option, Some, None}
use Rattle.jg_words.specs.declared.thread.Tid.{Tid}
use Rattle.jg_words.specs.declared.thread.EnvId.{EnvId}
use Rattle.jg_words.specs.declared.reference.Ref.{Ref}
use Rattle.jg_words.specs.declared.reference.Ref.TheVariants.{Null, To}
use Rattle.jg_words.specs.declared.reference.Kind.TheVariants.{Local}
use Rattle.jg_rules.specs.Parts.{Parts}
use Rattle.jg_judge.specs.declared.argument.Argument.{Argument}
use Rattle.jg_judge.specs.declared.argument.Argument.TheVariants.{Reference}
use Rattle.jg_judge.specs.declared.argument.Bounds.{Bounds}
use Rattle.jg_core.specs.declared.fact.Fact.{Fact}
use Rattle.jg_core.specs.declared.says.Says.{Says}
use Rattle.jg_core.specs.declared.says.Given.{Given}
use Rattle.jg_core.specs.declared.says.Given.TheVariants.{Nothing, Reference as GivenReference}
use Rattle.jg_core.specs.declared.kernel.Untold.{Untold}
use Rattle.jg_core.specs.declared.asking.Ticket.{Ticket}
use Rattle.jg_core.specs.declared.asking.Ended.{Ended}
use Rattle.jg_core.specs.declared.asking.Answer.TheVariants.{Passed}
use Rattle.jg_core.specs.Asking.{RefusesReturn, asked, foreseen, given_for, is_passed}
use Rattle.jg_core.specs.Expected.{told}
use Rattle.jg_core.specs.Facts.{parts_of}
use Rattle.jg_witness.specs.declared.operand.Operand.{Operand}
use Rattle.jg_witness.specs.declared.operand.Operand.TheVariants.{Word, Other}
use Rattle.jg_witness.specs.Events.{Event, Told, Handed, IsCounted, facts_of, meaning}
use Rattle.jg_witness.specs.Standing.{WitnessState, WitnessStands, Stays}

-- what t's word that means nothing is asked as: a local that t was never handed, which is dead
abbrev pub dead_of : Tid → Ref
dead_of t = To Local t (2 ^ 64 - 1)

abbrev pub or_dead : Tid → Option Ref → Ref
or_dead t None = dead_of t
or_dead t (Some name) = name

-- the reference that a word is asked as: 0 is NULL
abbrev pub named_for : Tid → List Event → ℕ → Ref
named_for t e word = if word == 0 then Null else or_dead t (meaning word e)

abbrev pub argument_of : Tid → List Event → Operand → Argument
argument_of t e (Word word) = Reference (named_for t e word)
argument_of t e (Other x) = x

abbrev pub arguments_of : Tid → List Event → List Operand → List Argument
arguments_of t e xs = map (argument_of t e) xs

-- the events with this told, if it is anything
abbrev pub told_on : Option Fact → List Event → List Event
told_on None e = e
told_on (Some x) e = Told x ∷ e

-- the events with the word handed out for what was given, where that is a reference and the word isn't NULL
abbrev pub handed_by : ℕ → Given → List Event → List Event
handed_by word (GivenReference name) e = Handed word name ∷ e
handed_by word given e = e

abbrev pub handed_on : ℕ → Given → List Event → List Event
handed_on word given e = if word == 0 then e else handed_by word given e

-- a reference that is given has a number that its maker was given
abbrev pub GivesCounted : Parts → Given → Type 0
GivesCounted p (GivenReference name) = IsCounted p name
GivesCounted p given = Unit {0}

-- the machine's answer implied this, if anything: it was told, and the word was handed out for the reference that it is
pub record Returned (old new : WitnessState) (ticket : Ticket) (says : Says) (word : ℕ) (out : Given) : Type 0 where
  pub fact : Option Fact
  pub is : told ticket.tid ticket.expected says ≡ Some fact
  pub stands : (e : List Event) → WitnessStands old e → WitnessStands new (handed_on word out (told_on fact e))
  pub answers : (e : List Event) → WitnessStands old e
      → out ≡ given_for old.core.setup (parts_of (facts_of e)) ticket fact

-- what the machine is going to say of a call that ends something implied this, if anything: it was told
pub record EndedBy (old new : WitnessState) (ticket : Ticket) (says : Says) (e : List Event)
    (out : Given) : Type 0 where
  pub fact : Option Fact
  pub is : told ticket.tid ticket.expected says ≡ Some fact
  pub stands : WitnessStands new (told_on fact e)
  pub answers : out ≡ given_for old.core.setup (parts_of (facts_of e)) ticket fact

-- the question about words was answered and, where it passed, what it ends was told; else nothing was
pub record EndedAs (old new : WitnessState) (bounds : Bounds) (t : Tid) (env : Option EnvId) (function : ℕ)
    (xs : List Operand) (out : Ended) : Type 0 where
  pub answer : (e : List Event) → WitnessStands old e
      → out.answer ≡ asked bounds old.core.setup (parts_of (facts_of e)) t env function (arguments_of t e xs)
  pub passed : (ticket : Ticket) → out.answer ≡ Passed ticket → (e : List Event) → WitnessStands old e
      → EndedBy old new ticket (foreseen (parts_of (facts_of e)) ticket (arguments_of t e xs)) e out.given
  pub otherwise : is_passed out.answer ≡ false → (Stays old new) × (out.given ≡ Nothing)

-- the question passed, and what it ends was refused
pub record RefusesEnding (w : WitnessState) (bounds : Bounds) (t : Tid) (env : Option EnvId) (function : ℕ)
    (xs : List Operand) (why : Untold) : Type 0 where
  pub ticket : Ticket
  pub passed : (e : List Event) → WitnessStands w e
      → asked bounds w.core.setup (parts_of (facts_of e)) t env function (arguments_of t e xs) ≡ Passed ticket
  pub refuses : (e : List Event) → WitnessStands w e
      → RefusesReturn w.core ticket (foreseen (parts_of (facts_of e)) ticket (arguments_of t e xs)) why
