-- What contracts see of a witness.
use Rattle.std.specs.Prelude.{ℕ, ◌≡◌, ◌⊎◌, List, ◌∷◌, Option, None, nat_eq}
use Rattle.std.specs.Map.{lookup}
use Rattle.jg_words.specs.declared.reference.Ref.{Ref}
use Rattle.jg_rules.specs.Parts.{Parts}
use Rattle.jg_core.specs.Kernel.{CoreState, CoreStands}
use Rattle.jg_witness.specs.Events.{Event, AreNamed, facts_of, if_in_being, meaning, newest}

-- its core, and the names that it has for words
pub record WitnessState : Type 0 where
  pub core : CoreState
  pub names : List (ℕ × Ref)

-- the two together
abbrev pub both : CoreState → List (ℕ × Ref) → WitnessState
both core names = record { core = core; names = names }

-- the name that is kept for the word
abbrev pub name_at : ℕ → List (ℕ × Ref) → Option Ref
name_at word names = lookup (nat_eq word) names

-- what is kept is the newest; or nothing is, where the word means nothing
abbrev pub Keeps : ℕ → List Event → Option Ref → Type 0
Keeps word e kept = (kept ≡ newest word e) ⊎ ((kept ≡ None) × (meaning word e ≡ None))

-- it stands for a list of events: its core for just their facts, and what it keeps tells what each word means
pub record WitnessStands (w : WitnessState) (e : List Event) : Type 0 where
  pub core : CoreStands w.core (facts_of e)
  pub named : AreNamed e
  pub names : (word : ℕ) → Keeps word e (name_at word w.names)

-- what every witness keeps: it stands for some list of events
pub record IsWitness (w : WitnessState) : Type 0 where
  pub happened : List Event
  pub stands : WitnessStands w happened

-- whatever it stood for, it stands for that
abbrev pub Stays : WitnessState → WitnessState → Type 0
Stays old new = (e : List Event) → WitnessStands old e → WitnessStands new e

-- whatever it stood for, it stands for that with this event
abbrev pub Takes : WitnessState → WitnessState → Event → Type 0
Takes old new x = (e : List Event) → WitnessStands old e → WitnessStands new (x ∷ e)

-- each word's name is kept, or was of a reference that isn't in being
abbrev pub AreSwept : Parts → List (ℕ × Ref) → List (ℕ × Ref) → Type 0
AreSwept p old new = (word : ℕ) → (name_at word new ≡ name_at word old)
    ⊎ ((name_at word new ≡ None) × (if_in_being p (name_at word old) ≡ None))
