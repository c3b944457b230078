-- What answering one line does. No public contract stands on this.
use Rattle.std.specs.Prelude.{◌≡◌, ℕ, ◌<◌, List, ◌∷◌, length, Option, Result, Ok, Err, ◌⊎◌}
use Rattle.std.specs.Io.KnownBytes.{Appends}
use Rattle.jg_words.specs.Entry.{Entry}
use Rattle.jg_text.specs.Spelling.{Spells}
use Rattle.jg_text.specs.Faults.{IsFirstFault}
use Rattle.jg_text.specs.Journal.{entry_text}
use Rattle.jg_guard.specs.Guard.{State}
use Rattle.jg_script.specs.Checked.{IsWellFormed, WritesFront}
use Rattle.jg_script.specs.declared.run_fault.RunFault.{RunFault}
use Rattle.jg_script.specs.declared.run_fault.RunFault.TheVariants.{Script, Limit, NoMemory, Read, Write}

-- the guard's journal has one entry more, of the call that the line spells
pub record Journals (old new : State) (text : List ℕ) (e : Entry) : Type 0 where
  pub spelt : Spells text e.tid e.env e.call
  pub journal : new.journal ≡ e ∷ old.journal
  pub room : length old.journal < old.limit

-- what answering line n of a script did to the writer's bytes and to the guard
abbrev pub Answers : Option (List ℕ) → Option (List ℕ) → State → State → List ℕ → ℕ → Result (Unit {0}) RunFault
    → Type 0
Answers bytes bytes' old new text n (Ok done) =
    (e : Entry) × Journals old new text e × Appends bytes bytes' (entry_text e)
Answers bytes bytes' old new text n (Err (Script line fault)) =
    (bytes' ≡ bytes) × (new.journal ≡ old.journal) × IsFirstFault text fault × (line ≡ n)
Answers bytes bytes' old new text n (Err (Limit line)) =
    (bytes' ≡ bytes) × (new.journal ≡ old.journal) × IsWellFormed text × (length old.journal ≡ old.limit) × (line ≡ n)
Answers bytes bytes' old new text n (Err (NoMemory line)) =
    (bytes' ≡ bytes) × ((new.journal ≡ old.journal) ⊎ ((e : Entry) × Journals old new text e)) × (line ≡ n)
Answers bytes bytes' old new text n (Err (Read line)) = ⊥
Answers bytes bytes' old new text n (Err (Write line)) =
    ((e : Entry) × Journals old new text e × WritesFront bytes bytes' e) × (line ≡ n)

-- a line that is faulty stays as it is
abbrev pub KeepsFaulty : List ℕ → List ℕ → Result (Unit {0}) RunFault → Type 0
KeepsFaulty old new (Ok done) = Unit {0}
KeepsFaulty old new (Err (Script line fault)) = new ≡ old
KeepsFaulty old new (Err (Limit line)) = Unit {0}
KeepsFaulty old new (Err (NoMemory line)) = Unit {0}
KeepsFaulty old new (Err (Read line)) = Unit {0}
KeepsFaulty old new (Err (Write line)) = Unit {0}
