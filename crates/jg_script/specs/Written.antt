-- What writing a journal did to the bytes of the writer.
use Rattle.std.specs.Prelude.{◌≡◌, ◌+◌, ℕ, List, ◌∷◌, ◌++◌, length, Option, Result, Ok, Err}
use Rattle.std.specs.Io.KnownBytes.{Appends}
use Rattle.jg_words.specs.Entry.{Entry}
use Rattle.jg_text.specs.Journal.{entry_text}
use Rattle.jg_script.specs.Checked.{WritesAll, WritesFront}
use Rattle.jg_script.specs.declared.run_fault.RunFault.{RunFault}
use Rattle.jg_script.specs.declared.run_fault.RunFault.TheVariants.{Script, Limit, NoMemory, Read, Write}

-- what writing one entry's line did, which is line n
abbrev pub WritesLine : Option (List ℕ) → Option (List ℕ) → Entry → ℕ → Result (Unit {0}) RunFault → Type 0
WritesLine bytes bytes' e n (Ok done) = Appends bytes bytes' (entry_text e)
WritesLine bytes bytes' e n (Err (NoMemory line)) = (line ≡ n) × (bytes' ≡ bytes)
WritesLine bytes bytes' e n (Err (Write line)) = (line ≡ n) × WritesFront bytes bytes' e
WritesLine bytes bytes' e n (Err (Script line fault)) = ⊥
WritesLine bytes bytes' e n (Err (Limit line)) = ⊥
WritesLine bytes bytes' e n (Err (Read line)) = ⊥

-- what writing the journal h did: its text was written; or that of its oldest entries, and then memory ran out for the
-- line of the next one, or the writer failed in that line
abbrev pub WritesJournal : Option (List ℕ) → Option (List ℕ) → List Entry → Result (Unit {0}) RunFault → Type 0
WritesJournal bytes bytes' h (Ok done) = WritesAll bytes bytes' h
WritesJournal bytes bytes' h (Err (NoMemory line)) = (later : List Entry) × (e : Entry) × (before : List Entry)
    × (h ≡ later ++ e ∷ before) × (line ≡ length before + 1) × WritesAll bytes bytes' before
WritesJournal bytes bytes' h (Err (Write line)) = (later : List Entry) × (e : Entry) × (before : List Entry)
    × (h ≡ later ++ e ∷ before) × (line ≡ length before + 1)
    × ((mid : Option (List ℕ)) × WritesAll bytes mid before × WritesFront mid bytes' e)
WritesJournal bytes bytes' h (Err (Script line fault)) = ⊥
WritesJournal bytes bytes' h (Err (Limit line)) = ⊥
WritesJournal bytes bytes' h (Err (Read line)) = ⊥
