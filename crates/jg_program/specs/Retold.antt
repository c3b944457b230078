-- How the program ends with the record of a journal.
use Rattle.std.specs.Prelude.{◌≡◌, ◌⊎◌, ℕ, max, List, [], length, Option, Result, Ok, Err}
use Rattle.std.specs.Io.KnownBytes.{Appends, Keeps}
use Rattle.jg_words.specs.Entry.{Entry}
use Rattle.jg_policy.specs.Stated.{StatedSetup}
use Rattle.jg_record.specs.declared.unwritten.Unwritten.TheVariants as unwritten
use Rattle.jg_journal_record.specs.declared.fault.RetellFault.{RetellFault}
use Rattle.jg_journal_record.specs.declared.fault.RetellFault.TheVariants as retell
use Rattle.jg_journal_record.specs.Retold.{RetellsJournal, Stops}
use Rattle.jg_script.specs.declared.run_fault.RunFault.{RunFault}
use Rattle.jg_script.specs.declared.run_fault.RunFault.TheVariants.{Limit, NoMemory, Write}
use Rattle.jg_script.specs.declared.replay.Replayed.{Replayed}
use Rattle.jg_script.specs.declared.replay.Verdict.{Verdict}
use Rattle.jg_script.specs.declared.replay.Verdict.TheVariants as verdict
use Rattle.jg_script.specs.Replayed.{verdict_of}
use Rattle.jg_program.specs.declared.stop.ProgramEnd.{ProgramEnd}
use Rattle.jg_program.specs.declared.stop.ProgramStop.{ProgramStop}
use Rattle.jg_program.specs.declared.stop.ProgramStop.TheVariants.{Run}
use Rattle.jg_program.specs.Verdicts.{difference_text, status_told}
use Rattle.jg_program.specs.Reported.{EndsQuietly, said_text}

-- what is written behind the record: where the journal differs, if it does
abbrev pub text_behind : Verdict → List ℕ
text_behind verdict.Legal = []
text_behind (verdict.Differs line) = difference_text line

-- the fault as the program tells it
abbrev pub fault_told : RetellFault → RunFault
fault_told (retell.Unwritten line unwritten.NoMemory) = NoMemory line
fault_told (retell.Unwritten line unwritten.NoText) = Limit line
fault_told (retell.Unwritten line unwritten.TooLong) = Limit line
fault_told (retell.Write line) = Write line

-- what was said of a journal that was read so
abbrev pub SaysRead : Result Replayed RunFault → Option (List ℕ) → Option (List ℕ) → Result Replayed ProgramStop → Type 0
SaysRead read bytes bytes' (Ok told) = (read ≡ Ok told) × Appends bytes bytes' (text_behind (verdict_of told))
SaysRead read bytes bytes' (Err stop) = ((fault : RunFault) × (read ≡ Err fault) × (stop ≡ Run fault) × (bytes' ≡ bytes))
    ⊎ ((told : Replayed) × (line : ℕ) × (read ≡ Ok told) × (verdict_of told ≡ verdict.Differs line)
    × (stop ≡ Run (Write line)))

-- how the record of a journal was written under this setup, and said behind it where the journal differs; the guard
-- that read the journal has this one then
abbrev pub TellsLines : Option (List ℕ) → Option (List ℕ) → Option (List ℕ) → Option (List ℕ) → StatedSetup → ℕ
    → List Entry → Result Replayed ProgramStop → Type 0
TellsLines input input' bytes bytes' s limit h (Ok told) = (record_end : Option (List ℕ))
    × RetellsJournal input input' s limit bytes record_end (Ok told)
    × Appends record_end bytes' (text_behind (verdict_of told))
TellsLines input input' bytes bytes' s limit h (Err stop) = (fault : RunFault) × (stop ≡ Run fault)
    -- it was written as far as the journal could be read
    × (RetellsJournal input input' s limit bytes bytes' (Err fault)
    -- or as far as some entry, whose lines couldn't be written
    ⊎ ((count : ℕ) × (why : RetellFault) × Stops s h count bytes bytes' why × (fault ≡ fault_told why))
    -- or all of it, and where the journal differs couldn't be
    ⊎ ((told : Replayed) × (line : ℕ) × (record_end : Option (List ℕ))
    × RetellsJournal input input' s limit bytes record_end (Ok told) × (verdict_of told ≡ verdict.Differs line)
    × (fault ≡ Write line)))

-- the same, and all of it was handed on; or it couldn't be
abbrev pub RetellsLines : Option (List ℕ) → Option (List ℕ) → Option (List ℕ) → Option (List ℕ) → StatedSetup → ℕ
    → List Entry → Result Replayed ProgramStop → Type 0
RetellsLines input input' bytes bytes' s limit h result =
    ((told : Option (List ℕ)) × TellsLines input input' bytes told s limit h result × Keeps told bytes')
    ⊎ (result ≡ Err (Run (Write (max (length h) 1))))

-- how it ended: with nothing else to say; or no guard could be made, or what was written before couldn't be handed on
-- then, and nothing was read or written
abbrev pub EndsFacts : StatedSetup → Option (List ℕ) → Option (List ℕ) → Option (List ℕ) → Option (List ℕ) → ℕ
    → ProgramEnd → Type 0
EndsFacts s input input' bytes bytes' limit ending =
    ((h : List Entry) × (result : Result Replayed ProgramStop) × RetellsLines input input' bytes bytes' s limit h result
    × (ending.ended ≡ status_told result) × (said_text ending.said ≡ []))
    ⊎ ((stop : ProgramStop) × ((stop ≡ Run (NoMemory 1)) ⊎ (stop ≡ Run (Write 1))) × EndsQuietly stop ending
    × Keeps input input' × Keeps bytes bytes')
