-- How the program ended with a script or a journal, and what it did with the bytes.
use Rattle.std.specs.Prelude.{ℕ, Bool, true, List, length, Option, Result, Ok, Err, ◌⊎◌, ◌≡◌}
use Rattle.std.specs.Io.KnownBytes.{Keeps, Appends}
use Rattle.jg_words.specs.Entry.{Entry}
use Rattle.jg_policy.specs.declared.fault.SetupFault.TheVariants.{NoMemory as NoRoom}
use Rattle.jg_policy.specs.Stated.{StatedSetup}
use Rattle.jg_rules.specs.Legal.{Legal}
use Rattle.jg_script.specs.declared.run_fault.RunFault.{RunFault}
use Rattle.jg_script.specs.declared.run_fault.RunFault.TheVariants.{Script, Limit, NoMemory, Read, Write}
use Rattle.jg_script.specs.declared.replay.Replayed.{Replayed}
use Rattle.jg_script.specs.Checked.{Checks, HoldsFaulty}
use Rattle.jg_script.specs.Replayed.{ReplaysJournal, verdict_of}
use Rattle.jg_watch.specs.declared.ending.Stop.TheVariants as watch
use Rattle.jg_program.specs.declared.program.Job.{Job}
use Rattle.jg_program.specs.declared.program.Job.TheVariants.{Check, Verify, Watch, Facts}
use Rattle.jg_program.specs.declared.reporting.Reporting.{Reporting}
use Rattle.jg_program.specs.declared.stop.ProgramEnd.{ProgramEnd}
use Rattle.jg_program.specs.declared.stop.Status.{Status}
use Rattle.jg_program.specs.declared.stop.Status.TheVariants.{Done}
use Rattle.jg_program.specs.declared.stop.ProgramStop.{ProgramStop}
use Rattle.jg_program.specs.declared.stop.ProgramStop.TheVariants.{Arguments, Setup, SetupRead, Run, Record, Leaks, Summary, Explain, Mismatch, Worker}
use Rattle.jg_program.specs.About.{IsAboutJournal, IsAboutScript, IsAboutSetup}
use Rattle.jg_program.specs.Recorded.{EndsRecord}
use Rattle.jg_program.specs.Reported.{EndsQuietly, EndsTelling, Reports, is_explained}
use Rattle.jg_program.specs.Retold.{EndsFacts}
use Rattle.jg_program.specs.Verdicts.{status_told, verdict_text}
use Rattle.jg_program.specs.StatedBy.{base_setup, IsStated, IsRefused}

-- how the lines of a script were answered, of which the guard has this journal then, and what that did to the bytes of
-- the reader and of the writer; this line is the faulty one, if there is one
abbrev pub AnswersLines : Option (List ℕ) → Option (List ℕ) → Option (List ℕ) → Option (List ℕ) → ℕ → List Entry
    → List ℕ → Result Status ProgramStop → Type 0
-- all that the reader held are the calls of the journal, and its text was written
AnswersLines input input' bytes bytes' limit h line (Ok status) =
    (status ≡ Done) × Checks input input' bytes bytes' limit h (Ok (length h))
-- the check of the script ended so; or what it wrote couldn't be handed on
AnswersLines input input' bytes bytes' limit h line (Err stop) = (fault : RunFault) × (stop ≡ Run fault)
    × ((Checks input input' bytes bytes' limit h (Err fault) × HoldsFaulty input h line (Err fault))
    ⊎ ((number : ℕ) × (fault ≡ Write number)))

-- how the answering of a script under this setup ended: with a legal history, of which is told what is asked for; or no
-- guard could be made, and nothing was read or written
abbrev pub EndsScript : Reporting → StatedSetup → Option (List ℕ) → Option (List ℕ) → Option (List ℕ) → Option (List ℕ)
    → ℕ → ProgramEnd → Type 0
EndsScript r setup input input' bytes bytes' limit ending =
    ((h : List Entry) × Legal setup h × ((line : List ℕ) × (result : Result Status ProgramStop)
    × AnswersLines input input' bytes bytes' limit h line result
    × Reports (IsAboutScript line result) r setup h result ending))
    ⊎ (EndsQuietly (Setup NoRoom) ending × Keeps input input' × Keeps bytes bytes')

-- how the lines of a journal were tested under this setup, of which the guard has this journal then; of the lines this
-- one was read last
abbrev pub TestsLines : Option (List ℕ) → Option (List ℕ) → Option (List ℕ) → Option (List ℕ) → StatedSetup → ℕ
    → List Entry → List ℕ → Result Replayed ProgramStop → Type 0
-- the journal is so, and that was written
TestsLines input input' bytes bytes' setup limit h line (Ok told) =
    ReplaysJournal input input' setup limit h line (Ok told) × Appends bytes bytes' (verdict_text (verdict_of told))
-- the test ended so, and nothing was written; or what is to be said couldn't be written or handed on
TestsLines input input' bytes bytes' setup limit h line (Err stop) = (fault : RunFault) × (stop ≡ Run fault)
    × ((ReplaysJournal input input' setup limit h line (Err fault) × Keeps bytes bytes') ⊎ (fault ≡ Write 1))

-- how the test of a journal under this setup ended: with a legal history, of which is told what is asked for; or no
-- guard could be made, or what was written before couldn't be handed on then, and nothing was read or written
abbrev pub EndsJournal : Reporting → StatedSetup → Option (List ℕ) → Option (List ℕ) → Option (List ℕ) → Option (List ℕ)
    → ℕ → ProgramEnd → Type 0
EndsJournal r setup input input' bytes bytes' limit ending =
    ((h : List Entry) × Legal setup h × ((line : List ℕ) × (result : Result Replayed ProgramStop)
    × TestsLines input input' bytes bytes' setup limit h line result
    × Reports (IsAboutJournal result) r setup h (status_told result) ending))
    ⊎ ((stop : ProgramStop) × ((stop ≡ Run (NoMemory 1)) ⊎ (stop ≡ Run (Write 1))) × EndsQuietly stop ending
    × Keeps input input' × Keeps bytes bytes')

-- whichever was asked for
abbrev pub Ends : Job → Reporting → StatedSetup → Option (List ℕ) → Option (List ℕ) → Option (List ℕ)
    → Option (List ℕ) → ℕ → ProgramEnd → Type 0
Ends Check r setup input input' bytes bytes' limit ending = EndsScript r setup input input' bytes bytes' limit ending
Ends Verify r setup input input' bytes bytes' limit ending = EndsJournal r setup input input' bytes bytes' limit ending
Ends (Watch shown) r setup input input' bytes bytes' limit ending =
    EndsRecord r setup shown input input' bytes bytes' ending
Ends Facts r setup input input' bytes bytes' limit ending = EndsFacts setup input input' bytes bytes' limit ending

-- the same under the setup where none is given, or memory ran out before that was read
abbrev pub EndsClosed : Job → Reporting → Option (List ℕ) → Option (List ℕ) → Option (List ℕ) → Option (List ℕ) → ℕ
    → ProgramEnd → Type 0
EndsClosed job r input input' bytes bytes' limit ending = Ends job r base_setup input input' bytes bytes' limit ending
    ⊎ (EndsQuietly (Setup NoRoom) ending × Keeps input input' × Keeps bytes bytes')

-- how the program ends where the file of a setup is refused, of which the bytes may be known and a length was told
abbrev pub EndsRefused : Bool → Option (List ℕ) → ℕ → ProgramEnd → Type 0
EndsRefused explained known told ending = (stop : ProgramStop) × IsRefused known told stop
    × EndsTelling explained (IsAboutSetup known stop) stop ending

-- the same under the setup that a file states; or it was refused, and nothing was read or written
abbrev pub EndsUnder : Job → Reporting → Option (List ℕ) → ℕ → Option (List ℕ) → Option (List ℕ) → Option (List ℕ)
    → Option (List ℕ) → ℕ → ProgramEnd → Type 0
EndsUnder job r known told input input' bytes bytes' limit ending =
    ((setup : StatedSetup) × IsStated known setup × Ends job r setup input input' bytes bytes' limit ending)
    ⊎ (EndsRefused (is_explained r) known told ending × Keeps input input' × Keeps bytes bytes')

-- the writer holds nothing back at the end, or it failed and that is told
abbrev pub IsHandedOn : {S : Type 0} → Type 0 → Bool → Result S ProgramStop → Type 0
IsHandedOn holds_nothing failed (Ok done) = holds_nothing
IsHandedOn holds_nothing failed (Err (Run (Write line))) = failed ≡ true
IsHandedOn holds_nothing failed (Err (Run (Script line fault))) = holds_nothing
IsHandedOn holds_nothing failed (Err (Run (Limit line))) = holds_nothing
IsHandedOn holds_nothing failed (Err (Run (NoMemory line))) = holds_nothing
IsHandedOn holds_nothing failed (Err (Run (Read line))) = holds_nothing
IsHandedOn holds_nothing failed (Err (Record (watch.Write line))) = failed ≡ true
IsHandedOn holds_nothing failed (Err (Record (watch.Faulty line fault))) = holds_nothing
IsHandedOn holds_nothing failed (Err (Record (watch.Limit line))) = holds_nothing
IsHandedOn holds_nothing failed (Err (Record (watch.NoMemory line))) = holds_nothing
IsHandedOn holds_nothing failed (Err (Record (watch.Read line))) = holds_nothing
-- nothing was written
IsHandedOn holds_nothing failed (Err (Setup fault)) = Unit {0}
IsHandedOn holds_nothing failed (Err SetupRead) = Unit {0}
IsHandedOn holds_nothing failed (Err (Arguments fault)) = ⊥
IsHandedOn holds_nothing failed (Err Leaks) = holds_nothing
IsHandedOn holds_nothing failed (Err Summary) = holds_nothing
IsHandedOn holds_nothing failed (Err Explain) = holds_nothing
IsHandedOn holds_nothing failed (Err (Mismatch thread place)) = holds_nothing
IsHandedOn holds_nothing failed (Err (Worker stop)) = holds_nothing
