-- How playing the scripts of a file ended.
use Rattle.std.specs.Prelude.{◌≡◌, ◌<◌, ◌⊎◌, ℕ, max, List, [], ◌∷◌, Option, None, Some, Result, Ok, Err, length, All, slice_index_or}
use Rattle.std.specs.Option.{option_or}
use Rattle.std.specs.Io.KnownBytes.{Keeps}
use Rattle.jg_words.specs.declared.thread.Tid.{Tid}
use Rattle.jg_policy.specs.declared.fault.SetupFault.TheVariants.{NoMemory as NoRoom}
use Rattle.jg_rules.specs.Legal.{Legal}
use Rattle.jg_guard.specs.Guard.{State}
use Rattle.jg_script.specs.declared.run_fault.RunFault.{RunFault}
use Rattle.jg_script.specs.declared.run_fault.RunFault.TheVariants.{NoMemory, Write}
use Rattle.jg_script.specs.declared.scripts.Lines.{Lines}
use Rattle.jg_script.specs.Checked.{WritesAll}
use Rattle.jg_script.specs.ScriptFile.{HoldsRefused, ReadsScripts}
use Rattle.jg_script.specs.Written.{WritesJournal}
use Rattle.jg_shell.specs.declared.account.Stop.{Stop as WorkerStop}
use Rattle.jg_shell.specs.Finish.{IsWrongReceipt, IsUntoldEntry}
use Rattle.jg_shell.specs.Played.{Ran}
use Rattle.jg_shell.specs.Settled.{IsOwnEntries, IsOfSome}
use Rattle.jg_shell.specs.Work.{Work, fresh}
use Rattle.jg_program.specs.declared.reporting.Reporting.{Reporting}
use Rattle.jg_program.specs.declared.stop.ProgramEnd.{ProgramEnd}
use Rattle.jg_program.specs.declared.stop.Status.{Status}
use Rattle.jg_program.specs.declared.stop.Status.TheVariants.{Done}
use Rattle.jg_program.specs.declared.stop.ProgramStop.{ProgramStop}
use Rattle.jg_program.specs.declared.stop.ProgramStop.TheVariants.{Arguments, Setup, SetupRead, Run, Record, Leaks, Summary, Explain, Mismatch, Worker}
use Rattle.jg_program.specs.About.{IsAboutScript}
use Rattle.jg_program.specs.Reported.{EndsQuietly, EndsTelling, Reports, is_explained}

-- the workers have run the scripts, one for each, in their order
abbrev pub HaveRun : ℕ → List Lines → List Work → Type 0
HaveRun turns scripts workers = (i : ℕ) (script : Lines) (worker : Work) → i < length scripts
    → Ran turns (fresh (slice_index_or scripts i script)) (slice_index_or workers i worker)

-- the guard's journal is a legal history for the setup that it keeps, and is just these workers' receipts
pub record AreReceipts (guard : State) (workers : List Work) : Type 0 where
  pub legal : Legal guard.setup guard.journal
  pub own : All (IsOwnEntries guard.journal) workers
  pub known : All (IsOfSome workers) guard.journal

-- why the first of the workers that stopped did so
abbrev pub first_stop_of : List Work → Option WorkerStop
first_stop_of [] = None
first_stop_of (worker ∷ later) = option_or worker.stopped (first_stop_of later)

-- what writing this guard's journal and handing it on ended by; a failure of that last step is told as of the last line
abbrev pub HandsOut : Option (List ℕ) → Option (List ℕ) → State → Result (Unit {0}) ProgramStop → Type 0
HandsOut bytes bytes' guard (Ok done) = WritesAll bytes bytes' guard.journal
HandsOut bytes bytes' guard (Err (Run fault)) = WritesJournal bytes bytes' guard.journal (Err fault)
    ⊎ (fault ≡ Write (max (length guard.journal) 1))
HandsOut bytes bytes' guard (Err (Setup fault)) = ⊥
HandsOut bytes bytes' guard (Err SetupRead) = ⊥
HandsOut bytes bytes' guard (Err (Arguments fault)) = ⊥
HandsOut bytes bytes' guard (Err Leaks) = ⊥
HandsOut bytes bytes' guard (Err Summary) = ⊥
HandsOut bytes bytes' guard (Err Explain) = ⊥
HandsOut bytes bytes' guard (Err (Mismatch thread place)) = ⊥
HandsOut bytes bytes' guard (Err (Worker stop)) = ⊥
HandsOut bytes bytes' guard (Err (Record stop)) = ⊥

-- a difference between receipts and the guard's journal is told, of this thread at this place, and the journal written
abbrev pub TellsDifference : Tid → ℕ → State → Option (List ℕ) → Option (List ℕ) → Result Status ProgramStop → Type 0
TellsDifference tid at guard bytes bytes' (Err (Mismatch thread place)) =
    (thread ≡ tid.0) × (place ≡ at) × WritesAll bytes bytes' guard.journal
TellsDifference tid at guard bytes bytes' (Err (Run fault)) = HandsOut bytes bytes' guard (Err (Run fault))
TellsDifference tid at guard bytes bytes' result = ⊥

-- what workers that have run ended by, where this guard was taken out of its lock, and what that did to the bytes of
-- the writer
abbrev pub SettlesBy : State → List Work → Option (List ℕ) → Option (List ℕ) → Result Status ProgramStop → Type 0
-- none of them stopped, and the journal's text was written
SettlesBy guard workers bytes bytes' (Ok status) = (status ≡ Done) × (first_stop_of workers ≡ None)
    × AreReceipts guard workers × WritesAll bytes bytes' guard.journal
-- one of them stopped, and the journal's text was written
SettlesBy guard workers bytes bytes' (Err (Worker stop)) = (first_stop_of workers ≡ Some stop)
    × AreReceipts guard workers × WritesAll bytes bytes' guard.journal
-- a receipt isn't in the journal, or an entry is no worker's receipt; the journal's text was written
SettlesBy guard workers bytes bytes' (Err (Mismatch thread place)) = (tid : Tid) × (thread ≡ tid.0)
    × (IsWrongReceipt guard.journal workers tid place ⊎ IsUntoldEntry guard.journal workers tid place)
    × WritesAll bytes bytes' guard.journal
-- the journal couldn't be written to its end
SettlesBy guard workers bytes bytes' (Err (Run fault)) = HandsOut bytes bytes' guard (Err (Run fault))
SettlesBy guard workers bytes bytes' (Err (Setup fault)) = ⊥
SettlesBy guard workers bytes bytes' (Err SetupRead) = ⊥
SettlesBy guard workers bytes bytes' (Err (Arguments fault)) = ⊥
SettlesBy guard workers bytes bytes' (Err Leaks) = ⊥
SettlesBy guard workers bytes bytes' (Err Summary) = ⊥
SettlesBy guard workers bytes bytes' (Err Explain) = ⊥
SettlesBy guard workers bytes bytes' (Err (Record stop)) = ⊥

-- they ended by this, and what is told of the guard's journal was told
abbrev pub Settles : Reporting → List Work → Option (List ℕ) → Option (List ℕ) → ProgramEnd → Type 0
Settles r workers bytes bytes' ending = (guard : State) × Legal guard.setup guard.journal
    × ((result : Result Status ProgramStop) × SettlesBy guard workers bytes bytes' result
    × Reports (λ about. about ≡ []) r guard.setup guard.journal result ending)

-- how playing these scripts ended: workers ran them, and ended so; or no guard could be made
abbrev pub PlaysOut : Reporting → ℕ → List Lines → Option (List ℕ) → Option (List ℕ) → ProgramEnd → Type 0
PlaysOut r turns scripts bytes bytes' ending = ((workers : List Work) × HaveRun turns scripts workers
    × Settles r workers bytes bytes' ending) ⊎ (EndsQuietly (Setup NoRoom) ending × Keeps bytes bytes')

-- what reading the scripts of a file did, of which the bytes may be known, or memory ran out before its first byte;
-- this line is the one that is refused, if one is
abbrev pub ReadsFile : Option (List ℕ) → List ℕ → Result (List Lines) RunFault → Type 0
ReadsFile known line result = ((rest : Option (List ℕ)) × ReadsScripts known rest result
    × HoldsRefused known line result) ⊎ (result ≡ Err (NoMemory 1))

-- how playing the scripts of a file ended: they were read and then played; or they weren't read to their end, of which
-- is told what is asked for, and nothing was written
abbrev pub EndsPlay : Reporting → ℕ → Option (List ℕ) → Option (List ℕ) → Option (List ℕ) → ProgramEnd → Type 0
EndsPlay r turns known bytes bytes' ending = (line : List ℕ)
    × (((scripts : List Lines) × ReadsFile known line (Ok scripts) × PlaysOut r turns scripts bytes bytes' ending)
    ⊎ ((fault : RunFault) × ReadsFile known line (Err fault)
    × EndsTelling (is_explained r) (IsAboutScript line (Err (Run fault))) (Run fault) ending × Keeps bytes bytes'))
