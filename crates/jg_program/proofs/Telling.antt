-- What the end of a play says of the whole where receipts and journal differ.
use Rattle.std.proofs.Common.{◌≡◌, ℕ, List, [], Option, Result, Ok, Err, ◌⊎◌, sym, subst}
use Rattle.jg_words.specs.declared.thread.Tid.{Tid}
use Rattle.jg_rules.specs.Legal.{Legal}
use Rattle.jg_guard.specs.Guard.{State}
use Rattle.jg_shell.specs.declared.settle.FinishFault.{FinishFault}
use Rattle.jg_shell.specs.declared.settle.FinishFault.TheVariants.{Differs}
use Rattle.jg_shell.specs.declared.settle.Finished.{Finished}
use Rattle.jg_shell.specs.Difference.{back_of, IsFirstDifference}
use Rattle.jg_shell.specs.Finish.{IsWrongReceipt, IsUntoldEntry}
use Rattle.jg_shell.specs.Work.{Work}
use Rattle.jg_program.specs.declared.stop.Status.{Status}
use Rattle.jg_program.specs.declared.stop.ProgramStop.{ProgramStop}
use Rattle.jg_program.specs.declared.stop.ProgramStop.TheVariants.{Arguments, Setup, SetupRead, Run, Record, Leaks, Summary, Explain, Mismatch, Worker}
use Rattle.jg_program.specs.declared.reporting.Reporting.{Reporting}
use Rattle.jg_program.specs.declared.stop.ProgramEnd.{ProgramEnd}
use Rattle.jg_program.specs.Plays.{HandsOut, Settles, SettlesBy, TellsDifference}
use Rattle.jg_program.specs.Reported.{Reports}

-- the journal wasn't written
pub unwritten : (tid : Tid) (at : ℕ) (guard : State) (bytes bytes' : Option (List ℕ)) (stop : ProgramStop) → HandsOut bytes bytes' guard (Err stop)
    → TellsDifference tid at guard bytes bytes' (Err stop)
unwritten tid at guard bytes bytes' (Run fault) handed = handed
unwritten tid at guard bytes bytes' (Setup fault) handed = absurd handed
unwritten tid at guard bytes bytes' SetupRead handed = absurd handed
unwritten tid at guard bytes bytes' (Arguments fault) handed = absurd handed
unwritten tid at guard bytes bytes' Leaks handed = absurd handed
unwritten tid at guard bytes bytes' Summary handed = absurd handed
unwritten tid at guard bytes bytes' Explain handed = absurd handed
unwritten tid at guard bytes bytes' (Mismatch thread place) handed = absurd handed
unwritten tid at guard bytes bytes' (Worker other) handed = absurd handed
unwritten tid at guard bytes bytes' (Record other) handed = absurd handed

-- the difference is a true one
settled : (workers : List Work) (tid : Tid) (at : ℕ) (guard : State) (bytes bytes' : Option (List ℕ)) (result : Result Status ProgramStop)
    → IsWrongReceipt guard.journal workers tid at ⊎ IsUntoldEntry guard.journal workers tid at → TellsDifference tid at guard bytes bytes' result
    → SettlesBy guard workers bytes bytes' result
settled workers tid at guard bytes bytes' (Ok status) differs told = absurd told
settled workers tid at guard bytes bytes' (Err (Run fault)) differs told = told
settled workers tid at guard bytes bytes' (Err (Setup fault)) differs told = absurd told
settled workers tid at guard bytes bytes' (Err SetupRead) differs told = absurd told
settled workers tid at guard bytes bytes' (Err (Arguments fault)) differs told = absurd told
settled workers tid at guard bytes bytes' (Err Leaks) differs told = absurd told
settled workers tid at guard bytes bytes' (Err Summary) differs told = absurd told
settled workers tid at guard bytes bytes' (Err Explain) differs told = absurd told
settled workers tid at guard bytes bytes' (Err (Worker other)) differs told = absurd told
settled workers tid at guard bytes bytes' (Err (Record other)) differs told = absurd told
settled workers tid at guard bytes bytes' (Err (Mismatch thread place)) differs told =
    (tid, told.0, subst (λ (p : ℕ). IsWrongReceipt guard.journal workers tid p ⊎ IsUntoldEntry guard.journal workers tid p) (sym told.1) differs, told.2)

-- the same of what the comparison answered, and of what is told then
pub settled_by : {L : Type 0} (workers : List Work) (fault : FinishFault L) (tid : Tid) (at : ℕ) (back : Finished L) (r : Reporting)
    (bytes bytes' : Option (List ℕ))
    (result : Result Status ProgramStop)
    (ending : ProgramEnd) → fault ≡ Differs tid at back → Legal (back_of fault).guard.setup (back_of fault).guard.journal → IsFirstDifference workers fault
    → TellsDifference tid at back.guard bytes bytes' result → Reports (λ about. about ≡ []) r back.guard.setup back.guard.journal result ending
    → Settles r workers bytes bytes' ending
settled_by {L} workers fault tid at back r bytes bytes' result ending is legal differs told reports = (
  back.guard,
  subst (λ (f : FinishFault L). Legal (back_of f).guard.setup (back_of f).guard.journal) is legal,
  (result, settled workers tid at back.guard bytes bytes' result (subst (λ (f : FinishFault L). IsFirstDifference workers f) is differs) told, reports),
)
