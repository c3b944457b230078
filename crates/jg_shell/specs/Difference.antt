-- What `finish` hands back, and where it says that receipts and journal differ.
use Rattle.std.specs.Prelude.{◌⊎◌, List, Result, Ok, Err}
use Rattle.jg_shell.specs.declared.settle.Finished.{Finished}
use Rattle.jg_shell.specs.declared.settle.FinishFault.{FinishFault}
use Rattle.jg_shell.specs.declared.settle.FinishFault.TheVariants.{Differs}
use Rattle.jg_shell.specs.Work.{Work}
use Rattle.jg_shell.specs.Finish.{IsWrongReceipt, IsUntoldEntry}

abbrev pub back_of : {L : Type 0} → FinishFault L → Finished L
back_of (Differs tid place back) = back

-- the guard and the workers, in either answer
abbrev pub handed_back : {L : Type 0} → Result (Finished L) (FinishFault L) → Finished L
handed_back (Ok finished) = finished
handed_back (Err fault) = back_of fault

-- the thread and the place are those of the first receipt that is wrong, or of the first entry that is no receipt
abbrev pub IsFirstDifference : {L : Type 0} → List Work → FinishFault L → Type 0
IsFirstDifference workers (Differs tid place back) =
    IsWrongReceipt back.guard.journal workers tid place ⊎ IsUntoldEntry back.guard.journal workers tid place
