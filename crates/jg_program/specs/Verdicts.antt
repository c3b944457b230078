-- What is said of a journal, and by which status.
use Rattle.std.specs.Prelude.{ℕ, List, ◌∷◌, ◌++◌, [], codes, Result, Ok, Err}
use Rattle.std.specs.Fmt.{decimal}
use Rattle.jg_script.specs.declared.replay.Replayed.{Replayed}
use Rattle.jg_script.specs.declared.replay.Verdict.{Verdict}
use Rattle.jg_script.specs.declared.replay.Verdict.TheVariants as verdict
use Rattle.jg_script.specs.Replayed.{verdict_of}
use Rattle.jg_program.specs.declared.stop.Status.{Status}
use Rattle.jg_program.specs.declared.stop.Status.TheVariants.{Done, Differs}
use Rattle.jg_program.specs.declared.stop.ProgramStop.{ProgramStop}

-- a journal, or a record, differs at this line
abbrev pub difference_text : ℕ → List ℕ
difference_text line = codes "differs at line " ++ decimal line ++ 10 ∷ []

-- what is said of a journal that is tested
abbrev pub verdict_text : Verdict → List ℕ
verdict_text verdict.Legal = codes "legal" ++ 10 ∷ []
verdict_text (verdict.Differs line) = difference_text line

abbrev pub verdict_status : Verdict → Status
verdict_status verdict.Legal = Done
verdict_status (verdict.Differs line) = Differs

abbrev pub status_told : Result Replayed ProgramStop → Result Status ProgramStop
status_told (Ok told) = Ok (verdict_status (verdict_of told))
status_told (Err stop) = Err stop
