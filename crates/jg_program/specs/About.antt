-- What is told of where the work stopped.
use Rattle.std.specs.Prelude.{ℕ, ◌≡◌, List, [], ◌++◌, codes, Option, Result, Ok, Err}
use Rattle.std.specs.Fmt.{decimal}
use Rattle.jg_fault_text.specs.Lines.{Tells}
use Rattle.jg_fault_text.specs.Setups.{TellsSetup}
use Rattle.jg_script.specs.declared.replay.Replayed.{Replayed}
use Rattle.jg_script.specs.declared.replay.Replayed.TheVariants.{Differs}
use Rattle.jg_script.specs.declared.run_fault.RunFault.TheVariants.{Script}
use Rattle.jg_program.specs.declared.about.About.{About}
use Rattle.jg_program.specs.declared.about.About.TheVariants as about
use Rattle.jg_program.specs.declared.stop.Status.{Status}
use Rattle.jg_program.specs.declared.stop.ProgramStop.{ProgramStop}
use Rattle.jg_program.specs.declared.stop.ProgramStop.TheVariants.{Run, Setup}
use Rattle.jg_program.specs.StatedBy.{Gives}

-- of a line at which a journal differs: its number, and how it differs
abbrev pub IsDifferenceText : ℕ → List ℕ → Type 0
IsDifferenceText line text = (words : List ℕ) × (text ≡ codes "line " ++ decimal line ++ codes ": " ++ words)

-- of a faulty line of a script: where in it the fault stands
abbrev pub IsAboutScript : List ℕ → Result Status ProgramStop → List ℕ → Type 0
IsAboutScript line (Err (Run (Script n fault))) text = Tells fault line text
IsAboutScript line result text = text ≡ []

abbrev pub IsAboutJournal : Result Replayed ProgramStop → List ℕ → Type 0
IsAboutJournal (Ok (Differs n how)) text = IsDifferenceText n text
IsAboutJournal result text = text ≡ []

abbrev pub IsAbout : About → Result Status ProgramStop → List ℕ → Type 0
IsAbout about.Nothing result text = text ≡ []
IsAbout (about.Script line) result text = IsAboutScript line.now result text
IsAbout (about.Journal told line) result text = IsAboutJournal (Ok told) text

-- of a setup's file that was refused, of which the bytes may be known: where in them the fault stands
abbrev pub IsAboutSetup : Option (List ℕ) → ProgramStop → List ℕ → Type 0
IsAboutSetup known (Setup fault) text = (bytes : List ℕ) × Gives known bytes × TellsSetup fault bytes text
IsAboutSetup known stop text = text ≡ []
