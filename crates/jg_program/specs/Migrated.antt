-- How the migration of a setup file to version 2 ended, and what was written.
use Rattle.std.specs.Prelude.{◌≡◌, ℕ, List, Option, Result, Ok, Err}
use Rattle.std.specs.Io.KnownBytes.{Keeps, Appends}
use Rattle.jg_policy.specs.Stated.{StatedSetup}
use Rattle.jg_policy.specs.Findings.{States}
use Rattle.jg_script.specs.declared.run_fault.RunFault.TheVariants.{Write}
use Rattle.jg_program.specs.declared.stop.Status.{Status}
use Rattle.jg_program.specs.declared.stop.Status.TheVariants.{Done}
use Rattle.jg_program.specs.declared.stop.ProgramStop.{ProgramStop}
use Rattle.jg_program.specs.declared.stop.ProgramStop.TheVariants.{Arguments, Setup, SetupRead, Run, Record, Leaks, Summary, Explain, Mismatch, Worker}
use Rattle.jg_program.specs.StatedBy.{IsStated, IsRefused}

-- a text that states this setup was written
abbrev pub WritesSetup : StatedSetup → Option (List ℕ) → Option (List ℕ) → Type 0
WritesSetup setup bytes bytes' = (text : List ℕ) × States text setup × Appends bytes bytes' text

abbrev pub Migrates : Option (List ℕ) → ℕ → Option (List ℕ) → Option (List ℕ) → Result Status ProgramStop → Type 0
-- the file states a setup, and a text that states it was written
Migrates known told bytes bytes' (Ok status) =
    (status ≡ Done) × (setup : StatedSetup) × IsStated known setup × WritesSetup setup bytes bytes'
-- the text couldn't be written or handed on
Migrates known told bytes bytes' (Err (Run fault)) = fault ≡ Write 1
-- the file was refused, or memory ran out, and nothing was written
Migrates known told bytes bytes' (Err (Setup fault)) = IsRefused known told (Setup fault) × Keeps bytes bytes'
Migrates known told bytes bytes' (Err SetupRead) = Keeps bytes bytes'
Migrates known told bytes bytes' (Err (Arguments fault)) = ⊥
Migrates known told bytes bytes' (Err Leaks) = ⊥
Migrates known told bytes bytes' (Err Summary) = ⊥
Migrates known told bytes bytes' (Err Explain) = ⊥
Migrates known told bytes bytes' (Err (Mismatch thread place)) = ⊥
Migrates known told bytes bytes' (Err (Worker stop)) = ⊥
Migrates known told bytes bytes' (Err (Record stop)) = ⊥
