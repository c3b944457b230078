-- How a core, a witness or a guard is opened.
use Rattle.std.specs.Prelude.{ℕ, ℤ, pos, ◌≡◌, ◌≢◌, ◌<◌, ◌≤◌, ◌⊎◌, List, [], codes, length, IsUtf8}
use Rattle.toml.specs.Parse.{parse_document}
use Rattle.jg_policy.specs.declared.fault.SetupFault.{SetupFault}
use Rattle.jg_policy.specs.declared.fault.SetupFault.TheVariants.{NotToml, TooMany, NoMemory}
use Rattle.jg_policy.specs.Faults.{IsFirstFault}
use Rattle.jg_policy.specs.Findings.{text_faults_of, States}
use Rattle.jg_policy.specs.Stated.{StatedSetup}
use Rattle.jg_fault_text.specs.Setups.{TellsSetup}
use Rattle.jg_core.specs.Kernel.{CoreStands}
use Rattle.jg_witness.specs.Standing.{WitnessStands}
use Rattle.jg_c.specs.Cores.{CoreHeld}
use Rattle.jg_c.specs.Errors as errors
use Rattle.jg_c.specs.Lines.{Writes}
use Rattle.jg_c.specs.Witnesses.{WitnessHeld, core_in}

-- the core was told nothing: its setup is what the bytes state, and its bounds are these
pub record IsFresh (text : List ℕ) (capacity room items : ℤ) (a : CoreHeld) : Type 0 where
  pub stated : States text a.core.setup
  pub short : length text ≤ 16777216
  pub stands : CoreStands a.core []
  pub bounds : a.bounds ≡ record { capacity = capacity; length = room; items = items }

-- the same of a witness, for which nothing happened
abbrev pub IsFreshWitness : List ℕ → ℤ → ℤ → ℤ → WitnessHeld → Type 0
IsFreshWitness text capacity room items a = IsFresh text capacity room items (core_in a) × WitnessStands a.witness []

-- the bytes are more than a setup text may have; or the first fault of the text that they are, or they are no text
pub record IsFaulty (text : List ℕ) (fault : SetupFault) : Type 0 where
  pub long : 16777216 < length text → fault ≡ TooMany
  pub first : length text ≤ 16777216 → IsUtf8 text → fault ≢ NoMemory
      → IsFirstFault (text_faults_of (parse_document text)) fault
  pub no_text : length text ≤ 16777216 → ¬ IsUtf8 text → fault ≡ NotToml

-- why nothing was opened: memory ran out, or the setup text has this fault
abbrev pub IsUnopened : List ℕ → ℤ → Type 0
IsUnopened text n = (n ≡ errors.no_memory) ⊎ ((fault : SetupFault) × (n ≡ errors.of_setup_fault fault) × IsFaulty text fault)

-- it was opened, or it wasn't, and so it is told why
abbrev pub IsOpening : List ℕ → ℤ → Type 0
IsOpening text n = (n ≡ errors.done) ⊎ IsUnopened text n

-- ---- where the fault stands

-- that there are too many bytes, or where in them the fault stands
pub record TellsPlace (fault : SetupFault) (bytes text : List ℕ) : Type 0 where
  pub long : 16777216 < length bytes → text ≡ codes "more than 16777216 bytes\n"
  pub place : length bytes ≤ 16777216 → TellsSetup fault bytes text

-- the bytes state a setup, and nothing is told; or this is their fault, and where it stands is written
abbrev pub TellsFault : List ℕ → List ℕ → List ℕ → ℤ → Type 0
TellsFault bytes old new n =
    ((setup : StatedSetup) × States bytes setup × (length bytes ≤ 16777216) × (n ≡ pos 0) × (new ≡ old))
    ⊎ ((fault : SetupFault) × (text : List ℕ) × (fault ≢ NoMemory) × IsFaulty bytes fault
    × TellsPlace fault bytes text × Writes text old new n)
