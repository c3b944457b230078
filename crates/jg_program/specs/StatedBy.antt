-- The setup that the bytes of a file state, and why a file is refused.
use Rattle.std.specs.Prelude.{ℕ, ◌≡◌, ◌<◌, ◌≤◌, ⊤, List, [], length, take, Option, None, Some, IfSome, IsUtf8, ◌⊎◌}
use Rattle.toml.specs.Parse.{parse_document}
use Rattle.jg_policy.specs.declared.fault.SetupFault.{SetupFault}
use Rattle.jg_policy.specs.declared.fault.SetupFault.TheVariants.{NotToml, TooMany, NoMemory}
use Rattle.jg_policy.specs.declared.mode.Mode.TheVariants.{Deny}
use Rattle.jg_policy.specs.Stated.{StatedSetup}
use Rattle.jg_policy.specs.Faults.{IsFirstFault}
use Rattle.jg_policy.specs.Findings.{text_faults_of, States}
use Rattle.jg_program.specs.declared.stop.ProgramStop.{ProgramStop}
use Rattle.jg_program.specs.declared.stop.ProgramStop.TheVariants.{Setup, SetupRead}

-- the setup where none is given: the base classes alone, and native access for no other module
abbrev pub base_setup : StatedSetup
base_setup = record { mode = Deny; grants = []; classes = [] }

-- all that a reader gives, where it is known
abbrev pub Gives : Option (List ℕ) → List ℕ → Type 0
Gives None bytes = ⊤
Gives (Some known) bytes = bytes ≡ known

-- its first bytes, of which one more is read than a setup file may have
abbrev pub IsFront : Option (List ℕ) → List ℕ → Type 0
IsFront known bytes = IfSome known (λ all. bytes ≡ take 16777217 all)

-- the setup is stated by the bytes of a reader, which are few enough
abbrev pub IsStated : Option (List ℕ) → StatedSetup → Type 0
IsStated known setup = (bytes : List ℕ) × Gives known bytes × (length bytes ≤ 16777216) × States bytes setup

-- The file can't be read to its end, memory runs out, it is too long by what was told or by its bytes, or they are no
-- text.
abbrev pub HasNoText : ℕ → List ℕ → ProgramStop → Type 0
HasNoText told bytes stop =
    (stop ≡ SetupRead)
    ⊎ (stop ≡ Setup NoMemory)
    ⊎ ((stop ≡ Setup TooMany) × ((16777216 < told) ⊎ (16777216 < length bytes)))
    ⊎ ((stop ≡ Setup NotToml) × (told ≤ 16777216) × (length bytes ≤ 16777216) × ¬ IsUtf8 bytes)

-- the first fault of the text that they are
abbrev pub HasFault : ℕ → List ℕ → ProgramStop → Type 0
HasFault told bytes stop =
    (fault : SetupFault) × (stop ≡ Setup fault) × (told ≤ 16777216) × (length bytes ≤ 16777216)
    × IsFirstFault (text_faults_of (parse_document bytes)) fault

-- why the file of a reader, of which this length was told, has no text, or states no setup
abbrev pub IsRefused : Option (List ℕ) → ℕ → ProgramStop → Type 0
IsRefused known told stop =
    (bytes : List ℕ) × Gives known bytes × (HasNoText told bytes stop ⊎ HasFault told bytes stop)
