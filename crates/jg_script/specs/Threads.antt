-- What one line more does to the scripts of a file. No public contract stands on this.
use Rattle.std.specs.Prelude.{◌≡◌, ◌<◌, ◌≤◌, ◌==◌, ℕ, List, [], ◌∷◌, ◌++◌, length, vec_len, slice_index_or, All, Result, Ok, Err, ◌⊎◌, if◌then◌else◌}
use Rattle.jg_text.specs.declared.fault.ScriptFault.TheVariants.{TooManyThreads}
use Rattle.jg_text.specs.Faults.{IsFirstFault}
use Rattle.jg_text.specs.Spelling.{Spells}
use Rattle.jg_script.specs.Checked.{IsWellFormed}
use Rattle.jg_script.specs.ScriptFile.{Ascend, CallLine, script_of}
use Rattle.jg_script.specs.declared.run_fault.RunFault.{RunFault}
use Rattle.jg_script.specs.declared.run_fault.RunFault.TheVariants.{Script, Limit, NoMemory, Read, Write}
use Rattle.jg_script.specs.declared.scripts.Line.{Line}
use Rattle.jg_script.specs.declared.scripts.Lines.{Lines}

-- thread t's script stands at place i
pub record IsAt (scripts : List Lines) (t i : ℕ) : Type 0 where
  pub within : i < length scripts
  pub thread : (d : Lines) → (slice_index_or scripts i d).tid.0 ≡ t

-- it would stand at place i, and there is none
pub record IsGap (scripts : List Lines) (t i : ℕ) : Type 0 where
  pub within : i ≤ length scripts
  pub below : (k : ℕ) (d : Lines) → k < i → (slice_index_or scripts k d).tid.0 < t
  pub above : (k : ℕ) (d : Lines) → i ≤ k → k < length scripts → t < (slice_index_or scripts k d).tid.0

-- thread t's script has one line more, and no other has changed
pub record Adds (t : ℕ) (line : Line) (old new : List Lines) : Type 0 where
  pub scripts : (u : ℕ) → script_of u new ≡ (if t == u then script_of u old ++ line ∷ [] else script_of u old)
  pub some : All (λ script. 0 < vec_len script.calls) old → All (λ script. 0 < vec_len script.calls) new
  pub ascend : Ascend new
  pub few : length new ≤ 64

-- why line n isn't added: memory ran out, or there are scripts of 64 other threads
abbrev pub NotAdded : List Lines → ℕ → ℕ → RunFault → Type 0
NotAdded old t n fault = (fault ≡ NoMemory n)
    ⊎ ((fault ≡ Script n TooManyThreads) × (length old ≡ 64) × (script_of t old ≡ []))

-- what taking line n did
abbrev pub TakesLine : List ℕ → ℕ → List Lines → List Lines → Result (Unit {0}) RunFault → Type 0
TakesLine text n old new (Ok done) = (n ≤ 1000000)
    × ((x : CallLine) × Spells text x.tid x.env x.call × Adds x.tid.0 (record { env = x.env; call = x.call }) old new)
TakesLine text n old new (Err (Script line fault)) = (line ≡ n) × (IsFirstFault text fault
    ⊎ ((fault ≡ TooManyThreads) × (length old ≡ 64) × (n ≤ 1000000)
    × ((x : CallLine) × Spells text x.tid x.env x.call × (script_of x.tid.0 old ≡ []))))
TakesLine text n old new (Err (Limit line)) = (line ≡ n) × (1000000 < n) × IsWellFormed text
TakesLine text n old new (Err (NoMemory line)) = line ≡ n
TakesLine text n old new (Err (Read line)) = ⊥
TakesLine text n old new (Err (Write line)) = ⊥
