-- What taking one call does, and what replaying one line of a journal does. Of public contracts those of `Beside`
-- stand on the first.
use Rattle.std.specs.Prelude.{◌≡◌, ◌≢◌, ℕ, ◌<◌, ◌≤◌, List, [], ◌∷◌, ◌++◌, length, Option, Some, None, Result, Ok, Err, ◌⊎◌}
use Rattle.jg_words.specs.Entry.{Entry}
use Rattle.jg_guard.specs.Guard.{State}
use Rattle.jg_text.specs.Begun.{BeginsCall, BeginsWith}
use Rattle.jg_text.specs.Journal.{entry_text}
use Rattle.jg_script.specs.Checked.{IsScript}
use Rattle.jg_lines.specs.Devices.{IsOneLine}
use Rattle.jg_script.specs.Replayed.{GoesOn}
use Rattle.jg_lines.specs.TextLines.{IsCut}
use Rattle.jg_script.specs.declared.replay.Difference.{Difference}
use Rattle.jg_script.specs.declared.replay.Difference.TheVariants.{NoLineFeed, NoCall, OtherOutcome}
use Rattle.jg_script.specs.declared.replay.Replayed.{Replayed}
use Rattle.jg_script.specs.declared.replay.Replayed.TheVariants.{Legal, Differs}
use Rattle.jg_script.specs.declared.run_fault.RunFault.{RunFault}
use Rattle.jg_script.specs.declared.run_fault.RunFault.TheVariants.{Script, Limit, NoMemory, Read, Write}

-- the guard took it
pub record Took (old new : State) (e : Entry) : Type 0 where
  pub journal : new.journal ≡ e ∷ old.journal
  pub room : length old.journal < old.limit

-- why line n's call isn't answered: it isn't taken, or its entry's line can't be had
abbrev pub FailsCall : State → State → Entry → ℕ → RunFault → Type 0
FailsCall old new e n (Limit line) = (new.journal ≡ old.journal) × (length old.journal ≡ old.limit) × (line ≡ n)
FailsCall old new e n (NoMemory line) = ((new.journal ≡ old.journal) ⊎ Took old new e) × (line ≡ n)
FailsCall old new e n (Script line fault) = ⊥
FailsCall old new e n (Read line) = ⊥
FailsCall old new e n (Write line) = ⊥

-- no entry with which the guard's journal stays legal has this line
abbrev pub IsNoEntry : State → List ℕ → Type 0
IsNoEntry guard text = (tail : List ℕ) → IsOneLine text → IsCut text tail
    → ¬ GoesOn guard.setup guard.journal (text ++ tail)

-- what replaying line n did: the guard took its entry, or there is no such entry
abbrev pub ReplaysLine : State → State → List ℕ → ℕ → Result (Option Difference) RunFault → Type 0
ReplaysLine old new text n (Ok None) = (e : Entry) × Took old new e × IsScript (e ∷ [])
    × (entry_text e ≡ text ++ 10 ∷ []) × (length text ≤ 65536)
ReplaysLine old new text n (Ok (Some NoLineFeed)) = ⊥
ReplaysLine old new text n (Ok (Some NoCall)) = IsNoEntry old text × (new.journal ≡ old.journal) × (¬ BeginsCall text)
ReplaysLine old new text n (Ok (Some OtherOutcome)) = IsNoEntry old text
    × ((e : Entry) × Took old new e × BeginsWith text e.tid e.env e.call × (entry_text e ≢ text ++ 10 ∷ []))
ReplaysLine old new text n (Err (NoMemory line)) = (line ≡ n)
    × ((new.journal ≡ old.journal) ⊎ ((e : Entry) × Took old new e))
ReplaysLine old new text n (Err (Script line fault)) = ⊥
ReplaysLine old new text n (Err (Limit line)) = ⊥
ReplaysLine old new text n (Err (Read line)) = ⊥
ReplaysLine old new text n (Err (Write line)) = ⊥

-- how a line past the limit is answered
abbrev pub IsPast : List ℕ → ℕ → Result Replayed RunFault → Type 0
IsPast text n (Ok (Differs line NoCall)) = (line ≡ n) × (¬ BeginsCall text)
IsPast text n (Ok (Differs line NoLineFeed)) = ⊥
IsPast text n (Ok (Differs line OtherOutcome)) = ⊥
IsPast text n (Ok Legal) = ⊥
IsPast text n (Err (Limit line)) = (line ≡ n) × BeginsCall text
IsPast text n (Err (NoMemory line)) = line ≡ n
IsPast text n (Err (Script line fault)) = ⊥
IsPast text n (Err (Read line)) = ⊥
IsPast text n (Err (Write line)) = ⊥
