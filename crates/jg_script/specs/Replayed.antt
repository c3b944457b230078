-- What a reading of a journal's text did.
use Rattle.std.specs.Prelude.{◌≡◌, ◌≢◌, ℕ, ◌+◌, ◌<◌, ◌≤◌, List, [], ◌∷◌, ◌++◌, ◌⊎◌, length, Option, IfSome, Result, Ok, Err}
use Rattle.std.specs.Io.KnownBytes.{IsAtEnd}
use Rattle.jg_words.specs.Entry.{Entry}
use Rattle.jg_policy.specs.Stated.{StatedSetup}
use Rattle.jg_rules.specs.Legal.{Legal}
use Rattle.jg_text.specs.Begun.{BeginsCall, BeginsWith}
use Rattle.jg_text.specs.Journal.{entry_text, journal_text}
use Rattle.jg_script.specs.Checked.{IsScript}
use Rattle.jg_lines.specs.TextLines.{ReadsOneMore, IsNextLine}
use Rattle.jg_script.specs.declared.run_fault.RunFault.{RunFault}
use Rattle.jg_script.specs.declared.run_fault.RunFault.TheVariants.{Script, Limit, NoMemory, Read, Write}
use Rattle.jg_script.specs.declared.replay.Verdict.{Verdict}
use Rattle.jg_script.specs.declared.replay.Verdict.TheVariants as verdict
use Rattle.jg_script.specs.declared.replay.Difference.TheVariants.{NoLineFeed, NoCall, OtherOutcome}
use Rattle.jg_script.specs.declared.replay.Replayed.{Replayed}
use Rattle.jg_script.specs.declared.replay.Replayed.TheVariants as replayed

-- a legal history within the limit, each call of which a line can spell
pub record IsHistory (setup : StatedSetup) (limit : ℕ) (g : List Entry) : Type 0 where
  pub legal : Legal setup g
  pub spelt : IsScript g
  pub within : length g ≤ limit

-- the text begins with the line of an entry with which g stays legal
abbrev pub GoesOn : StatedSetup → List Entry → List ℕ → Type 0
GoesOn setup g text = (x : Entry) × (more : List ℕ) × Legal setup (x ∷ g) × IsScript (x ∷ g)
    × (text ≡ entry_text x ++ more)

-- something is left after g. It doesn't begin with the line of an entry with which g stays legal;
-- and where g is as long as the limit allows, it doesn't begin with a call and ` = `
pub record IsDifferent (setup : StatedSetup) (limit : ℕ) (g : List Entry) (rest : List ℕ) : Type 0 where
  pub some : 0 < length rest
  pub within : length g < limit → ¬ GoesOn setup g rest
  pub past : length g ≡ limit → ¬ BeginsCall rest

-- what the reader held is the text of g, and then such a rest
abbrev pub IsTextThen : Option (List ℕ) → List Entry → (List ℕ → Type 0) → Type 0
IsTextThen input g P = IfSome input (λ text. (rest : List ℕ) × (text ≡ journal_text g ++ rest) × P rest)

-- what a reading that ended with this result found in the reader, and what it read, where g is the
-- history of the lines before
abbrev pub Finds : Option (List ℕ) → Option (List ℕ) → StatedSetup → ℕ → List Entry → Result Verdict RunFault → Type 0
-- the text of g is all
Finds input input' setup limit g (Ok verdict.Legal) =
    IfSome input (λ text. text ≡ journal_text g) × IsAtEnd input'
Finds input input' setup limit g (Ok (verdict.Differs line)) =
    IsTextThen input g (IsDifferent setup limit g) × ReadsOneMore input input' (journal_text g) × (line ≡ length g + 1)
-- the first line past the limit begins with a call and ` = `
Finds input input' setup limit g (Err (Limit line)) =
    IsTextThen input g BeginsCall × ReadsOneMore input input' (journal_text g) × (line ≡ length g + 1)
    × (length g ≡ limit)
Finds input input' setup limit g (Err (NoMemory line)) =
    ReadsOneMore input input' (journal_text g) × (line ≡ length g + 1)
Finds input input' setup limit g (Err (Read line)) =
    ReadsOneMore input input' (journal_text g) × (line ≡ length g + 1)
Finds input input' setup limit g (Err (Script line fault)) = ⊥
Finds input input' setup limit g (Err (Write line)) = ⊥

abbrev pub Verifies : Option (List ℕ) → Option (List ℕ) → StatedSetup → ℕ → Result Verdict RunFault → Type 0
Verifies input input' setup limit result = (g : List Entry) × IsHistory setup limit g
    × Finds input input' setup limit g result

-- what a text is, without how it differs
abbrev pub verdict_of : Replayed → Verdict
verdict_of replayed.Legal = verdict.Legal
verdict_of (replayed.Differs line how) = verdict.Differs line

-- the same of what a reading answered
abbrev pub verdict_in : Result Replayed RunFault → Result Verdict RunFault
verdict_in (Ok told) = Ok (verdict_of told)
verdict_in (Err fault) = Err fault

-- what a reading that ended with this result left in the guard's journal `after` and in the room for a line `text`,
-- where g is the history of the lines before
abbrev pub Leaves : Option (List ℕ) → Option (List ℕ) → List Entry → List Entry → List ℕ → Result Replayed RunFault
    → Type 0
Leaves input input' g after text (Ok replayed.Legal) = after ≡ g
-- the line is all that comes after the text of g
Leaves input input' g after text (Ok (replayed.Differs line NoLineFeed)) = (after ≡ g)
    × IsTextThen input g (λ rest. IsNextLine text rest × (rest ≡ text)) × IsAtEnd input'
Leaves input input' g after text (Ok (replayed.Differs line NoCall)) = (after ≡ g)
    × IsTextThen input g (IsNextLine text) × (¬ BeginsCall text)
-- the line begins with a call and ` = `, the guard took that call, and its entry x has another line
Leaves input input' g after text (Ok (replayed.Differs line OtherOutcome)) = (x : Entry) × (after ≡ x ∷ g)
    × IsTextThen input g (IsNextLine text) × BeginsWith text x.tid x.env x.call × (entry_text x ≢ text ++ 10 ∷ [])
-- the guard may have taken the call of the line at which memory ran out
Leaves input input' g after text (Err (NoMemory line)) = (after ≡ g) ⊎ ((x : Entry) × (after ≡ x ∷ g))
Leaves input input' g after text (Err (Limit line)) = after ≡ g
Leaves input input' g after text (Err (Read line)) = after ≡ g
Leaves input input' g after text (Err (Script line fault)) = ⊥
Leaves input input' g after text (Err (Write line)) = ⊥

-- the same that a verification finds, and what is left
abbrev pub ReplaysJournal : Option (List ℕ) → Option (List ℕ) → StatedSetup → ℕ → List Entry → List ℕ
    → Result Replayed RunFault → Type 0
ReplaysJournal input input' setup limit after text result = (g : List Entry) × IsHistory setup limit g
    × Finds input input' setup limit g (verdict_in result) × Leaves input input' g after text result
