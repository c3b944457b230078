-- The record of a journal.
use Rattle.std.specs.Prelude.{ℕ, ◌≡◌, ◌<◌, ◌≤◌, ◌+◌, ◌⊎◌, length, Bool, true, List, [], ◌∷◌, ◌++◌, Option, Some, Result, Ok, Err, min, ◌-◌, reverse, slice_get, take}
use Rattle.std.specs.Io.KnownBytes.{Appends}
use Rattle.jg_words.specs.Entry.{Entry}
use Rattle.jg_words.specs.Call.{fun_of}
use Rattle.jg_policy.specs.Stated.{StatedSetup}
use Rattle.jg_rows.specs.Table.{functions}
use Rattle.jg_rules.specs.Parts.{Parts}
use Rattle.jg_rules.specs.Effects.{parts}
use Rattle.jg_judge.specs.Written.{arguments_of, row_for, written_bounds}
use Rattle.jg_record.specs.declared.event.Event.TheVariants.{Question, Bounds}
use Rattle.jg_entry_facts_laws.specs.Entries.{outcome_facts}
use Rattle.jg_explain.specs.Explained.{as_it_was}
use Rattle.jg_script.specs.declared.run_fault.RunFault.{RunFault}
use Rattle.jg_script.specs.declared.run_fault.RunFault.TheVariants.{Script, Limit, NoMemory, Read, Write}
use Rattle.jg_script.specs.declared.replay.Replayed.{Replayed}
use Rattle.jg_script.specs.declared.replay.Replayed.TheVariants.{Legal, Differs}
use Rattle.jg_script.specs.Replayed.{Finds, IsHistory, verdict_in}
use Rattle.jg_journal_record.specs.declared.fault.RetellFault.{RetellFault}
use Rattle.jg_journal_record.specs.declared.fault.RetellFault.TheVariants.{Unwritten, Write as CannotWrite}
use Rattle.jg_journal_record.specs.Lines.{Line, IsLineText, AddsLine, AddsFacts}

-- the line is the question that the entry's call is, where p is what came before it
pub record IsQuestion (s : StatedSetup) (p : Parts) (x : Entry) (line : Line) : Type 0 where
  pub place : ℕ
  pub function : slice_get functions place ≡ Some (row_for (fun_of x.call))
  pub by : line.by ≡ x.tid
  pub asks : line.event ≡ Question x.tid x.env place
  pub operands : line.arguments ≡ arguments_of s p x.tid.0 x.call

abbrev pub AddsQuestion : StatedSetup → Parts → Entry → List ℕ → List ℕ → Type 0
AddsQuestion s p x old new = (line : Line) × IsQuestion s p x line × AddsLine s line old new

-- lines of its facts were appended
abbrev pub AddsTold : StatedSetup → Parts → Entry → List ℕ → List ℕ → Type 0
AddsTold s p x old new = AddsFacts s x.tid (reverse (outcome_facts s p x.tid x.call x.outcome x.object)) old new

-- both were, one behind the other
abbrev pub AddsEntry : StatedSetup → Parts → Entry → List ℕ → List ℕ → Type 0
AddsEntry s p x old new = (asked : List ℕ) × AddsQuestion s p x old asked × AddsTold s p x asked new

-- the text is the record of the history, which has its newest entry first
abbrev pub IsRecordOf : StatedSetup → List Entry → List ℕ → Type 0
IsRecordOf s [] text = text ≡ []
IsRecordOf s (x ∷ h) text = (front : List ℕ) × IsRecordOf s h front × AddsEntry s (parts s h) x front text

-- the line of the bounds that the guard judges by
abbrev pub bounds_line : Line
bounds_line = record { by = record { 0 = 0 }; event = Bounds written_bounds; arguments = []; gone = [] }

-- that line, and then the record of the history, were written
abbrev pub WritesRecord : StatedSetup → List Entry → Option (List ℕ) → Option (List ℕ) → Type 0
WritesRecord s h bytes bytes' = (first rest : List ℕ) × IsLineText s bounds_line first × IsRecordOf s h rest
    × Appends bytes bytes' ((first ++ 10 ∷ []) ++ rest)

-- the lines of the entry were, where p is what came before it
abbrev pub WritesEntry : StatedSetup → Parts → Entry → Option (List ℕ) → Option (List ℕ) → Type 0
WritesEntry s p x bytes bytes' = (text : List ℕ) × AddsEntry s p x [] text × Appends bytes bytes' text

-- so were the bounds
abbrev pub WritesBounds : StatedSetup → Option (List ℕ) → Option (List ℕ) → Type 0
WritesBounds s bytes bytes' =
    (first : List ℕ) × IsLineText s bounds_line first × Appends bytes bytes' (first ++ 10 ∷ [])

-- the writer failed where the fault is `Write`, and nowhere else
abbrev pub FailsAt : Bool → Bool → RetellFault → Type 0
FailsAt old new (CannotWrite line) = new ≡ true
FailsAt old new (Unwritten line why) = new ≡ old

abbrev pub WriterFails : {N : Type 0} → Bool → Bool → Result N RetellFault → Type 0
WriterFails old new (Ok done) = new ≡ old
WriterFails old new (Err fault) = FailsAt old new fault

-- why the bounds weren't written: nothing of their line is, or a part of it
abbrev pub StopsBefore : StatedSetup → Option (List ℕ) → Option (List ℕ) → RetellFault → Type 0
StopsBefore s bytes bytes' (Unwritten line why) = (line ≡ 1) × (bytes' ≡ bytes)
StopsBefore s bytes bytes' (CannotWrite line) = (line ≡ 1) × (first : List ℕ) × IsLineText s bounds_line first
    × (k : ℕ) × (k ≤ length first) × Appends bytes bytes' (take k (first ++ 10 ∷ []))

-- why the lines of the entry weren't, which are told to be of this line of the journal
abbrev pub StopsAt : StatedSetup → Parts → Entry → ℕ → Option (List ℕ) → Option (List ℕ) → RetellFault → Type 0
StopsAt s p x n bytes bytes' (Unwritten line why) = (line ≡ n) × (bytes' ≡ bytes)
StopsAt s p x n bytes bytes' (CannotWrite line) = (line ≡ n) × (text : List ℕ) × AddsEntry s p x [] text
    × (k : ℕ) × (k < length text) × Appends bytes bytes' (take k text)

-- one of the first so many entries stopped it, and the record of those before was written
abbrev pub StopsIn : StatedSetup → List Entry → ℕ → Option (List ℕ) → Option (List ℕ) → RetellFault → Type 0
StopsIn s h count bytes bytes' fault = (n : ℕ) × (x : Entry) × (n < count) × (slice_get (reverse h) n ≡ Some x)
    × (mid : Option (List ℕ)) × WritesRecord s (as_it_was n h) bytes mid
    × StopsAt s (parts s (as_it_was n h)) x (n + 1) mid bytes' fault

-- either of them
abbrev pub Stops : StatedSetup → List Entry → ℕ → Option (List ℕ) → Option (List ℕ) → RetellFault → Type 0
Stops s h count bytes bytes' fault = StopsBefore s bytes bytes' fault ⊎ StopsIn s h count bytes bytes' fault

-- how many entries are of the lines that don't differ, of so many that were made
abbrev pub entries_alike : Result Replayed RunFault → ℕ → ℕ
entries_alike (Ok Legal) made = made
entries_alike (Ok (Differs line how)) made = min made (line - 1)
entries_alike (Err (Script line fault)) made = min made (line - 1)
entries_alike (Err (Limit line)) made = min made (line - 1)
entries_alike (Err (NoMemory line)) made = min made (line - 1)
entries_alike (Err (Read line)) made = min made (line - 1)
entries_alike (Err (Write line)) made = min made (line - 1)

-- what was read is the text of a history as far as it is one, and its record was written
abbrev pub RetellsJournal : Option (List ℕ) → Option (List ℕ) → StatedSetup → ℕ → Option (List ℕ) → Option (List ℕ)
    → Result Replayed RunFault → Type 0
RetellsJournal input input' s limit bytes bytes' result = (g : List Entry) × IsHistory s limit g
    × Finds input input' s limit g (verdict_in result) × WritesRecord s g bytes bytes'
