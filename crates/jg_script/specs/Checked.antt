-- What a check of a script did.
use Rattle.std.specs.Prelude.{◌≡◌, ◌≢◌, ℕ, ◌+◌, ◌<◌, ◌≤◌, Bool, true, List, [], ◌∷◌, ◌++◌, length, take, Option, Result, Ok, Err, ◌⊎◌}
use Rattle.std.specs.Io.KnownBytes.{Appends, IsAtEnd}
use Rattle.jg_words.specs.Entry.{Entry}
use Rattle.jg_text.specs.declared.fault.ScriptFault.TheVariants.{LineTooLong}
use Rattle.jg_words.specs.declared.thread.Tid.{Tid}
use Rattle.jg_words.specs.declared.thread.EnvId.{EnvId}
use Rattle.jg_words.specs.declared.call.Call.{Call}
use Rattle.jg_text.specs.Spelling.{Spells}
use Rattle.jg_text.specs.Words.{FitsTid, FitsEnv}
use Rattle.jg_text.specs.Operands.{FitsCall}
use Rattle.jg_text.specs.Faults.{IsFirstFault}
use Rattle.jg_text.specs.Journal.{call_line, call_lines, entry_text, journal_text}
use Rattle.jg_script.specs.declared.run_fault.RunFault.{RunFault}
use Rattle.jg_script.specs.declared.run_fault.RunFault.TheVariants.{Script, Limit, NoMemory, Read, Write}
use Rattle.jg_lines.specs.TextLines.{HoldsLines, BeginsWith, AreFollowedBy, TakesOneMore, ReadsOneMore}

-- a line that spells some call
abbrev pub IsWellFormed : List ℕ → Type 0
IsWellFormed text = (t : Tid) × (e : Option EnvId) × (c : Call) × Spells text t e c

-- the writer got just the text of the history
abbrev pub WritesAll : Option (List ℕ) → Option (List ℕ) → List Entry → Type 0
WritesAll bytes bytes' h = Appends bytes bytes' (journal_text h)

-- a front of the entry's line was written, and not all of it
abbrev pub WritesFront : Option (List ℕ) → Option (List ℕ) → Entry → Type 0
WritesFront old new e = (k : ℕ) × (k < length (entry_text e)) × Appends old new (take k (entry_text e))

-- the history h of a check that ended with this result, and what that check did to the bytes of
-- the reader and of the writer
abbrev pub Checks : Option (List ℕ) → Option (List ℕ) → Option (List ℕ) → Option (List ℕ) → ℕ → List Entry
    → Result ℕ RunFault → Type 0
-- all was read, all of it are the lines of n calls, and the text of their entries was written
Checks input input' bytes bytes' limit h (Ok n) =
    HoldsLines input (call_lines h) × IsAtEnd input' × WritesAll bytes bytes' h × (n ≡ length h) × (length h ≤ limit)
-- the first faulty line, after which nothing was read, and its first fault; the text of the lines
-- before was written
Checks input input' bytes bytes' limit h (Err (Script line fault)) =
    AreFollowedBy input (call_lines h) (λ next. IsFirstFault next fault)
    × (fault ≢ LineTooLong → TakesOneMore input input' (call_lines h)) × WritesAll bytes bytes' h
    × (line ≡ length h + 1) × (length h ≤ limit)
-- the line after the last that the limit allows, which is well formed; nothing was read after it,
-- and the text of the lines before was written
Checks input input' bytes bytes' limit h (Err (Limit line)) =
    AreFollowedBy input (call_lines h) IsWellFormed × TakesOneMore input input' (call_lines h)
    × WritesAll bytes bytes' h × (line ≡ limit + 1) × (length h ≡ limit)
-- the text of the lines before was written, and the guard may have taken this line's call
Checks input input' bytes bytes' limit h (Err (NoMemory line)) =
    BeginsWith input (call_lines h) × ((g : List Entry) × ((h ≡ g) ⊎ ((e : Entry) × (h ≡ e ∷ g)))
    × WritesAll bytes bytes' g × (line ≡ length g + 1))
-- the text of the lines before was written
Checks input input' bytes bytes' limit h (Err (Read line)) =
    BeginsWith input (call_lines h) × WritesAll bytes bytes' h × (line ≡ length h + 1)
-- the text of the lines before was written, and a front of this line's
Checks input input' bytes bytes' limit h (Err (Write line)) =
    BeginsWith input (call_lines h) × ((e : Entry) × (g : List Entry) × (h ≡ e ∷ g)
    × ((mid : Option (List ℕ)) × WritesAll bytes mid g × WritesFront mid bytes' e)) × (line ≡ length h)

-- where a check ends at a faulty line that isn't too long, the room for a line `text` holds just that line, which has
-- this fault before all others
abbrev pub HoldsFaulty : Option (List ℕ) → List Entry → List ℕ → Result ℕ RunFault → Type 0
HoldsFaulty input h text (Ok n) = Unit {0}
HoldsFaulty input h text (Err (Script line fault)) = fault ≢ LineTooLong
    → AreFollowedBy input (call_lines h) (λ next. next ≡ text) × IsFirstFault text fault
HoldsFaulty input h text (Err (Limit line)) = Unit {0}
HoldsFaulty input h text (Err (NoMemory line)) = Unit {0}
HoldsFaulty input h text (Err (Read line)) = Unit {0}
HoldsFaulty input h text (Err (Write line)) = Unit {0}

-- the lines of a history's calls, each with its line feed
abbrev pub script_text : List Entry → List ℕ
script_text [] = []
script_text (e ∷ h) = script_text h ++ (call_line e ++ 10 ∷ [])

-- what a check that ended with this result read: all, or no more than the lines of its history and
-- a front of one more; of the line that it ended at the call may be in the history
abbrev pub Reads : Option (List ℕ) → Option (List ℕ) → List Entry → Result ℕ RunFault → Type 0
Reads input input' h (Ok n) = IsAtEnd input'
Reads input input' h (Err (Script line fault)) = ReadsOneMore input input' (script_text h)
Reads input input' h (Err (Limit line)) = ReadsOneMore input input' (script_text h)
Reads input input' h (Err (Read line)) = ReadsOneMore input input' (script_text h)
Reads input input' h (Err (NoMemory line)) =
    (g : List Entry) × ((h ≡ g) ⊎ ((e : Entry) × (h ≡ e ∷ g))) × (line ≡ length g + 1)
    × ReadsOneMore input input' (script_text g)
Reads input input' h (Err (Write line)) =
    (e : Entry) × (g : List Entry) × (h ≡ e ∷ g) × ReadsOneMore input input' (script_text g)

-- each entry's call is one that a line can spell
abbrev pub IsScript : List Entry → Type 0
IsScript [] = Unit {0}
IsScript (e ∷ h) = (FitsTid e.tid × FitsEnv e.env × FitsCall e.call) × IsScript h

-- the reader failed where the answer is `Read`, and nowhere else
abbrev pub ReaderFails : {N : Type 0} → Bool → Bool → Result N RunFault → Type 0
ReaderFails old new (Err (Read line)) = new ≡ true
ReaderFails old new (Err (Script line fault)) = new ≡ old
ReaderFails old new (Err (Limit line)) = new ≡ old
ReaderFails old new (Err (NoMemory line)) = new ≡ old
ReaderFails old new (Err (Write line)) = new ≡ old
ReaderFails old new (Ok n) = new ≡ old

-- the writer failed where the answer is `Write`, and nowhere else
abbrev pub WriterFails : {N : Type 0} → Bool → Bool → Result N RunFault → Type 0
WriterFails old new (Err (Write line)) = new ≡ true
WriterFails old new (Err (Script line fault)) = new ≡ old
WriterFails old new (Err (Limit line)) = new ≡ old
WriterFails old new (Err (NoMemory line)) = new ≡ old
WriterFails old new (Err (Read line)) = new ≡ old
WriterFails old new (Ok n) = new ≡ old
