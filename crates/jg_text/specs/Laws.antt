-- What is so of all lines.
use Rattle.std.specs.Prelude.{◌≡◌, ℕ, ◌≤◌, List, [], ◌∷◌, ◌++◌, length, Option, All}
use Rattle.std.specs.Int.{IsInRange}
use Rattle.jg_words.specs.Entry.{Entry}
use Rattle.jg_text.specs.Journal.{entry_text, FitsOutcome}
use Rattle.jg_words.specs.declared.thread.Tid.{Tid}
use Rattle.jg_words.specs.declared.thread.EnvId.{EnvId}
use Rattle.jg_words.specs.declared.call.Call.{Call}
use Rattle.jg_text.specs.declared.fault.ScriptFault.{ScriptFault}
use Rattle.jg_text.specs.Spelling.{Spells, spelling}
use Rattle.jg_text.specs.Words.{FitsTid, FitsEnv}
use Rattle.jg_text.specs.Operands.{FitsCall}
use Rattle.jg_text.specs.Faults.{HasFault}

-- a line spells one thread, environment and call at most (proofs/Laws.antt)
abbrev pub IsSpeltOnce : Type 0
IsSpeltOnce = (line : List ℕ) (t u : Tid) (e f : Option EnvId) (c d : Call) → Spells line t e c → Spells line u f d
    → (t ≡ u) × (e ≡ f) × (c ≡ d)

-- a line that spells a call has no fault; so it has at most 65,536 bytes (proofs/Laws.antt)
abbrev pub IsFaultless : Type 0
IsFaultless = (line : List ℕ) (t : Tid) (e : Option EnvId) (c : Call) (f : ScriptFault) → Spells line t e c
    → ¬ HasFault f line

-- what begins with a call and a space begins with one such call alone, whatever follows (proofs/Laws.antt)
abbrev pub IsBegunOnce : Type 0
IsBegunOnce = (t u : Tid) (e f : Option EnvId) (c d : Call) (x y : List ℕ) → FitsTid t → FitsEnv e → FitsCall c
    → FitsTid u → FitsEnv f → FitsCall d → spelling t e c ++ 32 ∷ x ≡ spelling u f d ++ 32 ∷ y
    → (t ≡ u) × (e ≡ f) × (c ≡ d)

-- a call's line is short, so that a list may stand behind it (proofs/Laws.antt)
abbrev pub IsShort : Type 0
IsShort = (t : Tid) (e : Option EnvId) (c : Call) → FitsTid t → FitsEnv e → FitsCall c → length (spelling t e c) ≤ 22000

-- an entry's text is one line: printable, of at most 65,536 bytes, and its line feed (proofs/Plain.antt)
abbrev pub IsOneLine : Type 0
IsOneLine = (x : Entry) → FitsTid x.tid → FitsEnv x.env → FitsCall x.call → FitsOutcome x.outcome
    → (line : List ℕ) × (entry_text x ≡ line ++ 10 ∷ []) × All (λ b. IsInRange 32 126 b) line × (length line ≤ 65536)
