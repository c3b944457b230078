-- What a guard answers to C.
use Rattle.std.specs.Prelude.{ℕ, ℤ, pos, ◌≡◌, ◌≢◌, ◌≤◌, ◌⊎◌, List, [], ◌∷◌, length, Option, Some, None, String, string_bytes}
use Rattle.std.specs.declared.alloc.Global.{Global}
use Rattle.jg_words.specs.declared.thread.Tid.{Tid}
use Rattle.jg_words.specs.declared.thread.EnvId.{EnvId}
use Rattle.jg_words.specs.declared.call.Call.{Call}
use Rattle.jg_words.specs.declared.entry.Outcome.{Outcome}
use Rattle.jg_words.specs.Entry.{Entry}
use Rattle.jg_words.specs.declared.rule.Rule.{Rule}
use Rattle.jg_words.specs.declared.reference.Ref.{Ref}
use Rattle.jg_words.specs.declared.buffer.BufId.{BufId}
use Rattle.jg_words.specs.Rule.{number_of}
use Rattle.jg_table_monitors.specs.declared.owned_monitor.OwnedMonitor.{OwnedMonitor}
use Rattle.jg_table_monitors.specs.Rows.{Ascends}
use Rattle.jg_policy.specs.Findings.{States}
use Rattle.jg_rules.specs.Effects.{parts}
use Rattle.jg_rules.specs.Rules.{verdict}
use Rattle.jg_leaks.specs.Left.{ListsRefs, RefsAscend, ListsBuffers, BuffersAscend, ListsMonitors}
use Rattle.jg_text.specs.Journal.{entry_text}
use Rattle.jg_text.specs.Spelling.{Spells}
use Rattle.jg_text.specs.Faults.{NamesFirstFault}
use Rattle.jg_text.specs.declared.fault.ScriptFault.{ScriptFault}
use Rattle.jg_guard.specs.Guard.{State, Takes, Unchanged, next_entry}
use Rattle.jg_explain.specs.Texts.{IsNewestTold}
use Rattle.jg_script.specs.Leaks.{leaks_text}
use Rattle.jg_c.specs.Errors as errors
use Rattle.jg_c.specs.Lines.{Writes}

-- the guard is new: its setup is what the bytes state, and its journal is empty, of at most so many entries
pub record IsNewGuard (text : List ℕ) (limit : ℕ) (g : State) : Type 0 where
  pub stated : States text g.setup
  pub short : length text ≤ 16777216
  pub limited : g.limit ≡ limit
  pub empty : g.journal ≡ []

-- the call was made and journaled, and its entry's line was written; or memory ran out for the line
pub record CallMade (old new : State) (t : Tid) (env : Option EnvId) (call : Call) (was now : List ℕ) (n : ℤ) : Type 0 where
  pub outcome : Outcome
  pub takes : Takes old new t env call outcome
  pub line : n ≢ errors.unwritten → Writes (entry_text (next_entry old t env call)) was now n
  pub kept : n ≡ errors.unwritten → now ≡ was

-- or it wasn't: the journal is full, exactly where that is answered, or memory ran out; nothing changed
pub record CallRefused (old new : State) (was now : List ℕ) (n : ℤ) : Type 0 where
  pub unchanged : Unchanged old new
  pub kept : now ≡ was
  pub why : (n ≡ errors.limit) ⊎ (n ≡ errors.no_memory)
  pub full : n ≡ errors.limit → length old.journal ≡ old.limit

abbrev pub AnswersCall : State → State → Tid → Option EnvId → Call → List ℕ → List ℕ → ℤ → Type 0
AnswersCall old new t env call was now n = CallMade old new t env call was now n ⊎ CallRefused old new was now n

-- the line spells a call, which the guard answers; or this is its first fault, and nothing changed
abbrev pub AnswersLine : State → State → List ℕ → List ℕ → List ℕ → ℤ → Type 0
AnswersLine old new line was now n =
    ((t : Tid) × (env : Option EnvId) × (call : Call) × Spells line t env call
    × AnswersCall old new t env call was now n)
    ⊎ ((fault : ScriptFault) × (n ≡ errors.of_script_fault fault) × NamesFirstFault line fault
    × (new ≡ old) × (now ≡ was))

-- the line of the newest entry is written, or there is none
abbrev pub NewestLine : List Entry → List ℕ → List ℕ → ℤ → Type 0
NewestLine [] was now n = (n ≡ pos 0) × (now ≡ was)
NewestLine (e ∷ h) was now n = Writes (entry_text e) was now n

-- the number of the rule, or 0 for none
abbrev pub rule_number : Option Rule → ℤ
rule_number None = pos 0
rule_number (Some rule) = pos (number_of rule)

-- the line's call would break that rule first; or this is the line's first fault
abbrev pub JudgesLine : State → List ℕ → ℤ → Type 0
JudgesLine g line n =
    ((t : Tid) × (env : Option EnvId) × (call : Call) × Spells line t env call
    × (n ≡ rule_number (verdict g.setup (parts g.setup g.journal) t.0 env call)))
    ⊎ ((fault : ScriptFault) × (n ≡ errors.of_script_fault fault) × NamesFirstFault line fault)

-- why the newest denied call was denied is written, or no call was denied
abbrev pub ExplainsNewest : State → List ℕ → List ℕ → ℤ → Type 0
ExplainsNewest g was now n =
    ((text : String Global) × IsNewestTold g.setup g.journal (Some text) × Writes (string_bytes text) was now n)
    ⊎ (IsNewestTold g.setup g.journal None × (n ≡ errors.no_rule) × (now ≡ was))

-- what the journal leaves behind, each once and in order, is written
pub record GuardLeaks (g : State) (was now : List ℕ) (n : ℤ) : Type 0 where
  pub refs : List Ref
  pub lent : List BufId
  pub owned : List OwnedMonitor
  pub lists_refs : ListsRefs (parts g.setup g.journal) refs
  pub refs_ascend : RefsAscend refs
  pub lists_buffers : ListsBuffers (parts g.setup g.journal) lent
  pub buffers_ascend : BuffersAscend lent
  pub lists_monitors : ListsMonitors (parts g.setup g.journal) owned
  pub monitors_ascend : Ascends owned
  pub written : Writes (leaks_text refs lent owned) was now n
