-- A call that the guard took is in front of its journal.
use Rattle.std.proofs.Common.{◌≡◌, ◌∙◌, ap, ℕ, List, ◌∷◌, ◌++◌, [], Option, Some, None, Ok, Err, inl, inr, refl, subst, length, take, slice_get, ◌<◌}
use Rattle.std.specs.Io.KnownBytes.{Appends}
use Rattle.jg_words.specs.Entry.{Entry}
use Rattle.jg_words.specs.declared.thread.Tid.{Tid}
use Rattle.jg_words.specs.declared.thread.EnvId.{EnvId}
use Rattle.jg_words.specs.declared.rule.Rule.{Rule}
use Rattle.jg_words.specs.declared.call.Call.{Call}
use Rattle.jg_rules.specs.declared.answer.Answer.{Answer}
use Rattle.jg_rules.specs.Answers.{answer}
use Rattle.jg_rules.specs.Effects.{parts}
use Rattle.jg_rules.specs.Legal.{entry_by}
use Rattle.jg_rules.specs.Rules.{verdict}
use Rattle.jg_text.specs.Words.{FitsTid, FitsEnv}
use Rattle.jg_text.specs.Operands.{FitsCall}
use Rattle.jg_text.specs.Spelling.{Spells}
use Rattle.jg_text.specs.Begun.{BeginsWith}
use Rattle.jg_text.specs.Journal.{call_line, answer_text, entry_text, FitsOutcome}
use Rattle.jg_text.proofs.Writing.{completed}
use Rattle.jg_guard.specs.Guard.{State, next_entry}
use Rattle.jg_script.specs.Answered.{Answers, Journals, KeepsFaulty}
use Rattle.jg_script.specs.Checked.{IsScript}
use Rattle.jg_script.specs.Entries.{Took, FailsCall}
use Rattle.jg_script.specs.declared.run_fault.RunFault.{RunFault}
use Rattle.jg_script.specs.declared.run_fault.RunFault.TheVariants.{Script, Limit, NoMemory, Read, Write}

-- the entry is of the call's thread, environment and call, denied or not
spelt_by : (rule : Option Rule) (a : Answer) (text : List ℕ) (t : Tid) (env : Option EnvId) (call : Call) → Spells text t env call
    → Spells text (entry_by rule a t env call).tid (entry_by rule a t env call).env (entry_by rule a t env call).call
spelt_by (Some rule) a text t env call h = h
spelt_by None a text t env call h = h

fits_by : (rule : Option Rule) (a : Answer) (t : Tid) (env : Option EnvId) (call : Call) → FitsTid t → FitsEnv env → FitsCall call
    → IsScript (entry_by rule a t env call ∷ [])
fits_by (Some rule) a t env call ht he hc = ((ht, he, hc), tt)
fits_by None a t env call ht he hc = ((ht, he, hc), tt)

pub next_fits : (guard : State) (t : Tid) (env : Option EnvId) (call : Call) → FitsTid t → FitsEnv env → FitsCall call
    → IsScript (next_entry guard t env call ∷ [])
next_fits guard t env call ht he hc =
    fits_by (verdict guard.setup (parts guard.setup guard.journal) t.0 env call) (answer guard.setup (parts guard.setup guard.journal) t call) t env call ht he
    hc

begins_by : (rule : Option Rule) (a : Answer) (text : List ℕ) (t : Tid) (env : Option EnvId) (call : Call) → BeginsWith text t env call
    → BeginsWith text (entry_by rule a t env call).tid (entry_by rule a t env call).env (entry_by rule a t env call).call
begins_by (Some rule) a text t env call h = h
begins_by None a text t env call h = h

-- the text begins with the call of the entry that the guard takes for it
pub next_begins : (guard : State) (text : List ℕ) (t : Tid) (env : Option EnvId) (call : Call) → BeginsWith text t env call
    → BeginsWith text (next_entry guard t env call).tid (next_entry guard t env call).env (next_entry guard t env call).call
next_begins guard text t env call h =
    begins_by (verdict guard.setup (parts guard.setup guard.journal) t.0 env call) (answer guard.setup (parts guard.setup guard.journal) t call) text t env call
    h

pub journals : (old new : State) (text : List ℕ) (t : Tid) (env : Option EnvId) (call : Call) → Took old new (next_entry old t env call)
    → Spells text t env call
    → Journals old new text (next_entry old t env call)
journals old new text t env call took spelt = record {
  spelt = spelt_by (verdict old.setup (parts old.setup old.journal) t.0 env call) (answer old.setup (parts old.setup old.journal) t call) text t env call spelt;
  journal = took.journal;
  room = took.room;
}

-- behind the line of its call the newest entry's answer is put
pub completes : (front : Option Entry) (x e : Entry) (text new : List ℕ) → front ≡ Some x → front ≡ Some e → text ≡ call_line e
    → new ≡ text ++ answer_text x.outcome → new ≡ entry_text e
completes front x e text new seen first is added =
    let same : x ≡ e = cc in
    added ∙ ap (λ (y : Entry). text ++ answer_text y.outcome) same ∙ completed e text is

pub not_taken : (bytes : Option (List ℕ)) (old new : State) (text : List ℕ) (t : Tid) (env : Option EnvId) (call : Call) (n : ℕ) (fault : RunFault)
    → FailsCall old new (next_entry old t env call) n fault → Spells text t env call → Answers bytes bytes old new text n (Err fault)
not_taken bytes old new text t env call n (Limit line) (same, full, is) spelt = (refl, same, (t, env, call, spelt), full, is)
not_taken bytes old new text t env call n (NoMemory line) (inl same, is) spelt = (refl, inl same, is)
not_taken bytes old new text t env call n (NoMemory line) (inr took, is) spelt =
    (refl, inr (next_entry old t env call, journals old new text t env call took spelt), is)
not_taken bytes old new text t env call n (Script line fault) none spelt = absurd none
not_taken bytes old new text t env call n (Read line) none spelt = absurd none
not_taken bytes old new text t env call n (Write line) none spelt = absurd none

-- a line whose call isn't taken isn't faulty
pub taken_kept : (old new : State) (e : Entry) (text : List ℕ) (n : ℕ) (fault : RunFault) → FailsCall old new e n fault → KeepsFaulty text text (Err fault)
taken_kept old new e text n (Limit line) fails = tt
taken_kept old new e text n (NoMemory line) fails = tt
taken_kept old new e text n (Script line fault) none = absurd none
taken_kept old new e text n (Read line) fails = tt
taken_kept old new e text n (Write line) fails = tt

-- the entry in front of the journal is the one that was taken
pub newest_told : (old new : State) (e x : Entry) (out : List ℕ) → Took old new e → slice_get new.journal 0 ≡ Some x → FitsOutcome x.outcome
    → out ≡ [] ++ entry_text x
    → (out ≡ entry_text e) × FitsOutcome e.outcome
newest_told old new e x out took first fits made =
    let front : slice_get new.journal 0 ≡ Some e = ap (λ (h : List Entry). slice_get h 0) took.journal in
    let same : x ≡ e = cc in
    (made ∙ ap entry_text same, subst (λ (y : Entry). FitsOutcome y.outcome) same fits)

module _ (bytes bytes' : Option (List ℕ)) (old new : State) (text line : List ℕ) (t : Tid) (env : Option EnvId) (call : Call) (n : ℕ)
    (took : Took old new (next_entry old t env call))
    (spelt : Spells text t env call) where
  -- the entry's line can't be made
  pub not_made : Answers bytes bytes old new text n (Err (NoMemory n))
  not_made = (refl, inr (next_entry old t env call, journals old new text t env call took spelt), refl)

  -- the line of the call became the entry's
  pub line_made : ((e : Entry) → slice_get new.journal 0 ≡ Some e → text ≡ call_line e → line ≡ entry_text e) → line ≡ entry_text (next_entry old t env call)
  line_made made =
      made (next_entry old t env call) (ap (λ (h : List Entry). slice_get h 0) took.journal) ((journals old new text t env call took spelt).spelt.text)

  pub written : line ≡ entry_text (next_entry old t env call) → Appends bytes bytes' line → Answers bytes bytes' old new text n (Ok tt)
  written is more = (next_entry old t env call, journals old new text t env call took spelt, subst (λ (l : List ℕ). Appends bytes bytes' l) is more)

  pub not_written : line ≡ entry_text (next_entry old t env call) → (k : ℕ) × (k < length line) × Appends bytes bytes' (take k line)
      → Answers bytes bytes' old new text n (Err (Write n))
  not_written is front = (
    (
      next_entry old t env call,
      journals old new text t env call took spelt,
      subst (λ (l : List ℕ). (k : ℕ) × (k < length l) × Appends bytes bytes' (take k l)) is front,
    ),
    refl,
  )
