-- Receipts and the entries that they tell of. A journal has its newest entry first, and places count from the oldest.
use Rattle.std.specs.Prelude.{ℕ, ◌≡◌, ◌==◌, if◌then◌else◌, List, [], ◌∷◌, length, reverse, Option, slice_get}
use Rattle.std.specs.Option.{option_map}
use Rattle.jg_words.specs.declared.thread.Tid.{Tid}
use Rattle.jg_words.specs.declared.thread.EnvId.{EnvId}
use Rattle.jg_words.specs.declared.call.Call.{Call}
use Rattle.jg_words.specs.declared.entry.Outcome.{Outcome}
use Rattle.jg_words.specs.Entry.{Entry}
use Rattle.jg_shell.specs.declared.receipt.Receipt.{Receipt}

-- what an entry and its receipt both tell: which thread called what, by which environment, and what became of it
pub record Told : Type 0 where
  pub tid : Tid
  pub env : Option EnvId
  pub call : Call
  pub outcome : Outcome

abbrev pub told_of : Entry → Told
told_of x = record { tid = x.tid; env = x.env; call = x.call; outcome = x.outcome }

abbrev pub told_by : Receipt → Told
told_by r = record { tid = r.tid; env = r.env; call = r.call; outcome = r.outcome }

-- what the entry at a place tells, the oldest entry at 0
abbrev pub told_at : List Entry → ℕ → Option Told
told_at h place = option_map told_of (slice_get (reverse h) place)

-- the receipt is of this thread, environment and call
pub record IsReceiptOf (tid : Tid) (env : Option EnvId) (call : Call) (r : Receipt) : Type 0 where
  pub tid_is : r.tid ≡ tid
  pub env_is : r.env ≡ env
  pub call_is : r.call ≡ call

-- what the entries of a thread tell, with their places, the newest first
abbrev pub entries_of : Tid → List Entry → List (ℕ × Told)
entries_of t [] = []
entries_of t (x ∷ h) = if x.tid.0 == t.0 then (length h, told_of x) ∷ entries_of t h else entries_of t h

-- what a receipt tells, with its place
abbrev pub placed : Receipt → ℕ × Told
placed r = (r.place, told_by r)
