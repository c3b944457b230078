-- What contracts see of workers.
use Rattle.std.specs.Prelude.{◌≢◌, List, [], AllPairs, Option, None}
use Rattle.jg_words.specs.declared.thread.Tid.{Tid}
use Rattle.jg_script.specs.declared.scripts.Line.{Line}
use Rattle.jg_script.specs.declared.scripts.Lines.{Lines}
use Rattle.jg_shell.specs.declared.receipt.Receipt.{Receipt}
use Rattle.jg_shell.specs.declared.account.Stop.{Stop}

-- a thread and the receipts of its calls, the oldest first
pub record OwnReceipts : Type 0 where
  pub tid : Tid
  pub receipts : List Receipt

-- a worker as its thread, its lines, its receipts, the oldest first, and why it stopped
pub record Work : Type 0 where
  pub tid : Tid
  pub lines : List Line
  pub receipts : List Receipt
  pub stopped : Option Stop

-- a worker with the lines of a thread, that has not run yet
abbrev pub fresh : Lines → Work
fresh script = record { tid = script.tid; lines = script.calls.items; receipts = []; stopped = None }

-- no two workers are of one thread
abbrev pub AreApart : List Work → Type 0
AreApart workers = AllPairs (λ (one other : Work). one.tid ≢ other.tid) workers
