-- Which receipts a thread has that played its lines in order.
use Rattle.std.specs.Prelude.{ℕ, ◌≡◌, ◌<◌, ◌≤◌, ◌⊎◌, Bool, true, false, List, [], ◌∷◌, ◌++◌, length, All, MatchOption}
use Rattle.jg_script.specs.declared.scripts.Line.{Line}
use Rattle.jg_shell.specs.declared.receipt.Receipt.{Receipt}
use Rattle.jg_shell.specs.Busy.{is_monitor_enter, is_busy}
use Rattle.jg_shell.specs.Work.{OwnReceipts, Work}

-- the receipt has the environment and the call of the line
pub record IsOfLine (line : Line) (r : Receipt) : Type 0 where
  pub env_is : r.env ≡ line.env
  pub call_is : r.call ≡ line.call

abbrev pub IsBusy : Receipt → Type 0
IsBusy r = is_busy r.outcome ≡ true

-- the receipts of one line: its call was made again while it was busy, at most `turns` times in all, and a call other
-- than MonitorEnter was made once
pub record IsGroup (turns : ℕ) (line : Line) (group : List Receipt) : Type 0 where
  pub retries : List Receipt
  pub last : Receipt
  pub group_is : group ≡ retries ++ last ∷ []
  pub of_line : All (IsOfLine line) group
  pub busy : All IsBusy retries
  pub within : length group ≤ turns
  pub ends : is_monitor_enter line.call ≡ true → (is_busy last.outcome ≡ false) ⊎ (length group ≡ turns)
  pub once : is_monitor_enter line.call ≡ false → retries ≡ []

-- one group for each line, in order
abbrev pub Played : ℕ → List Line → List Receipt → Type 0
Played turns [] receipts = receipts ≡ []
Played turns (line ∷ lines) receipts =
    (group : List Receipt) × (rest : List Receipt) × (receipts ≡ group ++ rest) × IsGroup turns line group
    × Played turns lines rest

-- the receipts of a line at which a worker stopped: each told it to try again, and turns were left
pub record IsPart (turns : ℕ) (line : Line) (part : List Receipt) : Type 0 where
  pub of_line : All (IsOfLine line) part
  pub busy : All IsBusy part
  pub within : length part < turns
  pub once : is_monitor_enter line.call ≡ false → part ≡ []

-- the receipts of a worker that stopped at one of its lines, after it had played the lines before
pub record IsCut (turns : ℕ) (lines : List Line) (receipts : List Receipt) : Type 0 where
  pub done : List Line
  pub line : Line
  pub later : List Line
  pub lines_are : lines ≡ done ++ line ∷ later
  pub whole : List Receipt
  pub part : List Receipt
  pub receipts_are : receipts ≡ whole ++ part
  pub played : Played turns done whole
  pub begun : IsPart turns line part

-- a worker that stopped: its receipts begin those that it would have had, and are not the whole
pub record IsStopped (turns : ℕ) (lines : List Line) (receipts : List Receipt) : Type 0 where
  pub cut : IsCut turns lines receipts
  pub more : List Receipt
  pub begins : Played turns lines (receipts ++ more)
  pub unfinished : Played turns lines receipts → ⊥

-- what a run does to a worker: receipts are added, of all its lines or, where it stopped, of the lines before that and
-- of the turns of one
pub record Ran (turns : ℕ) (old new : Work) : Type 0 where
  pub tid_is : new.tid ≡ old.tid
  pub lines_are : new.lines ≡ old.lines
  pub receipts : List Receipt
  pub receipts_are : new.receipts ≡ old.receipts ++ receipts
  pub ended : MatchOption new.stopped (Played turns old.lines receipts) (λ _. IsStopped turns old.lines receipts)

-- one receipt more, of the line's call, which was busy or not
pub record AddsReceipt (line : Line) (old new : OwnReceipts) (busy : Bool) : Type 0 where
  pub receipt : Receipt
  pub of_line : IsOfLine line receipt
  pub busy_is : busy ≡ is_busy receipt.outcome
  pub new_is : new ≡ record old { receipts = old.receipts ++ receipt ∷ [] }

-- the receipts of a line more
pub record AddsGroup (turns : ℕ) (line : Line) (old new : OwnReceipts) : Type 0 where
  pub group : List Receipt
  pub is_group : IsGroup turns line group
  pub new_is : new ≡ record old { receipts = old.receipts ++ group }

-- the receipts more of a line at which the thread stopped
pub record AddsPart (turns : ℕ) (line : Line) (old new : OwnReceipts) : Type 0 where
  pub part : List Receipt
  pub is_part : IsPart turns line part
  pub new_is : new ≡ record old { receipts = old.receipts ++ part }
