-- What contracts see of a guard.
use Rattle.std.specs.Prelude.{ℕ, ◌≡◌, ◌<◌, ◌≤◌, ◌^◌, List, ◌∷◌, Option, length, reverse}
use Rattle.jg_words.specs.declared.thread.Tid.{Tid}
use Rattle.jg_words.specs.declared.thread.EnvId.{EnvId}
use Rattle.jg_words.specs.declared.call.Call.{Call}
use Rattle.jg_words.specs.declared.entry.Outcome.{Outcome}
use Rattle.jg_words.specs.Entry.{Entry}
use Rattle.jg_blocks.specs.Seen.{Kept}
use Rattle.jg_policy.specs.Stated.{StatedSetup}
use Rattle.jg_rules.specs.Parts.{TableRows, TablesStand}
use Rattle.jg_rules.specs.Effects.{parts}
use Rattle.jg_rules.specs.Legal.{Legal, entry_at}

-- what its setup states, the journal's limit, the journal with its newest entry first, and for how many entries more
-- there is room without more memory
pub record State : Type 0 where
  pub setup : StatedSetup
  pub limit : ℕ
  pub journal : List Entry
  pub spare : ℕ

-- what contracts see of a guard that keeps this, its newest entry last
abbrev pub state_of : StatedSetup → ℕ → Kept Entry → State
state_of setup limit journal = record {
  setup = setup;
  limit = limit;
  journal = reverse journal.items;
  spare = journal.spare;
}

-- the entry that the call has next
abbrev pub next_entry : State → Tid → Option EnvId → Call → Entry
next_entry state t env call = entry_at state.setup (parts state.setup state.journal) t env call

-- nothing is changed but perhaps the room
pub record Unchanged (old new : State) : Type 0 where
  pub setup : new.setup ≡ old.setup
  pub limit : new.limit ≡ old.limit
  pub journal : new.journal ≡ old.journal

-- what every guard keeps: its journal is a legal history within its limit, and the tables stand for it
pub record IsSound (state : State) (rows : TableRows) : Type 0 where
  pub legal : Legal state.setup state.journal
  pub small : state.limit < 2 ^ 32
  pub bounded : length state.journal ≤ state.limit
  pub tables : TablesStand state.setup rows (parts state.setup state.journal)

-- the guard took one call more: the journal has its entry in front, which is denied by the first broken rule or passed
-- with the answer; that outcome was answered, and the journal is legal
pub record Takes (old new : State) (t : Tid) (env : Option EnvId) (call : Call) (outcome : Outcome) : Type 0 where
  pub setup : new.setup ≡ old.setup
  pub limit : new.limit ≡ old.limit
  pub journal : new.journal ≡ next_entry old t env call ∷ old.journal
  pub answered : outcome ≡ (next_entry old t env call).outcome
  pub legal : Legal new.setup new.journal
