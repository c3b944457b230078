-- How much there was at most at once, after any of a history's entries.
use Rattle.std.specs.Prelude.{ℕ, ◌≡◌, ◌≤◌, List, ◌++◌, length, max}
use Rattle.jg_words.specs.declared.buffer.BufId.{BufId}
use Rattle.jg_words.specs.declared.reference.Ref.{Ref}
use Rattle.jg_words.specs.Entry.{Entry}
use Rattle.jg_policy.specs.Stated.{StatedSetup, class_count}
use Rattle.jg_table_heap.specs.History.{others_in_being}
use Rattle.jg_rules.specs.Parts.{Parts}
use Rattle.jg_rules.specs.Effects.{parts}
use Rattle.jg_guard.specs.declared.peaks.Peaks.{Peaks}
use Rattle.jg_leaks.specs.Left.{ListsRefs, ListsBuffers}

-- so many references live: local, global and weak ones, of all threads
abbrev pub CountsRefs : Parts → ℕ → Type 0
CountsRefs p n = (refs : List Ref) × ListsRefs p refs × (length refs ≡ n)

-- so many objects are in being, but for the class objects
abbrev pub CountsObjects : StatedSetup → Parts → ℕ → Type 0
CountsObjects s p n = n ≡ length (others_in_being (class_count s) p.heap)

-- so many buffers are open
abbrev pub CountsBuffers : Parts → ℕ → Type 0
CountsBuffers p n = (lent : List BufId) × ListsBuffers p lent × (length lent ≡ n)

-- so many were counted after some of the first entries, and no more after any
pub record IsMost (Counts : Parts → ℕ → Type 0) (s : StatedSetup) (h : List Entry) (n : ℕ) : Type 0 where
  pub later : List Entry
  pub before : List Entry
  pub whole : h ≡ later ++ before
  pub reached : Counts (parts s before) n
  pub most : (newer older : List Entry) (m : ℕ) → h ≡ newer ++ older → Counts (parts s older) m → m ≤ n

-- so much there is after the entries
pub record IsNow (s : StatedSetup) (h : List Entry) (now : Peaks) : Type 0 where
  pub references : CountsRefs (parts s h) now.references
  pub objects : CountsObjects s (parts s h) now.objects
  pub buffers : CountsBuffers (parts s h) now.buffers

abbrev pub raised : Peaks → Peaks → Peaks
raised peaks now = record {
  references = max peaks.references now.references;
  objects = max peaks.objects now.objects;
  buffers = max peaks.buffers now.buffers;
}

-- the most of each
pub record ArePeaks (s : StatedSetup) (h : List Entry) (peaks : Peaks) : Type 0 where
  pub references : IsMost CountsRefs s h peaks.references
  pub objects : IsMost (CountsObjects s) s h peaks.objects
  pub buffers : IsMost CountsBuffers s h peaks.buffers
