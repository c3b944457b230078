-- How large the counts are that events give. No public contract stands on this.
use Rattle.std.specs.Prelude.{ℕ, ◌+◌, ◌≤◌, Bool, true, false}
use Rattle.jg_table_threads.specs.History as threads
use Rattle.jg_table_locals.specs.History as locals
use Rattle.jg_table_monitors.specs.History as monitors
use Rattle.jg_table_heap.specs.History as heap
use Rattle.jg_rules.specs.Parts.{Parts}

-- the act raises a count of its thread
abbrev pub raises_count : threads.Act → Bool
raises_count threads.Attach = true
raises_count threads.Enter = true
raises_count threads.CountRef = true
raises_count threads.CountBuffer = true
raises_count a = false

-- each thread did at most n acts of each sort that raise a count, and at most n objects were met beside k class objects
pub record AreFew (k n : ℕ) (p : Parts) : Type 0 where
  pub threads : (t : ℕ) → threads.how_many raises_count (threads.acts_of t p.threads) ≤ n
  pub locals : (t : ℕ) → locals.how_many locals.is_push (locals.acts_of t p.locals) ≤ n
  pub monitors : (t o : ℕ) → monitors.how_many (monitors.enters o) (monitors.acts_of t p.monitors) ≤ n
  pub heap : heap.count_of k p.heap ≤ k + n
