-- The objects whose monitors each thread owns, and how they agree with the owners by object.
use Rattle.std.specs.Prelude.{ℕ, ◌≡◌, Bool, false, nat_eq, ◌==◌, ◌&&◌, if◌then◌else◌, List, Option, Some, None}
use Rattle.std.specs.List.{list_any}
use Rattle.std.specs.HashSet.{HashSet, contains}
use Rattle.jg_lists.specs.ByThread.{at}
use Rattle.jg_table_monitors.specs.declared.owned.Owned.{Owned}

abbrev pub same_pair : ℕ × ℕ → ℕ × ℕ → Bool
same_pair x y = (x.0 == y.0) && (x.1 == y.1)

abbrev pub holds : {S : Type 0} → Option (HashSet ℕ S) → ℕ → Bool
holds None o = false
holds (Some objects) o = contains nat_eq objects o

-- the thread holds the object
unfoldable pub has : {S : Type 0} → List (ℕ × HashSet ℕ S) → ℕ × ℕ → Bool
has held q = holds (at q.0 held) q.1

-- what is kept of the object once these are free
abbrev pub freed : List ℕ → ℕ → Option Owned → Option Owned
freed objects o kept = if list_any (λ k. k == o) objects then None else kept

abbrev pub is_owned_by : ℕ → Option Owned → Bool
is_owned_by t None = false
is_owned_by t (Some w) = w.tid == t

-- each thread holds what it owns
abbrev pub Agree : {S : Type 0} → List (ℕ × Owned) → List (ℕ × HashSet ℕ S) → Type 0
Agree owned held = (t o : ℕ) → has held (t, o) ≡ is_owned_by t (at o owned)
