-- What is found by number, and for threads by the thread's number.
use Rattle.std.specs.Prelude.{ℕ, List, Option}
use Rattle.std.specs.List.{IsDistinct}
use Rattle.std.specs.Map.{lookup, keys_of}
use Rattle.std.specs.BTreeMap.{is_at}
use Rattle.std.specs.Ordering.{nat_cmp, eq_by_cmp}

-- the number's value, if it has one
abbrev pub at : {V : Type 0} → ℕ → List (ℕ × V) → Option V
at n es = lookup (is_at (nat_cmp n)) es

-- no number has two values
abbrev pub IsOnce : {V : Type 0} → List (ℕ × V) → Type 0
IsOnce es = IsDistinct (eq_by_cmp nat_cmp) (keys_of es)
