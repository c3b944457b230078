-- What the fields of the table of links stand for.
use Rattle.std.specs.Prelude.{◌≡◌, ℕ, ◌≤◌, ◌==◌, ◌&&◌, Bool, true, List, Option, Some, None}
use Rattle.std.specs.List.{list_any}
use Rattle.std.specs.Map.{lookup}
use Rattle.jg_policy.specs.declared.links.Link.{Link}
use Rattle.jg_policy.specs.LinkRows.{LinkRow}

abbrev pub link_view : Link → LinkRow
link_view k = record { class = k.class; native = k.native }

abbrev pub same_link : Link → Link → Bool
same_link q k = q.class == k.class && q.native == k.native

-- the greatest number that is kept for the class
abbrev pub greatest_of : ℕ → List (ℕ × ℕ) → Option ℕ
greatest_of class entries = lookup (λ c. class == c) entries

abbrev pub IsUpTo : ℕ → Option ℕ → Type 0
IsUpTo n None = ⊥
IsUpTo n (Some most) = n ≤ most

-- each link's number is at most the one that is kept for its class
abbrev pub AreUpTo : List Link → List (ℕ × ℕ) → Type 0
AreUpTo links entries = (q : Link) → list_any (same_link q) links ≡ true → IsUpTo q.native (greatest_of q.class entries)
