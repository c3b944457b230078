-- When rows stand for a list of events.
use Rattle.std.specs.Prelude.{◌≡◌, ℕ, ◌==◌, if◌then◌else◌, List}
use Rattle.jg_lists.specs.Acts.{how_many, once_if}
use Rattle.jg_policy.specs.Links.{Event, linked, warned}
use Rattle.jg_policy.specs.LinkRows.{Rows, is_link}

-- there is one row for each linked method and each warned module, and no other
pub record Stands (rows : Rows) (e : List Event) : Type 0 where
  pub linked : (class native : ℕ) → how_many (is_link class native) rows.linked ≡ once_if (linked e class native)
  pub warned : (home : ℕ) → how_many (λ m. home == m) rows.warned ≡ once_if (warned e home)
