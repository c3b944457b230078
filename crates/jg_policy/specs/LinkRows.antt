-- The rows that the table of links keeps.
use Rattle.std.specs.Prelude.{ℕ, ◌+◌, Bool, ◌==◌, ◌&&◌, if◌then◌else◌, List, ◌∷◌}

-- a linked native method
pub record LinkRow : Type 0 where
  pub class : ℕ
  pub native : ℕ

pub record Rows : Type 0 where
  pub linked : List LinkRow
  pub warned : List ℕ

-- the rows, and for how many more links and warnings there is room
pub record Table : Type 0 where
  pub rows : Rows
  pub spare_links : ℕ
  pub spare_warnings : ℕ

-- the row is that of the method
abbrev pub is_link : ℕ → ℕ → LinkRow → Bool
is_link class native row = class == row.class && native == row.native
