-- How the functions stand in a table by their names.
use Rattle.std.specs.Prelude.{ℕ, ◌+◌, ◌*◌, ◌/◌, ◌%◌, ◌<◌, ◌≡◌, List, [], ◌∷◌, slice_get, slice_index, option_map}
use Rattle.std.specs.Option.{unwrap_or}
use Rattle.jg_rows.specs.Table.{functions}

-- the name of the function at this place of the table; past its end there is none, and no bytes
abbrev pub name_at : ℕ → List ℕ
name_at place = unwrap_or (option_map (λ row. row.name) (slice_get functions place)) []

-- the number of a name, of which this much was read
abbrev pub name_number : ℕ → List ℕ → ℕ
name_number n [] = n
name_number n (byte ∷ text) = name_number ((n * 51 + byte) % 65536) text

-- the slot of a number, moved by the shift of its remainder
abbrev pub slot_of : List ℕ → ℕ → ℕ
slot_of shifts n = (n / 64 + slice_index shifts (n % 64)) % 256

-- tables in which each function's place stands in the slot of its name
pub record IsByName (shifts places : List ℕ) : Type 0 where
  pub stands : (place : ℕ) → place < 243 → slice_index places (slot_of shifts (name_number 0 (name_at place))) ≡ place
