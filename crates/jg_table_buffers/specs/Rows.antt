-- The rows that the table keeps.
use Rattle.std.specs.Prelude.{◌≡◌, ℕ, ℤ, ◌<◌, Bool, if◌then◌else◌, List, [], find, All, Option, Some, None}
use Rattle.std.specs.Option.{option_map}
use Rattle.jg_words.specs.declared.buffer.BufId.{BufId}
use Rattle.jg_table_buffers.specs.History.{Buffer, is_same, is_critical, info_of}

-- the open buffers, each with its items as they are now
pub record Rows : Type 0 where
  pub lent : List Buffer

-- the buffer as native code names it
abbrev pub name_of : Buffer → BufId
name_of row = record { maker = record { 0 = row.maker }; n = row.n }

abbrev pub is_buffer : ℕ → ℕ → Buffer → Bool
is_buffer maker n row = is_same maker n row.maker row.n

-- the row of the buffer, if it is open
abbrev pub row_of : ℕ → ℕ → Rows → Option Buffer
row_of maker n rows = find (is_buffer maker n) rows.lent

-- the length of an open copy; 0 where there is none
abbrev pub copy_length : Option Buffer → ℕ
copy_length None = 0
copy_length (Some row) = if is_critical row.family then 0 else row.length

abbrev pub items_in : Option Buffer → List ℤ
items_in None = []
items_in (Some row) = row.items

-- the same buffers are open, each with the object, the family, the reference and the length that it had
pub record KeepsBuffers (old new : Rows) : Type 0 where
  pub info : (m i : ℕ) → option_map info_of (row_of m i new) ≡ option_map info_of (row_of m i old)
  pub len : (m i : ℕ) → copy_length (row_of m i new) ≡ copy_length (row_of m i old)

-- the number is above each number of that maker in the rows
abbrev pub IsAbove : ℕ → ℕ → Rows → Type 0
IsAbove maker n rows = All (λ row. row.maker ≡ maker → row.n < n) rows.lent

-- no number was added
abbrev pub KeepsNumbers : Rows → Rows → Type 0
KeepsNumbers old new = (k i : ℕ) → IsAbove k i old → IsAbove k i new

-- no number but this one of that maker was added
abbrev pub AddsNumber : ℕ → ℕ → Rows → Rows → Type 0
AddsNumber maker n old new = (k i : ℕ) → IsAbove k i old → (k ≡ maker → n < i) → IsAbove k i new
