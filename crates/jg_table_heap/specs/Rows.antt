-- The rows that the store keeps.
use Rattle.std.specs.Prelude.{ℕ, pos, ◌≡◌, ◌+◌, Bool, false, List, [], length, replicate, slice_index_or}
use Rattle.jg_table_heap.specs.declared.object.Slot.{Slot}
use Rattle.jg_table_heap.specs.declared.object.Slot.TheVariants.{Number}
use Rattle.jg_table_heap.specs.Making.{Making, Plain, Text, Filled, Opaque, class_in, units_in}

-- an object: its class, a string's units, what the slots of any other hold, and whether it is gone
pub record Row : Type 0 where
  pub class : ℕ
  pub units : List ℕ
  pub slots : List Slot
  pub gone : Bool

-- the objects by their numbers, the class objects first, of which there are so many
pub record Rows : Type 0 where
  pub classes : ℕ
  pub objects : List Row

-- a row past the end
abbrev pub no_row : Row
no_row = record { class = 0; units = []; slots = []; gone = false }

abbrev pub row_in : List Row → ℕ → Row
row_in rows o = slice_index_or rows o no_row

-- the slots at the making
abbrev pub first_slots : Making → List Slot
first_slots (Plain class fields) = fields
first_slots (Text units) = []
first_slots (Filled class n item) = replicate n item
first_slots (Opaque class n) = replicate n (Number (pos 0))

-- the row of an object as it is made
abbrev pub row_of_making : Making → Row
row_of_making m = record { class = class_in m; units = units_in m; slots = first_slots m; gone = false }

-- the rows of so many class objects, which are plain objects of class 1 without fields
abbrev pub class_rows : ℕ → List Row
class_rows k = replicate k (row_of_making (Plain 1 []))

-- how many objects there are
abbrev pub count_in : Rows → ℕ
count_in rows = length rows.objects

-- the class of an object
abbrev pub class_at : Rows → ℕ → ℕ
class_at rows o = (row_in rows.objects o).class

-- a string's units; any other object has none
abbrev pub units_at : Rows → ℕ → List ℕ
units_at rows o = (row_in rows.objects o).units

-- what a slot holds
abbrev pub slot_at : Rows → ℕ → ℕ → Slot
slot_at rows o j = slice_index_or (row_in rows.objects o).slots j (Number (pos 0))

-- whether it is gone
abbrev pub gone_in : Rows → ℕ → Bool
gone_in rows o = (row_in rows.objects o).gone

-- how many units, fields or items it has: a string has units alone, any other slots alone
abbrev pub length_at : Rows → ℕ → ℕ
length_at rows o = length (row_in rows.objects o).units + length (row_in rows.objects o).slots

-- the same objects, each of the class and the length that it had
pub record KeepsShapes (before after : Rows) : Type 0 where
  pub count : count_in after ≡ count_in before
  pub class : (o : ℕ) → class_at after o ≡ class_at before o
  pub len : (o : ℕ) → length_at after o ≡ length_at before o
