-- The rows of the objects that the store keeps, and what a call does to one row.
use Rattle.std.specs.Prelude.{ℕ, ◌≡◌, ◌≤◌, ◌==◌, All, Bool, true, false, not, ◌&&◌, ◌||◌, List, [], ◌∷◌, ◌+◌, ◌-◌, ◌++◌, length, take, drop, flat_map, map, filter, slice_set, slice_index_or}
use Rattle.std.specs.List.{list_any, range_with_len}
use Rattle.jg_table_heap.specs.declared.object.Slot.{Slot}
use Rattle.jg_table_heap.specs.declared.object.Slot.TheVariants.{Number, Object as ToObject}
use Rattle.jg_table_heap.specs.declared.body.Body.{Body}
use Rattle.jg_table_heap.specs.declared.body.Body.TheVariants.{Class, Fields, Units, Numbers, References}
use Rattle.jg_words.specs.Classes.{array_class}
use Rattle.jg_table_heap.specs.History.{holds}
use Rattle.jg_table_heap.specs.Rows.{Row, row_in}

-- the class of what has this body, a string's units, and what the slots of any other hold
abbrev pub class_of_body : {A : Type 0} → Body A → ℕ
class_of_body Class = 1
class_of_body (Fields instance) = instance.class
class_of_body (Units text) = 2
class_of_body (Numbers element items) = array_class element
class_of_body (References items) = 3

abbrev pub units_of_body : {A : Type 0} → Body A → List ℕ
units_of_body Class = []
units_of_body (Fields instance) = []
units_of_body (Units text) = text.units.items
units_of_body (Numbers element items) = []
units_of_body (References items) = []

abbrev pub slots_of_body : {A : Type 0} → Body A → List Slot
slots_of_body Class = []
slots_of_body (Fields instance) = instance.slots.items
slots_of_body (Units text) = []
slots_of_body (Numbers element items) = map Number items.items
slots_of_body (References items) = map ToObject items.items

-- its slots may hold objects
abbrev pub body_may_point : {A : Type 0} → Body A → Bool
body_may_point Class = false
body_may_point (Fields instance) = true
body_may_point (Units text) = false
body_may_point (Numbers element items) = false
body_may_point (References items) = true

-- an object: what it holds, and whether it is gone
pub record Object (A : Type 0) : Type 0 where
  pub body : Body A
  pub gone : Bool

-- the objects that hold these, of which those are in being that the list says
abbrev pub objects_of : {A : Type 0} → List (Body A) → List Bool → List (Object A)
objects_of [] there = []
objects_of (body ∷ bodies) [] = []
objects_of (body ∷ bodies) (is ∷ there) = record { body = body; gone = not is } ∷ objects_of bodies there

abbrev pub may_point : {A : Type 0} → Object A → Bool
may_point x = body_may_point x.body

-- the row of an object
abbrev pub row_of : {A : Type 0} → Object A → Row
row_of x = record {
  class = class_of_body x.body;
  units = units_of_body x.body;
  slots = slots_of_body x.body;
  gone = x.gone;
}

-- the row of an object that holds this and isn't gone
abbrev pub row_of_body : {A : Type 0} → Body A → Row
row_of_body body = row_of (record { body = body; gone = false })

-- the row with a slot written
abbrev pub with_slot : Row → ℕ → Slot → Row
with_slot row j v = record row { slots = slice_set row.slots j v }

-- the list with these values in place of its own, from an index on
abbrev pub overwritten : {X : Type 0} → List X → ℕ → List X → List X
overwritten xs j vs = take j xs ++ vs ++ drop (j + length vs) xs

-- it isn't gone and has a slot that holds o
abbrev pub row_points_at : ℕ → Row → Bool
row_points_at o row = not row.gone && list_any (holds o) row.slots

-- some slot of the row of p holds o
abbrev pub slot_of_row_holds : List Row → ℕ → ℕ → Bool
slot_of_row_holds rows o p = list_any (holds o) (row_in rows p).slots

-- what a collection makes of a row that it finds marked or not
abbrev pub swept_row : Bool → Row → Row
swept_row marked row = record row { gone = row.gone || not marked }

-- the row of an object that goes or not
abbrev pub ended_row : Bool → Row → Row
ended_row goes row = record row { gone = row.gone || goes }

-- the object isn't gone
abbrev pub is_there : List Row → ℕ → Bool
is_there rows o = not (row_in rows o).gone

-- the numbers of the objects that aren't gone, ascending
abbrev pub live_in : List Row → List ℕ
live_in rows = filter (is_there rows) (range_with_len 0 (length rows))

-- the object isn't gone
abbrev pub in_being : {A : Type 0} → Object A → Bool
in_being x = not x.gone

-- it is in being, as a list of them says, and its mark isn't set
abbrev pub unheld_in : List Bool → List Bool → ℕ → Bool
unheld_in there marks o = slice_index_or there o false && not (slice_index_or marks o false)

-- of these objects those that aren't held are no more in being, as lists say which are
abbrev pub LetsGo : (ℕ → Bool) → List ℕ → List Bool → List Bool → Type 0
LetsGo is_held objects old new = (o : ℕ) → slice_index_or new o false
    ≡ (slice_index_or old o false && not (list_any (λ p. p == o) objects && not (is_held o)))

-- its mark is set, or the roots hold it
abbrev pub marked_or_root : List Bool → (ℕ → Bool) → ℕ → Bool
marked_or_root marks is_root o = slice_index_or marks o false || is_root o

-- how many are true
abbrev pub trues : List Bool → ℕ
trues flags = length (filter (λ flag. flag) flags)

-- the numbers of a block's objects, 32 in a row
unfoldable pub block_of : ℕ → List ℕ
block_of first = range_with_len first 32

-- the numbers of the objects of these blocks, and of those from `loose` on, of n in all
abbrev pub numbers_in : List ℕ → ℕ → ℕ → List ℕ
numbers_in blocks loose n = flat_map block_of blocks ++ range_with_len loose (n - loose)

-- the first n objects have all those of each block among them
abbrev pub AreWhole : List ℕ → ℕ → Type 0
AreWhole blocks n = All (λ b. b + 32 ≤ n) blocks

-- the slots of the object of this number may hold objects
abbrev pub may_point_at : {A : Type 0} → List (Object A) → ℕ → Bool
may_point_at objects o = slice_index_or (map may_point objects) o false

-- what the store keeps beside the objects: which aren't gone, where all of these stand, and which of these may point at
-- others
pub record Keeps {A : Type 0} (objects : List (Object A)) (there : List Bool) (blocks : List ℕ) (loose : ℕ)
    (pointers : List ℕ) : Type 0 where
  pub flags : there ≡ map in_being objects
  pub whole : AreWhole blocks (length there)
  pub order : loose ≤ length there
  pub live : filter (λ o. slice_index_or there o false) (numbers_in blocks loose (length there))
      ≡ live_in (map row_of objects)
  pub pointing : pointers ≡ filter (may_point_at objects) (live_in (map row_of objects))

-- the same of the lists as they are kept: what each object holds, and whether it is in being
pub record Stored {A : Type 0} (bodies : List (Body A)) (there : List Bool) (blocks : List ℕ) (loose : ℕ)
    (pointers : List ℕ) : Type 0 where
  pub same : length there ≡ length bodies
  pub keeps : Keeps (objects_of bodies there) there blocks loose pointers
