-- As what an object is made.
use Rattle.std.specs.Prelude.{ℕ, pos, ◌≤◌, ◌<◌, ◌^◌, ◌≡◌, List, [], length, slice_index_or}
use Rattle.jg_words.specs.Classes.{array_class}
use Rattle.jg_table_heap.specs.declared.object.Slot.{Slot}
use Rattle.jg_table_heap.specs.declared.object.Slot.TheVariants.{Number, Object}
use Rattle.jg_table_heap.specs.declared.object.Shape.{Shape}
use Rattle.jg_table_heap.specs.declared.object.Shape.TheVariants.{Plain as PlainShape, Text as TextShape, Numbers, Objects}

-- with these fields, of these UTF-16 units, or as an array of so many equal items; or an object of which the class and
-- the length alone are known, so that it counts as holding nothing
pub data Making : Type 0 where
  Plain : (class : ℕ) → (fields : List Slot) → Making
  Text : (units : List ℕ) → Making
  Filled : (class : ℕ) → (length : ℕ) → (item : Slot) → Making
  Opaque : (class : ℕ) → (length : ℕ) → Making

-- its class, by its number; 2 is java/lang/String
abbrev pub class_in : Making → ℕ
class_in (Plain class fields) = class
class_in (Text units) = 2
class_in (Filled class n item) = class
class_in (Opaque class n) = class

-- a string's units
abbrev pub units_in : Making → List ℕ
units_in (Plain class fields) = []
units_in (Text units) = units
units_in (Filled class n item) = []
units_in (Opaque class n) = []

-- how many fields, units or items it has
abbrev pub length_in : Making → ℕ
length_in (Plain class fields) = length fields
length_in (Text units) = length units
length_in (Filled class n item) = n
length_in (Opaque class n) = n

-- how many slots it has: each field and each item of an array is one, a string has none
abbrev pub slots_in : Making → ℕ
slots_in (Plain class fields) = length fields
slots_in (Text units) = 0
slots_in (Filled class n item) = n
slots_in (Opaque class n) = n

-- what a slot holds at the making
abbrev pub slot_in : Making → ℕ → Slot
slot_in (Plain class fields) j = slice_index_or fields j (Number (pos 0))
slot_in (Text units) j = Number (pos 0)
slot_in (Filled class n item) j = item
slot_in (Opaque class n) j = Number (pos 0)

-- what the shape makes
abbrev pub making_of : {A : Type 0} → Shape A → Making
making_of (PlainShape class fields) = Plain class fields.items
making_of (TextShape units) = Text units.items
making_of (Numbers element n) = Filled (array_class element) n (Number (pos 0))
making_of (Objects n first) = Filled 3 n (Object first)

-- the class's objects have fields: it is neither the strings' class nor one of the arrays', which are 2 to 9
abbrev pub HasFields : ℕ → Type 0
HasFields class = 2 ≤ class → 10 ≤ class

-- 3 is [Ljava/lang/Object;, the class of all arrays of references
abbrev pub IsArrayClass : ℕ → Type 0
IsArrayClass class = (3 ≤ class) × (class ≤ 9)

-- the class of an array of a primitive type
abbrev pub IsPrimitiveArray : ℕ → Type 0
IsPrimitiveArray class = (4 ≤ class) × (class ≤ 9)

-- an array of this class has items of the value's sort
abbrev pub TakesItem : ℕ → Slot → Type 0
TakesItem class (Number v) = IsPrimitiveArray class
TakesItem class (Object target) = class ≡ 3

-- a plain object is of a class whose objects have fields, and a string's spelling has a length below 2 ^ 63
abbrev pub CanMake : {A : Type 0} → Shape A → Type 0
CanMake (PlainShape class fields) = HasFields class
CanMake (TextShape units) = length units.items < 2 ^ 61
CanMake (Numbers element n) = Unit {0}
CanMake (Objects n first) = Unit {0}
