-- The rows against the history.
use Rattle.std.proofs.Common.{ℕ, pos, ◌≡◌, ◌≢◌, subst, ◌+◌, ◌<◌, ◌∙◌, sym, ap, refl, List, length, map, get_or, arith}
use Rattle.std.specs.List.{range_with_len}
use Rattle.std.proofs.lemmas.List.FromFn.{length-map-range_with_len, get_or-map-range_with_len}
use Rattle.std.proofs.lemmas.List.{get_or-map, length-map}
use Rattle.std.proofs.lemmas.Option.{slice_get_within, get_or_from_slice_get}
use Rattle.std.specs.Prelude.{slice_get, Some}
use Rattle.jg_table_heap.specs.declared.body.Body.{Body}
use Rattle.jg_table_heap.specs.declared.body.Body.TheVariants.{Class, Fields, Units, Numbers, References}
use Rattle.jg_table_heap.specs.declared.object.Slot.{Slot}
use Rattle.jg_table_heap.specs.declared.object.Slot.TheVariants.{Number}
use Rattle.jg_words.specs.declared.object.Primitive.{Primitive}
use Rattle.jg_words.specs.declared.object.Primitive.TheVariants.{Boolean, Byte, Char, Short, Int, Long}
use Rattle.jg_table_heap.specs.Making.{Making, Plain, Text, Filled, Opaque, class_in, units_in, length_in, slots_in}
use Rattle.jg_words.specs.Classes.{array_class}
use Rattle.jg_table_heap.specs.Rows.{Row, Rows, row_in, no_row, count_in, class_at, length_at, units_at}
use Rattle.jg_table_heap.specs.Kept.{Object, row_of, class_of_body, units_of_body, slots_of_body}
use Rattle.jg_table_heap.specs.History.{Event, count_of, making_at, value_at, gone_at}
use Rattle.jg_table_heap.specs.Standing.{Stands, standing, row_at, slots_at}

pub length-standing : (k : ℕ) (e : List Event) → length (standing k e) ≡ count_of k e
unfolding standing
length-standing k e = length-map-range_with_len (row_at k e) 0 (count_of k e)

pub row_in-standing : (k : ℕ) (e : List Event) (o : ℕ) → o < count_of k e → row_in (standing k e) o ≡ row_at k e o
unfolding standing
row_in-standing k e o h = get_or-map-range_with_len (row_at k e) 0 (count_of k e) o o no_row h (omega arith)

class-row_at : (k : ℕ) (e : List Event) (o : ℕ) → (row_at k e o).class ≡ class_in (making_at k e o)
unfolding row_at
class-row_at k e o = refl

units-row_at : (k : ℕ) (e : List Event) (o : ℕ) → (row_at k e o).units ≡ units_in (making_at k e o)
unfolding row_at
units-row_at k e o = refl

pub gone-row_at : (k : ℕ) (e : List Event) (o : ℕ) → (row_at k e o).gone ≡ gone_at k e o
unfolding row_at
gone-row_at k e o = refl

pub slots-row_at : (k : ℕ) (e : List Event) (o : ℕ) → (row_at k e o).slots ≡ slots_at k e o
unfolding row_at
slots-row_at k e o = refl

pub length-slots_at : (k : ℕ) (e : List Event) (o : ℕ) → length (slots_at k e o) ≡ slots_in (making_at k e o)
unfolding slots_at
length-slots_at k e o = length-map-range_with_len (value_at k e o) 0 (slots_in (making_at k e o))

pub get_or-slots_at : (k : ℕ) (e : List Event) (o j : ℕ) (d : Slot) → j < slots_in (making_at k e o) → get_or (slots_at k e o) j d ≡ value_at k e o j
unfolding slots_at
get_or-slots_at k e o j d h = get_or-map-range_with_len (value_at k e o) 0 (slots_in (making_at k e o)) j j d h (omega arith)

-- a string has units alone, any other object slots alone
units_or_slots : (m : Making) → length (units_in m) + slots_in m ≡ length_in m
units_or_slots (Plain class fields) = omega arith
units_or_slots (Text units) = omega arith
units_or_slots (Filled class n item) = omega arith
units_or_slots (Opaque class n) = omega arith

-- ---- what the rows say of an object, against the history

pub count_stands : (rows : Rows) (e : List Event) → Stands rows e → count_in rows ≡ count_of rows.classes e
count_stands rows e stands = ap length stands ∙ length-standing rows.classes e

pub row_stands : (rows : Rows) (e : List Event) (o : ℕ) → Stands rows e → o < count_in rows → row_in rows.objects o ≡ row_at rows.classes e o
row_stands rows e o stands made =
    let n : count_in rows ≡ count_of rows.classes e = count_stands rows e stands in
    ap (λ (r : List Row). row_in r o) stands ∙ row_in-standing rows.classes e o (omega arith)

pub class_stands : (rows : Rows) (e : List Event) (o : ℕ) → Stands rows e → o < count_in rows → class_at rows o ≡ class_in (making_at rows.classes e o)
class_stands rows e o stands made = ap (λ (r : Row). r.class) (row_stands rows e o stands made) ∙ class-row_at rows.classes e o

pub units_stand : (rows : Rows) (e : List Event) (o : ℕ) → Stands rows e → o < count_in rows
    → (row_in rows.objects o).units ≡ units_in (making_at rows.classes e o)
units_stand rows e o stands made = ap (λ (r : Row). r.units) (row_stands rows e o stands made) ∙ units-row_at rows.classes e o

pub slots_stand : (rows : Rows) (e : List Event) (o : ℕ) → Stands rows e → o < count_in rows → (row_in rows.objects o).slots ≡ slots_at rows.classes e o
slots_stand rows e o stands made = ap (λ (r : Row). r.slots) (row_stands rows e o stands made) ∙ slots-row_at rows.classes e o

pub gone_stands : (rows : Rows) (e : List Event) (o : ℕ) → Stands rows e → o < count_in rows → (row_in rows.objects o).gone ≡ gone_at rows.classes e o
gone_stands rows e o stands made = ap (λ (r : Row). r.gone) (row_stands rows e o stands made) ∙ gone-row_at rows.classes e o

pub length_stands : (rows : Rows) (e : List Event) (o : ℕ) → Stands rows e → o < count_in rows → length_at rows o ≡ length_in (making_at rows.classes e o)
length_stands rows e o stands made =
    let u : length (row_in rows.objects o).units ≡ length (units_in (making_at rows.classes e o)) = ap length (units_stand rows e o stands made) in
    let s : length (row_in rows.objects o).slots ≡ slots_in (making_at rows.classes e o) =
    ap length (slots_stand rows e o stands made) ∙ length-slots_at rows.classes e o in
    omega (arith, units_or_slots (making_at rows.classes e o))

-- ---- the objects that the store keeps, against its rows

-- the row of an object that was read at an index
pub kept : {A : Type 0} (items : List (Object A)) (objects : List Row) (o : ℕ) (x : Object A) → map row_of items ≡ objects → o < length objects
    → x ≡ get_or items o x → row_of x ≡ row_in objects o
kept items objects o x view inside is =
    let n : length (map row_of items) ≡ length items = length-map items row_of in
    let m : length (map row_of items) ≡ length objects = ap length view in
    ap row_of is ∙ sym (get_or-map row_of items o x no_row (omega arith)) ∙ ap (λ (r : List Row). row_in r o) view

-- what was read in a slot is its value
pub value_stands : (rows : Rows) (e : List Event) (o j : ℕ) (v : Slot) → Stands rows e → o < count_in rows → slice_get (row_in rows.objects o).slots j ≡ Some v
    → v ≡ value_at rows.classes e o j
value_stands rows e o j v stands made read =
    let slots : List Slot = slots_at rows.classes e o in
    let here : slice_get slots j ≡ Some v = ap (λ (xs : List Slot). slice_get xs j) (sym (slots_stand rows e o stands made)) ∙ read in
    let within : j < length slots = slice_get_within slots j v here in
    sym (get_or_from_slice_get slots j v v here) ∙ get_or-slots_at rows.classes e o j v (omega (arith, length-slots_at rows.classes e o))

-- all slots of an array, as its length says
pub slots_by_length : (rows : Rows) (e : List Event) (o : ℕ) → Stands rows e → o < count_in rows → class_at rows o ≢ 2
    → (row_in rows.objects o).slots ≡ map (value_at rows.classes e o) (range_with_len 0 (length_in (making_at rows.classes e o)))
unfolding slots_at
slots_by_length rows e o stands made other =
    slots_stand rows e o stands made ∙ ap (λ n. map (value_at rows.classes e o) (range_with_len 0 n))
    (slots_all (making_at rows.classes e o) (λ same. other (class_stands rows e o stands made ∙ same)))
  where
    slots_all : (m : Making) → class_in m ≢ 2 → slots_in m ≡ length_in m
    slots_all (Plain class fields) h = refl
    slots_all (Text units) h = absurd (h refl)
    slots_all (Filled class n item) h = refl
    slots_all (Opaque class n) h = refl

slots_of_other : {A : Type 0} (body : Body A) (j : ℕ) → class_of_body body ≢ 2 → j < length (units_of_body body) + length (slots_of_body body)
    → j < length (slots_of_body body)
slots_of_other Class j h l = omega arith
slots_of_other (Fields instance) j h l = omega arith
slots_of_other (Units units) j h l = absurd (h refl)
slots_of_other (Numbers element items) j h l = omega arith
slots_of_other (References items) j h l = omega arith

-- an index below the length is that of a slot
pub slots_within : {A : Type 0} (rows : Rows) (o j : ℕ) (x : Object A) → row_of x ≡ row_in rows.objects o → class_at rows o ≢ 2 → j < length_at rows o
    → j < length (row_in rows.objects o).slots
slots_within rows o j x is =
    let P : Row → Type 0 = λ (r : Row). r.class ≢ 2 → j < length r.units + length r.slots → j < length r.slots in
    subst P is (slots_of_other x.body j)

length_of_other : {A : Type 0} (body : Body A) → class_of_body body ≢ 2
    → length (units_of_body body) + length (slots_of_body body) ≡ length (slots_of_body body)
length_of_other Class h = refl
length_of_other (Fields instance) h = omega arith
length_of_other (Units units) h = absurd (h refl)
length_of_other (Numbers element items) h = omega arith
length_of_other (References items) h = omega arith

-- what isn't a string has as many slots as its length says
pub length_of_slots : {A : Type 0} (rows : Rows) (o : ℕ) (x : Object A) → row_of x ≡ row_in rows.objects o → class_at rows o ≢ 2
    → length_at rows o ≡ length (row_in rows.objects o).slots
length_of_slots rows o x is =
    let P : Row → Type 0 = λ (r : Row). r.class ≢ 2 → length r.units + length r.slots ≡ length r.slots in
    subst P is (length_of_other x.body)

no_text_class : (element : Primitive) → array_class element ≡ 2 → ⊥
no_text_class Boolean h = omega arith
no_text_class Byte h = omega arith
no_text_class Char h = omega arith
no_text_class Short h = omega arith
no_text_class Int h = omega arith
no_text_class Long h = omega arith

length_of_text : {A : Type 0} (body : Body A) → class_of_body body ≡ 2 → length (units_of_body body) ≡ length (units_of_body body) + length (slots_of_body body)
length_of_text Class h = absurd (omega arith)
length_of_text (Fields instance) h = let plain = instance.plain in absurd (omega (arith, plain))
length_of_text (Units units) h = omega arith
length_of_text (Numbers element items) h = absurd (no_text_class element h)
length_of_text (References items) h = absurd (omega arith)

-- a string has as many units as its length says
pub text_length : {A : Type 0} (rows : Rows) (o : ℕ) (x : Object A) → row_of x ≡ row_in rows.objects o → class_at rows o ≡ 2
    → length (units_at rows o) ≡ length_at rows o
text_length rows o x is =
    let P : Row → Type 0 = λ (r : Row). r.class ≡ 2 → length r.units ≡ length r.units + length r.slots in
    subst P is (length_of_text x.body)

-- what was read in a slot is what the row has there
pub slot_there : (row : Row) (j : ℕ) (v : Slot) → slice_get row.slots j ≡ Some v → v ≡ get_or row.slots j (Number (pos 0))
slot_there row j v read = sym (get_or_from_slice_get row.slots j v (Number (pos 0)) read)
