-- What each changing call does to the store's rows, from what it did to its objects.
use Rattle.std.proofs.Common.{ℕ, ℤ, refl, ◌≤◌, ◌≡◌, ◌≢◌, inl, inr, get_or-set_same, get_or-set_other, ◌+◌, ◌<◌, ◌∙◌, sym, ap, List, ◌∷◌, ◌++◌, [], length, map, get_or, set, arith, subst, Bool}
use Rattle.std.proofs.lemmas.List.{length-set, map-append, map-set}
use Rattle.std.proofs.lemmas.Bool.{cases_eq}
use Rattle.jg_table_heap.specs.declared.body.Body.{Body}
use Rattle.jg_table_heap.specs.declared.object.Slot.{Slot}
use Rattle.jg_table_heap.specs.declared.object.Slot.TheVariants.{Number, Object as ToObject}
use Rattle.jg_table_heap.specs.Making.{Making, TakesItem}
use Rattle.jg_table_heap.specs.Rows.{Row, Rows, row_in, no_row, count_in, KeepsShapes}
use Rattle.jg_table_heap.specs.Kept.{Object, objects_of, row_of, class_of_body, units_of_body, slots_of_body, with_slot, ended_row, overwritten}
use Rattle.jg_table_heap.specs.Rows.{row_of_making}
use Rattle.jg_table_heap.specs.History.{Event, Made, Wrote, count_of, region_writes}
use Rattle.jg_table_heap.specs.Standing.{Stands, standing, slots_at}
use Rattle.jg_table_heap.proofs.Objects.{made_body, object_at, read_at, written_at}
use Rattle.jg_table_heap.proofs.Told.{kept, row_stands, slots_stand, count_stands}
use Rattle.jg_table_heap.proofs.Steps.{standing_made, standing_wrote}
use Rattle.jg_table_heap.proofs.Regions.{with_region, standing_region, length-overwritten}

-- with one object more
pub rows_made : {A : Type 0} (items : List (Object A)) (rows : Rows) (k : ℕ) (e : List Event) (m : Making) (x : Object A) (more : List (Object A))
    → map row_of items ≡ rows.objects → k ≡ rows.classes
    → Stands rows e → more ≡ items ++ x ∷ [] → row_of x ≡ row_of_making m → map row_of more ≡ standing k (Made m ∷ e)
rows_made items rows k e m x more view classes stands is made =
    ap (map row_of) is ∙ map-append row_of items (x ∷ []) ∙ ap (λ (xs : List Row). xs ++ row_of x ∷ []) (view ∙ stands)
    ∙ ap (λ (r : Row). standing rows.classes e ++ r ∷ []) made ∙ sym (standing_made rows.classes m e) ∙ ap (λ n. standing n (Made m ∷ e)) (sym classes)

-- with one slot written
rows_wrote : {A : Type 0} (items : List (Object A)) (rows : Rows) (k : ℕ) (e : List Event) (o j : ℕ) (v : Slot) (x y : Object A)
    → map row_of items ≡ rows.objects → k ≡ rows.classes
    → Stands rows e → o < count_in rows → j < length (row_in rows.objects o).slots → x ≡ get_or items o x → row_of y ≡ with_slot (row_of x) j v
    → map row_of (set items o y) ≡ standing k (Wrote o j v ∷ e)
rows_wrote items rows k e o j v x y view classes stands made within is wrote =
    let n : count_in rows ≡ count_of rows.classes e = count_stands rows e stands in
    let m : length (row_in rows.objects o).slots ≡ length (slots_at rows.classes e o) = ap length (slots_stand rows e o stands made) in
    map-set row_of items o y ∙ ap (λ (xs : List Row). set xs o (row_of y)) (view ∙ stands)
    ∙ ap (set (standing rows.classes e) o)
    (wrote ∙ ap (λ (r : Row). with_slot r j v) (kept items rows.objects o x view made is ∙ row_stands rows e o stands made))
    ∙ sym (standing_wrote rows.classes e o j v (omega arith) (omega arith)) ∙ ap (λ n. standing n (Wrote o j v ∷ e)) (sym classes)

-- with slots written that follow one another
rows_region : {A : Type 0} (items : List (Object A)) (rows : Rows) (k : ℕ) (e : List Event) (o j : ℕ) (vs : List ℤ) (x y : Object A)
    → map row_of items ≡ rows.objects → k ≡ rows.classes
    → Stands rows e → o < count_in rows → j + length vs ≤ length (row_in rows.objects o).slots → x ≡ get_or items o x
    → row_of y ≡ with_region (row_of x) j (map Number vs)
    → map row_of (set items o y) ≡ standing k (region_writes o j vs ++ e)
rows_region items rows k e o j vs x y view classes stands made within is wrote =
    let n : count_in rows ≡ count_of rows.classes e = count_stands rows e stands in
    let m : length (row_in rows.objects o).slots ≡ length (slots_at rows.classes e o) = ap length (slots_stand rows e o stands made) in
    map-set row_of items o y ∙ ap (λ (xs : List Row). set xs o (row_of y)) (view ∙ stands)
    ∙ ap (set (standing rows.classes e) o)
    (wrote ∙ ap (λ (r : Row). with_region r j (map Number vs)) (kept items rows.objects o x view made is ∙ row_stands rows e o stands made))
    ∙ sym (standing_region rows.classes e o j vs (omega arith) (omega arith)) ∙ ap (λ n. standing n (region_writes o j vs ++ e)) (sym classes)

-- what has items isn't a string
pub takes_no_text : (class : ℕ) (v : Slot) → TakesItem class v → class ≢ 2
takes_no_text class (Number v) h = λ text. omega arith
takes_no_text class (ToObject target) h = λ text. omega arith

-- ---- what stays

-- a body with slots written that follow one another, as a row
row_region : {A : Type 0} (x : Object A) (body : Body A) (j : ℕ) (vs : List Slot) → class_of_body body ≡ class_of_body x.body
    → units_of_body body ≡ units_of_body x.body
    → slots_of_body body ≡ overwritten (slots_of_body x.body) j vs → row_of (record { body = body; gone = x.gone }) ≡ with_region (row_of x) j vs
row_region x body j vs class units slots =
    ap (λ n. record { class = n; units = units_of_body body; slots = slots_of_body body; gone = x.gone }) class
    ∙ ap (λ (us : List ℕ). record { class = class_of_body x.body; units = us; slots = slots_of_body body; gone = x.gone }) units
    ∙ ap (λ (xs : List Slot). record { class = class_of_body x.body; units = units_of_body x.body; slots = xs; gone = x.gone }) slots

-- a body with one slot written, as a row
row_written : {A : Type 0} (x : Object A) (body : Body A) (j : ℕ) (v : Slot) → class_of_body body ≡ class_of_body x.body
    → units_of_body body ≡ units_of_body x.body
    → slots_of_body body ≡ set (slots_of_body x.body) j v → row_of (record { body = body; gone = x.gone }) ≡ with_slot (row_of x) j v
row_written x body j v class units slots =
    ap (λ n. record { class = n; units = units_of_body body; slots = slots_of_body body; gone = x.gone }) class
    ∙ ap (λ (us : List ℕ). record { class = class_of_body x.body; units = us; slots = slots_of_body body; gone = x.gone }) units
    ∙ ap (λ (xs : List Slot). record { class = class_of_body x.body; units = units_of_body x.body; slots = xs; gone = x.gone }) slots

class_kept : (rs : List Row) (o : ℕ) (r : Row) (p : ℕ) → o < length rs → r.class ≡ (row_in rs o).class → (row_in (set rs o r) p).class ≡ (row_in rs p).class
class_kept rs o r p h same =
    elim (cases_eq p o) [
      | inl here ↦ ap (λ q. (row_in (set rs o r) q).class) here ∙ ap (λ (w : Row). w.class) (get_or-set_same rs o r no_row h) ∙ same
          ∙ ap (λ q. (row_in rs q).class) (sym here)
      | inr other ↦ ap (λ (w : Row). w.class) (get_or-set_other rs o p r no_row other)
    ]

length_kept : (rs : List Row) (o : ℕ) (r : Row) (p : ℕ) → o < length rs
    → length r.units + length r.slots ≡ length (row_in rs o).units + length (row_in rs o).slots
    → length (row_in (set rs o r) p).units + length (row_in (set rs o r) p).slots ≡ length (row_in rs p).units + length (row_in rs p).slots
length_kept rs o r p h same =
    elim (cases_eq p o) [
      | inl here ↦
          ap (λ q. length (row_in (set rs o r) q).units + length (row_in (set rs o r) q).slots) here
          ∙ ap (λ (w : Row). length w.units + length w.slots) (get_or-set_same rs o r no_row h) ∙ same
          ∙ ap (λ q. length (row_in rs q).units + length (row_in rs q).slots) (sym here)
      | inr other ↦ ap (λ (w : Row). length w.units + length w.slots) (get_or-set_other rs o p r no_row other)
    ]

-- a row that is replaced by one of its class and its length keeps the shapes
shapes_set : {A : Type 0} (items : List (Object A)) (rows : Rows) (k o : ℕ) (r : Row) (y : Object A) → map row_of items ≡ rows.objects → o < count_in rows
    → row_of y ≡ r
    → r.class ≡ (row_in rows.objects o).class → length r.units + length r.slots ≡ length (row_in rows.objects o).units + length (row_in rows.objects o).slots
    → KeepsShapes rows (record { classes = k; objects = map row_of (set items o y) })
shapes_set items rows k o r y view made is class len =
    let objects : List Row = rows.objects in
    let new : map row_of (set items o y) ≡ set objects o r = map-set row_of items o y ∙ ap (λ (xs : List Row). set xs o (row_of y)) view ∙ ap (set objects o) is
    in
    record {
      count = ap (λ (rs : List Row). length rs) new ∙ length-set objects o r;
      class = λ p. ap (λ (rs : List Row). (row_in rs p).class) new ∙ class_kept objects o r p made class;
      len = λ p. ap (λ (rs : List Row). length (row_in rs p).units + length (row_in rs p).slots) new ∙ length_kept objects o r p made len;
    }

-- a write keeps the shapes
shapes_wrote : {A : Type 0} (items : List (Object A)) (rows : Rows) (k o j : ℕ) (v : Slot) (x y : Object A) → map row_of items ≡ rows.objects
    → o < count_in rows → x ≡ get_or items o x
    → row_of y ≡ with_slot (row_of x) j v → KeepsShapes rows (record { classes = k; objects = map row_of (set items o y) })
shapes_wrote items rows k o j v x y view made is wrote =
    let row : Row = row_in rows.objects o in
    shapes_set items rows k o (with_slot row j v) y view made (wrote ∙ ap (λ (r : Row). with_slot r j v) (kept items rows.objects o x view made is)) refl
    (ap (λ n. length row.units + n) (length-set row.slots j v))

-- so does a write of slots that follow one another
shapes_region : {A : Type 0} (items : List (Object A)) (rows : Rows) (k o j : ℕ) (vs : List Slot) (x y : Object A) → map row_of items ≡ rows.objects
    → o < count_in rows → x ≡ get_or items o x
    → j + length vs ≤ length (row_in rows.objects o).slots → row_of y ≡ with_region (row_of x) j vs
    → KeepsShapes rows (record { classes = k; objects = map row_of (set items o y) })
shapes_region items rows k o j vs x y view made is within wrote =
    let row : Row = row_in rows.objects o in
    shapes_set items rows k o (with_region row j vs) y view made (wrote ∙ ap (λ (r : Row). with_region r j vs) (kept items rows.objects o x view made is)) refl
    (ap (λ n. length row.units + n) (length-overwritten row.slots j vs within))

-- a collection keeps the shapes
pub shapes_swept : (rows : Rows) (k : ℕ) (new : List Row) (goes : ℕ → Bool) → length new ≡ length rows.objects
    → ((o : ℕ) → row_in new o ≡ ended_row (goes o) (row_in rows.objects o))
    → KeepsShapes rows (record { classes = k; objects = new })
shapes_swept rows k new goes len ended =
    record { count = len; class = λ p. ap (λ (r : Row). r.class) (ended p); len = λ p. ap (λ (r : Row). length r.units + length r.slots) (ended p) }

-- ---- the same, of what the objects hold and which are in being

module _ {A : Type 0} (bodies : List (Body A)) (there : List Bool) (rows : Rows) (k o : ℕ) (b new : Body A)
    (same : length there ≡ length bodies) (view : map row_of (objects_of bodies there) ≡ rows.objects)
    (made : o < count_in rows)
    (is : b ≡ get_or bodies o b) (class : class_of_body new ≡ class_of_body b) (units : units_of_body new ≡ units_of_body b) where
  inside : o < length bodies
  inside = made_body bodies there rows.objects o same view made

  set_is : objects_of (set bodies o new) there ≡ set (objects_of bodies there) o (object_at there o new)
  set_is = written_at bodies there o new same inside

  read : object_at there o b ≡ get_or (objects_of bodies there) o (object_at there o b)
  read = read_at bodies there o b same inside is

  abbrev pub keeps_shapes : (objects : List (Object A)) → Type 0
  keeps_shapes objects = KeepsShapes rows (record { classes = k; objects = map row_of objects })

  -- with one slot written
  pub rows_written : (e : List Event) (j : ℕ) (v : Slot) → k ≡ rows.classes → Stands rows e → j < length (row_in rows.objects o).slots
      → slots_of_body new ≡ set (slots_of_body b) j v
      → map row_of (objects_of (set bodies o new) there) ≡ standing k (Wrote o j v ∷ e)
  rows_written e j v classes stands within slots =
      ap (map row_of) set_is
      ∙ rows_wrote (objects_of bodies there) rows k e o j v (object_at there o b) (object_at there o new) view classes
      stands made within read (row_written (object_at there o b) new j v class units slots)

  pub shapes_written : (j : ℕ) (v : Slot) → slots_of_body new ≡ set (slots_of_body b) j v → keeps_shapes (objects_of (set bodies o new) there)
  shapes_written j v slots =
      subst keeps_shapes (sym set_is)
      (shapes_wrote (objects_of bodies there) rows k o j v (object_at there o b) (object_at there o new) view made read
      (row_written (object_at there o b) new j v class units slots))

  -- with slots written that follow one another
  pub rows_overwritten : (e : List Event) (j : ℕ) (vs : List ℤ) → k ≡ rows.classes → Stands rows e
      → j + length vs ≤ length (row_in rows.objects o).slots
      → slots_of_body new ≡ overwritten (slots_of_body b) j (map Number vs)
      → map row_of (objects_of (set bodies o new) there) ≡ standing k (region_writes o j vs ++ e)
  rows_overwritten e j vs classes stands within slots =
      ap (map row_of) set_is
      ∙ rows_region (objects_of bodies there) rows k e o j vs (object_at there o b) (object_at there o new) view classes
      stands made within read (row_region (object_at there o b) new j (map Number vs) class units slots)

  pub shapes_overwritten : (j : ℕ) (vs : List Slot) → j + length vs ≤ length (row_in rows.objects o).slots
      → slots_of_body new ≡ overwritten (slots_of_body b) j vs → keeps_shapes (objects_of (set bodies o new) there)
  shapes_overwritten j vs within slots =
      subst keeps_shapes (sym set_is)
      (shapes_region (objects_of bodies there) rows k o j vs (object_at there o b) (object_at there o new) view made read within
      (row_region (object_at there o b) new j vs class units slots))
