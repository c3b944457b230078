-- What the tables have of the object and of the buffer that a call on buffers names.
use Rattle.std.proofs.Common.{ℕ, ℤ, pos, ◌≡◌, ◌<◌, ◌∙◌, Bool, true, false, List, [], ◌∷◌, length, map, Option, Some, None, refl, ap, sym, subst, arith}
use Rattle.std.specs.Prelude.{◌&&◌, ◌||◌, not, nat_lt, nat_le, int_le, if◌then◌else◌}
use Rattle.std.specs.List.{range_with_len}
use Rattle.std.specs.Option.{option_map, unwrap_or}
use Rattle.std.proofs.lemmas.Bool.Decides.{nat_tests}
use Rattle.std.proofs.lemmas.List.FromFn.{length-map-range_with_len}
use Rattle.std.proofs.lemmas.Bool.{not-false}
use Rattle.jg_words.specs.declared.buffer.BufId.{BufId}
use Rattle.jg_words.specs.declared.object.Primitive.{Primitive}
use Rattle.jg_words.specs.declared.reference.Ref.{Ref}
use Rattle.jg_words.specs.declared.reference.Ref.TheVariants.{Null, To}
use Rattle.jg_words.specs.declared.call.Call.TheVariants.{Buffers}
use Rattle.jg_words.specs.declared.call.buffers.BuffersCall.TheVariants.{GetArrayElements, ReleaseArrayElements, BufferRead, BufferWrite}
use Rattle.jg_policy.specs.Stated.{StatedSetup, class_count}
use Rattle.jg_table_heap.specs.Making.{Making, class_in, IsPrimitiveArray}
use Rattle.jg_words.specs.Classes.{array_class}
use Rattle.jg_words.proofs.Common.{and_first}
use Rattle.jg_words.specs.declared.object.ItemType.TheVariants.{Of, Float, Double}
use Rattle.jg_table_heap.specs.Rows.{count_in, class_at, length_at}
use Rattle.jg_table_heap.specs.Reading.{natural}
use Rattle.jg_table_heap.specs.History.{making_at}
use Rattle.jg_table_buffers.specs.History.{Buffer, Event, Opened, copy_with, opened, content, contents, info_of, is_critical, is_null}
use Rattle.jg_table_buffers.specs.Rows.{Rows, copy_length}
use Rattle.jg_table_buffers.specs.Standing.{Stands}
use Rattle.jg_table_buffers.specs.declared.family.Family.{Family}
use Rattle.jg_table_buffers.specs.declared.family.Family.TheVariants.{Elements, Chars, UtfChars, ArrayCritical, StringCritical}
use Rattle.jg_table_buffers.specs.declared.info.Info.{Info}
use Rattle.jg_rules.specs.declared.named.Named.{Named}
use Rattle.jg_rules.specs.declared.operand.ObjectType.TheVariants.{StringObject, PrimitiveArray}
use Rattle.jg_rules.specs.Parts.{Parts, TableRows, TablesStand}
use Rattle.jg_rules.specs.Names.{names, object_in, the_object, class_of, length_of}
use Rattle.jg_rules.specs.Buffers.{buffer_named, is_open_and, family_number, is_anothers, is_of_array, is_place, item_type, is_value_of_type}
use Rattle.jg_rules.specs.Rules.{is_nothing, is_null as is_null_named, is_wrong, is_outside_of, is_wrong_item}
use Rattle.jg_rules.proofs.Objects.{IsThere, as_made, made_there, first_is_of}
use Rattle.jg_laws.specs.Laws.{FitsMaking, FitsObject}
use Rattle.jg_laws.proofs.Lent.{is_string, within, four}
use Rattle.jg_laws.proofs.Makings.{array_class-le}
use Rattle.jg_laws.proofs.Releasing.{released}
use Rattle.jg_guard.specs.Tables.{IsDue}
use Rattle.jg_guard.proofs.Arrays.{primitive_there}

-- ---- the object

pub elements_there : (s : StatedSetup) (rows : TableRows) (t : ℕ) (element : Primitive) (r : Ref) (due : IsDue s rows t (Buffers (GetArrayElements element r)))
    → IsThere s rows due.events (the_object due.events t r) (array_class element)
elements_there s rows t element r due =
    primitive_there s rows due.events element (names due.events t r) due.stand due.unbroken.alive due.unbroken.not_null due.unbroken.right_type

pub released_there : (s : StatedSetup) (rows : TableRows) (t : ℕ) (element : Primitive) (r : Ref) (b : BufId) (mode : ℤ)
    (due : IsDue s rows t (Buffers (ReleaseArrayElements element r b mode)))
    → IsThere s rows due.events (the_object due.events t r) (array_class element)
released_there s rows t element r b mode due =
    primitive_there s rows due.events element (names due.events t r) due.stand due.unbroken.alive due.unbroken.not_null due.unbroken.right_type

pub string_made : (s : StatedSetup) (rows : TableRows) (p : Parts) (named : Named) → TablesStand s rows p → (is_nothing named || false) ≡ false
    → ((true && is_null_named named) || false) ≡ false
    → (is_wrong s p StringObject named || false) ≡ false → unwrap_or (object_in named) 0 < count_in rows.heap
string_made s rows p named stand alive there right =
    made_there s rows p (unwrap_or (object_in named) 0) stand (omega (arith, is_string s p named alive there right))

pub array_made : (s : StatedSetup) (rows : TableRows) (p : Parts) (named : Named) → TablesStand s rows p → (is_nothing named || false) ≡ false
    → ((true && is_null_named named) || false) ≡ false
    → (is_wrong s p PrimitiveArray named || false) ≡ false → unwrap_or (object_in named) 0 < count_in rows.heap
array_made s rows p named stand alive there right =
    let o : ℕ = unwrap_or (object_in named) 0 in
    let is = within (nat_le 4 (class_of s p o)) (nat_le (class_of s p o) 9) (class_of s p o) refl refl
    (first_is_of s p PrimitiveArray named false false false alive there right) in
    made_there s rows p o stand (omega (arith, is.0))

-- a reference that names an object isn't null
pub not_null : (p : Parts) (t : ℕ) (r : Ref) → ((true && is_null_named (names p t r)) || false) ≡ false → is_null r ≡ false
not_null p t Null there = absurd cc
not_null p t (To kind maker n) there = refl

-- ---- the buffer

-- it is open, and a look-up tells this of it
pub record OpenAs (p : Parts) (b : BufId) (info : Info) : Type 0 where
  pub buffer : Buffer
  pub is_open : opened p.buffers b.maker.0 b.n ≡ Some buffer
  pub told : info_of buffer ≡ info

one_info : (a b : Info) → Some a ≡ Some b → a ≡ b
one_info a b is = cc

open_if : (p : Parts) (b : BufId) (info : Info) (found : Option Buffer) → opened p.buffers b.maker.0 b.n ≡ found → option_map info_of found ≡ Some info
    → OpenAs p b info
open_if p b info None is told = absurd cc
open_if p b info (Some x) is told = record { buffer = x; is_open = is; told = one_info (info_of x) info told }

open_as : (p : Parts) (b : BufId) (info : Info) → buffer_named p b ≡ Some info → OpenAs p b info
open_as p b info is = open_if p b info (opened p.buffers b.maker.0 b.n) refl is

place_if : (a c : Bool) (index : ℤ) (n : ℕ) → nat_lt (natural index) n ≡ c → (a && c) ≡ true → natural index < n
place_if true true index n is both = grind (arith, nat_tests, is)
place_if true false index n is both = absurd cc
place_if false c index n is both = absurd cc

place_within : (index : ℤ) (n : ℕ) → is_place index n ≡ true → natural index < n
place_within index n is = place_if (int_le (pos 0) index) (nat_lt (natural index) n) index n refl is

-- a place that is read is one of the buffer's
pub read_within : (s : StatedSetup) (rows : TableRows) (t : ℕ) (b : BufId) (index : ℤ) (info : Info) (due : IsDue s rows t (Buffers (BufferRead b index)))
    → buffer_named due.events b ≡ Some info
    → natural index < info.length
read_within s rows t b index info due is =
    let told : not (is_place index info.length) ≡ false = subst (λ (found : Option Info). is_outside_of index found ≡ false) is due.unbroken.right_argument in
    place_within index info.length (not-false (is_place index info.length) told)

pub written_within : (s : StatedSetup) (rows : TableRows) (t : ℕ) (b : BufId) (index value : ℤ) (info : Info)
    (due : IsDue s rows t (Buffers (BufferWrite b index value)))
    → buffer_named due.events b ≡ Some info → natural index < info.length
written_within s rows t b index value info due is =
    let told : not (is_place index info.length && is_value_of_type (item_type s due.events info info.family) value) ≡ false =
    subst (λ (found : Option Info). is_wrong_item s due.events index value found ≡ false) is due.unbroken.right_argument in
    place_within index info.length (and_first (is_place index info.length) (is_value_of_type (item_type s due.events info info.family) value)
    (not-false (is_place index info.length && is_value_of_type (item_type s due.events info info.family) value) told))

-- only items of an array are written
written_array : (s : StatedSetup) (rows : TableRows) (t : ℕ) (b : BufId) (index value : ℤ) (info : Info)
    (due : IsDue s rows t (Buffers (BufferWrite b index value)))
    → buffer_named due.events b ≡ Some info → is_of_array info.family ≡ true
written_array s rows t b index value info due is =
    let told : not (is_of_array info.family && not (is_anothers t info)) ≡ false =
    subst (λ (found : Option Info). not (is_open_and (λ x. is_of_array x.family && not (is_anothers t x)) found) ≡ false) is due.unbroken.right_buffer in
    and_first (is_of_array info.family) (not (is_anothers t info)) (not-false (is_of_array info.family && not (is_anothers t info)) told)

-- the row of a copy is as long as the look-up tells
length_if : (b : Bool) (n : ℕ) → b ≡ false → (if b then 0 else n) ≡ n
length_if true n is = absurd cc
length_if false n is = refl

copy_is : (found : Option Buffer) (info : Info) → option_map info_of found ≡ Some info → is_critical info.family ≡ false → copy_length found ≡ info.length
copy_is None info is copies = absurd cc
copy_is (Some row) info is copies =
    let same : info_of row ≡ info = one_info (info_of row) info is in
    length_if (is_critical row.family) row.length (ap (λ (i : Info). is_critical i.family) same ∙ copies) ∙ ap (λ (i : Info). i.length) same

-- the object of a pinned array is in the store, and as long as the buffer
pub record PinnedThere (rows : TableRows) (info : Info) : Type 0 where
  pub made : info.object.0 < count_in rows.heap
  pub class : IsPrimitiveArray (class_at rows.heap info.object.0)
  pub len : info.length ≡ length_at rows.heap info.object.0

array_pinned : (s : StatedSetup) (rows : TableRows) (p : Parts) (x : Buffer) → TablesStand s rows p → FitsObject (class_count s) p.heap x
    → x.family ≡ ArrayCritical → PinnedThere rows (info_of x)
array_pinned s rows p x stand fits is =
    let made : Making = making_at (class_count s) p.heap x.object in
    let fit : IsPrimitiveArray (class_in made) × (x.length ≡ length_of s p x.object) = subst (λ (f : Family). FitsMaking f made x.length) is fits.1 in
    let there = as_made s rows p x.object stand fits.0 in
    record {
      made = there.made;
      class = rw there.class fit.0;
      len = fit.1 ∙ sym there.len;
    }

pub pinned_there : (s : StatedSetup) (rows : TableRows) (p : Parts) (b : BufId) (info : Info) → TablesStand s rows p
    → ((maker n : ℕ) (x : Buffer) → opened p.buffers maker n ≡ Some x → FitsObject (class_count s) p.heap x) → buffer_named p b ≡ Some info
    → info.family ≡ ArrayCritical → PinnedThere rows info
pinned_there s rows p b info stand lent is pins =
    let it = open_as p b info is in
    subst (PinnedThere rows) it.told
    (array_pinned s rows p it.buffer stand (lent b.maker.0 b.n it.buffer it.is_open) (ap (λ (i : Info). i.family) it.told ∙ pins))

-- ---- a copy that is released

contents_if : (c : Bool) (e : List Event) (m n k : ℕ) → c ≡ false → length (if c then [] else map (content e m n) (range_with_len 0 k)) ≡ k
contents_if true e m n k is = absurd cc
contents_if false e m n k is = length-map-range_with_len (content e m n) 0 k

contents_length : (e : List Event) (m n : ℕ) (x : Buffer) → opened e m n ≡ Some x → is_critical x.family ≡ false → length (contents e m n) ≡ x.length
contents_length e m n x is copies = rw is (contents_if (is_critical x.family) e m n x.length copies)

-- the buffer's family is that of the element's arrays
family_is : (f : Family) (element : Primitive) → family_number f ≡ array_class element
    → (other : Primitive) × (f ≡ Elements (Of other)) × (array_class other ≡ array_class element)
family_is (Elements (Of other)) element is = (other, refl, is)
family_is (Elements Float) element is = absurd (omega (arith, is, array_class-le element))
family_is (Elements Double) element is = absurd (omega (arith, is, array_class-le element))
family_is Chars element is = absurd (omega (arith, is, four element))
family_is UtfChars element is = absurd (omega (arith, is, four element))
family_is ArrayCritical element is = absurd (omega (arith, is, four element))
family_is StringCritical element is = absurd (omega (arith, is, four element))

-- it is of the operand's object
pub released_object : (s : StatedSetup) (rows : TableRows) (t : ℕ) (element : Primitive) (r : Ref) (b : BufId) (mode : ℤ)
    (due : IsDue s rows t (Buffers (ReleaseArrayElements element r b mode)))
    (info : Info)
    → buffer_named due.events b ≡ Some info → info.object.0 ≡ the_object due.events t r
released_object s rows t element r b mode due info is =
    let it = released due.events t (Elements (Of element)) r b due.unbroken.alive due.unbroken.not_null due.unbroken.right_buffer in
    let told : info_of it.buffer ≡ info = one_info (info_of it.buffer) info (sym (ap (option_map info_of) it.is_open) ∙ is) in
    ap (λ (i : Info). i.object.0) (sym told) ∙ it.object

-- what is copied back fits
pub back_fits : (s : StatedSetup) (rows : TableRows) (t : ℕ) (element : Primitive) (r : Ref) (b : BufId) (mode : ℤ)
    (due : IsDue s rows t (Buffers (ReleaseArrayElements element r b mode)))
    → length (contents due.events.buffers b.maker.0 b.n) ≡ length_of s due.events (the_object due.events t r)
back_fits s rows t element r b mode due =
    let p : Parts = due.events in
    let it = released p t (Elements (Of element)) r b due.unbroken.alive due.unbroken.not_null due.unbroken.right_buffer in
    let family = family_is it.buffer.family element it.family_of in
    let fits = due.lent b.maker.0 b.n it.buffer it.is_open in
    let fit = subst (λ (f : Family). FitsMaking f (making_at (class_count s) p.heap it.buffer.object) it.buffer.length) family.1 fits.1 in
    contents_length p.buffers b.maker.0 b.n it.buffer it.is_open (ap is_critical family.1) ∙ (fit.1 ∙ ap (length_of s p) it.object)

-- ---- the same events

pub copied_at : (rows : Rows) (e : List Event) (t n n' o o' : ℕ) (family : Family) (xs ys : List ℤ) → n ≡ n' → o ≡ o' → xs ≡ ys
    → Stands rows (Opened (copy_with t n o family xs) ∷ e)
    → Stands rows (Opened (copy_with t n' o' family ys) ∷ e)
copied_at rows e t n n' o o' family xs ys number object items stands = rw (sym number, sym object, sym items) stands
