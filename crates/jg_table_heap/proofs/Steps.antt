-- What each event does to the rows that the history tells.
use Rattle.std.proofs.Common.{ℕ, ◌≡◌, ◌≢◌, ◌<◌, ◌≤◌, ◌∙◌, sym, ap, refl, List, ◌∷◌, ◌++◌, [], length, map, get_or, set, arith, Bool, false, eqb, inl, inr, get_or-set_same, get_or-set_other, pos}
use Rattle.std.specs.List.{range_with_len}
use Rattle.std.proofs.lemmas.List.FromFn.{fill_by_all, map-range_with_len_more}
use Rattle.std.proofs.lemmas.List.{length-set, length-replicate, get_or-replicate}
use Rattle.std.proofs.lemmas.Bool.{and_right, cases_eq, eq-eqb, ne_eqb, cond-true, cond-false, le-ltb}
use Rattle.jg_table_heap.specs.declared.object.Slot.{Slot}
use Rattle.jg_table_heap.specs.declared.object.Slot.TheVariants.{Number}
use Rattle.jg_table_heap.specs.Making.{Making, Plain, Text, Filled, Opaque, class_in, units_in, slots_in, slot_in}
use Rattle.jg_table_heap.specs.Rows.{Row, no_row}
use Rattle.jg_table_heap.specs.Kept.{with_slot}
use Rattle.jg_table_heap.specs.Rows.{first_slots, row_of_making}
use Rattle.jg_table_heap.specs.History.{Event, Made, Wrote, Collected, Went, count_of, making_at, value_at, gone_at}
use Rattle.jg_table_heap.specs.Standing.{standing, row_at, slots_at}
use Rattle.jg_table_heap.proofs.Lists.{map_agree}
use Rattle.jg_table_heap.proofs.Told.{length-standing, row_in-standing, length-slots_at, get_or-slots_at}

slots_at_is : (k : ℕ) (e : List Event) (o : ℕ) → slots_at k e o ≡ map (value_at k e o) (range_with_len 0 (slots_in (making_at k e o)))
unfolding slots_at
slots_at_is k e o = refl

pub standing_is : (k : ℕ) (e : List Event) → standing k e ≡ map (row_at k e) (range_with_len 0 (count_of k e))
unfolding standing
standing_is k e = refl

-- ---- making

length-first_slots : (m : Making) → length (first_slots m) ≡ slots_in m
length-first_slots (Plain class fields) = refl
length-first_slots (Text units) = refl
length-first_slots (Filled class n item) = length-replicate n item
length-first_slots (Opaque class n) = length-replicate n (Number (pos 0))

get_or-first_slots : (m : Making) (j : ℕ) → j < slots_in m → get_or (first_slots m) j (Number (pos 0)) ≡ slot_in m j
get_or-first_slots (Plain class fields) j h = refl
get_or-first_slots (Text units) j h = refl
get_or-first_slots (Filled class n item) j h = get_or-replicate n j item (Number (pos 0)) h
get_or-first_slots (Opaque class n) j h = get_or-replicate n j (Number (pos 0)) (Number (pos 0)) h

value_made_new : (k : ℕ) (m : Making) (e : List Event) (j : ℕ) → value_at k (Made m ∷ e) (count_of k e) j ≡ slot_in m j
value_made_new k m e j = cond-true _ _ _ (eq-eqb (count_of k e) (count_of k e) refl)

value_made_old : (k : ℕ) (m : Making) (e : List Event) (o j : ℕ) → o ≢ count_of k e → value_at k (Made m ∷ e) o j ≡ value_at k e o j
value_made_old k m e o j h = cond-false _ _ _ (ne_eqb o (count_of k e) h)

making_made_new : (k : ℕ) (m : Making) (e : List Event) → making_at k (Made m ∷ e) (count_of k e) ≡ m
making_made_new k m e = cond-true _ _ _ (eq-eqb (count_of k e) (count_of k e) refl)

making_made_old : (k : ℕ) (m : Making) (e : List Event) (o : ℕ) → o ≢ count_of k e → making_at k (Made m ∷ e) o ≡ making_at k e o
making_made_old k m e o h = cond-false _ _ _ (ne_eqb o (count_of k e) h)

slots_made_old : (k : ℕ) (m : Making) (e : List Event) (o : ℕ) → o ≢ count_of k e → slots_at k (Made m ∷ e) o ≡ slots_at k e o
unfolding slots_at
slots_made_old k m e o h =
    ap (λ (w : Making). map (value_at k (Made m ∷ e) o) (range_with_len 0 (slots_in w))) (making_made_old k m e o h)
    ∙ map_agree (value_at k (Made m ∷ e) o) (value_at k e o) (slots_in (making_at k e o)) (Number (pos 0)) (λ j l. value_made_old k m e o j h)

slots_made_new : (k : ℕ) (m : Making) (e : List Event) → slots_at k (Made m ∷ e) (count_of k e) ≡ first_slots m
unfolding slots_at
slots_made_new k m e =
    ap (λ (w : Making). map (value_at k (Made m ∷ e) (count_of k e)) (range_with_len 0 (slots_in w))) (making_made_new k m e)
    ∙ sym (fill_by_all (value_at k (Made m ∷ e) (count_of k e)) (first_slots m) (slots_in m) (Number (pos 0)) (length-first_slots m)
    (λ j l. get_or-first_slots m j l ∙ sym (value_made_new k m e j)))

-- what isn't made yet isn't gone
pub gone_past : (k : ℕ) (e : List Event) (o : ℕ) → count_of k e ≤ o → gone_at k e o ≡ false
gone_past k [] o h = refl
gone_past k (Made m ∷ e) o h = gone_past k e o (omega arith)
gone_past k (Wrote p j v ∷ e) o h = gone_past k e o h
gone_past k (Collected roots ∷ e) o h = rw (gone_past k e o h, le-ltb o (count_of k e) h) refl
gone_past k (Went p ∷ e) o h = rw (gone_past k e o h, le-ltb o (count_of k e) h) (and_right (eqb o p) false refl)

row_made_old : (k : ℕ) (m : Making) (e : List Event) (o : ℕ) → o ≢ count_of k e → row_at k (Made m ∷ e) o ≡ row_at k e o
unfolding row_at
row_made_old k m e o h =
    ap (λ (w : Making). record { class = class_in w; units = units_in w; slots = slots_at k (Made m ∷ e) o; gone = gone_at k e o }) (making_made_old k m e o h)
    ∙ ap (λ (s : List Slot). record { class = class_in (making_at k e o); units = units_in (making_at k e o); slots = s; gone = gone_at k e o })
    (slots_made_old k m e o h)

row_made_new : (k : ℕ) (m : Making) (e : List Event) → row_at k (Made m ∷ e) (count_of k e) ≡ row_of_making m
unfolding row_at
row_made_new k m e =
    ap (λ (w : Making). record { class = class_in w; units = units_in w; slots = slots_at k (Made m ∷ e) (count_of k e); gone = gone_at k e (count_of k e) })
    (making_made_new k m e)
    ∙ ap (λ (s : List Slot). record { class = class_in m; units = units_in m; slots = s; gone = gone_at k e (count_of k e) }) (slots_made_new k m e)
    ∙ ap (λ (b : Bool). record { class = class_in m; units = units_in m; slots = first_slots m; gone = b }) (gone_past k e (count_of k e) (omega arith))

-- one row more
pub standing_made : (k : ℕ) (m : Making) (e : List Event) → standing k (Made m ∷ e) ≡ standing k e ++ row_of_making m ∷ []
unfolding standing
standing_made k m e =
    map-range_with_len_more (row_at k (Made m ∷ e)) 0 (count_of k e) (count_of k e) (omega arith)
    ∙ ap (λ (xs : List Row). xs ++ row_at k (Made m ∷ e) (count_of k e) ∷ [])
    (map_agree (row_at k (Made m ∷ e)) (row_at k e) (count_of k e) no_row (λ o l. row_made_old k m e o (λ same. omega arith)))
    ∙ ap (λ (r : Row). standing k e ++ r ∷ []) (row_made_new k m e)

-- ---- writing

pub value_wrote_here : (k : ℕ) (e : List Event) (o j : ℕ) (v : Slot) → value_at k (Wrote o j v ∷ e) o j ≡ v
value_wrote_here k e o j v = rw (eq-eqb o o refl, eq-eqb j j refl) refl

value_wrote_slot : (k : ℕ) (e : List Event) (o j i : ℕ) (v : Slot) → i ≢ j → value_at k (Wrote o j v ∷ e) o i ≡ value_at k e o i
value_wrote_slot k e o j i v h = rw (eq-eqb o o refl, ne_eqb i j h) refl

value_wrote_object : (k : ℕ) (e : List Event) (o j p i : ℕ) (v : Slot) → p ≢ o → value_at k (Wrote o j v ∷ e) p i ≡ value_at k e p i
value_wrote_object k e o j p i v h = rw (ne_eqb p o h) refl

slots_wrote_object : (k : ℕ) (e : List Event) (o j p : ℕ) (v : Slot) → p ≢ o → slots_at k (Wrote o j v ∷ e) p ≡ slots_at k e p
unfolding slots_at
slots_wrote_object k e o j p v h =
    map_agree (value_at k (Wrote o j v ∷ e) p) (value_at k e p) (slots_in (making_at k e p)) (Number (pos 0)) (λ i l. value_wrote_object k e o j p i v h)

value_wrote_any : (k : ℕ) (e : List Event) (o j i : ℕ) (v : Slot) → j < length (slots_at k e o) → i < length (slots_at k e o)
    → get_or (set (slots_at k e o) j v) i (Number (pos 0)) ≡ value_at k (Wrote o j v ∷ e) o i
value_wrote_any k e o j i v h l =
    let n : length (slots_at k e o) ≡ slots_in (making_at k e o) = length-slots_at k e o in
    elim (cases_eq i j) [
      | inl same ↦ ap (λ n. get_or (set (slots_at k e o) j v) n (Number (pos 0))) same ∙ rw get_or-set_same (sym (value_wrote_here k e o j v))
          ∙ ap (value_at k (Wrote o j v ∷ e) o) (sym same)
      | inr other ↦ rw get_or-set_other (get_or-slots_at k e o i (Number (pos 0)) (omega arith) ∙ sym (value_wrote_slot k e o j i v other))
    ]

slots_wrote_here : (k : ℕ) (e : List Event) (o j : ℕ) (v : Slot) → j < length (slots_at k e o) → slots_at k (Wrote o j v ∷ e) o ≡ set (slots_at k e o) j v
slots_wrote_here k e o j v h =
    let n : length (set (slots_at k e o) j v) ≡ slots_in (making_at k e o) = length-set (slots_at k e o) j v ∙ length-slots_at k e o in
    let m : length (slots_at k e o) ≡ slots_in (making_at k e o) = length-slots_at k e o in
    slots_at_is k (Wrote o j v ∷ e) o
    ∙ sym (fill_by_all (value_at k (Wrote o j v ∷ e) o) (set (slots_at k e o) j v) (slots_in (making_at k e o)) (Number (pos 0)) n
    (λ i l. value_wrote_any k e o j i v h (omega arith)))

row_wrote_object : (k : ℕ) (e : List Event) (o j p : ℕ) (v : Slot) → p ≢ o → row_at k (Wrote o j v ∷ e) p ≡ row_at k e p
unfolding row_at
row_wrote_object k e o j p v h = rw (slots_wrote_object k e o j p v h) refl

pub row_wrote_here : (k : ℕ) (e : List Event) (o j : ℕ) (v : Slot) → j < length (slots_at k e o) → row_at k (Wrote o j v ∷ e) o ≡ with_slot (row_at k e o) j v
unfolding row_at
row_wrote_here k e o j v h = rw (slots_wrote_here k e o j v h) refl

row_wrote_any : (k : ℕ) (e : List Event) (o j p : ℕ) (v : Slot) → o < count_of k e → j < length (slots_at k e o) → p < count_of k e
    → get_or (set (standing k e) o (with_slot (row_at k e o) j v)) p no_row ≡ row_at k (Wrote o j v ∷ e) p
row_wrote_any k e o j p v in' h l =
    let n : length (standing k e) ≡ count_of k e = length-standing k e in
    let inside : o < length (standing k e) = omega arith in
    elim (cases_eq p o) [
      | inl same ↦ ap (λ q. get_or (set (standing k e) o (with_slot (row_at k e o) j v)) q no_row) same ∙ rw get_or-set_same (sym (row_wrote_here k e o j v h))
          ∙ ap (row_at k (Wrote o j v ∷ e)) (sym same)
      | inr other ↦ rw get_or-set_other (row_in-standing k e p l ∙ sym (row_wrote_object k e o j p v other))
    ]

-- one row with one slot written
pub standing_wrote : (k : ℕ) (e : List Event) (o j : ℕ) (v : Slot) → o < count_of k e → j < length (slots_at k e o)
    → standing k (Wrote o j v ∷ e) ≡ set (standing k e) o (with_slot (row_at k e o) j v)
standing_wrote k e o j v in' h =
    let n : length (set (standing k e) o (with_slot (row_at k e o) j v)) ≡ count_of k e = length-set (standing k e) o (with_slot (row_at k e o) j v)
    ∙ length-standing k e in
    standing_is k (Wrote o j v ∷ e)
    ∙ sym (fill_by_all (row_at k (Wrote o j v ∷ e)) (set (standing k e) o (with_slot (row_at k e o) j v)) (count_of k e) no_row n
    (λ p l. row_wrote_any k e o j p v in' h l))
