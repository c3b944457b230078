-- What a collection does to the rows that the history tells.
use Rattle.std.proofs.Common.{ℕ, ◌≡◌, ◌<◌, ◌∙◌, sym, ap, refl, List, ◌∷◌, [], length, map, get_or, arith, Bool, false, not, ◌&&◌, ◌||◌, ltb, eqb, Some}
use Rattle.std.specs.Prelude.{replicate, filter}
use Rattle.std.specs.List.{range_with_len, list_any}
use Rattle.std.proofs.lemmas.List.FromFn.{fill_by_all}
use Rattle.std.proofs.lemmas.List.{length-replicate, get_or-replicate, length-map}
use Rattle.std.proofs.lemmas.Option.{slice_get-get_or, slice_get_within, get_or_from_slice_get}
use Rattle.std.proofs.lemmas.Bool.{lt-ltb}
use Rattle.jg_table_heap.specs.Making.{Plain}
use Rattle.jg_table_heap.specs.Rows.{Row, Rows, row_in, no_row}
use Rattle.jg_table_heap.specs.Kept.{Object, row_of, swept_row, ended_row, row_points_at, slot_of_row_holds, live_in, unheld_in, numbers_in, Keeps}
use Rattle.jg_table_heap.specs.Rows.{row_of_making}
use Rattle.jg_table_heap.specs.History.{Event, Collected, count_of, gone_at, held_at, points_at, going}
use Rattle.jg_table_heap.specs.Standing.{Stands, standing, row_at, slots_at, MarksRoots, MarksHeld, AreListed}
use Rattle.jg_lists.proofs.Lists.{any_agree, any_filter}
use Rattle.jg_table_heap.proofs.Lists.{filter_filter, keep_agree, or_swapped, goes_alike, gone_alike}
use Rattle.jg_table_heap.proofs.Pointing.{points_slots}
use Rattle.jg_table_heap.proofs.Sweeping.{goes_now, pointing_holds}
use Rattle.jg_table_heap.proofs.Steps.{standing_is}
use Rattle.jg_table_heap.proofs.Told.{length-standing, row_in-standing, gone-row_at}

row_collected : (k : ℕ) (roots : List ℕ) (e : List Event) (o : ℕ) → o < count_of k e
    → row_at k (Collected roots ∷ e) o ≡ swept_row (held_at k roots e o) (row_at k e o)
unfolding row_at slots_at
row_collected k roots e o h = rw (lt-ltb o (count_of k e) h) refl

points_row : (k : ℕ) (e : List Event) (p o : ℕ) → row_points_at o (row_at k e p) ≡ (not (gone_at k e p) && points_at k e p o)
unfolding row_at
points_row k e p o = ap (λ b. not (gone_at k e p) && b) (points_slots k e p o)

gone_there : (k : ℕ) (e : List Event) (o : ℕ) → o < count_of k e → (row_in (standing k e) o).gone ≡ gone_at k e o
gone_there k e o h = ap (λ (r : Row). r.gone) (row_in-standing k e o h) ∙ gone-row_at k e o

-- some slot of an object that isn't gone holds it
live_points : (k : ℕ) (e : List Event) (o : ℕ) → list_any (slot_of_row_holds (standing k e) o) (live_in (standing k e))
    ≡ list_any (λ p. not (gone_at k e p) && points_at k e p o) (range_with_len 0 (count_of k e))
live_points k e o =
    let rows : List Row = standing k e in
    any_filter (slot_of_row_holds rows o) (λ p. not (row_in rows p).gone) (range_with_len 0 (length rows))
    ∙ ap (λ n. list_any (λ p. not (row_in rows p).gone && slot_of_row_holds rows o p) (range_with_len 0 n)) (length-standing k e)
    ∙ any_agree (λ p. not (row_in rows p).gone && slot_of_row_holds rows o p) (λ p. not (gone_at k e p) && points_at k e p o) 0 (count_of k e)
    (λ p h. ap (λ (r : Row). row_points_at o r) (row_in-standing k e p (omega arith)) ∙ points_row k e p o)

-- with the class objects and what slots hold marked, the marks say what is held
marks_held : (k : ℕ) (roots : List ℕ) (e : List Event) (old new : List Bool) → length new ≡ length old → MarksRoots k roots e old
    → ((o : ℕ) → o < length old
    → get_or new o false ≡ ((get_or old o false || ltb o k) || list_any (slot_of_row_holds (standing k e) o) (live_in (standing k e))))
    → MarksHeld k roots e new
marks_held k roots e old new len was now o h there =
    let within : o < length old = slice_get_within old o (list_any (λ r. eqb r o) roots) (was o h there) in
    slice_get-get_or new o false (omega (arith, within, len))
    ∙ ap Some (now o within
    ∙ ap (λ b. (b || ltb o k) || list_any (slot_of_row_holds (standing k e) o) (live_in (standing k e))) (get_or_from_slice_get old o _ false (was o h there))
    ∙ ap (λ b. (list_any (λ r. eqb r o) roots || ltb o k) || b) (live_points k e o)
    ∙ or_swapped (list_any (λ r. eqb r o) roots) (ltb o k) _)

-- those in being that aren't marked
unmarked_going : (k : ℕ) (roots : List ℕ) (e : List Event) (marks : List Bool) → MarksHeld k roots e marks
    → filter (λ o. not (get_or marks o false)) (live_in (standing k e)) ≡ going k roots e
unmarked_going k roots e marks held =
    let rows : List Row = standing k e in
    filter_filter (λ o. not (get_or marks o false)) (λ o. not (row_in rows o).gone) (range_with_len 0 (length rows))
    ∙ ap (λ n. filter (λ o. not (row_in rows o).gone && not (get_or marks o false)) (range_with_len 0 n)) (length-standing k e)
    ∙ keep_agree (λ o. not (row_in rows o).gone && not (get_or marks o false)) (λ o. not (gone_at k e o) && not (held_at k roots e o)) 0 (count_of k e)
    (λ o h. ap (λ b. not b && not (get_or marks o false)) (gone_there k e o (omega arith))
    ∙ goes_alike (gone_at k e o) (get_or marks o false) (held_at k roots e o) (λ there. get_or_from_slice_get marks o _ false (held o (omega arith) there)))

-- what a collection leaves, where it ends what isn't marked
row_swept : (k : ℕ) (roots : List ℕ) (e : List Event) (marks : List Bool) → MarksHeld k roots e marks → (o : ℕ) → o < count_of k e
    → ended_row (list_any (λ p. not (get_or marks p false) && eqb p o) (live_in (standing k e))) (row_in (standing k e) o) ≡ row_at k (Collected roots ∷ e) o
row_swept k roots e marks held o h =
    let rows : List Row = standing k e in
    let row : Row = row_in rows o in
    let gone : row.gone ≡ gone_at k e o = gone_there k e o h in
    let same : (row.gone || (not row.gone && not (get_or marks o false))) ≡ (row.gone || not (held_at k roots e o)) =
    gone_alike row.gone (get_or marks o false) (held_at k roots e o) (λ there. get_or_from_slice_get marks o _ false (held o h (sym gone ∙ there))) in
    ap (λ b. ended_row b row) (goes_now rows (λ p. get_or marks p false) o (omega (arith, length-standing k e)))
    ∙ ap (λ b. record row { gone = b }) same
    ∙ ap (swept_row (held_at k roots e o)) (row_in-standing k e o h)
    ∙ sym (row_collected k roots e o h)

standing_swept : (k : ℕ) (roots : List ℕ) (e : List Event) (marks : List Bool) (new : List Row) → length new ≡ count_of k e → MarksHeld k roots e marks
    → ((o : ℕ) → row_in new o ≡ ended_row (list_any (λ p. not (get_or marks p false) && eqb p o) (live_in (standing k e))) (row_in (standing k e) o))
    → new ≡ standing k (Collected roots ∷ e)
standing_swept k roots e marks new len held ended =
    fill_by_all (row_at k (Collected roots ∷ e)) new (count_of k e) no_row len (λ o h. ended o ∙ row_swept k roots e marks held o h)
    ∙ sym (standing_is k (Collected roots ∷ e))

-- ---- the same, from what the store keeps

pub marks_of : {A : Type 0} (items before : List (Object A)) (there : List Bool) (blocks : List ℕ) (loose : ℕ)
    (pointed pointing : List ℕ) (rows : Rows) (k : ℕ) (e : List Event) (roots : List ℕ) (old mid new : List Bool)
    → before ≡ items → pointed ≡ pointing → Keeps items there blocks loose pointing → record { classes = k; objects = map row_of items } ≡ rows → Stands rows e
    → length mid ≡ length old → length new ≡ length mid
    → ((o : ℕ) → o < length old → get_or mid o false ≡ (get_or old o false || ltb o k))
    → ((o : ℕ) → o < length mid → get_or new o false ≡ (get_or mid o false || list_any (slot_of_row_holds (map row_of before) o) pointed))
    → MarksRoots rows.classes roots e old → MarksHeld rows.classes roots e new
marks_of items before there blocks loose pointed pointing rows k e roots old mid new is same keeps view stands n m classes slots was =
    let base : map row_of items ≡ standing rows.classes e = ap (λ (r : Rows). r.objects) view ∙ stands in
    marks_held rows.classes roots e old new (m ∙ n) was
    (λ o h. slots o (omega (arith, h, n)) ∙ ap (λ b. b || list_any (slot_of_row_holds (map row_of before) o) pointed) (classes o h)
    ∙ ap (λ c. (get_or old o false || ltb o c) || list_any (slot_of_row_holds (map row_of before) o) pointed) (ap (λ (r : Rows). r.classes) view)
    ∙ ap (λ b. (get_or old o false || ltb o rows.classes) || b)
    (ap (λ (xs : List (Object _)). list_any (slot_of_row_holds (map row_of xs) o) pointed) is
    ∙ ap (list_any (slot_of_row_holds (map row_of items) o)) same
    ∙ pointing_holds items there blocks loose pointing o keeps
    ∙ ap (λ (rs : List Row). list_any (slot_of_row_holds rs o) (live_in rs)) base))

-- those of the blocks that are in being and aren't marked are all that are in being and aren't marked
pub listed : {A : Type 0} (items : List (Object A)) (there flags : List Bool) (blocks firsts : List ℕ) (loose : ℕ) (pointing : List ℕ) (rows : Rows) (k : ℕ)
    (marks : List Bool)
    → flags ≡ there → firsts ≡ blocks → Keeps items there blocks loose pointing → record { classes = k; objects = map row_of items } ≡ rows
    → filter (unheld_in flags marks) (numbers_in firsts loose (length flags)) ≡ filter (λ o. not (get_or marks o false)) (live_in rows.objects)
listed items there flags blocks firsts loose pointing rows k marks is same keeps view =
    let unmarked : ℕ → Bool = λ o. not (get_or marks o false) in
    ap (λ (bs : List Bool). filter (unheld_in bs marks) (numbers_in firsts loose (length bs))) is
    ∙ ap (λ (bs : List ℕ). filter (unheld_in there marks) (numbers_in bs loose (length there))) same
    ∙ sym (filter_filter unmarked (λ o. get_or there o false) (numbers_in blocks loose (length there)))
    ∙ ap (filter unmarked) (keeps.live ∙ ap (λ (r : Rows). live_in r.objects) view)

-- and so what goes
pub list_goes : (rows : Rows) (e : List Event) (roots : List ℕ) (marks : List Bool) → Stands rows e → MarksHeld rows.classes roots e marks
    → filter (λ o. not (get_or marks o false)) (live_in rows.objects) ≡ going rows.classes roots e
list_goes rows e roots marks stands held =
    ap (λ (rs : List Row). filter (λ o. not (get_or marks o false)) (live_in rs)) stands ∙ unmarked_going rows.classes roots e marks held

-- which go, where they are listed
pub goes_listed : (rows : List Row) (marks : List Bool) (unheld : List ℕ) (o : ℕ) → unheld ≡ filter (λ p. not (get_or marks p false)) (live_in rows)
    → list_any (λ p. eqb p o) unheld ≡ list_any (λ p. not (get_or marks p false) && eqb p o) (live_in rows)
goes_listed rows marks unheld o is = ap (list_any (λ p. eqb p o)) is ∙ any_filter (λ p. eqb p o) (λ p. not (get_or marks p false)) (live_in rows)

pub rows_swept : {A : Type 0} (items before new : List (Object A)) (unheld : List ℕ) (rows : Rows) (k : ℕ) (e : List Event) (roots : List ℕ) (marks : List Bool)
    → before ≡ items → record { classes = k; objects = map row_of items } ≡ rows → AreListed rows marks unheld → Stands rows e → length new ≡ length before
    → ((o : ℕ) → row_in (map row_of new) o ≡ ended_row (list_any (λ p. eqb p o) unheld) (row_in (map row_of before) o))
    → MarksHeld rows.classes roots e marks → map row_of new ≡ standing k (Collected roots ∷ e)
rows_swept items before new unheld rows k e roots marks is view all stands len ended held =
    let base : map row_of before ≡ standing rows.classes e = ap (map row_of) is ∙ ap (λ (r : Rows). r.objects) view ∙ stands in
    let unmarked : ℕ → Bool = λ o. not (get_or marks o false) in
    standing_swept rows.classes roots e marks (map row_of new) (length-map new row_of ∙ len ∙ sym (length-map before row_of) ∙ ap length base
    ∙ length-standing rows.classes e) held
    (λ o. ended o ∙ ap (λ b. ended_row b (row_in (map row_of before) o))
    (goes_listed (standing rows.classes e) marks unheld o (all ∙ ap (λ (rs : List Row). filter unmarked (live_in rs)) stands))
    ∙ ap (λ (rs : List Row). ended_row (list_any (λ p. not (get_or marks p false) && eqb p o) (live_in (standing rows.classes e))) (row_in rs o)) base)
    ∙ ap (λ c. standing c (Collected roots ∷ e)) (sym (ap (λ (r : Rows). r.classes) view))

-- the rows of a new store
pub standing_new : (k : ℕ) → replicate k (row_of_making (Plain 1 [])) ≡ standing k []
unfolding standing row_at slots_at
standing_new k = fill_by_all (row_at k []) (replicate k (row_of_making (Plain 1 []))) k no_row (length-replicate k (row_of_making (Plain 1 [])))
    (λ o h. get_or-replicate k o _ no_row h)
