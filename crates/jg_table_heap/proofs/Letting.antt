-- A collection that lists nothing: object by object, what neither marks nor roots hold is let go.
use Rattle.std.proofs.Common.{ℕ, zero, suc, ◌≡◌, ◌<◌, ◌≤◌, ◌+◌, ◌-◌, ◌∙◌, sym, ap, refl, inl, inr, List, [], ◌∷◌, ◌++◌, length, map, get_or, set, subst, take, arith, Bool, true, false, not, ◌&&◌, ◌||◌, eqb, ltb, Some}
use Rattle.std.specs.Prelude.{All, filter, flat_map}
use Rattle.std.specs.List.{list_any, range_with_len}
use Rattle.std.proofs.lemmas.Bool.{cases_Bool, cases_lt, eqb-true}
use Rattle.std.proofs.lemmas.Grind.{flat_map-append}
use Rattle.std.proofs.lemmas.List.{append-nil, get_or_past, length-map, take_more}
use Rattle.std.proofs.lemmas.List.Folds.{list_any-append}
use Rattle.std.proofs.lemmas.List.Filters.{length-filter_both}
use Rattle.std.proofs.lemmas.List.FromFn.{fill_by_all, length-map-range_with_len, get_or-map-range_with_len}
use Rattle.std.proofs.lemmas.Option.{slice_get-get_or}
use Rattle.std.proofs.Math.Bool.{or-false}
use Rattle.jg_lists.proofs.Lists.{range_more, any_filter}
use Rattle.jg_table_heap.specs.declared.body.Body.{Body}
use Rattle.jg_table_heap.specs.History.{Event, Collected, going}
use Rattle.jg_table_heap.specs.Rows.{Row, Rows, row_in}
use Rattle.jg_table_heap.specs.Kept.{Object, Stored, AreWhole, LetsGo, marked_or_root, trues, objects_of, row_of, ended_row, live_in, is_there, numbers_in, block_of, slot_of_row_holds}
use Rattle.jg_table_heap.specs.Standing.{Stands, MarksRoots, MarksHeld, held_objects, standing}
use Rattle.jg_table_heap.proofs.Lists.{list_any_implies, keep_alike, kept_any}
use Rattle.jg_table_heap.proofs.Collecting.{goes_listed, marks_of, list_goes, rows_swept}
use Rattle.jg_table_heap.proofs.Objects.{length-objects_of, being_of, stays, unset_at, stored_swept, swept_of}
use Rattle.jg_table_heap.proofs.Sweeping.{goes_now, live_swept, pointing_within, there_at}
use Rattle.jg_table_heap.proofs.Told.{count_stands}

-- ---- one object after another

one_gone : (old was here held : Bool) → (here ≡ true → held ≡ false) → ((old && not (was && not held)) && not here) ≡ (old && not ((was || here) && not held))
one_gone false was here held free = refl
one_gone true true true true free = absurd (cc (free refl))
one_gone true false true true free = absurd (cc (free refl))
one_gone true true true false free = refl
one_gone true false true false free = refl
one_gone true true false true free = refl
one_gone true true false false free = refl
one_gone true false false true free = refl
one_gone true false false false free = refl

one_stays : (old was here held : Bool) → (here ≡ true → ((old && not (was && not held)) && not held) ≡ false)
    → (old && not (was && not held)) ≡ (old && not ((was || here) && not held))
one_stays false was here held stays = refl
one_stays true true here held stays = refl
one_stays true false false held stays = refl
one_stays true false true true stays = refl
one_stays true false true false stays = absurd (cc (stays refl))

both_gone : (old first later held : Bool) → ((old && not (first && not held)) && not (later && not held)) ≡ (old && not ((first || later) && not held))
both_gone false first later held = refl
both_gone true true true true = refl
both_gone true true true false = refl
both_gone true true false true = refl
both_gone true true false false = refl
both_gone true false later held = refl

module _ (held : ℕ → Bool) where
  pub lets_none : (old : List Bool) → LetsGo held [] old old
  lets_none old o = stays (get_or old o false)

  more_any : (objects : List ℕ) (i o : ℕ) → list_any (λ p. eqb p o) (objects ++ i ∷ []) ≡ (list_any (λ p. eqb p o) objects || eqb i o)
  more_any objects i o = list_any-append (λ p. eqb p o) objects (i ∷ []) ∙ ap (λ b. list_any (λ p. eqb p o) objects || b) (or-false (eqb i o))

  -- one more goes
  pub lets_go : (objects : List ℕ) (old cur : List Bool) (i : ℕ) → i < length cur → LetsGo held objects old cur → held i ≡ false
      → LetsGo held (objects ++ i ∷ []) old (set cur i false)
  lets_go objects old cur i within lets free o =
      unset_at cur i o within ∙ ap (λ b. b && not (eqb i o)) (lets o)
      ∙ one_gone (get_or old o false) (list_any (λ p. eqb p o) objects) (eqb i o) (held o) (λ here. ap held (sym (eqb-true i o here)) ∙ free)
      ∙ ap (λ b. get_or old o false && not (b && not (held o))) (sym (more_any objects i o))

  -- one more stays, or was gone
  pub lets_stay : (objects : List ℕ) (old cur : List Bool) (i : ℕ) → LetsGo held objects old cur → (get_or cur i false && not (held i)) ≡ false
      → LetsGo held (objects ++ i ∷ []) old cur
  lets_stay objects old cur i lets stay o =
      lets o
      ∙ one_stays (get_or old o false) (list_any (λ p. eqb p o) objects) (eqb i o) (held o)
      (λ here. ap (λ b. b && not (held o)) (sym (lets o)) ∙ ap (λ q. get_or cur q false && not (held q)) (sym (eqb-true i o here)) ∙ stay)
      ∙ ap (λ b. get_or old o false && not (b && not (held o))) (sym (more_any objects i o))

  -- some, and then others
  pub lets_both : (first later : List ℕ) (old mid new : List Bool) → LetsGo held first old mid → LetsGo held later mid new
      → LetsGo held (first ++ later) old new
  lets_both first later old mid new one two o =
      two o ∙ ap (λ b. b && not (list_any (λ p. eqb p o) later && not (held o))) (one o)
      ∙ both_gone (get_or old o false) (list_any (λ p. eqb p o) first) (list_any (λ p. eqb p o) later) (held o)
      ∙ ap (λ b. get_or old o false && not (b && not (held o))) (sym (list_any-append (λ p. eqb p o) first later))

  -- the objects in a row up to one more
  pub lets_row : (first i : ℕ) (old cur : List Bool) → first ≤ i → LetsGo held (range_with_len first (i - first) ++ i ∷ []) old cur
      → LetsGo held (range_with_len first (i + 1 - first)) old cur
  lets_row first i old cur from lets =
      let last : first + (i - first) ≡ i = omega (arith, from) in
      let count : i + 1 - first ≡ i - first + 1 = omega (arith, from) in
      subst (λ os. LetsGo held os old cur)
      (sym (ap (range_with_len first) count ∙ range_more first (i - first) ∙ ap (λ o. range_with_len first (i - first) ++ o ∷ []) last)) lets

  pub lets_start : (first : ℕ) (old : List Bool) → LetsGo held (range_with_len first (first - first)) old old
  lets_start first old = let none : first - first ≡ 0 = omega arith in subst (λ n. LetsGo held (range_with_len first n) old old) (sym none) (lets_none old)

  -- the objects of one block more
  pub lets_block : (blocks : List ℕ) (i : ℕ) (old mid new : List Bool) → i < length blocks
      → LetsGo held (flat_map block_of (take i blocks)) old mid → LetsGo held (block_of (get_or blocks i 0)) mid new
      → LetsGo held (flat_map block_of (take (i + 1) blocks)) old new
  lets_block blocks i old mid new within one two =
      subst (λ os. LetsGo held os old new)
      (sym (ap (flat_map block_of) (take_more blocks i 0 within) ∙ flat_map-append block_of (take i blocks) (get_or blocks i 0 ∷ [])
      ∙ ap (λ os. flat_map block_of (take i blocks) ++ os) (append-nil (block_of (get_or blocks i 0)))))
      (lets_both (flat_map block_of (take i blocks)) (block_of (get_or blocks i 0)) old mid new one two)

-- ---- how many go

pub both_are : (there held : Bool) → (there && not held) ≡ true → (there ≡ true) × (held ≡ false)
both_are true false is = (refl, refl)
both_are true true is = absurd (cc is)
both_are false held is = absurd (cc is)

-- one true less
pub trues_less : (flags : List Bool) (i : ℕ) → get_or flags i false ≡ true → trues (set flags i false) + 1 ≡ trues flags
trues_less [] i is = absurd (cc is)
trues_less (true ∷ flags) zero is = omega arith
trues_less (false ∷ flags) zero is = absurd (cc is)
trues_less (true ∷ flags) (suc i) is = let rest = trues_less flags i is in omega (arith, rest)
trues_less (false ∷ flags) (suc i) is = trues_less flags i is

pub trues_within : (flags : List Bool) → trues flags ≤ length flags
trues_within [] = omega arith
trues_within (true ∷ flags) = let rest = trues_within flags in omega (arith, rest)
trues_within (false ∷ flags) = let rest = trues_within flags in omega (arith, rest)

trues_map : (f : ℕ → Bool) (os : List ℕ) → trues (map f os) ≡ length (filter f os)
trues_map f [] = refl
trues_map f (o ∷ os) =
    elim (cases_Bool (f o)) [
      | inl is ↦ rw (is) (ap suc (trues_map f os))
      | inr not ↦ rw (not) (trues_map f os)
    ]

-- as many are true as are in being
pub trues_live : {A : Type 0} (bodies : List (Body A)) (there : List Bool) → length there ≡ length bodies
    → trues there ≡ length (live_in (map row_of (objects_of bodies there)))
trues_live bodies there same =
    let rows : List Row = map row_of (objects_of bodies there) in
    let count : length rows ≡ length bodies = length-map (objects_of bodies there) row_of ∙ length-objects_of bodies there same in
    let flags : there ≡ map (is_there rows) (range_with_len 0 (length rows)) =
    fill_by_all (is_there rows) there (length rows) false (omega (arith, same, count))
    (λ o h. ap (λ bs. get_or bs o false) (being_of bodies there same)
    ∙ there_at (objects_of bodies there) o (omega (arith, h, length-map (objects_of bodies there) row_of))) in
    ap trues flags ∙ trues_map (is_there rows) (range_with_len 0 (length rows))

-- ---- a collection

held_both : (root class slot : Bool) → ((class || slot) || root) ≡ ((root || class) || slot)
held_both true true slot = refl
held_both true false true = refl
held_both true false false = refl
held_both false true slot = refl
held_both false false true = refl
held_both false false false = refl

kept_or_gone : (there held listed : Bool) (flag : Bool) → flag ≡ (there && not (listed && not held)) → (there ≡ true → listed ≡ true)
    → flag ≡ (there && not (there && not held))
kept_or_gone false held listed flag is all = is
kept_or_gone true held listed flag is all = is ∙ ap (λ b. not (b && not held)) (all refl)

module _ {A : Type 0} (bodies : List (Body A)) (there flags marks : List Bool) (root : ℕ → Bool) (blocks : List ℕ) (loose : ℕ) (pointing : List ℕ)
    (stored : Stored bodies there blocks loose pointing) (count : length flags ≡ length there)
    (lets : LetsGo (marked_or_root marks root) (numbers_in blocks loose (length there)) there flags) where
  abbrev pub n : ℕ
  n = length there

  abbrev pub rows : List Row
  rows = map row_of (objects_of bodies there)

  abbrev pub held : ℕ → Bool
  held = marked_or_root marks root

  -- the marks, with those of the roots
  abbrev pub marked : List Bool
  marked = map held (range_with_len 0 n)

  abbrev pub unheld : List ℕ
  unheld = filter (λ o. not (get_or marked o false)) (live_in rows)

  same : length there ≡ length bodies
  same = stored.same

  count_rows : length rows ≡ n
  count_rows = length-map (objects_of bodies there) row_of ∙ length-objects_of bodies there same ∙ sym same

  marked_at : (o : ℕ) → o < n → get_or marked o false ≡ held o
  marked_at o h = get_or-map-range_with_len held 0 n o o false h (omega arith)

  being_at : (o : ℕ) → o < n → get_or there o false ≡ is_there rows o
  being_at o h = ap (λ bs. get_or bs o false) (being_of bodies there same)
      ∙ there_at (objects_of bodies there) o (omega (arith, h, same, length-objects_of bodies there same))

  within : (o : ℕ) → get_or there o false ≡ true → o < n
  within o is = elim (cases_lt o n) [ inl h ↦ h | inr past ↦ absurd (cc (is, get_or_past there o false past)) ]

  -- each that is in being is among the numbers gone over
  among : (o : ℕ) → get_or there o false ≡ true → list_any (λ p. eqb p o) (numbers_in blocks loose n) ≡ true
  among o is =
      let being : ℕ → Bool = λ p. get_or there p false in
      let live : list_any (λ p. eqb p o) (filter being (numbers_in blocks loose n)) ≡ true =
      ap (list_any (λ p. eqb p o)) stored.keeps.live ∙ kept_any (is_there rows) (length rows) o (omega (arith, within o is, count_rows))
      ∙ sym (being_at o (within o is)) ∙ is in
      list_any_implies (λ p. being p && eqb p o) (λ p. eqb p o) (λ p both. last_of (being p) (eqb p o) both) (numbers_in blocks loose n)
      (sym (any_filter (λ p. eqb p o) being (numbers_in blocks loose n)) ∙ live)
    where
      last_of : (a b : Bool) → (a && b) ≡ true → b ≡ true
      last_of true b both = both
      last_of false b both = absurd (cc both)

  listed_at : (o : ℕ) → o < n → list_any (λ p. eqb p o) unheld ≡ (is_there rows o && not (held o))
  listed_at o h =
      goes_listed rows marked unheld o refl ∙ goes_now rows (λ p. get_or marked p false) o (omega (arith, h, count_rows))
      ∙ ap (λ b. is_there rows o && not b) (marked_at o h)

  -- just those that are in being and not held go
  pub goes : (o : ℕ) → get_or flags o false ≡ (get_or there o false && not (list_any (λ p. eqb p o) unheld))
  goes o =
      let flag : get_or flags o false ≡ (get_or there o false && not (get_or there o false && not (held o))) =
      kept_or_gone (get_or there o false) (held o) (list_any (λ p. eqb p o) (numbers_in blocks loose n)) (get_or flags o false) (lets o) (among o) in
      elim (cases_Bool (get_or there o false)) [
        | inl is ↦ flag ∙ ap (λ b. get_or there o false && not (b && not (held o))) (being_at o (within o is))
            ∙ ap (λ b. get_or there o false && not b) (sym (listed_at o (within o is)))
        | inr out ↦ flag ∙ ap (λ b. b && not (get_or there o false && not (held o))) out ∙ ap (λ b. b && not (list_any (λ p. eqb p o) unheld)) (sym out)
      ]

  pub ended : (o : ℕ) → row_in (map row_of (objects_of bodies flags)) o ≡ ended_row (list_any (λ p. eqb p o) unheld) (row_in rows o)
  ended = swept_of bodies there marked unheld same refl flags count goes

  pub len : length (objects_of bodies flags) ≡ length (objects_of bodies there)
  len = length-objects_of bodies flags (count ∙ same) ∙ sym (length-objects_of bodies there same)

  -- what the store keeps
  pub stored_let : (after : List ℕ) (points : List ℕ)
      → filter (λ o. get_or flags o false) (numbers_in after loose (length flags))
      ≡ filter (λ o. get_or flags o false) (numbers_in blocks loose (length flags))
      → AreWhole after (length flags) → points ≡ filter held pointing → Stored bodies flags after loose points
  stored_let after points closed whole point =
      let objects : List (Object A) = objects_of bodies there in
      let all : All (λ p. p < length objects) pointing = pointing_within objects objects there blocks loose pointing pointing refl refl stored.keeps in
      stored_swept bodies there marked unheld same refl flags count goes blocks after loose pointing points stored closed whole
      (point ∙ keep_alike held (λ o. get_or marked o false) pointing
      (λ i d h. sym (marked_at (get_or pointing i d) (omega (arith, all i d h, same, length-objects_of bodies there same)))))

  module _ (store : Rows) (k : ℕ) (e : List Event) (view : record { classes = k; objects = rows } ≡ store) (stands : Stands store e)
      (marks_are : (o : ℕ) → o < n → get_or marks o false ≡ (ltb o k || list_any (slot_of_row_holds rows o) pointing)) where
    abbrev pub roots : List ℕ
    roots = held_objects root (length store.objects)

    count_store : length store.objects ≡ n
    count_store = ap (λ (r : Rows). length r.objects) (sym view) ∙ count_rows

    abbrev pub of_roots : List Bool
    of_roots = map root (range_with_len 0 n)

    abbrev pub of_classes : List Bool
    of_classes = map (λ o. root o || ltb o k) (range_with_len 0 n)

    roots_at : (o : ℕ) → o < n → get_or of_roots o false ≡ root o
    roots_at o h = get_or-map-range_with_len root 0 n o o false h (omega arith)

    classes_at : (o : ℕ) → o < n → get_or of_classes o false ≡ (root o || ltb o k)
    classes_at o h = get_or-map-range_with_len (λ p. root p || ltb p k) 0 n o o false h (omega arith)

    are_roots : MarksRoots store.classes roots e of_roots
    are_roots o made here =
        let h : o < n = omega (arith, made, count_stands store e stands, count_store) in
        slice_get-get_or of_roots o false (omega (arith, h, length-map-range_with_len root 0 n))
        ∙ ap Some (roots_at o h ∙ sym (kept_any root (length store.objects) o (omega (arith, h, count_store))))

    are_held : MarksHeld store.classes roots e marked
    are_held =
        let items : List (Object A) = objects_of bodies there in
        marks_of items items there blocks loose pointing pointing store k e roots of_roots of_classes marked refl refl stored.keeps view stands
        (length-map-range_with_len (λ o. root o || ltb o k) 0 n ∙ sym (length-map-range_with_len root 0 n))
        (length-map-range_with_len held 0 n ∙ sym (length-map-range_with_len (λ o. root o || ltb o k) 0 n))
        (λ o h. let below : o < n = omega (arith, h, length-map-range_with_len root 0 n)
        in classes_at o below ∙ ap (λ b. b || ltb o k) (sym (roots_at o below)))
        (λ o h. let below : o < n = omega (arith, h, length-map-range_with_len (λ p. root p || ltb p k) 0 n) in
        marked_at o below ∙ ap (λ b. b || root o) (marks_are o below) ∙ held_both (root o) (ltb o k) (list_any (slot_of_row_holds rows o) pointing)
        ∙ ap (λ b. b || list_any (slot_of_row_holds rows o) pointing) (sym (classes_at o below)))
        are_roots

    objects_are : rows ≡ store.objects
    objects_are = ap (λ (r : Rows). r.objects) view

    -- the rows
    pub rows_let : map row_of (objects_of bodies flags) ≡ standing k (Collected roots ∷ e)
    rows_let =
        let items : List (Object A) = objects_of bodies there in
        rows_swept items items (objects_of bodies flags) unheld store k e roots marked refl view
        (ap (λ rs. filter (λ o. not (get_or marked o false)) (live_in rs)) objects_are) stands len ended are_held

    -- how many went
    pub went : (gone : ℕ) → gone + trues flags ≡ trues there → gone ≡ length (going store.classes roots e)
    went gone is =
        let new : List Row = map row_of (objects_of bodies flags) in
        let stay : ℕ → Bool = λ o. get_or marked o false in
        let left : filter stay (live_in rows) ≡ live_in new =
        live_swept rows new stay (length-map (objects_of bodies flags) row_of ∙ len ∙ sym (length-map (objects_of bodies there) row_of))
        (λ o. ended o ∙ ap (λ b. ended_row b (row_in rows o)) (goes_listed rows marked unheld o refl)) in
        let both = length-filter_both stay (λ o. not (stay o)) (λ o. refl) (live_in rows) in
        let gones : length unheld ≡ length (going store.classes roots e) =
        ap length (ap (λ rs. filter (λ o. not (stay o)) (live_in rs)) objects_are ∙ list_goes store e roots marked stands are_held) in
        omega (arith, is, trues_live bodies there same, trues_live bodies flags (count ∙ same), ap length left, both, gones)
