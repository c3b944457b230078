-- The turns of the loops that let go of objects, and the numbers of those that aren't gone.
use Rattle.std.proofs.Common.{ℕ, ◌≡◌, ◌+◌, ◌<◌, ◌≢◌, ◌∙◌, sym, ap, refl, List, [], ◌∷◌, ◌++◌, length, map, get_or, set, arith, Bool, true, false, not, ◌&&◌, ◌||◌, eqb, inl, inr, get_or-set_same, get_or-set_other, subst, length-append, cond, zero-add, ◌≤◌, ◌⊎◌}
use Rattle.std.specs.Prelude.{All, filter}
use Rattle.std.specs.List.{list_any, range_with_len}
use Rattle.std.proofs.Math.Seq.{get_or-append_seam}
use Rattle.std.proofs.lemmas.List.{get_or_append_left, get_or-map, get_or_past, length-map, length-set, map-set, map-append, set-get_or}
use Rattle.std.proofs.lemmas.Simd.{map-map}
use Rattle.std.proofs.lemmas.List.Elements.{filter-append, filter_agree, All-filter}
use Rattle.std.proofs.lemmas.Bool.{cases_eq, cases_lt}
use Rattle.std.proofs.Math.Bool.{or-false}
use Rattle.jg_table_heap.specs.Rows.{Row, row_in, no_row}
use Rattle.jg_table_heap.specs.Kept.{Object, row_of, ended_row, is_there, in_being, live_in, may_point, may_point_at, slot_of_row_holds, numbers_in, AreWhole, Keeps}
use Rattle.jg_lists.proofs.Lists.{filter_swap, range_more, any_agree, any_filter}
use Rattle.jg_table_heap.proofs.Lists.{keep_agree, keep_alike, kept_below, kept_any, filter_filter, stays_alike, and_implied}
use Rattle.jg_table_heap.proofs.Blocks.{numbers_more, numbers_within}
use Rattle.jg_table_heap.proofs.Items.{none_at}

row_set : {A : Type 0} (cur : List (Object A)) (i : ℕ) (y : Object A) → i < length cur → row_in (map row_of (set cur i y)) i ≡ row_of y
row_set cur i y h =
    let n : length (map row_of cur) ≡ length cur = length-map cur row_of in
    let inside : i < length (map row_of cur) = omega arith in
    ap (λ (r : List Row). row_in r i) (map-set row_of cur i y) ∙ rw get_or-set_same refl

row_set_other : {A : Type 0} (cur : List (Object A)) (i o : ℕ) (y : Object A) → o ≢ i → row_in (map row_of (set cur i y)) o ≡ row_in (map row_of cur) o
row_set_other cur i o y h = ap (λ (r : List Row). row_in r o) (map-set row_of cur i y) ∙ rw get_or-set_other refl

-- ---- letting go

-- none goes
pub ended_none : (row : Row) → row ≡ ended_row false row
ended_none row = ap (λ g. record row { gone = g }) (sym (or-false row.gone))

-- ---- the numbers of those that aren't gone

live_below : (rows : List Row) → All (λ p. p < length rows) (live_in rows)
live_below rows = kept_below (λ o. not (row_in rows o).gone) (length rows)

live_same : (f g : List Row) → length f ≡ length g → ((o : ℕ) → o < length g → (row_in f o).gone ≡ (row_in g o).gone) → live_in f ≡ live_in g
live_same f g len h =
    ap (λ n. filter (λ o. not (row_in f o).gone) (range_with_len 0 n)) len
    ∙ keep_agree (λ o. not (row_in f o).gone) (λ o. not (row_in g o).gone) 0 (length g) (λ o l. ap not (h o (omega arith)))

pub all_below : {A : Type 0} (items : List (Object A)) → All (λ p. p < length items) (live_in (map row_of items))
all_below items = subst (λ n. All (λ p. p < n) (live_in (map row_of items))) (length-map items row_of) (live_below (map row_of items))

-- all of them are numbers of objects
pub within : {A : Type 0} (items before : List (Object A)) (live kept : List ℕ) → before ≡ items → live ≡ kept → All (λ p. p < length items) kept
    → All (λ p. p < length before) live
within items before live kept is same all =
    subst (λ (os : List ℕ). All (λ p. p < length before) os) (sym same) (subst (λ (xs : List (Object _)). All (λ p. p < length xs) kept) (sym is) all)

-- which of the first objects go
pub goes_now : (rows : List Row) (marked : ℕ → Bool) (o : ℕ) → o < length rows
    → list_any (λ p. not (marked p) && eqb p o) (live_in rows) ≡ (not (row_in rows o).gone && not (marked o))
goes_now rows marked o h =
    sym (any_filter (λ p. eqb p o) (λ p. not (marked p)) (live_in rows))
    ∙ ap (list_any (λ p. eqb p o)) (filter_filter (λ p. not (marked p)) (λ p. not (row_in rows p).gone) (range_with_len 0 (length rows)))
    ∙ kept_any (λ p. not (row_in rows p).gone && not (marked p)) (length rows) o h

-- after a collection
pub live_swept : (old new : List Row) (marked : ℕ → Bool) → length new ≡ length old
    → ((o : ℕ) → row_in new o ≡ ended_row (list_any (λ p. not (marked p) && eqb p o) (live_in old)) (row_in old o))
    → filter marked (live_in old) ≡ live_in new
live_swept old new marked len ended =
    filter_filter marked (λ o. not (row_in old o).gone) (range_with_len 0 (length old))
    ∙ keep_agree (λ o. not (row_in old o).gone && marked o) (λ o. not (row_in new o).gone) 0 (length old)
    (λ o l. stays_alike (row_in old o).gone (marked o) ∙ ap (λ b. not ((row_in old o).gone || b)) (sym (goes_now old marked o (omega arith)))
    ∙ ap (λ (r : Row). not r.gone) (sym (ended o)))
    ∙ ap (λ n. filter (λ o. not (row_in new o).gone) (range_with_len 0 n)) (sym len)

-- what is there after it was there before, and marked
there_after : (old new : List Row) (marked : ℕ → Bool) (o : ℕ) → o < length old
    → row_in new o ≡ ended_row (list_any (λ p. not (marked p) && eqb p o) (live_in old)) (row_in old o) → is_there new o ≡ (is_there old o && marked o)
there_after old new marked o within ended =
    ap (λ (r : Row). not r.gone) ended ∙ ap (λ b. not ((row_in old o).gone || b)) (goes_now old marked o within)
    ∙ sym (stays_alike (row_in old o).gone (marked o))

-- the list of those in being, object by object
pub there_at : {A : Type 0} (items : List (Object A)) (o : ℕ) → o < length items → get_or (map in_being items) o false ≡ is_there (map row_of items) o
there_at items o h =
    ap (λ (bs : List Bool). get_or bs o false) (sym (map-map (λ (r : Row). not r.gone) row_of items))
    ∙ get_or-map (λ (r : Row). not r.gone) (map row_of items) o no_row false (omega (arith, h, length-map items row_of))

there_swept : {A : Type 0} (old new : List (Object A)) (marked : ℕ → Bool) → length new ≡ length old
    → ((o : ℕ) → row_in (map row_of new) o ≡ ended_row (list_any (λ p. not (marked p) && eqb p o) (live_in (map row_of old))) (row_in (map row_of old) o))
    → (o : ℕ) → (o < length old) ⊎ (length old ≤ o) → get_or (map in_being new) o false ≡ (get_or (map in_being old) o false && marked o)
there_swept old new marked len ended o (inl within) =
    there_at new o (omega (arith, within, len))
    ∙ there_after (map row_of old) (map row_of new) marked o (omega (arith, within, length-map old row_of)) (ended o)
    ∙ ap (λ b. b && marked o) (sym (there_at old o within))
there_swept old new marked len ended o (inr past) =
    get_or_past (map in_being new) o false (omega (arith, past, len, length-map new in_being))
    ∙ ap (λ b. b && marked o) (sym (get_or_past (map in_being old) o false (omega (arith, past, length-map old in_being))))

-- after a collection, where those in being were found among these numbers
numbers_swept : {A : Type 0} (old new : List (Object A)) (marked : ℕ → Bool) (numbers : List ℕ) → length new ≡ length old
    → ((o : ℕ) → row_in (map row_of new) o ≡ ended_row (list_any (λ p. not (marked p) && eqb p o) (live_in (map row_of old))) (row_in (map row_of old) o))
    → filter (λ o. get_or (map in_being old) o false) numbers ≡ live_in (map row_of old)
    → filter (λ o. get_or (map in_being new) o false) numbers ≡ live_in (map row_of new)
numbers_swept old new marked numbers len ended is =
    filter_agree (λ o. get_or (map in_being new) o false) (λ o. get_or (map in_being old) o false && marked o)
    (λ o. there_swept old new marked len ended o (cases_lt o (length old))) numbers
    ∙ sym (filter_filter marked (λ o. get_or (map in_being old) o false) numbers) ∙ ap (filter marked) is
    ∙ live_swept (map row_of old) (map row_of new) marked (length-map new row_of ∙ len ∙ sym (length-map old row_of)) ended

-- with one object more
live_more : (rows : List Row) (r : Row) → r.gone ≡ false → live_in rows ++ length rows ∷ [] ≡ live_in (rows ++ r ∷ [])
live_more rows r is =
    let n = length rows in
    let all = rows ++ r ∷ [] in
    let len : length all ≡ n + 1 = length-append rows (r ∷ []) in
    let keeps : ℕ → Bool = λ o. not (row_in all o).gone in
    let last : keeps n ≡ true = ap (λ (x : Row). not x.gone) (get_or-append_seam rows r [] no_row) ∙ ap not is in
    sym (ap (λ m. filter keeps (range_with_len 0 m)) len
    ∙ ap (filter keeps) (range_more 0 n ∙ ap (λ o. range_with_len 0 n ++ o ∷ []) (zero-add n))
    ∙ filter-append keeps (range_with_len 0 n) (n ∷ [])
    ∙ ap (λ (os : List ℕ). os ++ filter keeps (n ∷ [])) (keep_agree keeps (λ o. not (row_in rows o).gone) 0 n
    (λ o l. ap (λ (x : Row). not x.gone) (get_or_append_left rows (r ∷ []) no_row o (omega arith))))
    ∙ ap (λ (os : List ℕ). live_in rows ++ os) (rw (last) refl))

-- one slot written
gone_wrote : {A : Type 0} (cur : List (Object A)) (p : ℕ) (x y : Object A) → p < length cur → x ≡ get_or cur p x → (row_of y).gone ≡ (row_of x).gone
    → (o : ℕ) → (row_in (map row_of (set cur p y)) o).gone ≡ (row_in (map row_of cur) o).gone
gone_wrote cur p x y inside is same o =
    elim (cases_eq o p) [
      | inl here ↦ ap (λ q. (row_in (map row_of (set cur p y)) q).gone) here ∙ ap (λ (r : Row). r.gone) (row_set cur p y inside) ∙ same
          ∙ ap (λ (z : Object _). (row_of z).gone) is
          ∙ ap (λ (r : Row). r.gone) (sym (get_or-map row_of cur p x no_row inside)) ∙ ap (λ q. (row_in (map row_of cur) q).gone) (sym here)
      | inr other ↦ ap (λ (r : Row). r.gone) (row_set_other cur p o y other)
    ]

live_wrote : {A : Type 0} (cur : List (Object A)) (p : ℕ) (x y : Object A) → p < length cur → x ≡ get_or cur p x → (row_of y).gone ≡ (row_of x).gone
    → live_in (map row_of (set cur p y)) ≡ live_in (map row_of cur)
live_wrote cur p x y inside is same =
    live_same (map row_of (set cur p y)) (map row_of cur) (length-map (set cur p y) row_of ∙ length-set cur p y ∙ sym (length-map cur row_of))
    (λ o h. gone_wrote cur p x y inside is same o)

-- ---- which may point at others

-- a test that passes one object as another in its place
test_set : {A : Type 0} (test : Object A → Bool) (cur : List (Object A)) (p : ℕ) (d y : Object A) → p < length cur → test y ≡ test (get_or cur p d)
    → map test (set cur p y) ≡ map test cur
test_set test cur p d y inside same =
    map-set test cur p y ∙ ap (set (map test cur) p) (same ∙ sym (get_or-map test cur p d false inside)) ∙ set-get_or (map test cur) p false

-- with a slot written
pub keeps_wrote : {A : Type 0} (cur : List (Object A)) (there : List Bool) (blocks : List ℕ) (loose : ℕ) (pointing : List ℕ) (p : ℕ) (x y : Object A)
    → Keeps cur there blocks loose pointing
    → p < length cur → x ≡ get_or cur p x → (row_of y).gone ≡ (row_of x).gone → may_point y ≡ may_point x → Keeps (set cur p y) there blocks loose pointing
keeps_wrote cur there blocks loose pointing p x y keeps inside is gone kind =
    let live : live_in (map row_of cur) ≡ live_in (map row_of (set cur p y)) = sym (live_wrote cur p x y inside is gone) in
    record {
      flags = keeps.flags ∙ sym (test_set in_being cur p x y inside (ap not gone ∙ ap in_being is));
      whole = keeps.whole;
      order = keeps.order;
      live = keeps.live ∙ live;
      pointing = keeps.pointing
          ∙ ap (λ (bs : List Bool). filter (λ o. get_or bs o false) (live_in (map row_of cur)))
          (sym (test_set may_point cur p x y inside (kind ∙ ap may_point is)))
          ∙ ap (filter (may_point_at (set cur p y))) live;
    }

-- which of those in being may point, with an object made
pointing_more : {A : Type 0} (items : List (Object A)) (x : Object A)
    → filter (may_point_at (items ++ x ∷ [])) (live_in (map row_of items) ++ length items ∷ [])
    ≡ filter (may_point_at items) (live_in (map row_of items)) ++ cond (may_point x) (length items ∷ []) []
pointing_more items x =
    let keeps : ℕ → Bool = λ o. not (row_in (map row_of items) o).gone in
    let n : length (map row_of items) ≡ length items = length-map items row_of in
    let m : length (map may_point items) ≡ length items = length-map items may_point in
    let all : map may_point (items ++ x ∷ []) ≡ map may_point items ++ may_point x ∷ [] = map-append may_point items (x ∷ []) in
    filter-append (may_point_at (items ++ x ∷ [])) (live_in (map row_of items)) (length items ∷ [])
    ∙ ap (λ (os : List ℕ). os ++ filter (may_point_at (items ++ x ∷ [])) (length items ∷ []))
    (filter_filter (may_point_at (items ++ x ∷ [])) keeps (range_with_len 0 (length (map row_of items)))
    ∙ keep_agree (λ o. keeps o && may_point_at (items ++ x ∷ []) o) (λ o. keeps o && may_point_at items o) 0 (length (map row_of items))
    (λ o h. ap (λ (bs : List Bool). keeps o && get_or bs o false) all
    ∙ ap (λ b. keeps o && b) (get_or_append_left (map may_point items) (may_point x ∷ []) false o (omega arith)))
    ∙ sym (filter_filter (may_point_at items) keeps (range_with_len 0 (length (map row_of items)))))
    ∙ ap (λ b. filter (may_point_at items) (live_in (map row_of items)) ++ cond b (length items ∷ []) [])
    (ap (λ (bs : List Bool). get_or bs (length items) false) all
    ∙ ap (λ i. get_or (map may_point items ++ may_point x ∷ []) i false) (sym m)
    ∙ get_or-append_seam (map may_point items) (may_point x) [] false)

-- those in being, with an object made behind the others
there_more : {A : Type 0} (items : List (Object A)) (x : Object A) (numbers : List ℕ) → x.gone ≡ false → All (λ o. o < length items) numbers
    → filter (λ o. get_or (map in_being items) o false) numbers ≡ live_in (map row_of items)
    → filter (λ o. get_or (map in_being items ++ true ∷ []) o false) (numbers ++ length items ∷ []) ≡ live_in (map row_of items ++ row_of x ∷ [])
there_more items x numbers fresh within is =
    let old : List Bool = map in_being items in
    let n : length old ≡ length items = length-map items in_being in
    let test : ℕ → Bool = λ o. get_or (old ++ true ∷ []) o false in
    filter-append test numbers (length items ∷ [])
    ∙ ap (λ (os : List ℕ). os ++ filter test (length items ∷ []))
    (keep_alike test (λ o. get_or old o false) numbers (λ i d h. get_or_append_left old (true ∷ []) false (get_or numbers i d) (omega (arith, n, within i d h)))
    ∙ is)
    ∙ ap (λ b. live_in (map row_of items) ++ cond b (length items ∷ []) []) (ap test (sym n) ∙ get_or-append_seam old true [] false)
    ∙ ap (λ k. live_in (map row_of items) ++ k ∷ []) (sym (length-map items row_of)) ∙ live_more (map row_of items) (row_of x) fresh

-- with an object made
pub keeps_made : {A : Type 0} (items more : List (Object A)) (there flags : List Bool) (blocks after : List ℕ) (loose rest : ℕ) (pointing points : List ℕ)
    (x : Object A) (n : ℕ)
    → Keeps items there blocks loose pointing → more ≡ items ++ x ∷ [] → (row_of x).gone ≡ false → n ≡ length items → flags ≡ there ++ true ∷ []
    → numbers_in after rest (n + 1) ≡ numbers_in blocks loose (n + 1) → (AreWhole blocks (n + 1) → AreWhole after (n + 1)) → rest ≤ n + 1
    → points ≡ pointing ++ cond (may_point x) (n ∷ []) [] → Keeps more flags after rest points
keeps_made items more there flags blocks after loose rest pointing points x n keeps is fresh len flag same whole order point =
    let rows : List Row = map row_of items in
    let all : map row_of more ≡ rows ++ row_of x ∷ [] = ap (map row_of) is ∙ map-append row_of items (x ∷ []) in
    let old : length there ≡ n = ap (λ (bs : List Bool). length bs) keeps.flags ∙ length-map items in_being ∙ sym len in
    let new : flags ≡ map in_being items ++ true ∷ [] = flag ∙ ap (λ (bs : List Bool). bs ++ true ∷ []) keeps.flags in
    let count : length flags ≡ n + 1 = ap (λ (bs : List Bool). length bs) flag ∙ length-append there (true ∷ []) ∙ ap (λ k. k + 1) old in
    let before : AreWhole blocks n = subst (AreWhole blocks) old keeps.whole in
    let ordered : loose ≤ n = omega (arith, keeps.order, old) in
    let within : All (λ o. o < length items) (numbers_in blocks loose n) =
    subst (λ k. All (λ o. o < k) (numbers_in blocks loose n)) len (numbers_within blocks loose n before ordered) in
    record {
      flags = new ∙ ap (λ b. map in_being items ++ not b ∷ []) (sym fresh) ∙ sym (map-append in_being items (x ∷ [])) ∙ ap (map in_being) (sym is);
      whole = subst (AreWhole after) (sym count) (whole (λ i d h. omega (arith, before i d h)));
      order = omega (arith, order, count);
      live = ap (λ k. filter (λ o. get_or flags o false) (numbers_in after rest k)) count
          ∙ ap (filter (λ o. get_or flags o false)) (same ∙ numbers_more blocks loose n ordered)
          ∙ ap (λ (bs : List Bool). filter (λ o. get_or bs o false) (numbers_in blocks loose n ++ n ∷ [])) new
          ∙ ap (λ k. filter (λ o. get_or (map in_being items ++ true ∷ []) o false) (numbers_in blocks loose n ++ k ∷ [])) len
          ∙ there_more items x (numbers_in blocks loose n) fresh within
          (ap (λ (bs : List Bool). filter (λ o. get_or bs o false) (numbers_in blocks loose n)) (sym keeps.flags)
          ∙ ap (λ k. filter (λ o. get_or there o false) (numbers_in blocks loose k)) (sym old) ∙ keeps.live)
          ∙ ap live_in (sym all);
      pointing = point ∙ ap (λ k. pointing ++ cond (may_point x) (k ∷ []) []) len
          ∙ ap (λ (os : List ℕ). os ++ cond (may_point x) (length items ∷ []) []) keeps.pointing
          ∙ sym (pointing_more items x)
          ∙ ap (λ (xs : List (Object _)). filter (may_point_at xs) (live_in rows ++ length items ∷ [])) (sym is)
          ∙ ap (filter (may_point_at more)) (ap (λ k. live_in rows ++ k ∷ []) (sym (length-map items row_of)) ∙ live_more rows (row_of x) fresh
          ∙ ap live_in (sym all));
    }

-- after a collection
pub keeps_swept : {A : Type 0} (old new : List (Object A)) (there flags : List Bool) (blocks after : List ℕ) (loose : ℕ) (pointing points : List ℕ) (marked : ℕ
    → Bool)
    → Keeps old there blocks loose pointing → length new ≡ length old
    → ((o : ℕ) → row_in (map row_of new) o ≡ ended_row (list_any (λ p. not (marked p) && eqb p o) (live_in (map row_of old))) (row_in (map row_of old) o))
    → map may_point new ≡ map may_point old → flags ≡ map in_being new
    → filter (λ o. get_or flags o false) (numbers_in after loose (length flags)) ≡ filter (λ o. get_or flags o false) (numbers_in blocks loose (length flags))
    → AreWhole after (length flags) → points ≡ filter marked pointing → Keeps new flags after loose points
keeps_swept old new there flags blocks after loose pointing points marked keeps len ended kind is closed whole point =
    let numbers : List ℕ = numbers_in blocks loose (length there) in
    let count : length flags ≡ length there =
    ap (λ (bs : List Bool). length bs) is ∙ length-map new in_being ∙ len ∙ sym (length-map old in_being)
    ∙ ap (λ (bs : List Bool). length bs) (sym keeps.flags) in
    record {
      flags = is;
      whole = whole;
      order = omega (arith, keeps.order, count);
      live = closed ∙ ap (λ k. filter (λ o. get_or flags o false) (numbers_in blocks loose k)) count
          ∙ ap (λ (bs : List Bool). filter (λ o. get_or bs o false) numbers) is
          ∙ numbers_swept old new marked numbers len ended (ap (λ (bs : List Bool). filter (λ o. get_or bs o false) numbers) (sym keeps.flags) ∙ keeps.live);
      pointing = point ∙ ap (filter marked) keeps.pointing ∙ filter_swap marked (may_point_at old) (live_in (map row_of old))
          ∙ ap (λ (bs : List Bool). filter (λ o. get_or bs o false) (filter marked (live_in (map row_of old)))) (sym kind)
          ∙ ap (filter (may_point_at new))
          (live_swept (map row_of old) (map row_of new) marked (length-map new row_of ∙ len ∙ sym (length-map old row_of)) ended);
    }

-- they are numbers of objects too
pub pointing_within : {A : Type 0} (items before : List (Object A)) (there : List Bool) (blocks : List ℕ) (loose : ℕ) (pointed pointing : List ℕ)
    → before ≡ items → pointed ≡ pointing
    → Keeps items there blocks loose pointing → All (λ p. p < length before) pointed
pointing_within items before there blocks loose pointed pointing is same keeps =
    within items before pointed pointing is same
    (subst (All (λ p. p < length items)) (sym keeps.pointing)
    (All-filter (may_point_at items) (λ p. p < length items) (live_in (map row_of items)) (all_below items)))

-- no other of those in being points at anything
pub pointing_holds : {A : Type 0} (items : List (Object A)) (there : List Bool) (blocks : List ℕ) (loose : ℕ) (pointing : List ℕ) (o : ℕ)
    → Keeps items there blocks loose pointing
    → list_any (slot_of_row_holds (map row_of items) o) pointing ≡ list_any (slot_of_row_holds (map row_of items) o) (live_in (map row_of items))
pointing_holds items there blocks loose pointing o keeps =
    let rows : List Row = map row_of items in
    let here : ℕ → Bool = is_there rows in
    let holds : ℕ → Bool = slot_of_row_holds rows o in
    let n : length rows ≡ length items = length-map items row_of in
    ap (list_any holds) keeps.pointing
    ∙ any_filter holds (may_point_at items) (live_in rows)
    ∙ any_filter (λ p. may_point_at items p && holds p) here (range_with_len 0 (length rows))
    ∙ any_agree (λ p. here p && (may_point_at items p && holds p)) (λ p. here p && holds p) 0 (length rows)
    (λ p h. ap (λ b. here p && b) (and_implied (may_point_at items p) (holds p) (λ not. none_at o items p (omega arith) not)))
    ∙ sym (any_filter holds here (range_with_len 0 (length rows)))
