-- How the open buffers and their items change with one more event, and how the rows stand then.
use Rattle.std.proofs.Common.{◌≡◌, ◌≢◌, zero-add, ℕ, ◌<◌, length, get_or, Bool, true, false, List, [], ◌∷◌, ◌++◌, Option, Some, None, refl, ◌∙◌, ap, sym, subst, arith}
use Rattle.std.specs.Option.{option_to_list}
use Rattle.std.specs.Prelude.{◌==◌, ℤ, pos, if◌then◌else◌, filter, map, find, slice_index_or, slice_set}
use Rattle.std.specs.List.{range_with_len}
use Rattle.std.proofs.lemmas.Bool.Decides.{nat_tests}
use Rattle.std.proofs.lemmas.List.Elements.{filter-append}
use Rattle.std.proofs.lemmas.List.{length-set, get_or-set_same, get_or-set_other}
use Rattle.std.proofs.lemmas.List.FromFn.{fill_by_all, length-map-range_with_len, get_or-map-range_with_len}
use Rattle.jg_words.specs.declared.reference.Ref.{Ref}
use Rattle.jg_table_buffers.specs.declared.family.Family.{Family}
use Rattle.jg_table_buffers.specs.History.{Buffer, Event, Opened, Wrote, Closed, is_same, is_critical, opened, content, items_now, copy_with, pin_through}
use Rattle.jg_table_buffers.specs.Rows.{Rows, is_buffer, row_of}
use Rattle.jg_table_buffers.specs.Standing.{rows_of, Stands}
use Rattle.jg_lists.proofs.Lists.{first, find-filter}

-- ---- items

map_same : {X Y : Type 0} (f g : X → Y) → ((x : X) → f x ≡ g x) → (xs : List X) → map f xs ≡ map g xs
map_same f g alike [] = refl
map_same f g alike (x ∷ xs) = rw (alike x, map_same f g alike xs) refl

-- a buffer whose items an event doesn't touch
pub rows_kept : (e older : List Event) (m n : ℕ) (found : Option Buffer) → ((i : ℕ) → content e m n i ≡ content older m n i)
    → rows_of e m n found ≡ rows_of older m n found
rows_kept e older m n None alike = refl
rows_kept e older m n (Some b) alike =
    ap (λ l. record b { items = if is_critical b.family then [] else l } ∷ []) (map_same (content e m n) (content older m n) alike (range_with_len 0 b.length))

pub rows_elsewhere_opened : (e : List Event) (m n : ℕ) (b : Buffer) → is_same m n b.maker b.n ≡ false
    → rows_of (Opened b ∷ e) m n (opened (Opened b ∷ e) m n) ≡ rows_of e m n (opened e m n)
rows_elsewhere_opened e m n b apart = rw apart (rows_kept (Opened b ∷ e) e m n (opened e m n) (λ i. rw apart refl))

pub rows_elsewhere_closed : (e : List Event) (m n k i : ℕ) → is_same m n k i ≡ false
    → rows_of (Closed k i ∷ e) m n (opened (Closed k i ∷ e) m n) ≡ rows_of e m n (opened e m n)
rows_elsewhere_closed e m n k i apart = rw apart (rows_kept (Closed k i ∷ e) e m n (opened e m n) (λ j. refl))

pub rows_elsewhere_wrote : (e : List Event) (m n k i j : ℕ) (v : ℤ) → is_same m n k i ≡ false
    → rows_of (Wrote k i j v ∷ e) m n (opened (Wrote k i j v ∷ e) m n) ≡ rows_of e m n (opened e m n)
rows_elsewhere_wrote e m n k i j v apart = rows_kept (Wrote k i j v ∷ e) e m n (opened e m n) (λ q. rw apart refl)

pub same_self : (m n : ℕ) → is_same m n m n ≡ true
same_self m n = grind (arith, nat_tests)

-- the items of a new copy are those that it was made with
pub rows_of_copy : (e : List Event) (m n o : ℕ) (family : Family) (items : List ℤ) → is_critical family ≡ false
    → copy_with m n o family items ∷ [] ≡ rows_of (Opened (copy_with m n o family items) ∷ e) m n (opened (Opened (copy_with m n o family items) ∷ e) m n)
rows_of_copy e m n o family items copies =
    let b : Buffer = copy_with m n o family items in
    let made : items ≡ map (λ i. slice_index_or items i (pos 0)) (range_with_len 0 (length items)) =
    fill_by_all (λ i. slice_index_or items i (pos 0)) items (length items) (pos 0) refl (λ k below. refl) in
    let now : map (content (Opened b ∷ e) m n) (range_with_len 0 (length items)) ≡ items =
    map_same (content (Opened b ∷ e) m n) (λ i. slice_index_or items i (pos 0)) (λ i. rw (same_self m n) refl) (range_with_len 0 (length items)) ∙ sym made in
    rw (same_self m n, copies) (ap (λ l. record b { items = l } ∷ []) (sym now))

pub rows_of_pin : (e : List Event) (m n o : ℕ) (family : Family) (via : Ref) (count : ℕ) → is_critical family ≡ true
    → pin_through m n o family via count ∷ []
    ≡ rows_of (Opened (pin_through m n o family via count) ∷ e) m n (opened (Opened (pin_through m n o family via count) ∷ e) m n)
rows_of_pin e m n o family via count pins = rw (same_self m n, pins) refl

pub rows_of_closed : (e : List Event) (m n : ℕ) → rows_of (Closed m n ∷ e) m n (opened (Closed m n ∷ e) m n) ≡ []
rows_of_closed e m n = rw (same_self m n) refl

written_at : (e : List Event) (m n j k : ℕ) (v : ℤ) (xs : List ℤ) (b : Bool) → (j == k) ≡ b → j < length xs → get_or xs k (pos 0) ≡ content e m n k
    → get_or (slice_set xs j v) k (pos 0) ≡ (if b then v else content e m n k)
written_at e m n j k v xs true is within was =
    let same : j ≡ k = grind (arith, nat_tests) in
    let P : ℕ → Type 0 = λ q. get_or (slice_set xs j v) q (pos 0) ≡ v in
    subst P same (get_or-set_same xs j v (pos 0) within)
written_at e m n j k v xs false is within was =
    let apart : k ≢ j = grind (arith, nat_tests) in
    get_or-set_other xs j k v (pos 0) apart ∙ was

-- one item written
items_written : (e : List Event) (m n j count : ℕ) (v : ℤ) → j < count
    → slice_set (map (content e m n) (range_with_len 0 count)) j v ≡ map (content (Wrote m n j v ∷ e) m n) (range_with_len 0 count)
items_written e m n j count v within =
    let olds = map (content e m n) (range_with_len 0 count) in
    let long : length olds ≡ count = length-map-range_with_len (content e m n) 0 count in
    let inside : j < length olds = omega (arith, long) in
    fill_by_all (content (Wrote m n j v ∷ e) m n) (slice_set olds j v) count (pos 0) (length-set olds j v ∙ long)
    (λ k below. rw (same_self m n)
    (written_at e m n j k v olds (j == k) refl inside (get_or-map-range_with_len (content e m n) 0 count k k (pos 0) below (zero-add k))))

pub rows_of_written : (e : List Event) (m n j : ℕ) (v : ℤ) (b : Buffer) → is_critical b.family ≡ false → j < b.length
    → record b { items = slice_set (items_now e m n b) j v } ∷ [] ≡ rows_of (Wrote m n j v ∷ e) m n (Some b)
rows_of_written e m n j v b copies within = rw (copies, items_written e m n j b.length v within) refl

-- ---- the rows at one key

abbrev pub first_of : {X : Type 0} → Option X → Option X → Option X
first_of None b = b
first_of (Some x) b = Some x

pub find-append : {X : Type 0} (p : X → Bool) (xs ys : List X) → find p (xs ++ ys) ≡ first_of (find p xs) (find p ys)
find-append p [] ys = refl
find-append p (x ∷ xs) ys =
    rw (find-append p xs ys) (elim (p x) as
    (λ b. (if b then Some x else first_of (find p xs) (find p ys)) ≡ first_of (if b then Some x else find p xs) (find p ys))
    [ true ↦ refl | false ↦ refl ])

-- at most one, and then not both
record Alone {X : Type 0} (xs ys : List X) : Type 0 where
  left : xs ≡ option_to_list (first xs)
  right : ys ≡ option_to_list (first ys)

alone : {X : Type 0} (xs ys : List X) (found : Option X) → xs ++ ys ≡ option_to_list found → Alone xs ys
alone [] [] found is = record { left = refl; right = refl }
alone [] (y ∷ []) found is = record { left = refl; right = refl }
alone [] (y ∷ (z ∷ zs)) None is = cc
alone [] (y ∷ (z ∷ zs)) (Some b) is = cc
alone (x ∷ []) [] found is = record { left = refl; right = refl }
alone (x ∷ []) (y ∷ ys) None is = cc
alone (x ∷ []) (y ∷ ys) (Some b) is = cc
alone (x ∷ (z ∷ zs)) ys None is = cc
alone (x ∷ (z ∷ zs)) ys (Some b) is = cc

-- the row of an open buffer
abbrev pub row_now : List Event → ℕ → ℕ → Option Buffer → Option Buffer
row_now e m n None = None
row_now e m n (Some b) = Some (record b { items = items_now e m n b })

rows_listed : (e : List Event) (m n : ℕ) (found : Option Buffer) → rows_of e m n found ≡ option_to_list (row_now e m n found)
rows_listed e m n None = refl
rows_listed e m n (Some b) = refl

-- what the two maps have at a key is the row of the open buffer
abbrev pub Agrees : List Event → ℕ → ℕ → Option Buffer → Option Buffer → Type 0
Agrees e m n copy pin = option_to_list copy ++ option_to_list pin ≡ rows_of e m n (opened e m n)

pub record Tells (e : List Event) (m n : ℕ) (copies pins : List Buffer) : Type 0 where
  pub agrees : Agrees e m n (find (is_buffer m n) copies) (find (is_buffer m n) pins)
  pub copy : filter (is_buffer m n) copies ≡ option_to_list (find (is_buffer m n) copies)
  pub pin : filter (is_buffer m n) pins ≡ option_to_list (find (is_buffer m n) pins)

pub tells : (copies pins : List Buffer) (e : List Event) (m n : ℕ) → Stands (record { lent = copies ++ pins }) e → Tells e m n copies pins
tells copies pins e m n stands =
    let split : filter (is_buffer m n) copies ++ filter (is_buffer m n) pins ≡ rows_of e m n (opened e m n) =
    sym (filter-append (is_buffer m n) copies pins) ∙ stands m n in
    let one = alone (filter (is_buffer m n) copies) (filter (is_buffer m n) pins) (row_now e m n (opened e m n)) (split ∙ rows_listed e m n (opened e m n)) in
    let copy : filter (is_buffer m n) copies ≡ option_to_list (find (is_buffer m n) copies) =
    one.left ∙ ap option_to_list (sym (find-filter (is_buffer m n) copies)) in
    let pin : filter (is_buffer m n) pins ≡ option_to_list (find (is_buffer m n) pins) = one.right ∙ ap option_to_list (sym (find-filter (is_buffer m n) pins))
    in
    record {
      agrees = ap (λ l. l ++ option_to_list (find (is_buffer m n) pins)) (sym copy) ∙ (ap (λ l. filter (is_buffer m n) copies ++ l) (sym pin) ∙ split);
      copy = copy;
      pin = pin;
    }

pub stands_by : (copies pins : List Buffer) (e : List Event) → ((m n : ℕ) → Tells e m n copies pins) → Stands (record { lent = copies ++ pins }) e
stands_by copies pins e each = λ m n.
    let told = each m n in
    filter-append (is_buffer m n) copies pins
    ∙ (ap (λ l. l ++ filter (is_buffer m n) pins) told.copy ∙ (ap (λ l. option_to_list (find (is_buffer m n) copies) ++ l) told.pin ∙ told.agrees))

first_of_listed : (found : Option Buffer) → first (option_to_list found) ≡ found
first_of_listed None = refl
first_of_listed (Some b) = refl

-- the row that a look-up by number finds
pub row_law : (rows : Rows) (e : List Event) (m n : ℕ) → Stands rows e → row_of m n rows ≡ row_now e m n (opened e m n)
row_law rows e m n stands =
    find-filter (is_buffer m n) rows.lent ∙ (ap first (stands m n ∙ rows_listed e m n (opened e m n)) ∙ first_of_listed (row_now e m n (opened e m n)))

-- ---- one more event

tells_apart : (e older : List Event) (m n : ℕ) (copies pins news others : List Buffer) → Tells older m n copies pins
    → find (is_buffer m n) news ≡ find (is_buffer m n) copies → find (is_buffer m n) others ≡ find (is_buffer m n) pins
    → filter (is_buffer m n) news ≡ option_to_list (find (is_buffer m n) news) → filter (is_buffer m n) others ≡ option_to_list (find (is_buffer m n) others)
    → rows_of e m n (opened e m n) ≡ rows_of older m n (opened older m n) → Tells e m n news others
tells_apart e older m n copies pins news others told copy pin left right same = record {
  agrees =
      ap (λ c. option_to_list c ++ option_to_list (find (is_buffer m n) others)) copy
      ∙ (ap (λ p. option_to_list (find (is_buffer m n) copies) ++ option_to_list p) pin ∙ (told.agrees ∙ sym same));
  copy = left;
  pin = right;
}

both_none : (copy pin : Option Buffer) → option_to_list copy ++ option_to_list pin ≡ [] → (copy ≡ None) × (pin ≡ None)
both_none None None is = (refl, refl)
both_none None (Some p) is = cc
both_none (Some q) None is = cc
both_none (Some q) (Some p) is = cc

-- a key that has no row
pub nothing_there : (e : List Event) (m n : ℕ) (copy pin : Option Buffer) → Agrees e m n copy pin → opened e m n ≡ None → (copy ≡ None) × (pin ≡ None)
nothing_there e m n copy pin agrees none = both_none copy pin (agrees ∙ ap (rows_of e m n) none)

not_open : (e : List Event) (m n : ℕ) (found : Option Buffer) → rows_of e m n found ≡ [] → found ≡ None
not_open e m n None is = refl
not_open e m n (Some b) is = cc

-- a number that the rows don't have isn't open
pub closed_law : (rows : Rows) (e : List Event) (m n : ℕ) → Stands rows e → filter (is_buffer m n) rows.lent ≡ [] → opened e m n ≡ None
closed_law rows e m n stands none = not_open e m n (opened e m n) (sym (stands m n) ∙ none)

key_by : (e older : List Event) (t k : ℕ) (copies pins news others : List Buffer) → ((m n : ℕ) → Tells older m n copies pins)
    → ((m n : ℕ) → filter (is_buffer m n) news ≡ option_to_list (find (is_buffer m n) news))
    → ((m n : ℕ) → filter (is_buffer m n) others ≡ option_to_list (find (is_buffer m n) others))
    → ((m n : ℕ) → is_same m n t k ≡ false
    → (find (is_buffer m n) news ≡ find (is_buffer m n) copies) × (find (is_buffer m n) others ≡ find (is_buffer m n) pins))
    → ((m n : ℕ) → is_same m n t k ≡ false → rows_of e m n (opened e m n) ≡ rows_of older m n (opened older m n))
    → Agrees e t k (find (is_buffer t k) news) (find (is_buffer t k) others)
    → (m n : ℕ) (b : Bool) → is_same m n t k ≡ b → Tells e m n news others
key_by e older t k copies pins news others told left right same apart here m n true is =
    let maker : t ≡ m = grind (arith, nat_tests) in
    let number : k ≡ n = grind (arith, nat_tests) in
    let P : ℕ → Type 0 = λ u. Agrees e u k (find (is_buffer u k) news) (find (is_buffer u k) others) in
    let Q : ℕ → Type 0 = λ i. Agrees e m i (find (is_buffer m i) news) (find (is_buffer m i) others) in
    record { agrees = subst Q number (subst P maker here); copy = left m n; pin = right m n }
key_by e older t k copies pins news others told left right same apart here m n false is =
    tells_apart e older m n copies pins news others (told m n) (same m n is).0 (same m n is).1 (left m n) (right m n) (apart m n is)

-- each key of the new maps agrees with the new event, where the key of the event does, and the others have what they had
pub each_key : (e older : List Event) (t k : ℕ) (copies pins news others : List Buffer) → ((m n : ℕ) → Tells older m n copies pins)
    → ((m n : ℕ) → filter (is_buffer m n) news ≡ option_to_list (find (is_buffer m n) news))
    → ((m n : ℕ) → filter (is_buffer m n) others ≡ option_to_list (find (is_buffer m n) others))
    → ((m n : ℕ) → is_same m n t k ≡ false
    → (find (is_buffer m n) news ≡ find (is_buffer m n) copies) × (find (is_buffer m n) others ≡ find (is_buffer m n) pins))
    → ((m n : ℕ) → is_same m n t k ≡ false → rows_of e m n (opened e m n) ≡ rows_of older m n (opened older m n))
    → Agrees e t k (find (is_buffer t k) news) (find (is_buffer t k) others)
    → (m n : ℕ) → Tells e m n news others
each_key e older t k copies pins news others told left right same apart here m n =
    key_by e older t k copies pins news others told left right same apart here m n (is_same m n t k) refl
