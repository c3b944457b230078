-- How the rows stand after each call.
use Rattle.std.proofs.Common.{◌≡◌, ℕ, ◌<◌, ◌≤◌, length, Bool, true, false, List, [], ◌∷◌, ◌++◌, Option, Some, None, refl, ◌∙◌, ap, sym, subst, arith}
use Rattle.std.specs.Prelude.{ℤ, if◌then◌else◌, filter, map, find, slice_set}
use Rattle.std.specs.Option.{option_map, option_to_list}
use Rattle.std.specs.Map.{lookup, keys_of}
use Rattle.std.specs.List.{IsDistinct}
use Rattle.std.proofs.lemmas.Bool.Decides.{nat_tests}
use Rattle.jg_words.specs.declared.reference.Ref.{Ref}
use Rattle.jg_table_buffers.specs.declared.family.Family.{Family}
use Rattle.jg_table_buffers.specs.declared.copied.Copied.{Copied}
use Rattle.jg_table_buffers.specs.declared.pinned.Pinned.{Pinned}
use Rattle.jg_table_buffers.specs.History.{Buffer, Event, Opened, Wrote, Closed, is_same, is_critical, info_of, opened, items_now, copy_with, pin_through}
use Rattle.jg_lists.specs.ByMaker.{Name, same_name, IsThereOnce}
use Rattle.jg_table_buffers.specs.Rows.{Rows, is_buffer, row_of, copy_length, IsAbove, AddsNumber, KeepsBuffers, KeepsNumbers}
use Rattle.jg_table_buffers.specs.Seen.{copy_seen, pin_seen, copy_at, copy_item_set}
use Rattle.jg_table_buffers.specs.Standing.{rows_of, Stands}
use Rattle.jg_table_buffers.proofs.Maps.{Keyed, found_row, exact}
use Rattle.jg_table_buffers.proofs.Numbers.{no_row, adds_number, keeps_numbers}
use Rattle.jg_table_buffers.proofs.Lookups.{row_is, copies_free, pins_critical}
use Rattle.jg_lists.proofs.Lists.{first, find-filter}
use Rattle.jg_lists.proofs.Named.{once_named, rows_named}
use Rattle.jg_table_buffers.proofs.Steps.{first_of, rows_elsewhere_opened, rows_elsewhere_closed, rows_elsewhere_wrote, rows_of_copy, rows_of_pin, rows_of_closed, rows_of_written, Agrees, tells, stands_by, nothing_there, closed_law, each_key, find-append}
use Rattle.jg_table_buffers.proofs.Pins.{head_is}

-- what the table sees of its two maps
abbrev pub seen : {I : Type 0} → (I → List ℤ) → List ((ℕ × ℕ) × Copied I) → List ((ℕ × ℕ) × Pinned) → Rows
seen shows es fs = record { lent = map (copy_seen shows) es ++ map pin_seen fs }

-- a look-up after a change at one key
abbrev pub Changes : {X : Type 0} → List ((ℕ × ℕ) × X) → List ((ℕ × ℕ) × X) → ℕ → ℕ → Option X → Type 0
Changes es news t k w = (q : ℕ × ℕ) → lookup (same_name q) news ≡ (if same_name (t, k) q then w else lookup (same_name q) es)

own_key : (t k : ℕ) → same_name (t, k) (t, k) ≡ true
own_key t k = grind (arith, nat_tests)

changed_here : {X : Type 0} (es news : List ((ℕ × ℕ) × X)) (t k : ℕ) (w : Option X) → Changes es news t k w → lookup (same_name (t, k)) news ≡ w
changed_here es news t k w put = put (t, k) ∙ ap (λ b. if b then w else lookup (same_name (t, k)) es) (own_key t k)

same_elsewhere : {X : Type 0} (es news : List ((ℕ × ℕ) × X)) (t k : ℕ) (w : Option X) → Changes es news t k w → (m n : ℕ) → is_same m n t k ≡ false
    → lookup (same_name (m, n)) news ≡ lookup (same_name (m, n)) es
same_elsewhere es news t k w put m n apart = put (m, n) ∙ ap (λ b. if b then w else lookup (same_name (m, n)) es) apart

exact_found : {X : Type 0} (f : (ℕ × ℕ) × X → Buffer) (keyed : Keyed f) (es : List ((ℕ × ℕ) × X)) → IsDistinct same_name (keys_of es) → (m n : ℕ)
    → filter (is_buffer m n) (map f es) ≡ option_to_list (find (is_buffer m n) (map f es))
exact_found f keyed es distinct m n = exact f keyed es distinct m n ∙ ap option_to_list (sym (found_row f keyed m n es))

found_same : {X : Type 0} (f : (ℕ × ℕ) × X → Buffer) (keyed : Keyed f) (es news : List ((ℕ × ℕ) × X)) (m n : ℕ)
    → lookup (same_name (m, n)) news ≡ lookup (same_name (m, n)) es
    → find (is_buffer m n) (map f news) ≡ find (is_buffer m n) (map f es)
found_same f keyed es news m n same = found_row f keyed m n news ∙ (ap (option_map (λ w. f ((m, n), w))) same ∙ sym (found_row f keyed m n es))

found_here : {X : Type 0} (f : (ℕ × ℕ) × X → Buffer) (keyed : Keyed f) (news : List ((ℕ × ℕ) × X)) (m n : ℕ) (found : Option X)
    → lookup (same_name (m, n)) news ≡ found
    → find (is_buffer m n) (map f news) ≡ option_map (λ w. f ((m, n), w)) found
found_here f keyed news m n found is = found_row f keyed m n news ∙ ap (option_map (λ w. f ((m, n), w))) is

-- a new number has no row in either map
new_number : {I : Type 0} (shows : I → List ℤ) (es : List ((ℕ × ℕ) × Copied I)) (fs : List ((ℕ × ℕ) × Pinned)) (e : List Event) (t k : ℕ)
    → Stands (seen shows es fs) e → IsAbove t k (seen shows es fs)
    → (find (is_buffer t k) (map (copy_seen shows) es) ≡ None) × (find (is_buffer t k) (map pin_seen fs) ≡ None)
new_number shows es fs e t k stands above =
    nothing_there e t k (find (is_buffer t k) (map (copy_seen shows) es)) (find (is_buffer t k) (map pin_seen fs))
    (tells (map (copy_seen shows) es) (map pin_seen fs) e t k stands).agrees
    (closed_law (seen shows es fs) e t k stands (no_row (seen shows es fs) t k above))

-- no name is there twice that was there once
abbrev pub StayOnce : List (Name × Pinned) → List (Name × Pinned) → Type 0
StayOnce fs news = (q : Name) → IsThereOnce q fs → IsThereOnce q news

pin_tests : (m n : ℕ) (f : Name × Pinned) → is_buffer m n (pin_seen f) ≡ same_name (m, n) f.0
pin_tests m n f = grind (arith, nat_tests)

one_at_most : {X : Type 0} (found : Option X) → length (option_to_list found) ≤ 1
one_at_most None = omega arith
one_at_most (Some x) = omega arith

-- each name has exactly what a look-up finds, as it had
pub still_exact : (fs news : List (Name × Pinned)) (m n : ℕ) → StayOnce fs news
    → filter (is_buffer m n) (map pin_seen fs) ≡ option_to_list (find (is_buffer m n) (map pin_seen fs))
    → filter (is_buffer m n) (map pin_seen news) ≡ option_to_list (find (is_buffer m n) (map pin_seen news))
still_exact fs news m n once was =
    let few : length (filter (is_buffer m n) (map pin_seen fs)) ≤ 1 = rw was (one_at_most (find (is_buffer m n) (map pin_seen fs))) in
    rows_named pin_seen (is_buffer m n) (m, n) (pin_tests m n) news (once (m, n) (once_named pin_seen (is_buffer m n) (m, n) (pin_tests m n) fs few))
    ∙ ap option_to_list (sym (found_row pin_seen (λ i j x. refl) m n news))

pub open_copy_law : {I : Type 0} (shows : I → List ℤ) (es news : List ((ℕ × ℕ) × Copied I)) (fs : List ((ℕ × ℕ) × Pinned)) (e : List Event) (t k o : ℕ)
    (family : Family) (items : List ℤ)
    (w : Copied I)
    → is_critical family ≡ false
    → Stands (seen shows es fs) e → IsAbove t k (seen shows es fs) → IsDistinct same_name (keys_of news) → Changes es news t k (Some w)
    → copy_seen shows ((t, k), w) ≡ copy_with t k o family items
    → Stands (seen shows news fs) (Opened (copy_with t k o family items) ∷ e)
open_copy_law shows es news fs e t k o family items w copies stands above distinct put is =
    let told = λ (m n : ℕ). tells (map (copy_seen shows) es) (map pin_seen fs) e m n stands in
    let none = new_number shows es fs e t k stands above in
    let here = found_here (copy_seen shows) (λ i j x. refl) news t k (Some w) (changed_here es news t k (Some w) put) in
    stands_by (map (copy_seen shows) news) (map pin_seen fs) (Opened (copy_with t k o family items) ∷ e)
    (each_key (Opened (copy_with t k o family items) ∷ e) e t k (map (copy_seen shows) es) (map pin_seen fs) (map (copy_seen shows) news) (map pin_seen fs) told
    (exact_found (copy_seen shows) (λ i j x. refl) news distinct) (λ m n. (told m n).pin)
    (λ m n apart. (found_same (copy_seen shows) (λ i j x. refl) es news m n (same_elsewhere es news t k (Some w) put m n apart), refl))
    (λ m n apart. rows_elsewhere_opened e m n (copy_with t k o family items) apart)
    (ap (λ c. option_to_list c ++ option_to_list (find (is_buffer t k) (map pin_seen fs))) here
    ∙ (ap (λ p. copy_seen shows ((t, k), w) ∷ [] ++ option_to_list p) none.1 ∙ (ap (λ b. b ∷ []) is ∙ rows_of_copy e t k o family items copies))))

pub open_pin_law : {I : Type 0} (shows : I → List ℤ) (es : List ((ℕ × ℕ) × Copied I)) (fs news : List ((ℕ × ℕ) × Pinned)) (e : List Event) (t k o : ℕ)
    (family : Family) (via : Ref) (count : ℕ)
    (w : Pinned)
    → is_critical family ≡ true
    → Stands (seen shows es fs) e → IsAbove t k (seen shows es fs) → StayOnce fs news → Changes fs news t k (Some w)
    → pin_seen ((t, k), w) ≡ pin_through t k o family via count
    → Stands (seen shows es news) (Opened (pin_through t k o family via count) ∷ e)
open_pin_law shows es fs news e t k o family via count w pins stands above once put is =
    let told = λ (m n : ℕ). tells (map (copy_seen shows) es) (map pin_seen fs) e m n stands in
    let none = new_number shows es fs e t k stands above in
    let here = found_here pin_seen (λ i j x. refl) news t k (Some w) (changed_here fs news t k (Some w) put) in
    stands_by (map (copy_seen shows) es) (map pin_seen news) (Opened (pin_through t k o family via count) ∷ e)
    (each_key (Opened (pin_through t k o family via count) ∷ e) e t k (map (copy_seen shows) es) (map pin_seen fs) (map (copy_seen shows) es)
    (map pin_seen news) told
    (λ m n. (told m n).copy) (λ m n. still_exact fs news m n once (told m n).pin)
    (λ m n apart. (refl, found_same pin_seen (λ i j x. refl) fs news m n (same_elsewhere fs news t k (Some w) put m n apart)))
    (λ m n apart. rows_elsewhere_opened e m n (pin_through t k o family via count) apart)
    (ap (λ c. option_to_list c ++ option_to_list (find (is_buffer t k) (map pin_seen news))) none.0
    ∙ (ap option_to_list here ∙ (ap (λ b. b ∷ []) is ∙ rows_of_pin e t k o family via count pins))))

second_none : (copy pin : Option Buffer) → first_of copy pin ≡ None → pin ≡ None
second_none None pin is = is
second_none (Some x) pin is = cc

not_mapped : {X : Type 0} (f : X → Buffer) (found : Option X) → option_map f found ≡ None → found ≡ None
not_mapped f None is = refl
not_mapped f (Some x) is = cc

-- a new number is in no map
pub no_pin : {I : Type 0} (shows : I → List ℤ) (es : List ((ℕ × ℕ) × Copied I)) (fs : List ((ℕ × ℕ) × Pinned)) (t k : ℕ) → IsAbove t k (seen shows es fs)
    → lookup (same_name (t, k)) fs ≡ None
no_pin shows es fs t k above =
    let none : find (is_buffer t k) (map (copy_seen shows) es ++ map pin_seen fs) ≡ None =
    find-filter (is_buffer t k) (map (copy_seen shows) es ++ map pin_seen fs)
    ∙ ap first (no_row (seen shows es fs) t k above) in
    not_mapped (λ w. pin_seen ((t, k), w)) (lookup (same_name (t, k)) fs)
    (sym (found_row pin_seen (λ i j x. refl) t k fs) ∙ second_none (find (is_buffer t k) (map (copy_seen shows) es)) (find (is_buffer t k) (map pin_seen fs))
    (sym (find-append (is_buffer t k) (map (copy_seen shows) es) (map pin_seen fs)) ∙ none))

pub close_law : {I : Type 0} (shows : I → List ℤ) (es news : List ((ℕ × ℕ) × Copied I)) (fs others : List ((ℕ × ℕ) × Pinned)) (e : List Event) (t k : ℕ)
    → Stands (seen shows es fs) e → IsDistinct same_name (keys_of news) → StayOnce fs others → Changes es news t k None → Changes fs others t k None
    → Stands (seen shows news others) (Closed t k ∷ e)
close_law shows es news fs others e t k stands distinct once drops removes =
    let told = λ (m n : ℕ). tells (map (copy_seen shows) es) (map pin_seen fs) e m n stands in
    let copy = found_here (copy_seen shows) (λ i j x. refl) news t k None (changed_here es news t k None drops) in
    let pin = found_here pin_seen (λ i j x. refl) others t k None (changed_here fs others t k None removes) in
    stands_by (map (copy_seen shows) news) (map pin_seen others) (Closed t k ∷ e)
    (each_key (Closed t k ∷ e) e t k (map (copy_seen shows) es) (map pin_seen fs) (map (copy_seen shows) news) (map pin_seen others) told
    (exact_found (copy_seen shows) (λ i j x. refl) news distinct) (λ m n. still_exact fs others m n once (told m n).pin)
    (λ m n apart. (
      found_same (copy_seen shows) (λ i j x. refl) es news m n (same_elsewhere es news t k None drops m n apart),
      found_same pin_seen (λ i j x. refl) fs others m n (same_elsewhere fs others t k None removes m n apart),
    ))
    (λ m n apart. rows_elsewhere_closed e m n t k apart)
    (ap (λ c. option_to_list c ++ option_to_list (find (is_buffer t k) (map pin_seen others))) copy ∙ (ap option_to_list pin ∙ sym (rows_of_closed e t k))))

-- ---- a write

pin_short : (t k : ℕ) (w : Pinned) (i : ℕ) → i < copy_length (Some (pin_seen ((t, k), w))) → i < 0
pin_short t k w i within = rw pins_critical at within

copy_long : {I : Type 0} (shows : I → List ℤ) (t k : ℕ) (w : Copied I) (i : ℕ) → i < copy_length (Some (copy_seen shows ((t, k), w)))
    → i < length (shows w.items)
copy_long shows t k w i within = rw copies_free at within

wrote_by : (e : List Event) (t k i : ℕ) (v : ℤ) (x : Buffer) (pin was : Option Buffer) → opened e t k ≡ was
    → option_to_list (Some x) ++ option_to_list pin ≡ rows_of e t k was → is_critical x.family ≡ false
    → i < x.length
    → option_to_list (Some (record x { items = slice_set x.items i v })) ++ option_to_list pin ≡ rows_of (Wrote t k i v ∷ e) t k was
wrote_by e t k i v x pin None is agrees free within = cc
wrote_by e t k i v x (Some p) (Some b) is agrees free within = cc
wrote_by e t k i v x None (Some b) is agrees free within =
    let row : Buffer = record b { items = items_now e t k b } in
    let same : x ≡ row = head_is x row [] agrees in
    let copies : is_critical b.family ≡ false = sym (ap (λ y. is_critical y.family) same) ∙ free in
    let long : x.length ≡ b.length = ap (λ y. y.length) same in
    let written : Buffer → List Buffer = λ y. record y { items = slice_set y.items i v } ∷ [] in
    ap written same ∙ rows_of_written e t k i v b copies (omega (arith, long, within))

-- what is at the key of a write
write_here : {I : Type 0} (shows : I → List ℤ) (e : List Event) (t k i : ℕ) (v : ℤ) (copy : Option (Copied I)) (pin : Option Pinned)
    → Agrees e t k (copy_at shows (t, k) copy) (option_map (λ w. pin_seen ((t, k), w)) pin)
    → i < copy_length (first_of (copy_at shows (t, k) copy) (option_map (λ w. pin_seen ((t, k), w)) pin))
    → Agrees (Wrote t k i v ∷ e) t k (copy_item_set i v (copy_at shows (t, k) copy)) (option_map (λ w. pin_seen ((t, k), w)) pin)
write_here shows e t k i v None None agrees within = absurd (omega arith)
write_here shows e t k i v None (Some w) agrees within = absurd (omega (arith, pin_short t k w i within))
write_here shows e t k i v (Some w) pin agrees within =
    let long : i < length (shows w.items) = copy_long shows t k w i within in
    wrote_by e t k i v (copy_seen shows ((t, k), w)) (option_map (λ u. pin_seen ((t, k), u)) pin) (opened e t k) refl agrees (copies_free w.kind) long

pub write_law : {I : Type 0} (shows : I → List ℤ) (es news : List ((ℕ × ℕ) × Copied I)) (fs : List ((ℕ × ℕ) × Pinned)) (e : List Event) (t k i : ℕ) (v : ℤ)
    → Stands (seen shows es fs) e
    → i < copy_length (row_of t k (seen shows es fs))
    → IsDistinct same_name (keys_of news)
    → ((q : ℕ × ℕ) → copy_at shows q (lookup (same_name q) news)
    ≡ (if same_name (t, k) q then copy_item_set i v (copy_at shows q (lookup (same_name q) es)) else copy_at shows q (lookup (same_name q) es)))
    → Stands (seen shows news fs) (Wrote t k i v ∷ e)
write_law shows es news fs e t k i v stands within distinct put =
    let told = λ (m n : ℕ). tells (map (copy_seen shows) es) (map pin_seen fs) e m n stands in
    let P : Option Buffer → Type 0 = λ r. i < copy_length r in
    let short = subst P (row_is shows es fs (seen shows es fs) t k refl) within in
    let own : same_name (t, k) (t, k) ≡ true = grind (arith, nat_tests) in
    let copy = found_row (copy_seen shows) (λ a b x. refl) t k es in
    let pin = found_row pin_seen (λ a b x. refl) t k fs in
    let Q : Option Buffer → Type 0 = λ c. Agrees e t k c (find (is_buffer t k) (map pin_seen fs)) in
    let R : Option Buffer → Type 0 = λ p. Agrees e t k (copy_at shows (t, k) (lookup (same_name (t, k)) es)) p in
    let agrees = subst R pin (subst Q copy (told t k).agrees) in
    let here = write_here shows e t k i v (lookup (same_name (t, k)) es) (lookup (same_name (t, k)) fs) agrees short in
    let now : find (is_buffer t k) (map (copy_seen shows) news) ≡ copy_item_set i v (copy_at shows (t, k) (lookup (same_name (t, k)) es)) =
    found_row (copy_seen shows) (λ a b x. refl) t k news
    ∙ (put (t, k) ∙ ap (λ b. if b then copy_item_set i v (copy_at shows (t, k) (lookup (same_name (t, k)) es))
    else copy_at shows (t, k) (lookup (same_name (t, k)) es)) own) in
    stands_by (map (copy_seen shows) news) (map pin_seen fs) (Wrote t k i v ∷ e)
    (each_key (Wrote t k i v ∷ e) e t k (map (copy_seen shows) es) (map pin_seen fs) (map (copy_seen shows) news) (map pin_seen fs) told
    (exact_found (copy_seen shows) (λ a b x. refl) news distinct) (λ m n. (told m n).pin)
    (λ m n apart. (
      found_row (copy_seen shows) (λ a b x. refl) m n news
          ∙ (put (m, n) ∙ (ap (λ b. if b then copy_item_set i v (copy_at shows (m, n) (lookup (same_name (m, n)) es))
          else copy_at shows (m, n) (lookup (same_name (m, n)) es)) apart
          ∙ sym (found_row (copy_seen shows) (λ a b x. refl) m n es))),
      refl,
    ))
    (λ m n apart. rows_elsewhere_wrote e m n t k i v apart)
    (ap (λ c. option_to_list c ++ option_to_list (find (is_buffer t k) (map pin_seen fs))) now
    ∙ (ap (λ p. option_to_list (copy_item_set i v (copy_at shows (t, k) (lookup (same_name (t, k)) es))) ++ option_to_list p) pin ∙ here)))

-- ---- numbers

row_same : {I : Type 0} (shows : I → List ℤ) (es news : List ((ℕ × ℕ) × Copied I)) (fs others : List ((ℕ × ℕ) × Pinned)) (m n : ℕ)
    → lookup (same_name (m, n)) news ≡ lookup (same_name (m, n)) es
    → lookup (same_name (m, n)) others ≡ lookup (same_name (m, n)) fs
    → row_of m n (seen shows news others) ≡ row_of m n (seen shows es fs)
row_same shows es news fs others m n left right =
    row_is shows news others (seen shows news others) m n refl
    ∙ (ap (λ c. first_of (option_map (λ w. copy_seen shows ((m, n), w)) c) (option_map (λ w. pin_seen ((m, n), w)) (lookup (same_name (m, n)) others))) left
    ∙ (ap (λ p. first_of (option_map (λ w. copy_seen shows ((m, n), w)) (lookup (same_name (m, n)) es)) (option_map (λ w. pin_seen ((m, n), w)) p)) right
    ∙ sym (row_is shows es fs (seen shows es fs) m n refl)))

pub copy_numbers : {I : Type 0} (shows : I → List ℤ) (es news : List ((ℕ × ℕ) × Copied I)) (fs : List ((ℕ × ℕ) × Pinned)) (t k : ℕ) (w : Copied I)
    → Changes es news t k (Some w)
    → AddsNumber t k (seen shows es fs) (seen shows news fs)
copy_numbers shows es news fs t k w put = adds_number (seen shows es fs) (seen shows news fs) t k
    (λ m n b apart found. (b, sym (row_same shows es news fs fs m n (same_elsewhere es news t k (Some w) put m n apart) refl) ∙ found))

pub pin_numbers : {I : Type 0} (shows : I → List ℤ) (es : List ((ℕ × ℕ) × Copied I)) (fs news : List ((ℕ × ℕ) × Pinned)) (t k : ℕ) (w : Pinned)
    → Changes fs news t k (Some w)
    → AddsNumber t k (seen shows es fs) (seen shows es news)
pin_numbers shows es fs news t k w put = adds_number (seen shows es fs) (seen shows es news) t k
    (λ m n b apart found. (b, sym (row_same shows es es fs news m n refl (same_elsewhere fs news t k (Some w) put m n apart)) ∙ found))

closed_numbers_by : {I : Type 0} (shows : I → List ℤ) (es news : List ((ℕ × ℕ) × Copied I)) (fs others : List ((ℕ × ℕ) × Pinned)) (t k : ℕ)
    → Changes es news t k None → Changes fs others t k None
    → (m n : ℕ) (b : Buffer) (same : Bool) → is_same m n t k ≡ same → row_of m n (seen shows news others) ≡ Some b
    → (x : Buffer) × (row_of m n (seen shows es fs) ≡ Some x)
closed_numbers_by shows es news fs others t k drops removes m n b true is found =
    let maker : t ≡ m = grind (arith, nat_tests) in
    let number : k ≡ n = grind (arith, nat_tests) in
    let P : ℕ → Type 0 = λ u. row_of u k (seen shows news others) ≡ None in
    let Q : ℕ → Type 0 = λ u. row_of m u (seen shows news others) ≡ None in
    let none : row_of t k (seen shows news others) ≡ None = row_is shows news others (seen shows news others) t k refl
    ∙ (ap (λ c. first_of (option_map (λ w. copy_seen shows ((t, k), w)) c) (option_map (λ w. pin_seen ((t, k), w)) (lookup (same_name (t, k)) others)))
    (changed_here es news t k None drops)
    ∙ ap (option_map (λ w. pin_seen ((t, k), w))) (changed_here fs others t k None removes)) in
    let gone : row_of m n (seen shows news others) ≡ None = subst Q number (subst P maker none) in
    cc
closed_numbers_by shows es news fs others t k drops removes m n b false is found =
    (b, sym (row_same shows es news fs others m n (same_elsewhere es news t k None drops m n is) (same_elsewhere fs others t k None removes m n is)) ∙ found)

pub closed_numbers : {I : Type 0} (shows : I → List ℤ) (es news : List ((ℕ × ℕ) × Copied I)) (fs others : List ((ℕ × ℕ) × Pinned)) (t k : ℕ)
    → Changes es news t k None → Changes fs others t k None
    → KeepsNumbers (seen shows es fs) (seen shows news others)
closed_numbers shows es news fs others t k drops removes = keeps_numbers (seen shows es fs) (seen shows news others)
    (λ m n b found. closed_numbers_by shows es news fs others t k drops removes m n b (is_same m n t k) refl found)

written_there : {I : Type 0} (shows : I → List ℤ) (i : ℕ) (v : ℤ) (q : ℕ × ℕ) (copy : Option (Copied I)) (pin : Option Buffer) (same : Bool) (b : Buffer)
    → first_of (if same then copy_item_set i v (copy_at shows q copy) else copy_at shows q copy) pin ≡ Some b
    → (x : Buffer) × (first_of (copy_at shows q copy) pin ≡ Some x)
written_there shows i v q None pin true b is = (b, is)
written_there shows i v q (Some w) pin true b is = (copy_seen shows (q, w), refl)
written_there shows i v q copy pin false b is = (b, is)

pub written_numbers : {I : Type 0} (shows : I → List ℤ) (es news : List ((ℕ × ℕ) × Copied I)) (fs : List ((ℕ × ℕ) × Pinned)) (t k i : ℕ) (v : ℤ)
    → ((q : ℕ × ℕ) → copy_at shows q (lookup (same_name q) news)
    ≡ (if same_name (t, k) q then copy_item_set i v (copy_at shows q (lookup (same_name q) es)) else copy_at shows q (lookup (same_name q) es)))
    → KeepsNumbers (seen shows es fs) (seen shows news fs)
written_numbers shows es news fs t k i v put = keeps_numbers (seen shows es fs) (seen shows news fs)
    (λ m n b found.
    let pin : Option Buffer = option_map (λ w. pin_seen ((m, n), w)) (lookup (same_name (m, n)) fs) in
    let now = sym (ap (λ c. first_of c pin) (put (m, n))) ∙ (sym (row_is shows news fs (seen shows news fs) m n refl) ∙ found) in
    let was = written_there shows i v (m, n) (lookup (same_name (m, n)) es) pin (same_name (t, k) (m, n)) b now in
    (was.0, row_is shows es fs (seen shows es fs) m n refl ∙ was.1))

-- what doesn't read a buffer's items is kept by a write
kept_by : {X : Type 0} (f : Option Buffer → X) → ((b : Buffer) (items : List ℤ) → f (Some (record b { items = items })) ≡ f (Some b))
    → (i : ℕ) (v : ℤ) (same : Bool) (copy pin : Option Buffer)
    → f (first_of (if same then copy_item_set i v copy else copy) pin) ≡ f (first_of copy pin)
kept_by f blind i v true None pin = refl
kept_by f blind i v true (Some b) pin = blind b (slice_set b.items i v)
kept_by f blind i v false copy pin = refl

kept_at : {I X : Type 0} (shows : I → List ℤ) (f : Option Buffer → X) → ((b : Buffer) (items : List ℤ) → f (Some (record b { items = items })) ≡ f (Some b))
    → (es news : List ((ℕ × ℕ) × Copied I)) (fs : List ((ℕ × ℕ) × Pinned)) (rows : Rows) (t k i : ℕ) (v : ℤ) → seen shows es fs ≡ rows
    → ((q : ℕ × ℕ) → copy_at shows q (lookup (same_name q) news)
    ≡ (if same_name (t, k) q then copy_item_set i v (copy_at shows q (lookup (same_name q) es)) else copy_at shows q (lookup (same_name q) es)))
    → (m n : ℕ) → f (row_of m n (seen shows news fs)) ≡ f (row_of m n rows)
kept_at shows f blind es news fs rows t k i v view put m n =
    let pin : Option Buffer = option_map (λ w. pin_seen ((m, n), w)) (lookup (same_name (m, n)) fs) in
    ap f (row_is shows news fs (seen shows news fs) m n refl)
    ∙ ap (λ c. f (first_of c pin)) (put (m, n))
    ∙ kept_by f blind i v (same_name (t, k) (m, n)) (copy_at shows (m, n) (lookup (same_name (m, n)) es)) pin
    ∙ sym (ap f (row_is shows es fs rows m n view))

pub written_buffers : {I : Type 0} (shows : I → List ℤ) (es news : List ((ℕ × ℕ) × Copied I)) (fs : List ((ℕ × ℕ) × Pinned)) (rows : Rows) (t k i : ℕ) (v : ℤ)
    → seen shows es fs ≡ rows
    → ((q : ℕ × ℕ) → copy_at shows q (lookup (same_name q) news)
    ≡ (if same_name (t, k) q then copy_item_set i v (copy_at shows q (lookup (same_name q) es)) else copy_at shows q (lookup (same_name q) es)))
    → KeepsBuffers rows (seen shows news fs)
written_buffers shows es news fs rows t k i v view put = record {
  info = kept_at shows (option_map info_of) (λ b items. refl) es news fs rows t k i v view put;
  len = kept_at shows copy_length (λ b items. refl) es news fs rows t k i v view put;
}
