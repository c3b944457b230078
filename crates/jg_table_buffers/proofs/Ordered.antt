-- Names of buffers in order: what puts them there, and that the order tells the list.
use Rattle.std.proofs.Common.{◌≡◌, ℕ, suc, ◌+◌, ◌≤◌, Bool, true, false, cond, List, [], ◌∷◌, ◌++◌, length, Option, Some, None, refl, ◌∙◌, ap, sym, subst, arith, add-one}
use mathlib.Core.Bool.{true≢false}
use Rattle.std.specs.Prelude.{ℤ, ◌==◌, ◌&&◌, ◌||◌, nat_lt, if◌then◌else◌, map, filter, slice_index_or, IsPermutation, IsSortedByKey}
use Rattle.std.specs.List.{list_any}
use Rattle.std.specs.Ordering.{ordering_then, is_lt}
use Rattle.std.specs.declared.cmp.Ordering.TheVariants.{Less, Equal, Greater}
use Rattle.std.proofs.lemmas.Bool.Decides.{nat_tests}
use Rattle.std.proofs.lemmas.List.{length-map, length-append}
use Rattle.std.proofs.lemmas.List.Elements.{filter-append}
use Rattle.std.proofs.lemmas.List.Sorted.{sum_by-IsPermutation}
use Rattle.std.proofs.lemmas.List.Sums.{length-filter}
use Rattle.jg_lists.proofs.Lists.{filter_swap, map-filter, list_any-map, length-filter-most, any_filter, any_same}
use Rattle.jg_words.specs.declared.buffer.BufId.{BufId}
use Rattle.jg_table_buffers.specs.declared.copied.Copied.{Copied}
use Rattle.jg_table_buffers.specs.declared.pinned.Pinned.{Pinned}
use Rattle.jg_table_buffers.specs.History.{Buffer, Event, is_same, opened, pins}
use Rattle.jg_table_buffers.specs.Keys.{pair_cmp}
use Rattle.jg_table_buffers.specs.Ordered.{buffer_key, is_before, put_in, in_order}
use Rattle.jg_table_buffers.specs.Rows.{name_of, is_buffer}
use Rattle.jg_table_buffers.specs.Seen.{copy_seen, pin_seen, key_name}
use Rattle.jg_table_buffers.specs.Standing.{rows_of, Stands}
use Rattle.jg_table_buffers.proofs.Lookups.{IsBlind}
use Rattle.jg_table_buffers.proofs.Pins.{pin_law}

-- the name has that maker and that number
abbrev pub names : ℕ → ℕ → BufId → Bool
names m n b = is_same m n b.maker.0 b.n

abbrev Below : BufId → List BufId → Type 0
Below b [] = Unit {0}
Below b (c ∷ cs) = (is_before b c ≡ true) × Below b cs

-- each name is before all later ones
abbrev Rises : List BufId → Type 0
Rises [] = Unit {0}
Rises (b ∷ bs) = Below b bs × Rises bs

before_trans : (a b c : BufId) → is_before a b ≡ true → is_before b c ≡ true → is_before a c ≡ true
before_trans a b c p q = grind (arith, nat_tests, p, q)

below_trans : (a b : BufId) (cs : List BufId) → is_before a b ≡ true → Below b cs → Below a cs
below_trans a b [] p q = tt
below_trans a b (c ∷ cs) p q = (before_trans a b c p q.0, below_trans a b cs p q.1)

-- ---- putting in

below_put : (a b : BufId) (cs : List BufId) → is_before a b ≡ true → Below a cs → Below a (put_in b cs)
below_put a b [] p q = (p, tt)
below_put a b (c ∷ cs) p q = by (is_before b c) (is_before c b) (below_put a b cs p q.1)
  where
    by : (first second : Bool) → Below a (put_in b cs) → Below a (if first then b ∷ c ∷ cs else if second then c ∷ put_in b cs else c ∷ cs)
    by true second rest = (p, q)
    by false true rest = (q.0, rest)
    by false false rest = q

rises_put : (b : BufId) (cs : List BufId) → Rises cs → Rises (put_in b cs)
rises_put b [] up = (tt, tt)
rises_put b (c ∷ cs) up = by (is_before b c) refl (is_before c b) refl (rises_put b cs up.1)
  where
    by : (first : Bool) → is_before b c ≡ first → (second : Bool) → is_before c b ≡ second → Rises (put_in b cs)
        → Rises (if first then b ∷ c ∷ cs else if second then c ∷ put_in b cs else c ∷ cs)
    by true is second other rest = ((is, below_trans b c cs is up.0), up)
    by false is true other rest = (below_put c b cs other up.0, rest)
    by false is false other rest = up

rises_in_order : (bs : List Buffer) → Rises (in_order bs)
rises_in_order [] = tt
rises_in_order (b ∷ bs) = rises_put (name_of b) (in_order bs) (rises_in_order bs)

same_names : (m n : ℕ) (b c : BufId) → is_before b c ≡ false → is_before c b ≡ false → names m n b ≡ names m n c
same_names m n b c p q = grind (arith, nat_tests, p, q)

or_swap : (a b c : Bool) → (a || (b || c)) ≡ (b || (a || c))
or_swap true true c = refl
or_swap true false c = refl
or_swap false b c = refl

or_twice : (a b c : Bool) → a ≡ b → (b || c) ≡ (a || (b || c))
or_twice true b c is = rw (sym is) refl
or_twice false b c is = rw (sym is) refl

any_put : (m n : ℕ) (b : BufId) (cs : List BufId) → list_any (names m n) (put_in b cs) ≡ (names m n b || list_any (names m n) cs)
any_put m n b [] = refl
any_put m n b (c ∷ cs) = by (is_before b c) refl (is_before c b) refl (any_put m n b cs)
  where
    by : (first : Bool) → is_before b c ≡ first → (second : Bool) → is_before c b ≡ second
        → list_any (names m n) (put_in b cs) ≡ (names m n b || list_any (names m n) cs)
        → list_any (names m n) (if first then b ∷ c ∷ cs else if second then c ∷ put_in b cs else c ∷ cs)
        ≡ (names m n b || (names m n c || list_any (names m n) cs))
    by true is second other rest = refl
    by false is true other rest = ap (λ r. names m n c || r) rest ∙ or_swap (names m n c) (names m n b) (list_any (names m n) cs)
    by false is false other rest = or_twice (names m n b) (names m n c) (list_any (names m n) cs) (same_names m n b c is other)

any_in_order : (m n : ℕ) (bs : List Buffer) → list_any (names m n) (in_order bs) ≡ list_any (λ b. is_same m n b.maker b.n) bs
any_in_order m n [] = refl
any_in_order m n (b ∷ bs) = any_put m n (name_of b) (in_order bs) ∙ ap (λ r. is_same m n b.maker b.n || r) (any_in_order m n bs)

-- ---- the order tells the list

abbrev name_at : ℕ → ℕ → BufId
name_at m n = record { maker = record { 0 = m }; n = n }

before_named : (m n : ℕ) (b c : BufId) → names m n c ≡ true → is_before b c ≡ true → is_before b (name_at m n) ≡ true
before_named m n b c is p = grind (arith, nat_tests, is, p)

below_here : (m n : ℕ) (b c : BufId) (here rest : Bool) → names m n c ≡ here → is_before b c ≡ true → (rest ≡ true → is_before b (name_at m n) ≡ true)
    → (here || rest) ≡ true
    → is_before b (name_at m n) ≡ true
below_here m n b c true rest is low later some = before_named m n b c is low
below_here m n b c false rest is low later some = later some

below_any : (m n : ℕ) (b : BufId) (cs : List BufId) → Below b cs → list_any (names m n) cs ≡ true → is_before b (name_at m n) ≡ true
below_any m n b [] low some = cc
below_any m n b (c ∷ cs) low some = below_here m n b c (names m n c) (list_any (names m n) cs) refl low.0 (below_any m n b cs low.1) some

own_or : (b : BufId) (rest : Bool) → (names b.maker.0 b.n b || rest) ≡ true
own_or b rest = let own : names b.maker.0 b.n b ≡ true = grind (arith, nat_tests) in rw own refl

is_name : (b c : BufId) → names b.maker.0 b.n c ≡ true → c ≡ b
is_name b c is =
    let maker : c.maker.0 ≡ b.maker.0 = grind (arith, nat_tests, is) in
    let number : c.n ≡ b.n = grind (arith, nat_tests, is) in
    ap (λ m. name_at m c.n) maker ∙ ap (λ n. name_at b.maker.0 n) number

one_way : (b c : BufId) → is_before b c ≡ true → is_before c b ≡ true → ⊥
one_way b c p q = grind (arith, nat_tests, p, q)

not_itself : (m n : ℕ) (b : BufId) → names m n b ≡ true → is_before b (name_at m n) ≡ true → ⊥
not_itself m n b is p = grind (arith, nat_tests, is, p)

heads : (x y : BufId) (xs ys : List BufId) → Below x xs → Below y ys → (names x.maker.0 x.n y || list_any (names x.maker.0 x.n) ys) ≡ true
    → (names y.maker.0 y.n x || list_any (names y.maker.0 y.n) xs) ≡ true → y ≡ x
heads x y xs ys low low' here there = by (names x.maker.0 x.n y) refl here (names y.maker.0 y.n x) refl there
  where
    by : (b : Bool) → names x.maker.0 x.n y ≡ b → (b || list_any (names x.maker.0 x.n) ys) ≡ true
        → (c : Bool) → names y.maker.0 y.n x ≡ c → (c || list_any (names y.maker.0 y.n) xs) ≡ true → y ≡ x
    by true is any c other any' = is_name x y is
    by false is any true other any' = sym (is_name y x other)
    by false is any false other any' = absurd (one_way y x (below_any x.maker.0 x.n y ys low' any) (below_any y.maker.0 y.n x xs low any'))

none_later : (m n : ℕ) (x : BufId) (xs : List BufId) → Below x xs → names m n x ≡ true → list_any (names m n) xs ≡ false
none_later m n x xs low is = by (list_any (names m n) xs) refl
  where
    by : (b : Bool) → list_any (names m n) xs ≡ b → b ≡ false
    by true some = absurd (not_itself m n x is (below_any m n x xs low some))
    by false none = refl

tails : (m n : ℕ) (x : BufId) (xs ys : List BufId) → Below x xs → Below x ys
    → (names m n x || list_any (names m n) xs) ≡ (names m n x || list_any (names m n) ys)
    → list_any (names m n) xs ≡ list_any (names m n) ys
tails m n x xs ys low low' same = by (names m n x) refl same
  where
    by : (b : Bool) → names m n x ≡ b → (b || list_any (names m n) xs) ≡ (b || list_any (names m n) ys) → list_any (names m n) xs ≡ list_any (names m n) ys
    by true is e = none_later m n x xs low is ∙ sym (none_later m n x ys low' is)
    by false is e = e

-- two lists in order that have the same names are one
rises_unique : (xs ys : List BufId) → Rises xs → Rises ys → ((m n : ℕ) → list_any (names m n) xs ≡ list_any (names m n) ys) → xs ≡ ys
rises_unique [] [] up up' same = refl
rises_unique [] (y ∷ ys) up up' same = absurd (true≢false (sym (own_or y (list_any (names y.maker.0 y.n) ys)) ∙ sym (same y.maker.0 y.n)))
rises_unique (x ∷ xs) [] up up' same = absurd (true≢false (sym (own_or x (list_any (names x.maker.0 x.n) xs)) ∙ same x.maker.0 x.n))
rises_unique (x ∷ xs) (y ∷ ys) up up' same =
    let head : y ≡ x = heads x y xs ys up.0 up'.0 (sym (same x.maker.0 x.n) ∙ own_or x (list_any (names x.maker.0 x.n) xs))
    (same y.maker.0 y.n ∙ own_or y (list_any (names y.maker.0 y.n) ys)) in
    let low : Below x ys = subst (λ b. Below b ys) head up'.0 in
    let rest : xs ≡ ys = rises_unique xs ys up.1 up'.1 (λ m n. tails m n x xs ys up.0 low (same m n ∙ ap (λ b. names m n b || list_any (names m n) ys) head)) in
    ap (λ l. x ∷ l) rest ∙ ap (λ b. b ∷ ys) (sym head)

-- ---- a sorted list

lower_is : (l e m f : Bool) → is_lt (ordering_then (cond l Less (cond e Equal Greater)) (cond m Less (cond f Equal Greater))) ≡ (l || (e && m))
lower_is true e m f = refl
lower_is false true true f = refl
lower_is false true false true = refl
lower_is false true false false = refl
lower_is false false m f = refl

lower : (b c : BufId) → is_lt (pair_cmp (buffer_key b) (buffer_key c)) ≡ is_before b c
lower b c = lower_is (nat_lt b.maker.0 c.maker.0) (b.maker.0 == c.maker.0) (nat_lt b.n c.n) (b.n == c.n)

-- no name is before the one that stands before it
abbrev pub Ascends : List BufId → Type 0
Ascends xs = IsSortedByKey buffer_key pair_cmp xs

ascends_tail : (x : BufId) (xs : List BufId) → Ascends (x ∷ xs) → Ascends xs
ascends_tail x xs up k d low high =
    let next = add-one k in
    let lt : BufId → BufId → Bool = λ b c. is_lt (pair_cmp (buffer_key b) (buffer_key c)) in
    let step = up (suc k) d (omega arith) (omega (arith, high)) in
    ap (λ i. lt (slice_index_or xs i d) (slice_index_or xs k d)) next
    ∙ ap (λ i. lt (slice_index_or (x ∷ xs) i d) (slice_index_or xs k d)) (sym (add-one (suc k))) ∙ step

second_counts : (x y : BufId) (r : List BufId) → names x.maker.0 x.n y ≡ true → length (filter (names x.maker.0 x.n) (x ∷ y ∷ r)) ≤ 1 → ⊥
second_counts x y r is once =
    let own : names x.maker.0 x.n x ≡ true = grind (arith, nat_tests) in
    let two : length (filter (names x.maker.0 x.n) (x ∷ y ∷ r)) ≡ length (x ∷ y ∷ filter (names x.maker.0 x.n) r) = rw (own, is) refl in
    absurd (omega (arith, once, two))

count_tail : (p : BufId → Bool) (x : BufId) (xs : List BufId) → length (filter p (x ∷ xs)) ≤ 1 → length (filter p xs) ≤ 1
count_tail p x xs once = by (p x) once
  where
    by : (b : Bool) → length (if b then x ∷ filter p xs else filter p xs) ≤ 1 → length (filter p xs) ≤ 1
    by true few = omega (arith, few)
    by false few = few

rises_sorted : (xs : List BufId) → Ascends xs → ((m n : ℕ) → length (filter (names m n) xs) ≤ 1) → Rises xs
rises_sorted [] up once = tt
rises_sorted (x ∷ []) up once = (tt, tt)
rises_sorted (x ∷ y ∷ r) up once =
    let rest : Rises (y ∷ r) = rises_sorted (y ∷ r) (ascends_tail x (y ∷ r) up) (λ m n. count_tail (names m n) x (y ∷ r) (once m n)) in
    let back : is_before y x ≡ false = sym (lower y x) ∙ up 0 x (omega arith) (omega arith) in
    let step : is_before x y ≡ true = by (is_before x y) refl back in
    ((step, below_trans x y r step rest.0), rest)
  where
    by : (b : Bool) → is_before x y ≡ b → is_before y x ≡ false → b ≡ true
    by true is back = refl
    by false is back =
        let own : names x.maker.0 x.n x ≡ true = grind (arith, nat_tests) in
        absurd (second_counts x y r (sym (same_names x.maker.0 x.n x y is back) ∙ own) (once x.maker.0 x.n))

-- ---- what the table lists

any_counted : {X : Type 0} (p : X → Bool) (xs : List X) → list_any p xs ≡ nat_lt 0 (length (filter p xs))
any_counted p [] = refl
any_counted p (x ∷ xs) = by (p x) (any_counted p xs)
  where
    by : (b : Bool) → list_any p xs ≡ nat_lt 0 (length (filter p xs)) → (b || list_any p xs) ≡ nat_lt 0 (length (if b then x ∷ filter p xs else filter p xs))
    by true e = grind (arith, nat_tests)
    by false e = e

counts_moved : {X : Type 0} (p : X → Bool) (xs ys : List X) → IsPermutation xs ys → length (filter p ys) ≡ length (filter p xs)
counts_moved p xs ys moved = length-filter p ys ∙ sum_by-IsPermutation (λ x. cond (p x) 1 0) xs ys moved ∙ sym (length-filter p xs)

any_moved : {X : Type 0} (p : X → Bool) (xs ys : List X) → IsPermutation xs ys → list_any p ys ≡ list_any p xs
any_moved p xs ys moved = any_counted p ys ∙ ap (λ n. nat_lt 0 n) (counts_moved p xs ys moved) ∙ sym (any_counted p xs)

row_once : (e : List Event) (m n : ℕ) (found : Option Buffer) → length (rows_of e m n found) ≤ 1
row_once e m n None = omega arith
row_once e m n (Some b) = omega arith

abbrev named_so : (ℕ × ℕ) × Pinned → BufId
named_so f = key_name f.0

module _ {I : Type 0} (shows : I → List ℤ) (es : List ((ℕ × ℕ) × Copied I)) (fs : List ((ℕ × ℕ) × Pinned)) (e : List Event)
    (stands : Stands (record { lent = map (copy_seen shows) es ++ map pin_seen fs }) e) where
  -- each pinned row has a name of its own
  pins_once : (m n : ℕ) → length (filter (λ f. is_same m n f.0.0 f.0.1) fs) ≤ 1
  pins_once m n =
      let here : List ((ℕ × ℕ) × Pinned) = filter (λ f. is_same m n f.0.0 f.0.1) fs in
      let long : length (map pin_seen here) ≡ length here = length-map here pin_seen in
      let mapped : map pin_seen here ≡ filter (is_buffer m n) (map pin_seen fs) =
      map-filter pin_seen (λ f. is_same m n f.0.0 f.0.1) (is_buffer m n) (λ f. refl) fs in
      let sizes : length (map pin_seen here) ≡ length (filter (is_buffer m n) (map pin_seen fs)) = ap length mapped in
      let both : length (filter (is_buffer m n) (map (copy_seen shows) es)) + length (filter (is_buffer m n) (map pin_seen fs))
      ≡ length (rows_of e m n (opened e m n)) =
      sym (length-append (filter (is_buffer m n) (map (copy_seen shows) es)) (filter (is_buffer m n) (map pin_seen fs)))
      ∙ ap length (sym (filter-append (is_buffer m n) (map (copy_seen shows) es) (map pin_seen fs)) ∙ stands m n) in
      omega (arith, long, sizes, both, row_once e m n (opened e m n))

  names_once : (T : (ℕ × ℕ) × Pinned → Bool) (m n : ℕ) → length (filter (names m n) (map named_so (filter T fs))) ≤ 1
  names_once T m n =
      let here : (ℕ × ℕ) × Pinned → Bool = λ f. is_same m n f.0.0 f.0.1 in
      let both : List ((ℕ × ℕ) × Pinned) = filter here (filter T fs) in
      let long : length (map named_so both) ≡ length both = length-map both named_so in
      let mapped : map named_so both ≡ filter (names m n) (map named_so (filter T fs)) = map-filter named_so here (names m n) (λ f. refl) (filter T fs) in
      let sizes : length (map named_so both) ≡ length (filter (names m n) (map named_so (filter T fs))) = ap length mapped in
      let swapped : length both ≡ length (filter T (filter here fs)) = ap length (filter_swap here T fs) in
      omega (arith, long, sizes, swapped, length-filter-most T (filter here fs), pins_once m n)

  -- sorted, the names of the pinned rows that pass are those of the open critical buffers that pass, in order
  pub sorted_pins : (P : Buffer → Bool) (blind : IsBlind P) (T : (ℕ × ℕ) × Pinned → Bool) → ((f : (ℕ × ℕ) × Pinned) → T f ≡ P (pin_seen f))
      → (listed sorted : List BufId) → listed ≡ map named_so (filter T fs) → IsPermutation listed sorted → Ascends sorted
      → sorted ≡ in_order (filter P (pins e))
  sorted_pins P blind T alike listed sorted is moved up =
      let once : (m n : ℕ) → length (filter (names m n) sorted) ≤ 1 =
      λ m n. omega (arith, counts_moved (names m n) listed sorted moved, ap (λ l. length (filter (names m n) l)) is, names_once T m n) in
      rises_unique sorted (in_order (filter P (pins e))) (rises_sorted sorted up once) (rises_in_order (filter P (pins e))) (λ m n. same m n)
    where
      same : (m n : ℕ) → list_any (names m n) sorted ≡ list_any (names m n) (in_order (filter P (pins e)))
      same m n =
          let Q : Buffer → Bool = λ b. P b && is_same m n b.maker b.n in
          any_moved (names m n) listed sorted moved
          ∙ ap (list_any (names m n)) is
          ∙ sym (list_any-map named_so (λ f. is_same m n f.0.0 f.0.1) (names m n) (λ f. refl) (filter T fs))
          ∙ any_filter (λ f. is_same m n f.0.0 f.0.1) T fs
          ∙ any_same (λ f. T f && is_same m n f.0.0 f.0.1) (λ f. Q (pin_seen f)) fs (λ f. ap (λ b. b && is_same m n f.0.0 f.0.1) (alike f))
          ∙ pin_law shows Q (λ b items. ap (λ t. t && is_same m n b.maker b.n) (blind b items)) es fs e stands
          ∙ sym (any_filter (λ b. is_same m n b.maker b.n) P (pins e))
          ∙ sym (any_in_order m n (filter P (pins e)))
