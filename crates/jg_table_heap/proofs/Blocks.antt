-- Blocks of objects, and the numbers of those in them.
use Rattle.std.proofs.Common.{ℕ, zero, suc, ◌≡◌, ◌+◌, ◌-◌, ◌<◌, ◌≤◌, ◌⊎◌, ◌∙◌, sym, ap, refl, inl, inr, List, [], ◌∷◌, ◌++◌, length, drop, take, get_or, subst, cond, arith, Bool, true, false, not, ◌&&◌, ◌||◌, zero-add}
use Rattle.std.specs.Prelude.{All, filter, flat_map}
use Rattle.std.specs.List.{list_any, range_with_len}
use Rattle.std.proofs.lemmas.Bool.{cases_Bool, cases_lt}
use Rattle.std.proofs.lemmas.Grind.{flat_map-append}
use Rattle.std.proofs.lemmas.List.{append_assoc, append-nil, get_or-drop, get_or-take, get_or_past, length-drop, length-take-le, take_all, take_more}
use Rattle.std.proofs.lemmas.List.Elements.{All-append, All-from_get_or, filter-append}
use Rattle.std.proofs.lemmas.List.Folds.{list_any_more}
use Rattle.std.proofs.lemmas.List.FromFn.{length-range_with_len, get_or-range_with_len}
use Rattle.std.proofs.Math.Bool.{or-false}
use Rattle.jg_lists.proofs.Lists.{range_more, any_more, any_agree}
use Rattle.jg_table_heap.specs.Kept.{unheld_in, block_of, numbers_in, AreWhole}

-- ---- numbers in a row

range_within : (a m n : ℕ) → a + m ≤ n → All (λ o. o < n) (range_with_len a m)
range_within a m n h =
    All-from_get_or (λ o. o < n) (range_with_len a m) 0
    (λ i l. let below : i < m = omega (arith, l, length-range_with_len a m) in
    let is : get_or (range_with_len a m) i 0 ≡ a + i = get_or-range_with_len a m i 0 below in omega (arith, is, below, h))

pub range_joined : (a b n m : ℕ) → b ≡ a + n → range_with_len a n ++ range_with_len b m ≡ range_with_len a (n + m)
range_joined a b zero m is =
    let same : b ≡ a = omega (arith, is) in
    ap (λ c. range_with_len c m) same ∙ ap (range_with_len a) (sym (zero-add m))
range_joined a b (suc n) m is =
    let all : suc (n + m) ≡ suc n + m = omega arith in
    ap (λ (os : List ℕ). a ∷ os) (range_joined (a + 1) b n m (omega (arith, is))) ∙ ap (range_with_len a) all

-- a test at places counted from a
any_shift : (q : ℕ → Bool) (a b c n : ℕ) → c ≡ a + b → list_any (λ i. q (a + i)) (range_with_len b n) ≡ list_any q (range_with_len c n)
any_shift q a b c zero is = refl
any_shift q a b c (suc n) is =
    ap (λ o. q o || list_any (λ i. q (a + i)) (range_with_len (b + 1) n)) (sym is) ∙ ap (λ r. q c || r) (any_shift q a (b + 1) (c + 1) n (omega (arith, is)))

filter_none : (p : ℕ → Bool) (xs : List ℕ) → list_any p xs ≡ false → filter p xs ≡ []
filter_none p [] none = refl
filter_none p (x ∷ xs) none =
    elim (cases_Bool (p x)) [
      | inl here ↦ absurd (cc (here, none))
      | inr other ↦ rw other (filter_none p xs (sym (ap (λ b. b || list_any p xs) other) ∙ none))
    ]

some_more : (xs : List Bool) (a n : ℕ) → (n < length (drop a xs)) ⊎ (length (drop a xs) ≤ n)
    → list_any (λ b. b) (take (n + 1) (drop a xs)) ≡ (list_any (λ b. b) (take n (drop a xs)) || get_or xs (a + n) false)
some_more xs a n (inl more) = list_any_more (λ b. b) (drop a xs) n false more ∙ ap (λ b. list_any (λ b. b) (take n (drop a xs)) || b) (get_or-drop a xs n false)
some_more xs a n (inr past) =
    ap (list_any (λ b. b)) (take_all (n + 1) (drop a xs) (omega (arith, past)) ∙ sym (take_all n (drop a xs) past))
    ∙ sym (or-false (list_any (λ b. b) (take n (drop a xs))))
    ∙ ap (λ b. list_any (λ b. b) (take n (drop a xs)) || b) (sym (get_or_past xs (a + n) false (omega (arith, past, length-drop a xs))))

-- some item of a piece of a list is true
pub some_in : (xs : List Bool) (a n : ℕ) → list_any (λ b. b) (take n (drop a xs)) ≡ list_any (λ o. get_or xs o false) (range_with_len a n)
some_in xs a zero = refl
some_in xs a (suc n) =
    let one : suc n ≡ n + 1 = omega arith in
    ap (λ k. list_any (λ b. b) (take k (drop a xs))) one
    ∙ some_more xs a n (cases_lt n (length (drop a xs))) ∙ ap (λ b. b || get_or xs (a + n) false) (some_in xs a n) ∙ sym (any_more (λ o. get_or xs o false) a n)
    ∙ ap (λ k. list_any (λ o. get_or xs o false) (range_with_len a k)) (sym one)

-- past the end none is
pub none_past : (xs : List Bool) (a n : ℕ) → length xs ≤ a → list_any (λ o. get_or xs o false) (range_with_len a n) ≡ false
none_past xs a zero past = refl
none_past xs a (suc n) past = rw (get_or_past xs a false past) (none_past xs (a + 1) n (omega (arith, past)))

-- ---- blocks

-- one of them goes
missed_of : (there marks : List Bool) (first end : ℕ) → first ≤ end
    → list_any (λ i. get_or (take (end - first) (drop first there)) i false && not (get_or marks (first + i) false)) (range_with_len 0 (end - first))
    ≡ list_any (unheld_in there marks) (range_with_len first (end - first))
missed_of there marks first end order =
    any_agree (λ i. get_or (take (end - first) (drop first there)) i false && not (get_or marks (first + i) false)) (λ i. unheld_in there marks (first + i)) 0
    (end - first)
    (λ i h. ap (λ b. b && not (get_or marks (first + i) false))
    (get_or-take (end - first) (drop first there) i false (omega (arith, h)) ∙ get_or-drop first there i false))
    ∙ any_shift (unheld_in there marks) first 0 first (end - first) (omega arith)

-- none goes where none was missed
pub none_missed : (there marks : List Bool) (first end : ℕ) (misses : Bool) → first ≤ end → end ≤ length there → misses ≡ false
    → (first + length (take (end - first) (drop first there)) ≤ length marks
    → misses ≡ list_any (λ i. get_or (take (end - first) (drop first there)) i false && not (get_or marks (first + i) false))
    (range_with_len 0 (length (take (end - first) (drop first there)))))
    → (length marks < first + length (take (end - first) (drop first there)) → misses ≡ true)
    → filter (unheld_in there marks) (range_with_len first (end - first)) ≡ []
none_missed there marks first end misses order inside none within past =
    let n = end - first in
    let wanted : length (take n (drop first there)) ≡ n = length-take-le n (drop first there) (omega (arith, length-drop first there, inside)) in
    filter_none (unheld_in there marks) (range_with_len first n)
    (elim (cases_lt (length marks) (first + n)) [
      | inl beyond ↦ absurd (cc (none, past (omega (arith, beyond, wanted))))
      | inr marked ↦
          sym (missed_of there marks first end order)
          ∙ ap (λ k. list_any (λ i. get_or (take n (drop first there)) i false && not (get_or marks (first + i) false)) (range_with_len 0 k)) (sym wanted)
          ∙ sym (within (omega (arith, marked, wanted))) ∙ none
    ])

pub block_is : (b : ℕ) → block_of b ≡ range_with_len b 32
unfolding block_of
block_is b = refl

blocks_within : (blocks : List ℕ) (n : ℕ) → AreWhole blocks n → All (λ o. o < n) (flat_map block_of blocks)
blocks_within [] n whole = λ i d h. absurd (omega (arith, h))
blocks_within (b ∷ blocks) n whole =
    All-append (λ o. o < n) (block_of b) (flat_map block_of blocks)
    (subst (All (λ o. o < n)) (sym (block_is b)) (range_within b 32 n (whole 0 0 (omega arith))))
    (blocks_within blocks n (λ i d h. whole (suc i) d (omega (arith, h))))

pub numbers_within : (blocks : List ℕ) (loose n : ℕ) → AreWhole blocks n → loose ≤ n → All (λ o. o < n) (numbers_in blocks loose n)
numbers_within blocks loose n whole order =
    All-append (λ o. o < n) (flat_map block_of blocks) (range_with_len loose (n - loose)) (blocks_within blocks n whole)
    (range_within loose (n - loose) n (omega (arith, order)))

-- with one object more
pub numbers_more : (blocks : List ℕ) (loose n : ℕ) → loose ≤ n → numbers_in blocks loose (n + 1) ≡ numbers_in blocks loose n ++ n ∷ []
numbers_more blocks loose n order =
    let count : n + 1 - loose ≡ n - loose + 1 = omega (arith, order) in
    let last : loose + (n - loose) ≡ n = omega (arith, order) in
    ap (λ k. flat_map block_of blocks ++ range_with_len loose k) count
    ∙ ap (λ (os : List ℕ). flat_map block_of blocks ++ os) (range_more loose (n - loose) ∙ ap (λ o. range_with_len loose (n - loose) ++ o ∷ []) last)
    ∙ sym (append_assoc (flat_map block_of blocks) (range_with_len loose (n - loose)) (n ∷ []))

-- the first of the loose ones put into a block
pub numbers_filled : (blocks : List ℕ) (loose n : ℕ) → loose + 32 ≤ n → numbers_in (blocks ++ loose ∷ []) (loose + 32) n ≡ numbers_in blocks loose n
numbers_filled blocks loose n full =
    ap (λ (os : List ℕ). os ++ range_with_len (loose + 32) (n - (loose + 32)))
    (flat_map-append block_of blocks (loose ∷ [])
    ∙ ap (λ (os : List ℕ). flat_map block_of blocks ++ os) (append-nil (block_of loose)))
    ∙ append_assoc (flat_map block_of blocks) (block_of loose) (range_with_len (loose + 32) (n - (loose + 32)))
    ∙ ap (λ (os : List ℕ). flat_map block_of blocks ++ os)
    (ap (λ (os : List ℕ). os ++ range_with_len (loose + 32) (n - (loose + 32))) (block_is loose)
    ∙ range_joined loose (loose + 32) 32 (n - (loose + 32)) refl ∙ ap (range_with_len loose) (omega (arith, full)))

pub filter_range_more : (p : ℕ → Bool) (a n : ℕ) → filter p (range_with_len a (n + 1)) ≡ filter p (range_with_len a n) ++ cond (p (a + n)) ((a + n) ∷ []) []
filter_range_more p a n = ap (filter p) (range_more a n) ∙ filter-append p (range_with_len a n) ((a + n) ∷ [])

-- one block more
pub filter_block_more : (p : ℕ → Bool) (blocks : List ℕ) (i : ℕ) → i < length blocks
    → filter p (flat_map block_of (take i blocks)) ++ filter p (block_of (get_or blocks i 0)) ≡ filter p (flat_map block_of (take (i + 1) blocks))
filter_block_more p blocks i h =
    sym (ap (λ (bs : List ℕ). filter p (flat_map block_of bs)) (take_more blocks i 0 h)
    ∙ ap (filter p) (flat_map-append block_of (take i blocks) (get_or blocks i 0 ∷ [])
    ∙ ap (λ (os : List ℕ). flat_map block_of (take i blocks) ++ os) (append-nil (block_of (get_or blocks i 0))))
    ∙ filter-append p (flat_map block_of (take i blocks)) (block_of (get_or blocks i 0)))

-- blocks of which no number passes may go
passing_blocks : (p : ℕ → Bool) (blocks : List ℕ)
    → filter p (flat_map block_of (filter (λ b. list_any p (block_of b)) blocks)) ≡ filter p (flat_map block_of blocks)
passing_blocks p [] = refl
passing_blocks p (b ∷ blocks) =
    elim (cases_Bool (list_any p (block_of b))) [
      | inl some ↦ rw some
          (filter-append p (block_of b) (flat_map block_of (filter (λ c. list_any p (block_of c)) blocks))
          ∙ ap (λ (os : List ℕ). filter p (block_of b) ++ os) (passing_blocks p blocks) ∙ sym (filter-append p (block_of b) (flat_map block_of blocks)))
      | inr none ↦ rw none
          (passing_blocks p blocks ∙ sym
          (filter-append p (block_of b) (flat_map block_of blocks)
          ∙ ap (λ (os : List ℕ). os ++ filter p (flat_map block_of blocks)) (filter_none p (block_of b) none)))
    ]

pub passing_numbers : (p : ℕ → Bool) (blocks : List ℕ) (loose n : ℕ)
    → filter p (numbers_in (filter (λ b. list_any p (block_of b)) blocks) loose n) ≡ filter p (numbers_in blocks loose n)
passing_numbers p blocks loose n =
    filter-append p (flat_map block_of (filter (λ b. list_any p (block_of b)) blocks)) (range_with_len loose (n - loose))
    ∙ ap (λ (os : List ℕ). os ++ filter p (range_with_len loose (n - loose))) (passing_blocks p blocks)
    ∙ sym (filter-append p (flat_map block_of blocks) (range_with_len loose (n - loose)))
