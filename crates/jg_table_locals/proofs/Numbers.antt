-- One thread's list of locals: what is found in it, marked in it and cut from it.
use Rattle.std.proofs.Common.{◌≡◌, ℕ, zero, suc, ◌-◌, ◌<◌, ◌≤◌, length, get_or, Bool, true, false, List, [], ◌∷◌, ◌++◌, Option, Some, None, refl, ◌∙◌, ap, sym, subst, arith, inl, inr}
use Rattle.std.specs.Prelude.{◌⊎◌, ◌==◌, ◌&&◌, ◌||◌, not, if◌then◌else◌, filter, find, slice_get, slice_set}
use Rattle.std.specs.Option.{option_or, option_map, option_to_list}
use Rattle.std.specs.Ordering.{nat_cmp, ordering_index}
use Rattle.std.specs.declared.cmp.Ordering.TheVariants.{Less, Equal, Greater}
use Rattle.std.specs.List.{AllByRecursion, list_any}
use Rattle.std.specs.List.Sorted.{IsNonDecreasingBy, IsPartitionPoint}
use Rattle.std.proofs.lemmas.Bool.Decides.{nat_tests}
use Rattle.std.proofs.lemmas.List.{append-nil}
use Rattle.std.proofs.lemmas.List.Elements.{filter-append}
use Rattle.jg_table_locals.specs.declared.row.LocalSlot.{LocalSlot}
use Rattle.jg_table_locals.specs.declared.row.Frame.{Frame}
use Rattle.jg_table_locals.specs.Seen.{ended, last, Chain, is_live, is_in, is_below, is_before, stays, IsBelowAll, passes, Sound}
use Rattle.jg_table_locals.proofs.Chains.{each-map, each-front, each-filter, chain-front, chain-filter, chain-last, last-push, last-nil, filter-all, filter-none, filter-alike}

some_or : {X : Type 0} (a : Option X) (x y : X) → option_or a (Some y) ≡ option_or (option_or a (Some y)) (Some x)
some_or None x y = refl
some_or (Some z) x y = refl

at-last : {X : Type 0} (x : X) (xs : List X) → slice_get (x ∷ xs) (length xs) ≡ last (x ∷ xs)
at-last x [] = refl
at-last x (y ∷ ys) = at-last y ys ∙ some_or (last ys) x y

pub get-last : {X : Type 0} (xs : List X) → slice_get xs (length xs - 1) ≡ last xs
get-last [] = refl
get-last (x ∷ xs) =
    let one : suc (length xs) - 1 ≡ length xs = omega arith in
    ap (slice_get (x ∷ xs)) one ∙ at-last x xs

pub each-at : {X : Type 0} (P : X → Type 0) (xs : List X) (i : ℕ) (d : X) → AllByRecursion P xs → i < length xs → P (get_or xs i d)
each-at P [] i d all within = absurd (omega (arith, within))
each-at P (x ∷ xs) zero d all within = all.0
each-at P (x ∷ xs) (suc i) d all within = each-at P xs i d all.1 (omega (arith, within))

pub each-from : {X : Type 0} (P : X → Type 0) (xs : List X) → ((i : ℕ) (d : X) → i < length xs → P (get_or xs i d)) → AllByRecursion P xs
each-from P [] at = tt
each-from P (x ∷ xs) at = (at 0 x (omega arith), each-from P xs (λ i d within. at (suc i) d (omega (arith, within))))

pub chain-at : {X : Type 0} (r : X → X → Bool) (xs : List X) (i j : ℕ) (d : X) → Chain r xs → i < j → j < length xs → r (get_or xs i d) (get_or xs j d) ≡ true
chain-at r [] i j d chain lt within = absurd (omega (arith, within))
chain-at r (x ∷ xs) i zero d chain lt within = absurd (omega (arith, lt))
chain-at r (x ∷ xs) zero (suc j) d chain lt within = each-at (λ y. r x y ≡ true) xs j d chain.0 (omega (arith, within))
chain-at r (x ∷ xs) (suc i) (suc j) d chain lt within = chain-at r xs i j d chain.1 (omega (arith, lt)) (omega (arith, within))

-- ---- found by number

compared : (n a b : ℕ) → a ≤ b → ordering_index (nat_cmp a n) ≤ ordering_index (nat_cmp b n)
compared n a b le = grind (arith, nat_tests)

number_later : (s t : LocalSlot) → is_before s t ≡ true → s.n < t.n
number_later s t is = grind (arith, nat_tests)

rising_by : (slots : List LocalSlot) (n i j : ℕ) (d : LocalSlot) → Chain is_before slots → (i < j) ⊎ (i ≡ j) → j < length slots
    → ordering_index (nat_cmp (get_or slots i d).n n) ≤ ordering_index (nat_cmp (get_or slots j d).n n)
rising_by slots n i j d chain (inl lt) within = compared n (get_or slots i d).n (get_or slots j d).n
    (omega (arith, number_later (get_or slots i d) (get_or slots j d) (chain-at is_before slots i j d chain lt within)))
rising_by slots n i j d chain (inr same) within =
    compared n (get_or slots i d).n (get_or slots j d).n (let k = ap (λ m. (get_or slots m d).n) same in omega (arith, k))

pub less_or_same : (i j : ℕ) → i ≤ j → (i < j) ⊎ (i ≡ j)
less_or_same zero zero le = inr refl
less_or_same zero (suc j) le = inl (omega arith)
less_or_same (suc i) zero le = absurd (omega (arith, le))
less_or_same (suc i) (suc j) le = later (less_or_same i j (omega (arith, le)))
  where
    later : (i < j) ⊎ (i ≡ j) → (suc i < suc j) ⊎ (suc i ≡ suc j)
    later (inl lt) = inl (omega (arith, lt))
    later (inr same) = inr (ap suc same)

rising : (slots : List LocalSlot) (n : ℕ) → Chain is_before slots → IsNonDecreasingBy (λ s. ordering_index (nat_cmp s.n n)) slots
rising slots n chain = λ i j d le within. rising_by slots n i j d chain (less_or_same i j le) within

less_is : (a n : ℕ) → nat_cmp a n ≡ Less → (a == n) ≡ false
less_is a n is = grind (arith, nat_tests)

greater_is : (a n : ℕ) → nat_cmp a n ≡ Greater → (a == n) ≡ false
greater_is a n is = grind (arith, nat_tests)

pub equal_is : (a n : ℕ) → nat_cmp a n ≡ Equal → a ≡ n
equal_is a n is = grind (arith, nat_tests)

pub low_or_high : (i k : ℕ) → (i < k) ⊎ (k ≤ i)
low_or_high i zero = inr (omega arith)
low_or_high zero (suc k) = inl (omega arith)
low_or_high (suc i) (suc k) = later (low_or_high i k)
  where
    later : (i < k) ⊎ (k ≤ i) → (suc i < suc k) ⊎ (suc k ≤ suc i)
    later (inl lt) = inl (omega (arith, lt))
    later (inr le) = inr (omega (arith, le))

parted : (slots : List LocalSlot) (n k i : ℕ) (d : LocalSlot) → IsPartitionPoint (λ s. nat_cmp s.n n ≡ Less) (λ s. nat_cmp s.n n ≡ Greater) slots k
    → i < length slots → (i < k) ⊎ (k ≤ i)
    → ((get_or slots i d).n == n) ≡ false
parted slots n k i d point within (inl low) = less_is (get_or slots i d).n n (point.0 i d (omega arith) low)
parted slots n k i d point within (inr high) = greater_is (get_or slots i d).n n (point.1 i d high within)

-- a search that finds no place says that no slot has the number
pub no_place : (slots : List LocalSlot) (n k : ℕ) → Chain is_before slots
    → (IsNonDecreasingBy (λ s. ordering_index (nat_cmp s.n n)) slots → IsPartitionPoint (λ s. nat_cmp s.n n ≡ Less) (λ s. nat_cmp s.n n ≡ Greater) slots k)
    → AllByRecursion (λ s. (s.n == n) ≡ false) slots
no_place slots n k chain point =
    each-from (λ s. (s.n == n) ≡ false) slots (λ i d within. parted slots n k i d (point (rising slots n chain)) within (low_or_high i k))

find-none : {X : Type 0} (p : X → Bool) (xs : List X) → AllByRecursion (λ x. p x ≡ false) xs → find p xs ≡ None
find-none p [] all = refl
find-none p (x ∷ xs) all = rw (all.0, find-none p xs all.1) refl

pub no_object : (slots : List LocalSlot) (n : ℕ) → AllByRecursion (λ s. (s.n == n) ≡ false) slots
    → option_map (λ s. s.object) (find (λ s. s.n == n) (filter is_live slots)) ≡ None
no_object slots n all = ap (option_map (λ s. s.object))
    (find-none (λ s. s.n == n) (filter is_live slots) (each-filter (λ s. (s.n == n) ≡ false) is_live slots all))

later_apart : (x : LocalSlot) (n : ℕ) (xs : List LocalSlot) → x.n ≡ n → AllByRecursion (λ y. is_before x y ≡ true) xs
    → AllByRecursion (λ y. (y.n == n) ≡ false) xs
later_apart x n xs is all =
    each-map (λ y. is_before x y ≡ true) (λ y. (y.n == n) ≡ false) (λ y h. let lt = number_later x y h in grind (arith, nat_tests, lt)) xs all

slot_at : (x : LocalSlot) (n : ℕ) (rest : List LocalSlot) (b : Bool) → (x.n == n) ≡ true → find (λ s. s.n == n) rest ≡ None
    → find (λ s. s.n == n) (if b then x ∷ rest else rest) ≡ (if b then Some x else None)
slot_at x n rest true is none = rw is refl
slot_at x n rest false is none = none

slot_past : (x : LocalSlot) (n : ℕ) (rest : List LocalSlot) (b : Bool) → (x.n == n) ≡ false
    → find (λ s. s.n == n) (if b then x ∷ rest else rest) ≡ find (λ s. s.n == n) rest
slot_past x n rest true is = rw is refl
slot_past x n rest false is = refl

before_it : (x : LocalSlot) (n : ℕ) (xs : List LocalSlot) (i : ℕ) (d : LocalSlot) → AllByRecursion (λ y. is_before x y ≡ true) xs → i < length xs
    → (get_or xs i d).n ≡ n → (x.n == n) ≡ false
before_it x n xs i d all within is =
    let lt = number_later x (get_or xs i d) (each-at (λ y. is_before x y ≡ true) xs i d all within) in
    grind (arith, nat_tests, lt, is)

-- the number's place tells the local, if it is live
pub slot_there : (slots : List LocalSlot) (n i : ℕ) (d : LocalSlot) → Chain is_before slots → i < length slots → (get_or slots i d).n ≡ n
    → find (λ s. s.n == n) (filter is_live slots) ≡ (if (get_or slots i d).live then Some (get_or slots i d) else None)
slot_there [] n i d chain within is = absurd (omega (arith, within))
slot_there (x ∷ xs) n zero d chain within is =
    let none = find-none (λ s. s.n == n) (filter is_live xs) (each-filter (λ s. (s.n == n) ≡ false) is_live xs (later_apart x n xs is chain.0)) in
    slot_at x n (filter is_live xs) x.live (grind (arith, nat_tests, is)) none
slot_there (x ∷ xs) n (suc i) d chain within is =
    let later = slot_there xs n i d chain.1 (omega (arith, within)) is in
    let apart = before_it x n xs i d chain.0 (omega (arith, within)) is in
    slot_past x n (filter is_live xs) x.live apart ∙ later

-- and its object
pub object_there : (slots : List LocalSlot) (n i : ℕ) (d : LocalSlot) → Chain is_before slots → i < length slots → (get_or slots i d).n ≡ n
    → option_map (λ s. s.object) (find (λ s. s.n == n) (filter is_live slots)) ≡ (if (get_or slots i d).live then Some (get_or slots i d).object else None)
object_there slots n i d chain within is = ap (option_map (λ s. s.object)) (slot_there slots n i d chain within is)
    ∙ at (get_or slots i d) (get_or slots i d).live
  where
    at : (s : LocalSlot) (b : Bool) → option_map (λ s. s.object) (if b then Some s else None) ≡ (if b then Some s.object else None)
    at s true = refl
    at s false = refl

pub no_slot : (slots : List LocalSlot) (n : ℕ) → AllByRecursion (λ s. (s.n == n) ≡ false) slots → find (λ s. s.n == n) (filter is_live slots) ≡ None
no_slot slots n all = find-none (λ s. s.n == n) (filter is_live slots) (each-filter (λ s. (s.n == n) ≡ false) is_live slots all)

one_of_number : (n : ℕ) (slots : List LocalSlot) → Chain is_before slots → filter (λ s. s.n == n) slots ≡ option_to_list (find (λ s. s.n == n) slots)
one_of_number n [] chain = refl
one_of_number n (x ∷ xs) chain = at x n xs (x.n == n) refl chain.0 (one_of_number n xs chain.1)
  where
    at : (x : LocalSlot) (n : ℕ) (xs : List LocalSlot) (b : Bool) → (x.n == n) ≡ b → AllByRecursion (λ y. is_before x y ≡ true) xs → filter (λ s. s.n == n) xs
        ≡ option_to_list (find (λ s. s.n == n) xs)
        → (if b then x ∷ filter (λ s. s.n == n) xs else filter (λ s. s.n == n) xs) ≡ option_to_list (if b then Some x else find (λ s. s.n == n) xs)
    at x n xs true is all later =
        let same : x.n ≡ n = grind (arith, nat_tests, is) in
        ap (λ l. x ∷ l) (filter-none (λ s. s.n == n) xs (later_apart x n xs same all))
    at x n xs false is all later = later

-- no two live locals have the number
pub one_live : (n : ℕ) (slots : List LocalSlot) → Chain is_before slots
    → filter (λ s. s.n == n) (filter is_live slots) ≡ option_to_list (find (λ s. s.n == n) (filter is_live slots))
one_live n slots chain = one_of_number n (filter is_live slots) (chain-filter is_before is_live slots chain)

-- ---- marked dead

marked_at : (x : LocalSlot) (n : ℕ) (rest : List LocalSlot) (b : Bool) → (x.n == n) ≡ true → filter (λ s. not (s.n == n)) rest ≡ rest
    → rest ≡ filter (λ s. not (s.n == n)) (if b then x ∷ rest else rest)
marked_at x n rest true is same = rw is (sym same)
marked_at x n rest false is same = sym same

marked_past : (x : LocalSlot) (n : ℕ) (rest old : List LocalSlot) (b : Bool) → (x.n == n) ≡ false → rest ≡ filter (λ s. not (s.n == n)) old
    → (if b then x ∷ rest else rest) ≡ filter (λ s. not (s.n == n)) (if b then x ∷ old else old)
marked_past x n rest old true is same = rw is (ap (λ l. x ∷ l) same)
marked_past x n rest old false is same = same

pub marked : (slots : List LocalSlot) (n i : ℕ) (d : LocalSlot) → Chain is_before slots → i < length slots → (get_or slots i d).n ≡ n
    → filter is_live (slice_set slots i (ended (get_or slots i d))) ≡ filter (λ s. not (s.n == n)) (filter is_live slots)
marked [] n i d chain within is = absurd (omega (arith, within))
marked (x ∷ xs) n zero d chain within is =
    let apart = each-filter (λ s. (s.n == n) ≡ false) is_live xs (later_apart x n xs is chain.0) in
    let same = filter-all (λ s. not (s.n == n)) (filter is_live xs)
    (each-map (λ s. (s.n == n) ≡ false) (λ s. not (s.n == n) ≡ true) (λ s h. ap not h) (filter is_live xs) apart) in
    marked_at x n (filter is_live xs) x.live (grind (arith, nat_tests, is)) same
marked (x ∷ xs) n (suc i) d chain within is =
    let later = marked xs n i d chain.1 (omega (arith, within)) is in
    let apart = before_it x n xs i d chain.0 (omega (arith, within)) is in
    marked_past x n (filter is_live (slice_set xs i (ended (get_or xs i d)))) (filter is_live xs) x.live apart later

pub unmarked : (slots : List LocalSlot) (n : ℕ) → AllByRecursion (λ s. (s.n == n) ≡ false) slots
    → filter is_live slots ≡ filter (λ s. not (s.n == n)) (filter is_live slots)
unmarked slots n all =
    let apart = each-filter (λ s. (s.n == n) ≡ false) is_live slots all in
    sym (filter-all (λ s. not (s.n == n)) (filter is_live slots)
    (each-map (λ s. (s.n == n) ≡ false) (λ s. not (s.n == n) ≡ true) (λ s h. ap not h) (filter is_live slots) apart))

each-ended : (P : LocalSlot → Type 0) → ((s : LocalSlot) → P s → P (ended s)) → (xs : List LocalSlot) (i : ℕ) (d : LocalSlot) → AllByRecursion P xs
    → AllByRecursion P (slice_set xs i (ended (get_or xs i d)))
each-ended P f [] i d all = tt
each-ended P f (x ∷ xs) zero d all = (f x all.0, all.1)
each-ended P f (x ∷ xs) (suc i) d all = (all.0, each-ended P f xs i d all.1)

pub chain-ended : (xs : List LocalSlot) (i : ℕ) (d : LocalSlot) → Chain is_before xs → Chain is_before (slice_set xs i (ended (get_or xs i d)))
chain-ended [] i d chain = tt
chain-ended (x ∷ xs) zero d chain = (chain.0, chain.1)
chain-ended (x ∷ xs) (suc i) d chain = (each-ended (λ y. is_before x y ≡ true) (λ s h. h) xs i d chain.0, chain-ended xs i d chain.1)

sound-ended : (slots : List LocalSlot) (frames : List Frame) (i : ℕ) (d : LocalSlot) → Sound slots frames
    → Sound (slice_set slots i (ended (get_or slots i d))) frames
sound-ended slots frames i d sound = record {
  rises = chain-ended slots i d sound.rises;
  inside = each-ended (λ s. list_any (is_in s) frames ≡ true) (λ s h. h) slots i d sound.inside;
}

-- ---- cut at the end

some_left : (p : LocalSlot → Bool) (slots : List LocalSlot) → passes p (last slots) ≡ false → 0 < length slots
some_left p [] fails = cc
some_left p (x ∷ xs) fails = omega arith

pub cut_one : (p : LocalSlot → Bool) (now old : List LocalSlot) (gone : Option LocalSlot) → old ≡ now ++ option_to_list gone → passes p (last old) ≡ false
    → filter p now ≡ filter p old
cut_one p now old None is fails = ap (filter p) (sym (is ∙ append-nil now))
cut_one p now old (Some x) is fails =
    let Q : List LocalSlot → Type 0 = λ l. passes p (last l) ≡ false in
    let there = subst Q is fails in
    let at : passes p (Some x) ≡ false = ap (passes p) (sym (last-push now x)) ∙ there in
    let same : filter p (now ++ x ∷ []) ≡ filter p now = rw (filter-append, at) (append-nil _) in
    sym (ap (filter p) is ∙ same)

pub sound_front : (now old : List LocalSlot) (gone : Option LocalSlot) (frames : List Frame) → old ≡ now ++ option_to_list gone → Sound old frames
    → Sound now frames
sound_front now old gone frames is sound =
    let S : List LocalSlot → Type 0 = λ l. Sound l frames in
    let there = subst S is sound in
    record {
      rises = chain-front is_before now (option_to_list gone) there.rises;
      inside =
          each-front (λ s. list_any (is_in s) frames ≡ true) now (option_to_list gone) there.inside;
    }

pub rises_front : (now old : List LocalSlot) (gone : Option LocalSlot) → old ≡ now ++ option_to_list gone → Chain is_before old → Chain is_before now
rises_front now old gone is chain = let S : List LocalSlot
    → Type 0 = λ l. Chain is_before l in chain-front is_before now (option_to_list gone) (subst S is chain)

below_earlier : (s t : LocalSlot) (f : Frame) → is_below t f ≡ true → is_before s t ≡ true → is_below s f ≡ true
below_earlier s t f is h = grind (arith, nat_tests)

below_by : (f : Frame) (slots : List LocalSlot) (end : Option LocalSlot) → Chain is_before slots → last slots ≡ end → passes (stays (Some f)) end ≡ true
    → AllByRecursion (λ s. is_below s f ≡ true) slots
below_by f slots None chain is ends = rw (last-nil slots is) tt
below_by f slots (Some t) chain is ends =
    let here : is_below t f ≡ true = grind (arith, nat_tests) in
    chain-last is_before (λ s. is_below s f ≡ true) slots t chain is here (λ s h. below_earlier s t f here h)

-- where the newest is below a frame, all are
pub below_all : (from : Option Frame) (slots : List LocalSlot) → Chain is_before slots → passes (stays from) (last slots) ≡ true → IsBelowAll from slots
below_all None slots chain ends = tt
below_all (Some f) slots chain ends = below_by f slots (last slots) chain refl ends

ends_live : (from : Option Frame) (end : Option LocalSlot) → passes (stays from) end ≡ true → passes is_live end ≡ true
ends_live None end is = passes_same end is
  where
    passes_same : (e : Option LocalSlot) → passes (stays None) e ≡ true → passes is_live e ≡ true
    passes_same None h = refl
    passes_same (Some s) h = h
ends_live (Some f) None is = refl
ends_live (Some f) (Some s) is = grind (arith, nat_tests)

live_below : (s : LocalSlot) (f : Frame) → is_below s f ≡ true → is_live s ≡ stays (Some f) s
live_below s f is = grind (arith, nat_tests)

pub live_left : (from : Option Frame) (slots : List LocalSlot) → IsBelowAll from slots → filter is_live slots ≡ filter (stays from) slots
live_left None slots all = filter-alike is_live (stays None) slots (alike slots)
  where
    alike : (xs : List LocalSlot) → AllByRecursion (λ s. is_live s ≡ stays None s) xs
    alike [] = tt
    alike (x ∷ xs) = (refl, alike xs)
live_left (Some f) slots all =
    filter-alike is_live (stays (Some f)) slots (each-map (λ s. is_below s f ≡ true) (λ s. is_live s ≡ stays (Some f) s) (λ s h. live_below s f h) slots all)

-- ---- tests over what is live

pub any_live : (p : LocalSlot → Bool) (slots : List LocalSlot) → list_any (λ s. s.live && p s) slots ≡ list_any p (filter is_live slots)
any_live p [] = refl
any_live p (x ∷ xs) = at p x xs x.live (any_live p xs)
  where
    at : (p : LocalSlot → Bool) (x : LocalSlot) (xs : List LocalSlot) (b : Bool) → list_any (λ s. s.live && p s) xs ≡ list_any p (filter is_live xs)
        → ((b && p x) || list_any (λ s. s.live && p s) xs) ≡ list_any p (if b then x ∷ filter is_live xs else filter is_live xs)
    at p x xs true later = ap (λ b. p x || b) later
    at p x xs false later = later

-- ---- the same, as the code comes upon it: `l` is the list as the search saw it, and w what stands at the place

pub marked_there : (slots : List LocalSlot) (n i : ℕ) (w : LocalSlot) → w ≡ get_or slots i w → Chain is_before slots
    → (i < length slots) × ((s : LocalSlot) → (get_or slots i s).n ≡ n)
    → filter is_live (slice_set slots i (ended w)) ≡ filter (λ s. not (s.n == n)) (filter is_live slots)
marked_there slots n i w at chain here =
    let P : LocalSlot → Type 0 = λ x. filter is_live (slice_set slots i (ended x)) ≡ filter (λ s. not (s.n == n)) (filter is_live slots) in
    subst P (sym at) (marked slots n i w chain here.0 (here.1 w))

pub sound_there : (slots : List LocalSlot) (frames : List Frame) (i : ℕ) (w : LocalSlot) → w ≡ get_or slots i w → Sound slots frames
    → Sound (slice_set slots i (ended w)) frames
sound_there slots frames i w at sound =
    let P : LocalSlot → Type 0 = λ x. Sound (slice_set slots i (ended x)) frames in
    subst P (sym at) (sound-ended slots frames i w sound)

pub rises_there : (slots : List LocalSlot) (i : ℕ) (w : LocalSlot) → w ≡ get_or slots i w → Chain is_before slots
    → Chain is_before (slice_set slots i (ended w))
rises_there slots i w at chain =
    let P : LocalSlot → Type 0 = λ x. Chain is_before (slice_set slots i (ended x)) in
    subst P (sym at) (chain-ended slots i w chain)

pub slot_found : (slots : List LocalSlot) (n i : ℕ) (w : LocalSlot) → w ≡ get_or slots i w → Chain is_before slots
    → (i < length slots) × ((s : LocalSlot) → (get_or slots i s).n ≡ n)
    → (if w.live then Some w else None) ≡ find (λ s. s.n == n) (filter is_live slots)
slot_found slots n i w at chain here =
    let P : LocalSlot → Type 0 = λ x. (if x.live then Some x else None) ≡ find (λ s. s.n == n) (filter is_live slots) in
    subst P (sym at) (sym (slot_there slots n i w chain here.0 (here.1 w)))
