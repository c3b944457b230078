-- The rows tell how many locals each frame holds.
use Rattle.std.proofs.Common.{◌≡◌, ℕ, ◌+◌, Bool, true, false, List, [], ◌∷◌, Option, Some, None, refl, ◌∙◌, ap, sym, subst, arith, inl, inr, eqb, eqb-true}
use Rattle.std.specs.Prelude.{◌==◌, ◌&&◌, not, if◌then◌else◌, filter, IsSome}
use Rattle.std.specs.List.{AllByRecursion}
use Rattle.std.proofs.lemmas.Bool.Decides.{nat_tests}
use Rattle.jg_lists.specs.Acts.{how_many, once_if}
use Rattle.jg_lists.proofs.Lists.{Member, member_filter, member_filtered, each_member}
use Rattle.jg_table_locals.specs.History.{Act, Start, Make, Push, Ensure, Enter, Delete, Pop, Leave, End, Event, acts_of, has_session, Making, making, seen_after, Local, local_if_live, live_local}
use Rattle.jg_table_locals.specs.Room.{numbers, is_made_in, held}
use Rattle.jg_table_locals.specs.Rows.{LocalRow, FrameRow, Rows, is_local, is_of_frame}
use Rattle.jg_table_locals.specs.Standing.{AllAllowed, rows_of_local, Stands}
use Rattle.jg_table_locals.proofs.Chains.{each-map, each-filter, filter-twice}
use Rattle.jg_table_locals.proofs.LocalSteps.{none_live}

-- ---- counting by key

abbrev total : (ℕ → ℕ) → List ℕ → ℕ
total f [] = 0
total f (n ∷ ns) = f n + total f ns

total_alike : (f g : ℕ → ℕ) (ns : List ℕ) → AllByRecursion (λ n. f n ≡ g n) ns → total f ns ≡ total g ns
total_alike f g [] all = refl
total_alike f g (n ∷ ns) all = rw (all.0, total_alike f g ns all.1) refl

total_ones : (q : ℕ → Bool) (ns : List ℕ) → total (λ n. once_if (q n)) ns ≡ how_many q ns
total_ones q [] = refl
total_ones q (n ∷ ns) = at (q n) (total (λ n. once_if (q n)) ns) (how_many q ns) (total_ones q ns)
  where
    at : (b : Bool) (x y : ℕ) → x ≡ y → once_if b + x ≡ (if b then y + 1 else y)
    at true x y same = omega (arith, same)
    at false x y same = omega (arith, same)

pub count-filter : {X : Type 0} (p q : X → Bool) (xs : List X) → how_many (λ x. q x && p x) xs ≡ how_many p (filter q xs)
count-filter p q [] = refl
count-filter p q (x ∷ xs) = at p q x xs (q x) (count-filter p q xs)
  where
    at : {X : Type 0} (p q : X → Bool) (x : X) (xs : List X) (b : Bool) → how_many (λ x. q x && p x) xs ≡ how_many p (filter q xs)
        → (if (b && p x) then how_many (λ x. q x && p x) xs + 1 else how_many (λ x. q x && p x) xs) ≡ how_many p (if b then x ∷ filter q xs else filter q xs)
    at p q x xs true same = ap (λ n. if p x then n + 1 else n) same
    at p q x xs false same = same

pub count-parts : {X : Type 0} (p q : X → Bool) (xs : List X) → how_many p xs ≡ how_many p (filter q xs) + how_many p (filter (λ x. not (q x)) xs)
count-parts p q [] = refl
count-parts p q (x ∷ xs) = grind (arith, nat_tests, count-parts p q xs)

abbrev Distinct : List ℕ → Type 0
Distinct [] = Unit {0}
Distinct (n ∷ ns) = AllByRecursion (λ m. (m == n) ≡ false) ns × Distinct ns

left_member : (m n : ℕ) (ns : List ℕ) → Member n (m ∷ ns) → not (n == m) ≡ true → Member n ns
left_member m n ns (inl same) apart = absurd (differ n m same apart)
  where
    differ : (n m : ℕ) → n ≡ m → not (n == m) ≡ true → ⊥
    differ n m same apart = grind (arith, nat_tests, same, apart)
left_member m n ns (inr later) apart = later

each_left : (m : ℕ) (ns : List ℕ) (rows : List LocalRow) → AllByRecursion (λ row. Member row.n (m ∷ ns)) rows
    → AllByRecursion (λ row. Member row.n ns) (filter (λ row. not (row.n == m)) rows)
each_left m ns [] all = tt
each_left m ns (row ∷ rows) all = at m ns row rows (not (row.n == m)) refl all.0 (each_left m ns rows all.1)
  where
    at : (m : ℕ) (ns : List ℕ) (row : LocalRow) (rows : List LocalRow) (b : Bool) → not (row.n == m) ≡ b → Member row.n (m ∷ ns)
        → AllByRecursion (λ row. Member row.n ns) (filter (λ row. not (row.n == m)) rows)
        → AllByRecursion (λ row. Member row.n ns) (if b then row ∷ filter (λ row. not (row.n == m)) rows else filter (λ row. not (row.n == m)) rows)
    at m ns row rows true apart here later = (left_member m row.n ns here apart, later)
    at m ns row rows false apart here later = later

no_rows : (rows : List LocalRow) → AllByRecursion (λ row. Member row.n []) rows → rows ≡ []
no_rows [] all = refl
no_rows (row ∷ rows) all = absurd all.0

other_number : (m n : ℕ) (rows : List LocalRow) → (n == m) ≡ false
    → filter (λ row. row.n == n) (filter (λ row. not (row.n == m)) rows) ≡ filter (λ row. row.n == n) rows
other_number m n [] apart = refl
other_number m n (row ∷ rows) apart = grind (arith, nat_tests, other_number m n rows apart, apart)

-- rows whose numbers are among those are counted number by number
counted : (p : LocalRow → Bool) (ns : List ℕ) (rows : List LocalRow) → Distinct ns → AllByRecursion (λ row. Member row.n ns) rows
    → how_many p rows ≡ total (λ n. how_many p (filter (λ row. row.n == n) rows)) ns
counted p [] rows apart all = ap (how_many p) (no_rows rows all)
counted p (m ∷ ns) rows apart all =
    let rest = filter (λ (row : LocalRow). not (row.n == m)) rows in
    let later = counted p ns rest apart.1 (each_left m ns rows all) in
    let same = total_alike (λ n. how_many p (filter (λ row. row.n == n) rest)) (λ n. how_many p (filter (λ row. row.n == n) rows)) ns
    (each-map (λ n. (n == m) ≡ false)
    (λ n. how_many p (filter (λ row. row.n == n) rest) ≡ how_many p (filter (λ row. row.n == n) rows))
    (λ n h. ap (how_many p) (other_number m n rows h)) ns apart.0) in
    count-parts p (λ row. row.n == m) rows ∙ ap (λ k. how_many p (filter (λ row. row.n == m) rows) + k) (later ∙ same)

-- ---- the numbers of locals

distinct-filter : (p : ℕ → Bool) (ns : List ℕ) → Distinct ns → Distinct (filter p ns)
distinct-filter p [] apart = tt
distinct-filter p (n ∷ ns) apart = at p n ns (p n) apart.0 (distinct-filter p ns apart.1)
  where
    at : (p : ℕ → Bool) (n : ℕ) (ns : List ℕ) (b : Bool) → AllByRecursion (λ m. (m == n) ≡ false) ns → Distinct (filter p ns)
        → Distinct (if b then n ∷ filter p ns else filter p ns)
    at p n ns true all later = (each-filter (λ m. (m == n) ≡ false) p ns all, later)
    at p n ns false all later = later

left_apart : (n : ℕ) (ns : List ℕ) → AllByRecursion (λ m. (m == n) ≡ false) (filter (λ m. not (m == n)) ns)
left_apart n [] = tt
left_apart n (m ∷ ns) = at n m ns (m == n) refl (left_apart n ns)
  where
    at : (n m : ℕ) (ns : List ℕ) (b : Bool) → (m == n) ≡ b → AllByRecursion (λ m. (m == n) ≡ false) (filter (λ m. not (m == n)) ns)
        → AllByRecursion (λ m. (m == n) ≡ false) (if not b then m ∷ filter (λ m. not (m == n)) ns else filter (λ m. not (m == n)) ns)
    at n m ns true is later = later
    at n m ns false is later = (is, later)

numbers_apart : (acts : List Act) → Distinct (numbers acts)
numbers_apart [] = tt
numbers_apart (Make n o ∷ acts) = (
  left_apart n (numbers acts),
  distinct-filter (λ m. not (m == n)) (numbers acts) (numbers_apart acts),
)
numbers_apart (Start ∷ acts) = numbers_apart acts
numbers_apart (End ∷ acts) = numbers_apart acts
numbers_apart (Push room ∷ acts) = numbers_apart acts
numbers_apart (Ensure c ∷ acts) = numbers_apart acts
numbers_apart (Enter ∷ acts) = numbers_apart acts
numbers_apart (Delete n ∷ acts) = numbers_apart acts
numbers_apart (Pop ∷ acts) = numbers_apart acts
numbers_apart (Leave ∷ acts) = numbers_apart acts

some_before : (a : Act) (found : Option Making) → IsSome (seen_after a found) → IsSome found
some_before a None is = is
some_before a (Some m) is = refl

made_number : (n j o : ℕ) (acts : List Act) (same : Bool) → eqb j n ≡ same → (IsSome (making n acts) → Member n (numbers acts))
    → IsSome (if same then Some (record { later = []; object = o; before = acts }) else seen_after (Make j o) (making n acts))
    → Member n (j ∷ filter (λ m. not (m == j)) (numbers acts))
made_number n j o acts true is earlier some = inl (sym (eqb-true j n is))
made_number n j o acts false is earlier some =
    let apart : not (n == j) ≡ true = grind (arith, nat_tests, is) in
    inr (member_filter (λ m. not (m == j)) n (numbers acts) (earlier (some_before (Make j o) (making n acts) some)) apart)

-- a local that is found has one of the numbers
has_number : (n : ℕ) (acts : List Act) → IsSome (making n acts) → Member n (numbers acts)
has_number n [] some = absurd cc
has_number n (Make j o ∷ acts) some = made_number n j o acts (eqb j n) refl (has_number n acts) some
has_number n (Start ∷ acts) some = has_number n acts (some_before Start (making n acts) some)
has_number n (End ∷ acts) some = has_number n acts (some_before End (making n acts) some)
has_number n (Push room ∷ acts) some = has_number n acts (some_before (Push room) (making n acts) some)
has_number n (Ensure c ∷ acts) some = has_number n acts (some_before (Ensure c) (making n acts) some)
has_number n (Enter ∷ acts) some = has_number n acts (some_before Enter (making n acts) some)
has_number n (Delete m ∷ acts) some = has_number n acts (some_before (Delete m) (making n acts) some)
has_number n (Pop ∷ acts) some = has_number n acts (some_before Pop (making n acts) some)
has_number n (Leave ∷ acts) some = has_number n acts (some_before Leave (making n acts) some)

found_made : (t n : ℕ) (row : LocalRow) (found : Option Making) → Member row (rows_of_local t (local_if_live n found)) → IsSome found
found_made t n row None m = absurd m
found_made t n row (Some made) m = refl

own_row : (rows : Rows) (e : List Event) (t : ℕ) → Stands rows e → (row : LocalRow) → Member row (filter (λ row. row.tid == t) rows.locals)
    → Member row.n (numbers (acts_of t e))
own_row rows e t stands row m =
    let kept = member_filtered (λ (row : LocalRow). row.tid == t) row rows.locals m in
    let mine : (row.tid == t) ≡ true = kept.1 in
    let own : is_local t row.n row ≡ true = grind (arith, nat_tests, mine) in
    let P : List LocalRow → Type 0 = λ l. Member row l in
    let there = subst P (stands.locals t row.n) (member_filter (is_local t row.n) row rows.locals kept.0 own) in
    has_number row.n (acts_of t e) (found_made t row.n row (making row.n (acts_of t e)) there)

-- ---- what a frame holds

abbrev is_within : ℕ → ℕ → LocalRow → Bool
is_within d k row = row.depth == d && row.frame == k

one_local : (t d k : ℕ) (found : Option Local) → how_many (is_within d k) (rows_of_local t found) ≡ once_if (is_made_in d k found)
one_local t d k None = refl
one_local t d k (Some l) = at (l.depth == d && l.frame == k)
  where
    at : (b : Bool) → (if b then 0 + 1 else 0) ≡ once_if b
    at true = refl
    at false = refl

own_number : (t n : ℕ) (rows : List LocalRow) → filter (λ row. row.n == n) (filter (λ row. row.tid == t) rows) ≡ filter (is_local t n) rows
own_number t n rows = sym (filter-twice (is_local t n) (λ row. row.n == n) (λ row. row.tid == t) rows (each_same rows))
  where
    each_same : (rows : List LocalRow) → AllByRecursion (λ row. is_local t n row ≡ (row.tid == t && row.n == n)) rows
    each_same [] = tt
    each_same (row ∷ rows) = (refl, each_same rows)

-- the rows of the frame's locals are as many as it holds
pub held_told : (rows : Rows) (e : List Event) (f : FrameRow) → Stands rows e → how_many (is_of_frame f) rows.locals ≡ held f.depth f.frame (acts_of f.tid e)
held_told rows e f stands =
    let own = filter (λ (row : LocalRow). row.tid == f.tid) rows.locals in
    let ns = numbers (acts_of f.tid e) in
    let each = counted (is_within f.depth f.frame) ns own (numbers_apart (acts_of f.tid e))
    (each_member (λ row. Member row.n ns) own (own_row rows e f.tid stands)) in
    let same = total_alike (λ n. how_many (is_within f.depth f.frame) (filter (λ row. row.n == n) own))
    (λ n. once_if (is_made_in f.depth f.frame (live_local n (acts_of f.tid e)))) ns
    (each_member _ ns (λ n m. ap (how_many (is_within f.depth f.frame)) (own_number f.tid n rows.locals ∙ stands.locals f.tid n)
    ∙ one_local f.tid f.depth f.frame (live_local n (acts_of f.tid e)))) in
    count-filter (is_within f.depth f.frame) (λ row. row.tid == f.tid) rows.locals
    ∙ (each ∙ (same ∙ total_ones (λ n. is_made_in f.depth f.frame (live_local n (acts_of f.tid e))) ns))

none_held : (d k : ℕ) (acts : List Act) (ns : List ℕ) → AllAllowed acts → has_session acts ≡ false → how_many (λ n. is_made_in d k (live_local n acts)) ns ≡ 0
none_held d k acts [] h none = refl
none_held d k acts (n ∷ ns) h none = rw (none_live n acts h none) (none_held d k acts ns h none)

-- without a session no local is held
pub held_without_session : (d k : ℕ) (acts : List Act) → AllAllowed acts → has_session acts ≡ false → held d k acts ≡ 0
held_without_session d k acts h none = none_held d k acts (numbers acts) h none
