-- Each frame's count is that of the live locals made in it, whatever is done.
use Rattle.std.proofs.Common.{◌≡◌, ℕ, ◌+◌, ◌≤◌, length, Bool, true, false, List, [], ◌∷◌, ◌++◌, Some, refl, ◌∙◌, ap, sym, arith}
use Rattle.std.specs.Prelude.{◌==◌, ◌&&◌, not, if◌then◌else◌, filter, map}
use Rattle.std.specs.List.{AllByRecursion}
use Rattle.std.proofs.lemmas.Bool.Decides.{nat_tests}
use Rattle.jg_lists.specs.Acts.{how_many}
use Rattle.jg_lists.proofs.Lists.{length-filter-most, how_many-most}
use Rattle.jg_table_locals.specs.declared.row.LocalSlot.{LocalSlot}
use Rattle.jg_table_locals.specs.declared.row.Frame.{Frame}
use Rattle.jg_table_locals.specs.declared.row.Opened.{Opened}
use Rattle.jg_table_locals.specs.Seen.{is_in, is_live, is_below, is_under, is_frame, at_frame, one_more, one_less, with_room, stays, Counted}
use Rattle.jg_table_locals.proofs.Chains.{each-map, filter-twice}
use Rattle.jg_table_locals.proofs.Holding.{count-parts}

count-append : {X : Type 0} (p : X → Bool) (xs ys : List X) → how_many p (xs ++ ys) ≡ how_many p xs + how_many p ys
count-append p [] ys = omega arith
count-append p (x ∷ xs) ys = at (p x) (how_many p xs) (how_many p ys) (how_many p (xs ++ ys)) (count-append p xs ys)
  where
    at : (b : Bool) (a c e : ℕ) → e ≡ a + c → (if b then e + 1 else e) ≡ (if b then a + 1 else a) + c
    at true a c e same = omega (arith, same)
    at false a c e same = same

count-none : {X : Type 0} (p : X → Bool) (xs : List X) → AllByRecursion (λ x. p x ≡ false) xs → how_many p xs ≡ 0
count-none p [] all = refl
count-none p (x ∷ xs) all = rw (all.0, count-none p xs all.1) refl

-- ---- a local is made

made_at : (live : List LocalSlot) (o : Opened) (s : LocalSlot) (b : Bool) → is_frame s.depth s.frame o.frame ≡ b → o.held ≡ how_many (λ s. is_in s o.frame) live
    → (if b then one_more o else o).held ≡ how_many (λ s. is_in s (if b then one_more o else o).frame) (live ++ s ∷ [])
made_at live o s true is was =
    let here : is_in s o.frame ≡ true = grind (arith, nat_tests, is) in
    let parts = count-append (λ s. is_in s o.frame) live (s ∷ []) in
    let one : how_many (λ s. is_in s o.frame) (s ∷ []) ≡ 1 = rw here refl in
    omega (arith, parts, one, was)
made_at live o s false is was =
    let there : is_in s o.frame ≡ false = grind (arith, nat_tests, is) in
    let parts = count-append (λ s. is_in s o.frame) live (s ∷ []) in
    let none : how_many (λ s. is_in s o.frame) (s ∷ []) ≡ 0 = rw there refl in
    omega (arith, parts, none, was)

pub counted_made : (live : List LocalSlot) (os : List Opened) (s : LocalSlot) → Counted live os
    → Counted (live ++ s ∷ []) (map (at_frame one_more s.depth s.frame) os)
counted_made live [] s counted = tt
counted_made live (o ∷ os) s counted = (made_at live o s (is_frame s.depth s.frame o.frame) refl counted.0, counted_made live os s counted.1)

-- ---- a local is ended

ended_at : (live : List LocalSlot) (o : Opened) (s : LocalSlot) (n : ℕ) (b : Bool) → filter (λ s. s.n == n) live ≡ s ∷ [] → is_frame s.depth s.frame o.frame ≡ b
    → o.held
    ≡ how_many (λ s. is_in s o.frame) live
    → (if b then one_less o else o).held ≡ how_many (λ s. is_in s (if b then one_less o else o).frame) (filter (λ s. not (s.n == n)) live)
ended_at live o s n true only is was =
    let here : is_in s o.frame ≡ true = grind (arith, nat_tests, is) in
    let parts = count-parts (λ s. is_in s o.frame) (λ s. s.n == n) live in
    let one : how_many (λ s. is_in s o.frame) (filter (λ s. s.n == n) live) ≡ 1 = ap (how_many (λ s. is_in s o.frame)) only ∙ rw here refl in
    omega (arith, parts, one, was)
ended_at live o s n false only is was =
    let there : is_in s o.frame ≡ false = grind (arith, nat_tests, is) in
    let parts = count-parts (λ s. is_in s o.frame) (λ s. s.n == n) live in
    let none : how_many (λ s. is_in s o.frame) (filter (λ s. s.n == n) live) ≡ 0 = ap (how_many (λ s. is_in s o.frame)) only ∙ rw there refl in
    omega (arith, parts, none, was)

pub counted_ended : (live : List LocalSlot) (os : List Opened) (s : LocalSlot) (n : ℕ) → filter (λ s. s.n == n) live ≡ s ∷ [] → Counted live os
    → Counted (filter (λ s. not (s.n == n)) live) (map (at_frame one_less s.depth s.frame) os)
counted_ended live [] s n only counted = tt
counted_ended live (o ∷ os) s n only counted =
    (ended_at live o s n (is_frame s.depth s.frame o.frame) only refl counted.0, counted_ended live os s n only counted.1)

-- ---- frames are closed

count-kept : {X : Type 0} (p q : X → Bool) (xs : List X) → ((x : X) → p x ≡ true → q x ≡ true) → how_many p (filter q xs) ≡ how_many p xs
count-kept p q [] kept = refl
count-kept p q (x ∷ xs) kept = at p q x xs (p x) (q x) refl refl (kept x) (count-kept p q xs kept)
  where
    at : {X : Type 0} (p q : X → Bool) (x : X) (xs : List X) (b c : Bool) → p x ≡ b → q x ≡ c → (p x ≡ true → q x ≡ true)
        → how_many p (filter q xs) ≡ how_many p xs
        → how_many p (if c then x ∷ filter q xs else filter q xs) ≡ (if b then how_many p xs + 1 else how_many p xs)
    at p q x xs true true is kept_it implies same = rw (is, same) refl
    at p q x xs false true is kept_it implies same = rw (is, same) refl
    at p q x xs true false is gone implies same = let no : false ≡ true = sym gone ∙ implies is in cc
    at p q x xs false false is gone implies same = same

below_it : (s : LocalSlot) (f from : Frame) → is_under f from ≡ true → is_in s f ≡ true → is_below s from ≡ true
below_it s f from under is = grind (arith, nat_tests, under, is)

closed_at : (live : List LocalSlot) (from : Frame) (o : Opened) (os : List Opened) (b : Bool) → is_under o.frame from ≡ b
    → o.held ≡ how_many (λ s. is_in s o.frame) live
    → Counted (filter (λ s. is_below s from) live) (filter (λ o. is_under o.frame from) os)
    → Counted (filter (λ s. is_below s from) live) (if b then o ∷ filter (λ o. is_under o.frame from) os else filter (λ o. is_under o.frame from) os)
closed_at live from o os true is was later =
    (was ∙ sym (count-kept (λ s. is_in s o.frame) (λ s. is_below s from) live (λ s h. below_it s o.frame from is h)), later)
closed_at live from o os false is was later = later

pub counted_closed : (live : List LocalSlot) (from : Frame) (os : List Opened) → Counted live os
    → Counted (filter (λ s. is_below s from) live) (filter (λ o. is_under o.frame from) os)
counted_closed live from [] counted = tt
counted_closed live from (o ∷ os) counted = closed_at live from o os (is_under o.frame from) refl counted.0 (counted_closed live from os counted.1)

-- what stays below a frame is what is live and below it
pub stays_live : (from : Frame) (slots : List LocalSlot) → filter (stays (Some from)) slots ≡ filter (λ s. is_below s from) (filter is_live slots)
stays_live from slots = filter-twice (stays (Some from)) (λ s. is_below s from) is_live slots (each_same slots)
  where
    each_same : (slots : List LocalSlot) → AllByRecursion (λ s. stays (Some from) s ≡ (is_live s && is_below s from)) slots
    each_same [] = tt
    each_same (s ∷ slots) = (refl, each_same slots)

-- ---- a frame is opened

pub counted_opened : (live : List LocalSlot) (os : List Opened) (f : Frame) → AllByRecursion (λ s. is_in s f ≡ false) live → Counted live os
    → Counted live (os ++ record { frame = f; held = 0 } ∷ [])
counted_opened live [] f new counted = (sym (count-none (λ s. is_in s f) live new), tt)
counted_opened live (o ∷ os) f new counted = (counted.0, counted_opened live os f new counted.1)

-- ---- a room is set

room_at : (live : List LocalSlot) (room d k : ℕ) (o : Opened) (b : Bool) → o.held ≡ how_many (λ s. is_in s o.frame) live
    → (if b then with_room room o else o).held ≡ how_many (λ s. is_in s (if b then with_room room o else o).frame) live
room_at live room d k o true was = was
room_at live room d k o false was = was

pub counted_set : (live : List LocalSlot) (room d k : ℕ) (os : List Opened) → Counted live os → Counted live (map (at_frame (with_room room) d k) os)
counted_set live room d k [] counted = tt
counted_set live room d k (o ∷ os) counted = (room_at live room d k o (is_frame d k o.frame) counted.0, counted_set live room d k os counted.1)

-- ---- counts are small

pub counted_most : (slots : List LocalSlot) (os : List Opened) → Counted (filter is_live slots) os → AllByRecursion (λ o. o.held ≤ length slots) os
counted_most slots os counted =
    each-map (λ o. o.held ≡ how_many (λ s. is_in s o.frame) (filter is_live slots)) (λ o. o.held ≤ length slots)
    (λ o is. omega (arith, is, how_many-most (λ s. is_in s o.frame) (filter is_live slots), length-filter-most is_live slots)) os counted
