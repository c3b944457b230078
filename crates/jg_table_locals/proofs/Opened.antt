-- One thread's list of open frames, each with its count: what is found in it, changed in it and cut from it.
use Rattle.std.proofs.Common.{◌≡◌, ℕ, zero, suc, ◌<◌, ◌≤◌, length, get_or, Bool, true, false, List, [], ◌∷◌, ◌++◌, Option, Some, None, refl, ◌∙◌, ap, sym, subst, arith, inl, inr}
use Rattle.std.specs.Prelude.{◌⊎◌, not, if◌then◌else◌, filter, map, slice_set}
use Rattle.std.specs.Option.{option_map, option_to_list}
use Rattle.std.specs.Ordering.{ordering_index}
use Rattle.std.specs.declared.cmp.Ordering.TheVariants.{Less, Equal, Greater}
use Rattle.std.specs.List.{AllByRecursion, list_any}
use Rattle.std.specs.List.Sorted.{IsNonDecreasingBy, IsPartitionPoint}
use Rattle.std.proofs.lemmas.Bool.Decides.{nat_tests}
use Rattle.std.proofs.lemmas.List.{append-nil}
use Rattle.std.proofs.lemmas.List.Elements.{filter-append}
use Rattle.jg_table_locals.specs.declared.row.LocalSlot.{LocalSlot}
use Rattle.jg_table_locals.specs.declared.row.Frame.{Frame}
use Rattle.jg_table_locals.specs.declared.row.Opened.{Opened}
use Rattle.jg_table_locals.specs.Seen.{last, Chain, is_in, is_under, is_from, frame_of, is_frame, is_opened_under, frame_cmp, at_frame, with_room, room_set, Kept}
use Rattle.jg_table_locals.proofs.Chains.{each-map, chain-front, chain-last, last-push, last-nil, filter-all, last-map}
use Rattle.jg_table_locals.proofs.Numbers.{each-at, each-from, chain-at, less_or_same, low_or_high}

pub each_unmapped : {X Y : Type 0} (P : Y → Type 0) (g : X → Y) (xs : List X) → AllByRecursion P (map g xs) → AllByRecursion (λ x. P (g x)) xs
each_unmapped P g [] all = tt
each_unmapped P g (x ∷ xs) all = (all.0, each_unmapped P g xs all.1)

-- the frames ascend, with their counts or without
pub chain_opened : (os : List Opened) → Chain is_under (map frame_of os) → Chain is_opened_under os
chain_opened [] chain = tt
chain_opened (o ∷ os) chain = (each_unmapped (λ f. is_under o.frame f ≡ true) frame_of os chain.0, chain_opened os chain.1)

pub filter_frames : (p : Frame → Bool) (os : List Opened) → map frame_of (filter (λ o. p o.frame) os) ≡ filter p (map frame_of os)
filter_frames p [] = refl
filter_frames p (o ∷ os) = at p o os (p o.frame) (filter_frames p os)
  where
    at : (p : Frame → Bool) (o : Opened) (os : List Opened) (b : Bool) → map frame_of (filter (λ o. p o.frame) os) ≡ filter p (map frame_of os)
        → map frame_of (if b then o ∷ filter (λ o. p o.frame) os else filter (λ o. p o.frame) os)
        ≡ (if b then o.frame ∷ filter p (map frame_of os) else filter p (map frame_of os))
    at p o os true same = ap (λ l. o.frame ∷ l) same
    at p o os false same = same

-- ---- cut at the end

pub frames_cut_one : (g : Frame) (now old : List Opened) (gone : Option Opened) → old ≡ now ++ option_to_list gone
    → is_from g (option_map frame_of (last old)) ≡ true
    → filter (λ o. is_under o.frame g) now ≡ filter (λ o. is_under o.frame g) old
frames_cut_one g now old None is at = ap (filter (λ o. is_under o.frame g)) (sym (is ∙ append-nil now))
frames_cut_one g now old (Some x) is at =
    let Q : List Opened → Type 0 = λ l. is_from g (option_map frame_of (last l)) ≡ true in
    let there = subst Q is at in
    let here : not (is_under x.frame g) ≡ true = ap (λ o. is_from g (option_map frame_of o)) (sym (last-push now x)) ∙ there in
    let fails : is_under x.frame g ≡ false = grind (arith, nat_tests, here) in
    let same : filter (λ o. is_under o.frame g) (now ++ x ∷ []) ≡ filter (λ o. is_under o.frame g) now = rw (filter-append, fails) (append-nil _) in
    sym (ap (filter (λ o. is_under o.frame g)) is ∙ same)

pub opened_front : (now old : List Opened) (gone : Option Opened) → old ≡ now ++ option_to_list gone → Chain is_opened_under old → Chain is_opened_under now
opened_front now old gone is chain = let S : List Opened
    → Type 0 = λ l. Chain is_opened_under l in chain-front is_opened_under now (option_to_list gone) (subst S is chain)

under_earlier : (f g h : Frame) → is_under f g ≡ true → is_under g h ≡ true → is_under f h ≡ true
under_earlier f g h a b = grind (arith, nat_tests, a, b)

frames_left_by : (g : Frame) (os : List Opened) (end : Option Opened) → Chain is_opened_under os → last os ≡ end
    → is_from g (option_map frame_of end) ≡ false → AllByRecursion (λ o. is_under o.frame g ≡ true) os
frames_left_by g os None chain is at = rw (last-nil os is) tt
frames_left_by g os (Some h) chain is at =
    let here : is_under h.frame g ≡ true = grind (arith, nat_tests, at) in
    chain-last is_opened_under (λ o. is_under o.frame g ≡ true) os h chain is here (λ o a. under_earlier o.frame h.frame g a here)

-- where the newest frame is under the other, all are
pub frames_left : (g : Frame) (os : List Opened) → Chain is_opened_under os → is_from g (option_map frame_of (last os)) ≡ false
    → filter (λ o. is_under o.frame g) os ≡ os
frames_left g os chain at = filter-all (λ o. is_under o.frame g) os (frames_left_by g os (last os) chain refl at)

-- ---- found by depth and number

compared : (d k : ℕ) (f g : Frame) → is_under f g ≡ true → ordering_index (frame_cmp d k f) ≤ ordering_index (frame_cmp d k g)
compared d k f g is = grind (arith, nat_tests, is)

rising_by : (os : List Opened) (d k i j : ℕ) (w : Opened) → Chain is_opened_under os → (i < j) ⊎ (i ≡ j) → j < length os
    → ordering_index (frame_cmp d k (get_or os i w).frame) ≤ ordering_index (frame_cmp d k (get_or os j w).frame)
rising_by os d k i j w chain (inl lt) within = compared d k (get_or os i w).frame (get_or os j w).frame (chain-at is_opened_under os i j w chain lt within)
rising_by os d k i j w chain (inr same) within = let at = ap (λ m. ordering_index (frame_cmp d k (get_or os m w).frame)) same in omega (arith, at)

rising : (os : List Opened) (d k : ℕ) → Chain is_opened_under os → IsNonDecreasingBy (λ o. ordering_index (frame_cmp d k o.frame)) os
rising os d k chain = λ i j w le within. rising_by os d k i j w chain (less_or_same i j le) within

less_is : (d k : ℕ) (f : Frame) → frame_cmp d k f ≡ Less → is_frame d k f ≡ false
less_is d k f is = grind (arith, nat_tests)

greater_is : (d k : ℕ) (f : Frame) → frame_cmp d k f ≡ Greater → is_frame d k f ≡ false
greater_is d k f is = grind (arith, nat_tests)

pub equal_is : (d k : ℕ) (f : Frame) → frame_cmp d k f ≡ Equal → is_frame d k f ≡ true
equal_is d k f is = grind (arith, nat_tests)

parted : (os : List Opened) (d k place i : ℕ) (w : Opened)
    → IsPartitionPoint (λ o. frame_cmp d k o.frame ≡ Less) (λ o. frame_cmp d k o.frame ≡ Greater) os place
    → i < length os → (i < place) ⊎ (place ≤ i)
    → is_frame d k (get_or os i w).frame ≡ false
parted os d k place i w point within (inl low) = less_is d k (get_or os i w).frame (point.0 i w (omega arith) low)
parted os d k place i w point within (inr high) = greater_is d k (get_or os i w).frame (point.1 i w high within)

-- a search that finds no place says that no frame is the one
pub no_place : (os : List Opened) (d k place : ℕ) → Chain is_opened_under os
    → (IsNonDecreasingBy (λ o. ordering_index (frame_cmp d k o.frame)) os
    → IsPartitionPoint (λ o. frame_cmp d k o.frame ≡ Less) (λ o. frame_cmp d k o.frame ≡ Greater) os place)
    → AllByRecursion (λ o. is_frame d k o.frame ≡ false) os
no_place os d k place chain point =
    each-from (λ o. is_frame d k o.frame ≡ false) os (λ i w within. parted os d k place i w (point (rising os d k chain)) within (low_or_high i place))

-- ---- changed at one frame

none_changed : (g : Opened → Opened) (d k : ℕ) (os : List Opened) → AllByRecursion (λ o. is_frame d k o.frame ≡ false) os → os ≡ map (at_frame g d k) os
none_changed g d k [] all = refl
none_changed g d k (o ∷ os) all = rw all.0 (ap (λ l. o ∷ l) (none_changed g d k os all.1))

apart_above : (d k : ℕ) (o p : Opened) → is_frame d k o.frame ≡ true → is_opened_under o p ≡ true → is_frame d k p.frame ≡ false
apart_above d k o p is under = grind (arith, nat_tests, is, under)

apart_below : (d k : ℕ) (o p : Opened) → is_frame d k p.frame ≡ true → is_opened_under o p ≡ true → is_frame d k o.frame ≡ false
apart_below d k o p is under = grind (arith, nat_tests, is, under)

changed : (g : Opened → Opened) (d k : ℕ) (os : List Opened) (i : ℕ) (w : Opened) → Chain is_opened_under os → i < length os
    → is_frame d k (get_or os i w).frame ≡ true
    → slice_set os i (g (get_or os i w)) ≡ map (at_frame g d k) os
changed g d k [] i w chain within is = absurd (omega (arith, within))
changed g d k (o ∷ os) zero w chain within is =
    let rest = none_changed g d k os
    (each-map (λ p. is_opened_under o p ≡ true) (λ p. is_frame d k p.frame ≡ false) (λ p h. apart_above d k o p is h) os chain.0) in
    rw is (ap (λ l. g o ∷ l) rest)
changed g d k (o ∷ os) (suc i) w chain within is =
    let apart = apart_below d k o (get_or os i w) is (each-at (λ p. is_opened_under o p ≡ true) os i w chain.0 (omega (arith, within))) in
    rw apart (ap (λ l. o ∷ l) (changed g d k os i w chain.1 (omega (arith, within)) is))

-- the same, as the code comes upon it: `l` is the list as the search saw it, and w what stands at the place
pub changed_there : (g : Opened → Opened) (d k : ℕ) (l os : List Opened) (i : ℕ) (w : Opened) → l ≡ os → w ≡ get_or os i w → Chain is_opened_under os
    → (i < length l) × ((o : Opened) → is_frame d k (get_or l i o).frame ≡ true) → slice_set os i (g w) ≡ map (at_frame g d k) os
changed_there g d k l os i w is at chain place =
    let P : Opened → Type 0 = λ x. slice_set os i (g x) ≡ map (at_frame g d k) os in
    let Q : List Opened → Type 0 = λ m. (i < length m) × ((o : Opened) → is_frame d k (get_or m i o).frame ≡ true) in
    let here = subst Q is place in
    subst P (sym at) (changed g d k os i w chain here.0 (here.1 w))

pub unchanged_there : (g : Opened → Opened) (d k : ℕ) (l os : List Opened) → l ≡ os → AllByRecursion (λ o. is_frame d k o.frame ≡ false) l
    → os ≡ map (at_frame g d k) os
unchanged_there g d k l os is all =
    let Q : List Opened → Type 0 = λ m. AllByRecursion (λ o. is_frame d k o.frame ≡ false) m in
    none_changed g d k os (subst Q is all)

each_there : (P : Opened → Type 0) (os : List Opened) (i : ℕ) (w : Opened) → AllByRecursion P os → i < length os → w ≡ get_or os i w → P w
each_there P os i w all within at = subst P (sym at) (each-at P os i w all within)

-- ---- what a change leaves of the frames

-- a count changes no frame
pub recounted : (g : Opened → Opened) → ((o : Opened) → (g o).frame ≡ o.frame) → (d k : ℕ) (os : List Opened)
    → map frame_of (map (at_frame g d k) os) ≡ map frame_of os
recounted g same d k [] = refl
recounted g same d k (o ∷ os) = at g o os (is_frame d k o.frame) (same o) (recounted g same d k os)
  where
    at : (g : Opened → Opened) (o : Opened) (os : List Opened) (b : Bool) → (g o).frame ≡ o.frame → map frame_of (map (at_frame g d k) os) ≡ map frame_of os
        → frame_of (if b then g o else o) ∷ map frame_of (map (at_frame g d k) os) ≡ o.frame ∷ map frame_of os
    at g o os true same later = rw (same, later) refl
    at g o os false same later = ap (λ l. o.frame ∷ l) later

pub room_changed : (room d k : ℕ) (os : List Opened) → map frame_of (map (at_frame (with_room room) d k) os) ≡ map (room_set room d k) (map frame_of os)
room_changed room d k [] = refl
room_changed room d k (o ∷ os) = at o os (is_frame d k o.frame) (room_changed room d k os)
  where
    at : (o : Opened) (os : List Opened) (b : Bool) → map frame_of (map (at_frame (with_room room) d k) os) ≡ map (room_set room d k) (map frame_of os)
        → frame_of (if b then with_room room o else o) ∷ map frame_of (map (at_frame (with_room room) d k) os)
        ≡ (if b then record o.frame { room = room } else o.frame) ∷ map (room_set room d k) (map frame_of os)
    at o os true later = ap (λ l. record o.frame { room = room } ∷ l) later
    at o os false later = ap (λ l. o.frame ∷ l) later

same_place : (room d k : ℕ) (f : Frame) → ((room_set room d k f).depth ≡ f.depth) × ((room_set room d k f).frame ≡ f.frame)
same_place room d k f = at (is_frame d k f)
  where
    at : (b : Bool) → ((if b then record f { room = room } else f).depth ≡ f.depth) × ((if b then record f { room = room } else f).frame ≡ f.frame)
    at true = (refl, refl)
    at false = (refl, refl)

under_set : (room d k : ℕ) (f g : Frame) → is_under (room_set room d k f) (room_set room d k g) ≡ is_under f g
under_set room d k f g = rw ((same_place room d k f).0, (same_place room d k f).1, (same_place room d k g).0, (same_place room d k g).1) refl

in_set : (room d k : ℕ) (s : LocalSlot) (f : Frame) → is_in s (room_set room d k f) ≡ is_in s f
in_set room d k s f = rw ((same_place room d k f).0, (same_place room d k f).1) refl

each_set : (room d k : ℕ) (f : Frame) (fs : List Frame) → AllByRecursion (λ g. is_under f g ≡ true) fs
    → AllByRecursion (λ g. is_under (room_set room d k f) g ≡ true) (map (room_set room d k) fs)
each_set room d k f [] all = tt
each_set room d k f (g ∷ fs) all = (under_set room d k f g ∙ all.0, each_set room d k f fs all.1)

chain_set : (room d k : ℕ) (fs : List Frame) → Chain is_under fs → Chain is_under (map (room_set room d k) fs)
chain_set room d k [] chain = tt
chain_set room d k (f ∷ fs) chain = (each_set room d k f fs chain.0, chain_set room d k fs chain.1)

any_set : (room d k : ℕ) (s : LocalSlot) (fs : List Frame) → list_any (is_in s) (map (room_set room d k) fs) ≡ list_any (is_in s) fs
any_set room d k s [] = refl
any_set room d k s (f ∷ fs) = rw (in_set room d k s f, any_set room d k s fs) refl

-- a room changes nothing else
pub kept_set : (room d k : ℕ) (slots : List LocalSlot) (fs : List Frame) → Kept slots fs → Kept slots (map (room_set room d k) fs)
kept_set room d k slots fs kept = record {
  sound = record {
    rises = kept.sound.rises;
    inside = each-map (λ s. list_any (is_in s) fs ≡ true) (λ s. list_any (is_in s) (map (room_set room d k) fs) ≡ true) (λ s h. any_set room d k s fs ∙ h) slots
        kept.sound.inside;
  };
  opened = chain_set room d k fs kept.opened;
  ends = kept.ends;
}

-- the newest frame, without its count
pub last_frame : (os : List Opened) → option_map frame_of (last os) ≡ last (map frame_of os)
last_frame os = sym (last-map frame_of os)
