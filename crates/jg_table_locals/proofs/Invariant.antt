-- What a thread's stack keeps, whatever is done to it.
use Rattle.std.proofs.Common.{◌≡◌, ℕ, ◌<◌, Bool, true, false, List, [], ◌∷◌, ◌++◌, Option, Some, None, refl, ◌∙◌, ap, sym, subst, arith}
use Rattle.std.specs.Prelude.{◌==◌, ◌&&◌, ◌||◌, not, if◌then◌else◌, filter, All, IsTrue, nat_lt}
use Rattle.std.specs.List.{AllByRecursion, list_any}
use Rattle.std.proofs.lemmas.Bool.Decides.{nat_tests}
use Rattle.std.proofs.lemmas.List.Elements.{All-from_recursion, recursion_from_All}
use Rattle.std.proofs.lemmas.List.Folds.{list_any-append}
use Rattle.std.proofs.lemmas.Map.Views.{any-filter_same}
use Rattle.jg_words.proofs.Common.{list_any-front}
use Rattle.jg_table_locals.specs.declared.row.LocalSlot.{LocalSlot}
use Rattle.jg_table_locals.specs.declared.row.Frame.{Frame}
use Rattle.jg_table_locals.specs.Seen.{last, Chain, is_live, is_in, is_below, is_up_to, is_before, is_under, is_same_frame, stays, passes, Sound, Kept, slot_made, IsNext}
use Rattle.jg_table_locals.proofs.Chains.{each-map, each-both, each-push, each-end, each-filter, each-passed, chain-push, chain-filter, chain-last, last-push, last-nil, last-split, filter-all, filter-twice, filter-alike}

number_before : (s t : LocalSlot) (n : ℕ) → is_before s t ≡ true → t.n < n → s.n < n
number_before s t n is lt = grind (arith, nat_tests, is, lt)

pub filter_end : (xs : List LocalSlot) (t : LocalSlot) → is_live t ≡ true → filter is_live (xs ++ t ∷ []) ≡ filter is_live xs ++ t ∷ []
filter_end [] t live = rw live refl
filter_end (x ∷ xs) t live = ended x xs t x.live (filter_end xs t live)
  where
    ended : (x : LocalSlot) (xs : List LocalSlot) (t : LocalSlot) (b : Bool) → filter is_live (xs ++ t ∷ []) ≡ filter is_live xs ++ t ∷ []
        → (if b then x ∷ filter is_live (xs ++ t ∷ []) else filter is_live (xs ++ t ∷ [])) ≡ (if b then x ∷ filter is_live xs else filter is_live xs) ++ t ∷ []
    ended x xs t true same = ap (λ l. x ∷ l) same
    ended x xs t false same = same

numbers_by : (slots : List LocalSlot) (n : ℕ) (end : Option LocalSlot) → Chain is_before slots → last slots ≡ end → passes is_live end ≡ true
    → AllByRecursion (λ s. s.n < n) (filter is_live slots)
    → AllByRecursion (λ s. s.n < n) slots
numbers_by slots n None chain is live all = rw (last-nil slots is) tt
numbers_by slots n (Some t) chain is live all =
    let split = last-split slots t is in
    let parts : filter is_live (split.0 ++ t ∷ []) ≡ filter is_live split.0 ++ t ∷ [] = filter_end split.0 t live in
    let P : List LocalSlot → Type 0 = λ l. AllByRecursion (λ s. s.n < n) l in
    let here : t.n < n = each-end (λ s. s.n < n) (filter is_live split.0) t (subst P (ap (filter is_live) split.1 ∙ parts) all) in
    chain-last is_before (λ s. s.n < n) slots t chain is here (λ s h. number_before s t n h here)

-- a number above all live ones is above all
numbers_below : (slots : List LocalSlot) (n : ℕ) → Chain is_before slots → passes is_live (last slots) ≡ true → All (λ s. s.n < n) (filter is_live slots)
    → AllByRecursion (λ s. s.n < n) slots
numbers_below slots n chain live all = numbers_by slots n (last slots) chain refl live (recursion_from_All _ _ all)

given_at : (Q : Type 0) (p : Frame → Bool) (f : Frame) (fs : List Frame) (b : Bool) → p f ≡ b → (p f ≡ true → Q) → (list_any p fs ≡ true → Q)
    → (b || list_any p fs) ≡ true → Q
given_at Q p f fs true here now later any = now here
given_at Q p f fs false here now later any = later any

-- what holds where one of the frames is the slot's
pub any_gives : (Q : Type 0) (P : Frame → Type 0) (p : Frame → Bool) (frames : List Frame) → ((f : Frame) → P f → p f ≡ true → Q) → AllByRecursion P frames
    → list_any p frames ≡ true → Q
any_gives Q P p [] give all is = cc
any_gives Q P p (f ∷ fs) give all is = given_at Q p f fs (p f) refl (give f all.0) (any_gives Q P p fs give all.1) is

at_top : (f top : Frame) → (is_under top top || is_same_frame top top) ≡ true
at_top f top = grind (arith, nat_tests)

under_top : (f top : Frame) → is_under f top ≡ true → (is_under f top || is_same_frame f top) ≡ true
under_top f top is = grind (arith, nat_tests, is)

frames_up_to : (frames : List Frame) (top : Frame) → Chain is_under frames → last frames ≡ Some top
    → AllByRecursion (λ f. (is_under f top || is_same_frame f top) ≡ true) frames
frames_up_to frames top chain is =
    chain-last is_under (λ f. (is_under f top || is_same_frame f top) ≡ true) frames top chain is (at_top top top) (λ f h. under_top f top h)

in_frame : (s : LocalSlot) (f top : Frame) → (is_under f top || is_same_frame f top) ≡ true → is_in s f ≡ true → is_up_to s top ≡ true
in_frame s f top a b = grind (arith, nat_tests, a, b)

-- no slot is above the newest frame
slots_up_to : (slots : List LocalSlot) (frames : List Frame) (top : Frame) → Sound slots frames → Chain is_under frames → last frames ≡ Some top
    → AllByRecursion (λ s. is_up_to s top ≡ true) slots
slots_up_to slots frames top sound chain is =
    let all = frames_up_to frames top chain is in
    each-map (λ s. list_any (is_in s) frames ≡ true) (λ s. is_up_to s top ≡ true)
    (λ s any. any_gives (is_up_to s top ≡ true) (λ f. (is_under f top || is_same_frame f top) ≡ true) (is_in s) frames (λ f h at. in_frame s f top h at) all
    any) slots sound.inside

made_after : (s : LocalSlot) (n o : ℕ) (top : Frame) → s.n < n → is_up_to s top ≡ true → is_before s (slot_made n o top) ≡ true
made_after s n o top lt up = grind (arith, nat_tests, lt, up)

made_in : (n o : ℕ) (top : Frame) (frames : List Frame) → last frames ≡ Some top → list_any (is_in (slot_made n o top)) frames ≡ true
made_in n o top frames is =
    let split = last-split frames top is in
    let here : is_in (slot_made n o top) top ≡ true = grind (arith, nat_tests) in
    let any : list_any (is_in (slot_made n o top)) (split.0 ++ top ∷ []) ≡ true =
    rw (list_any-append, here) (or_true (list_any (is_in (slot_made n o top)) split.0)) in
    ap (list_any (is_in (slot_made n o top))) split.1 ∙ any
  where
    or_true : (b : Bool) → (b || true) ≡ true
    or_true true = refl
    or_true false = refl

pub make_kept : (slots : List LocalSlot) (frames : List Frame) (top : Frame) (n o : ℕ) → Kept slots frames → last frames ≡ Some top
    → All (λ s. s.n < n) (filter is_live slots)
    → Kept (slots ++ slot_made n o top ∷ []) frames
make_kept slots frames top n o kept is above =
    let numbers = numbers_below slots n kept.sound.rises kept.ends above in
    let up = slots_up_to slots frames top kept.sound kept.opened is in
    let all = each-both (λ s. s.n < n) (λ s. is_up_to s top ≡ true) (λ s. is_before s (slot_made n o top) ≡ true) (λ s a b. made_after s n o top a b) slots
    numbers up in
    record {
      sound = record {
        rises = chain-push is_before slots (slot_made n o top) kept.sound.rises all;
        inside = each-push (λ s. list_any (is_in s) frames ≡ true) slots (slot_made n o top) kept.sound.inside (made_in n o top frames is);
      };
      opened = kept.opened;
      ends = ap (passes is_live) (last-push slots (slot_made n o top));
    }

next_by : (frames : List Frame) (f : Frame) (end : Option Frame) → Chain is_under frames → last frames ≡ end → IsNext end f
    → AllByRecursion (λ g. is_under g f ≡ true) frames
next_by frames f None chain is next = rw (last-nil frames is) tt
next_by frames f (Some h) chain is next = chain-last is_under (λ g. is_under g f ≡ true) frames h chain is next (λ g a. earlier g h f a next)
  where
    earlier : (f g h : Frame) → is_under f g ≡ true → is_under g h ≡ true → is_under f h ≡ true
    earlier f g h a b = grind (arith, nat_tests, a, b)

-- a frame that may be opened is above all
pub next_frames : (frames : List Frame) (f : Frame) → Chain is_under frames → IsNext (last frames) f → AllByRecursion (λ g. is_under g f ≡ true) frames
next_frames frames f chain next = next_by frames f (last frames) chain refl next

pub open_kept : (slots : List LocalSlot) (frames : List Frame) (f : Frame) → Kept slots frames → IsNext (last frames) f → Kept slots (frames ++ f ∷ [])
open_kept slots frames f kept next = record {
  sound = record {
    rises = kept.sound.rises;
    inside = each-map (λ s. list_any (is_in s) frames ≡ true) (λ s. list_any (is_in s) (frames ++ f ∷ []) ≡ true)
        (λ s any. list_any-front (is_in s) frames (f ∷ []) any) slots kept.sound.inside;
  };
  opened = chain-push is_under frames f kept.opened (next_by frames f (last frames) kept.opened refl next);
  ends = kept.ends;
}

below_under : (s : LocalSlot) (f from : Frame) → is_below s from ≡ true → is_in s f ≡ true → is_under f from ≡ true
below_under s f from below is = grind (arith, nat_tests, below, is)

pub cut_kept : (slots : List LocalSlot) (frames : List Frame) (from : Frame) → Sound slots frames → Chain is_under frames
    → AllByRecursion (λ s. is_below s from ≡ true) slots
    → passes is_live (last slots) ≡ true → Kept slots (filter (λ f. is_under f from) frames)
cut_kept slots frames from sound chain below ends = record {
  sound = record {
    rises = sound.rises;
    inside = each-both (λ s. list_any (is_in s) frames ≡ true) (λ s. is_below s from ≡ true)
        (λ s. list_any (is_in s) (filter (λ f. is_under f from) frames) ≡ true)
        (λ s any low. any-filter_same (is_in s) (λ f. is_under f from) true (λ f is. below_under s f from low is) frames ∙ any) slots sound.inside below;
  };
  opened = chain-filter is_under (λ f. is_under f from) frames chain;
  ends = ends;
}

last_live : (xs : List LocalSlot) (end : Option LocalSlot) → last xs ≡ end → AllByRecursion (λ s. is_live s ≡ true) xs → passes is_live end ≡ true
last_live xs None is all = refl
last_live xs (Some t) is all =
    let split = last-split xs t is in
    let P : List LocalSlot → Type 0 = λ l. AllByRecursion (λ s. is_live s ≡ true) l in
    each-end (λ s. is_live s ≡ true) split.0 t (subst P split.1 all)

-- closed up, all are live
close_kept_ends : (slots : List LocalSlot) → passes is_live (last (filter is_live slots)) ≡ true
close_kept_ends slots = last_live (filter is_live slots) (last (filter is_live slots)) refl (each-passed (λ s. is_live s ≡ true) is_live slots (λ s h. h))

live_twice : (slots : List LocalSlot) → filter is_live (filter is_live slots) ≡ filter is_live slots
live_twice slots = filter-all is_live (filter is_live slots) (each-passed (λ s. is_live s ≡ true) is_live slots (λ s h. h))

-- ---- what a pop and a leave cut

popped_slot : (s : LocalSlot) (top : Frame) → is_up_to s top ≡ true → stays (Some top) s ≡ (is_live s && not (s.depth == top.depth && s.frame == top.frame))
popped_slot s top up = grind (arith, nat_tests, up)

pub popped_slots : (slots : List LocalSlot) (frames : List Frame) (top : Frame) → Sound slots frames → Chain is_under frames → last frames ≡ Some top
    → filter (stays (Some top)) slots ≡ filter (λ s. not (s.depth == top.depth && s.frame == top.frame)) (filter is_live slots)
popped_slots slots frames top sound chain is = filter-twice (stays (Some top)) (λ s. not (s.depth == top.depth && s.frame == top.frame)) is_live slots
    (each-map (λ s. is_up_to s top ≡ true) (λ s. stays (Some top) s ≡ (is_live s && not (s.depth == top.depth && s.frame == top.frame)))
    (λ s up. popped_slot s top up) slots
    (slots_up_to slots frames top sound chain is))

popped_frame : (f top : Frame) → (is_under f top || is_same_frame f top) ≡ true → is_under f top ≡ not (f.depth == top.depth && f.frame == top.frame)
popped_frame f top up = grind (arith, nat_tests, up)

pub popped_frames : (frames : List Frame) (top : Frame) → Chain is_under frames → last frames ≡ Some top
    → filter (λ f. is_under f top) frames ≡ filter (λ f. not (f.depth == top.depth && f.frame == top.frame)) frames
popped_frames frames top chain is = filter-alike (λ f. is_under f top) (λ f. not (f.depth == top.depth && f.frame == top.frame)) frames
    (each-map (λ f. (is_under f top || is_same_frame f top) ≡ true) (λ f. is_under f top ≡ not (f.depth == top.depth && f.frame == top.frame))
    (λ f up. popped_frame f top up) frames
    (frames_up_to frames top chain is))

abbrev pub base : Frame → Frame
base top = record { depth = top.depth; frame = 0; room = 0 }

left_slot : (s : LocalSlot) (top : Frame) → is_up_to s top ≡ true → stays (Some (base top)) s ≡ (is_live s && not (s.depth == top.depth))
left_slot s top up = grind (arith, nat_tests, up)

pub left_slots : (slots : List LocalSlot) (frames : List Frame) (top : Frame) → Sound slots frames → Chain is_under frames → last frames ≡ Some top
    → filter (stays (Some (base top))) slots ≡ filter (λ s. not (s.depth == top.depth)) (filter is_live slots)
left_slots slots frames top sound chain is = filter-twice (stays (Some (base top))) (λ s. not (s.depth == top.depth)) is_live slots
    (each-map (λ s. is_up_to s top ≡ true) (λ s. stays (Some (base top)) s ≡ (is_live s && not (s.depth == top.depth))) (λ s up. left_slot s top up) slots
    (slots_up_to slots frames top sound chain is))

left_frame : (f top : Frame) → (is_under f top || is_same_frame f top) ≡ true → is_under f (base top) ≡ not (f.depth == top.depth)
left_frame f top up = grind (arith, nat_tests, up)

pub left_frames : (frames : List Frame) (top : Frame) → Chain is_under frames → last frames ≡ Some top
    → filter (λ f. is_under f (base top)) frames ≡ filter (λ f. not (f.depth == top.depth)) frames
left_frames frames top chain is = filter-alike (λ f. is_under f (base top)) (λ f. not (f.depth == top.depth)) frames
    (each-map (λ f. (is_under f top || is_same_frame f top) ≡ true) (λ f. is_under f (base top) ≡ not (f.depth == top.depth)) (λ f up. left_frame f top up)
    frames (frames_up_to frames top chain is))

-- ---- what is above all

pub above_none : (slots : List LocalSlot) (n : ℕ) → last slots ≡ None → All (λ s. s.n < n) (filter is_live slots)
above_none slots n none =
    let empty : filter is_live slots ≡ [] = ap (filter is_live) (last-nil slots none) in
    let P : List LocalSlot → Type 0 = λ l. All (λ s. s.n < n) l in
    subst P (sym empty) (All-from_recursion (λ s. s.n < n) [] tt)

pub above_newest : (slots : List LocalSlot) (t : LocalSlot) (n : ℕ) → Chain is_before slots → last slots ≡ Some t → t.n < n
    → All (λ s. s.n < n) (filter is_live slots)
above_newest slots t n chain is lt = All-from_recursion (λ s. s.n < n) (filter is_live slots)
    (each-filter (λ s. s.n < n) is_live slots (chain-last is_before (λ s. s.n < n) slots t chain is lt (λ s h. number_before s t n h lt)))

pub newest_below : (slots : List LocalSlot) (t : LocalSlot) (n : ℕ) → Chain is_before slots → passes is_live (last slots) ≡ true → last slots ≡ Some t
    → All (λ s. s.n < n) (filter is_live slots)
    → t.n < n
newest_below slots t n chain live is all =
    let split = last-split slots t is in
    let P : List LocalSlot → Type 0 = λ l. AllByRecursion (λ s. s.n < n) l in
    each-end (λ s. s.n < n) split.0 t (subst P split.1 (numbers_below slots n chain live all))

pub true_less : (a b : ℕ) → IsTrue (nat_lt a b) → a < b
true_less a b is = grind (arith, nat_tests, is)

pub less_true : (a b : ℕ) → a < b → IsTrue (nat_lt a b)
less_true a b is = grind (arith, nat_tests, is)

-- ---- closed up

pub up_live : (new old : List LocalSlot) → new ≡ filter is_live old → filter is_live new ≡ filter is_live old
up_live new old is = ap (filter is_live) is ∙ live_twice old

pub up_sound : (new old : List LocalSlot) (frames : List Frame) → new ≡ filter is_live old → Sound old frames → Sound new frames
up_sound new old frames is sound = let P : List LocalSlot → Type 0 = λ l. Sound l frames in subst P (sym is) (record {
  rises = chain-filter is_before is_live old sound.rises;
  inside = each-filter (λ s. list_any (is_in s) frames ≡ true) is_live old sound.inside;
})

pub up_below : (new old : List LocalSlot) (frame : Frame) → new ≡ filter is_live old → AllByRecursion (λ s. is_below s frame ≡ true) old
    → AllByRecursion (λ s. is_below s frame ≡ true) new
up_below new old frame is all = let P : List LocalSlot → Type 0 = λ l. AllByRecursion (λ s. is_below s frame ≡ true) l
    in subst P (sym is) (each-filter (λ s. is_below s frame ≡ true) is_live old all)

pub up_ends : (new old : List LocalSlot) → new ≡ filter is_live old → passes is_live (last new) ≡ true
up_ends new old is = ap (λ l. passes is_live (last l)) is ∙ (close_kept_ends old)
