-- One thread's part of the rows, and what changes of one stack do to the rows.
use Rattle.std.proofs.Common.{◌≡◌, ◌≢◌, ℕ, ◌+◌, ◌<◌, Bool, true, false, List, [], ◌∷◌, ◌++◌, Option, Some, None, refl, ◌∙◌, ap, sym, subst, arith, eqb-true}
use Rattle.std.specs.Prelude.{◌==◌, ◌&&◌, ◌||◌, not, if◌then◌else◌, filter, find, map, All, IsNone, IsSome, IsTrue, ◌↔◌, ◌≤◌, IsOk, Result, nat_lt}
use Rattle.std.specs.Option.{option_map, is_some}
use Rattle.std.specs.declared.result.Result.TheVariants.{Ok, Err}
use Rattle.std.specs.List.{AllByRecursion, list_any}
use Rattle.std.specs.Map.{lookup, keys_of, values_of}
use Rattle.std.specs.BTreeMap.{is_at}
use Rattle.std.specs.Ordering.{nat_cmp, eq_by_cmp}
use Rattle.std.specs.Cmp.{nat_cmp_total, eq_by_cmp_equiv}
use Rattle.std.proofs.lemmas.Bool.{false≢true}
use Rattle.std.proofs.lemmas.Bool.Decides.{nat_tests}
use Rattle.std.proofs.lemmas.List.{append-nil}
use Rattle.std.proofs.lemmas.List.Elements.{filter-append, All-from_recursion, recursion_from_All}
use Rattle.std.proofs.lemmas.List.Folds.{list_any-append}
use Rattle.std.proofs.lemmas.Map.{lookup-none}
use Rattle.std.proofs.lemmas.Map.Entries.{none_past_head}
use Rattle.std.proofs.lemmas.Map.Keys.{IsDistinct-tail}
use Rattle.jg_table_locals.specs.declared.row.LocalSlot.{LocalSlot}
use Rattle.jg_table_locals.specs.declared.row.Frame.{Frame}
use Rattle.jg_table_locals.specs.History.{Event, by, acts_of, Start, Make, Push, Ensure, Enter, Delete, Pop, Leave, End}
use Rattle.jg_lists.specs.Acts.{how_many}
use Rattle.jg_lists.specs.ByThread.{IsOnce}
use Rattle.jg_table_locals.specs.Room.{promised, greater, room_here, held_here}
use Rattle.jg_table_locals.specs.Rows.{Rows, Table, Room, LocalRow, FrameRow, is_local, is_of_frame, is_past, top, room_of, room_or_none, spare, spare_starts, pushed, entered, frame_number, depth_number}
use Rattle.jg_table_locals.specs.Standing.{Stands}
use Rattle.jg_table_locals.specs.Seen.{last, StackRows, slots_in, frames_in, stack_at, local_row, frame_row, gather, locals_of, frames_of, rows_seen, rooms_seen, room_seen, room_in, Changes, slot_made, room_set, held_in, is_full, is_frame, IsNext, is_under}
use Rattle.jg_table_locals.proofs.Chains.{each-map, each-filter, filter-all, filter-none, filter-twice, filter-alike, last-map}
use Rattle.jg_lists.proofs.Acts.{each_thread, at_key}
use Rattle.jg_lists.proofs.Lists.{filter_swap, how_many-map}
use Rattle.jg_table_locals.proofs.FrameSteps.{is_not_frame, is_not_depth, raised}
use Rattle.jg_table_locals.proofs.Tops.{find-reverse}
use Rattle.jg_table_locals.proofs.Lookups.{fresh, past_law}
use Rattle.jg_table_locals.proofs.Holding.{count-filter}
use Rattle.jg_table_locals.proofs.StandingSteps.{own_alike, others_alike}
use Rattle.jg_table_locals.proofs.EventLaws.{start_law, make_law, push_law, ensure_law, room_made, enter_law, delete_law, pop_law, leave_law, end_law, is_not_in, is_not_at, other_raised, same_tid}
use Rattle.jg_table_locals.proofs.Opened.{each_unmapped}

each : {X : Type 0} (P : X → Type 0) → ((x : X) → P x) → (xs : List X) → AllByRecursion P xs
each P f [] = tt
each P f (x ∷ xs) = (f x, each P f xs)

filter-map : {X Y : Type 0} (p : Y → Bool) (g : X → Y) (xs : List X) → filter p (map g xs) ≡ map g (filter (λ x. p (g x)) xs)
filter-map p g [] = refl
filter-map p g (x ∷ xs) = at p g x xs (p (g x)) (filter-map p g xs)
  where
    at : {X Y : Type 0} (p : Y → Bool) (g : X → Y) (x : X) (xs : List X) (b : Bool) → filter p (map g xs) ≡ map g (filter (λ x. p (g x)) xs)
        → (if b then g x ∷ filter p (map g xs) else filter p (map g xs)) ≡ map g (if b then x ∷ filter (λ x. p (g x)) xs else filter (λ x. p (g x)) xs)
    at p g x xs true same = ap (λ l. g x ∷ l) same
    at p g x xs false same = same

find-map : {X Y : Type 0} (p : Y → Bool) (g : X → Y) (xs : List X) → find p (map g xs) ≡ option_map g (find (λ x. p (g x)) xs)
find-map p g [] = refl
find-map p g (x ∷ xs) = at p g x xs (p (g x)) (find-map p g xs)
  where
    at : {X Y : Type 0} (p : Y → Bool) (g : X → Y) (x : X) (xs : List X) (b : Bool) → find p (map g xs) ≡ option_map g (find (λ x. p (g x)) xs)
        → (if b then Some (g x) else find p (map g xs)) ≡ option_map g (if b then Some x else find (λ x. p (g x)) xs)
    at p g x xs true same = refl
    at p g x xs false same = same

find-both : {X : Type 0} (p q : X → Bool) (xs : List X) → find (λ x. q x && p x) xs ≡ find p (filter q xs)
find-both p q [] = refl
find-both p q (x ∷ xs) = at p q x xs (q x) (find-both p q xs)
  where
    at : {X : Type 0} (p q : X → Bool) (x : X) (xs : List X) (b : Bool) → find (λ x. q x && p x) xs ≡ find p (filter q xs)
        → (if (b && p x) then Some x else find (λ x. q x && p x) xs) ≡ find p (if b then x ∷ filter q xs else filter q xs)
    at p q x xs true same = ap (λ o. if p x then Some x else o) same
    at p q x xs false same = same

map-append : {X Y : Type 0} (g : X → Y) (xs ys : List X) → map g (xs ++ ys) ≡ map g xs ++ map g ys
map-append g [] ys = refl
map-append g (x ∷ xs) ys = ap (λ l. g x ∷ l) (map-append g xs ys)

-- ---- one thread's part

abbrev in_entry : {V X : Type 0} → (ℕ → V → List X) → ℕ → Option V → List X
in_entry f t None = []
in_entry f t (Some v) = f t v

own_at : {V X : Type 0} (f : ℕ → V → List X) (tid : X → ℕ) (own : (k : ℕ) (v : V) → AllByRecursion (λ x. tid x ≡ k) (f k v)) (t : ℕ) (e : ℕ × V)
    (es : List (ℕ × V)) (b : Bool) → (e.0 == t) ≡ b
    → IsOnce (e ∷ es)
    → filter (λ x. tid x == t) (gather f es) ≡ in_entry f t (lookup (is_at (nat_cmp t)) es)
    → filter (λ x. tid x == t) (f e.0 e.1 ++ gather f es) ≡ in_entry f t (if b then Some e.1 else lookup (is_at (nat_cmp t)) es)
own_at f tid own t e es true is once later =
    let key : is_at (nat_cmp t) e.0 ≡ true = grind (arith, nat_tests, is) in
    let none : lookup (is_at (nat_cmp t)) es ≡ None = lookup-none (is_at (nat_cmp t)) es
    (none_past_head (eq_by_cmp_equiv nat_cmp_total) t e es once key) in
    let empty = later ∙ ap (in_entry f t) none in
    let same : e.0 ≡ t = eqb-true e.0 t is in
    let all = filter-all (λ x. tid x == t) (f e.0 e.1)
    (each-map (λ x. tid x ≡ e.0) (λ x. (tid x == t) ≡ true) (λ x h. here (tid x) e.0 t h same) (f e.0 e.1) (own e.0 e.1)) in
    rw (filter-append, empty, all, append-nil (f e.0 e.1)) (ap (λ k. f k e.1) same)
  where
    here : (a k t : ℕ) → a ≡ k → k ≡ t → (a == t) ≡ true
    here a k t is same = grind (arith, nat_tests, is, same)
own_at f tid own t e es false is once later =
    let none = filter-none (λ x. tid x == t) (f e.0 e.1)
    (each-map (λ x. tid x ≡ e.0) (λ x. (tid x == t) ≡ false) (λ x h. there (tid x) e.0 t h is) (f e.0 e.1) (own e.0 e.1)) in
    rw (filter-append, none) later
  where
    there : (a k t : ℕ) → a ≡ k → (k == t) ≡ false → (a == t) ≡ false
    there a k t is differ = grind (arith, nat_tests, is, differ)

own_part : {V X : Type 0} (f : ℕ → V → List X) (tid : X → ℕ) (own : (k : ℕ) (v : V) → AllByRecursion (λ x. tid x ≡ k) (f k v)) (t : ℕ) (es : List (ℕ × V))
    → IsOnce es
    → filter (λ x. tid x == t) (gather f es) ≡ in_entry f t (lookup (is_at (nat_cmp t)) es)
own_part f tid own t [] once = refl
own_part f tid own t (e ∷ es) once =
    rw (at_key t e.0) (own_at f tid own t e es (e.0 == t) refl once (own_part f tid own t es (IsDistinct-tail (eq_by_cmp nat_cmp) e.0 (keys_of es) once)))

locals_own : (k : ℕ) (v : StackRows) → AllByRecursion (λ row. row.tid ≡ k) (locals_of k v)
locals_own k v = at k v.locals
  where
    at : (k : ℕ) (slots : List LocalSlot) → AllByRecursion (λ (row : LocalRow). row.tid ≡ k) (map (local_row k) slots)
    at k [] = tt
    at k (s ∷ slots) = (refl, at k slots)

frames_own : (k : ℕ) (v : StackRows) → AllByRecursion (λ row. row.tid ≡ k) (frames_of k v)
frames_own k v = at k v.frames
  where
    at : (k : ℕ) (frames : List Frame) → AllByRecursion (λ (row : FrameRow). row.tid ≡ k) (map (frame_row k) frames)
    at k [] = tt
    at k (f ∷ frames) = (refl, at k frames)

locals_in : (t : ℕ) (found : Option StackRows) → in_entry locals_of t found ≡ map (local_row t) (slots_in found)
locals_in t None = refl
locals_in t (Some v) = refl

frames_in_entry : (t : ℕ) (found : Option StackRows) → in_entry frames_of t found ≡ map (frame_row t) (frames_in found)
frames_in_entry t None = refl
frames_in_entry t (Some v) = refl

own_locals : (m : List (ℕ × StackRows)) (t : ℕ) → IsOnce m → filter (λ row. row.tid == t) (gather locals_of m) ≡ map (local_row t) (slots_in (stack_at t m))
own_locals m t ordered = own_part locals_of (λ row. row.tid) locals_own t m ordered ∙ locals_in t (stack_at t m)

own_frames : (m : List (ℕ × StackRows)) (t : ℕ) → IsOnce m → filter (λ row. row.tid == t) (gather frames_of m) ≡ map (frame_row t) (frames_in (stack_at t m))
own_frames m t ordered = own_part frames_of (λ row. row.tid) frames_own t m ordered ∙ frames_in_entry t (stack_at t m)

-- the thread's newest frame is its stack's
top_seen : (m : List (ℕ × StackRows)) (t : ℕ) → IsOnce m → top t (rows_seen m).frames ≡ option_map (frame_row t) (last (frames_in (stack_at t m)))
top_seen m t ordered = find-reverse (λ row. row.tid == t) (gather frames_of m)
    ∙ (ap last (own_frames m t ordered) ∙ last-map (frame_row t) (frames_in (stack_at t m)))

-- ---- rows that are alike for each thread

alike_stand : (a b : Rows) (e : List Event) → ((t : ℕ) → filter (λ row. row.tid == t) a.locals ≡ filter (λ row. row.tid == t) b.locals)
    → ((t : ℕ) → filter (λ row. row.tid == t) a.frames ≡ filter (λ row. row.tid == t) b.frames)
    → Stands a e → Stands b e
alike_stand a b e locals frames stands = record {
  locals = λ t n. local_of t n b.locals ∙ (ap (filter (λ row. row.n == n)) (sym (locals t)) ∙ (sym (local_of t n a.locals) ∙ stands.locals t n));
  frames = λ t. sym (frames t) ∙ stands.frames t;
  allowed = stands.allowed;
}
  where
    local_of : (t n : ℕ) (rows : List LocalRow) → filter (is_local t n) rows ≡ filter (λ row. row.n == n) (filter (λ row. row.tid == t) rows)
    local_of t n rows = filter-twice (is_local t n) (λ row. row.n == n) (λ row. row.tid == t) rows
        (each (λ row. is_local t n row ≡ (row.tid == t && row.n == n)) (λ row. refl) rows)

module _ {Y X : Type 0} (g : ℕ → Y → X) (tid : X → ℕ) (tied : (t : ℕ) (y : Y) → tid (g t y) ≡ t) where
  -- what a filter leaves of each thread
  pub thinned : (u : ℕ) (p : X → Bool) (q : Y → Bool) (before after : ℕ → List Y) (olds news : List X)
      → ((t : ℕ) → filter (λ x. tid x == t) olds ≡ map (g t) (before t)) → ((t : ℕ) → filter (λ x. tid x == t) news ≡ map (g t) (after t))
      → after u ≡ filter q (before u) → ((t : ℕ) → t ≢ u → after t ≡ before t)
      → ((y : Y) → p (g u y) ≡ q y) → ((t : ℕ) (y : Y) → t ≢ u → p (g t y) ≡ true)
      → (t : ℕ) → filter (λ x. tid x == t) (filter p olds) ≡ filter (λ x. tid x == t) news
  thinned u p q before after olds news was is own others mine rest t =
      let part : (v : ℕ) → filter (λ x. tid x == v) (filter p olds) ≡ map (g v) (filter (λ y. p (g v y)) (before v)) =
      λ v. filter_swap (λ x. tid x == v) p olds ∙ (ap (filter p) (was v) ∙ filter-map p (g v) (before v)) in
      each_thread (λ v. filter (λ x. tid x == v) (filter p olds) ≡ filter (λ x. tid x == v) news) u
      (part u ∙ (ap (map (g u)) (filter-alike (λ y. p (g u y)) q (before u) (each (λ y. p (g u y) ≡ q y) mine (before u)) ∙ sym own) ∙ sym (is u)))
      (λ v differ. part v ∙ (ap (map (g v)) (filter-all (λ y. p (g v y)) (before v) (each (λ y. p (g v y) ≡ true) (λ y. rest v y differ) (before v))
      ∙ sym (others v differ)) ∙ sym (is v)))
      t

  -- one row more of a thread
  pub grown : (u : ℕ) (y : Y) (before after : ℕ → List Y) (olds news : List X)
      → ((t : ℕ) → filter (λ x. tid x == t) olds ≡ map (g t) (before t)) → ((t : ℕ) → filter (λ x. tid x == t) news ≡ map (g t) (after t))
      → after u ≡ before u ++ y ∷ [] → ((t : ℕ) → t ≢ u → after t ≡ before t)
      → (t : ℕ) → filter (λ x. tid x == t) (olds ++ g u y ∷ []) ≡ filter (λ x. tid x == t) news
  grown u y before after olds news was is own others t =
      each_thread (λ v. filter (λ x. tid x == v) (olds ++ g u y ∷ []) ≡ filter (λ x. tid x == v) news) u
      (let passes : (tid (g u y) == u) ≡ true = here (tid (g u y)) u (tied u y) in
      rw (filter-append, was u, passes) (sym (map-append (g u) (before u) (y ∷ [])) ∙ (ap (map (g u)) (sym own) ∙ sym (is u))))
      (λ v differ.
      let fails : (tid (g u y) == v) ≡ false = there (tid (g u y)) u v (tied u y) differ in
      rw (filter-append, was v, fails) (append-nil (map (g v) (before v)) ∙ (ap (map (g v)) (sym (others v differ)) ∙ sym (is v))))
      t
    where
      here : (a u : ℕ) → a ≡ u → (a == u) ≡ true
      here a u is = grind (arith, nat_tests, is)

      there : (a u v : ℕ) → a ≡ u → v ≢ u → (a == v) ≡ false
      there a u v is differ = grind (arith, nat_tests, is)

  pub unchanged : (u : ℕ) (before after : ℕ → List Y) (olds news : List X)
      → ((t : ℕ) → filter (λ x. tid x == t) olds ≡ map (g t) (before t)) → ((t : ℕ) → filter (λ x. tid x == t) news ≡ map (g t) (after t))
      → after u ≡ before u → ((t : ℕ) → t ≢ u → after t ≡ before t)
      → (t : ℕ) → filter (λ x. tid x == t) olds ≡ filter (λ x. tid x == t) news
  unchanged u before after olds news was is own others t =
      each_thread (λ v. filter (λ x. tid x == v) olds ≡ filter (λ x. tid x == v) news) u
      (was u ∙ (ap (map (g u)) (sym own) ∙ sym (is u)))
      (λ v differ. was v ∙ (ap (map (g v)) (sym (others v differ)) ∙ sym (is v)))
      t

-- ---- changes of a map of stacks

abbrev slots_at : List (ℕ × StackRows) → ℕ → List LocalSlot
slots_at m t = slots_in (stack_at t m)

abbrev frames_at : List (ℕ × StackRows) → ℕ → List Frame
frames_at m t = frames_in (stack_at t m)

abbrev local_tid : LocalRow → ℕ
local_tid row = row.tid

abbrev frame_tid : FrameRow → ℕ
frame_tid row = row.tid

thin_locals : (old new : List (ℕ × StackRows)) (u : ℕ) (p : LocalRow → Bool) (q : LocalSlot → Bool) (fs : List Frame) → IsOnce old → IsOnce new
    → Changes u old new (filter q (slots_at old u)) fs
    → ((s : LocalSlot) → p (local_row u s) ≡ q s) → ((t : ℕ) (s : LocalSlot) → t ≢ u → p (local_row t s) ≡ true)
    → (t : ℕ) → filter (λ row. row.tid == t) (filter p (gather locals_of old)) ≡ filter (λ row. row.tid == t) (gather locals_of new)
thin_locals old new u p q fs a b c mine rest =
    thinned local_row local_tid (λ t s. refl) u p q (slots_at old) (slots_at new) (gather locals_of old) (gather locals_of new) (λ t. own_locals old t a)
    (λ t. own_locals new t b)
    c.locals (λ t d. ap slots_in (c.others t d)) mine rest

thin_frames : (old new : List (ℕ × StackRows)) (u : ℕ) (p : FrameRow → Bool) (q : Frame → Bool) (ls : List LocalSlot) → IsOnce old → IsOnce new
    → Changes u old new ls (filter q (frames_at old u))
    → ((f : Frame) → p (frame_row u f) ≡ q f) → ((t : ℕ) (f : Frame) → t ≢ u → p (frame_row t f) ≡ true)
    → (t : ℕ) → filter (λ row. row.tid == t) (filter p (gather frames_of old)) ≡ filter (λ row. row.tid == t) (gather frames_of new)
thin_frames old new u p q ls a b c mine rest =
    thinned frame_row frame_tid (λ t s. refl) u p q (frames_at old) (frames_at new) (gather frames_of old) (gather frames_of new) (λ t. own_frames old t a)
    (λ t. own_frames new t b)
    c.frames (λ t d. ap frames_in (c.others t d)) mine rest

grow_locals : (old new : List (ℕ × StackRows)) (u : ℕ) (s : LocalSlot) (fs : List Frame) → IsOnce old → IsOnce new
    → Changes u old new (slots_at old u ++ s ∷ []) fs
    → (t : ℕ) → filter (λ row. row.tid == t) (gather locals_of old ++ local_row u s ∷ []) ≡ filter (λ row. row.tid == t) (gather locals_of new)
grow_locals old new u s fs a b c =
    grown local_row local_tid (λ t s. refl) u s (slots_at old) (slots_at new) (gather locals_of old) (gather locals_of new) (λ t. own_locals old t a)
    (λ t. own_locals new t b) c.locals
    (λ t d. ap slots_in (c.others t d))

grow_frames : (old new : List (ℕ × StackRows)) (u : ℕ) (f : Frame) (ls : List LocalSlot) → IsOnce old → IsOnce new
    → Changes u old new ls (frames_at old u ++ f ∷ [])
    → (t : ℕ) → filter (λ row. row.tid == t) (gather frames_of old ++ frame_row u f ∷ []) ≡ filter (λ row. row.tid == t) (gather frames_of new)
grow_frames old new u f ls a b c =
    grown frame_row frame_tid (λ t s. refl) u f (frames_at old) (frames_at new) (gather frames_of old) (gather frames_of new) (λ t. own_frames old t a)
    (λ t. own_frames new t b)
    c.frames (λ t d. ap frames_in (c.others t d))

same_locals : (old new : List (ℕ × StackRows)) (u : ℕ) (fs : List Frame) → IsOnce old → IsOnce new → Changes u old new (slots_at old u) fs
    → (t : ℕ) → filter (λ row. row.tid == t) (gather locals_of old) ≡ filter (λ row. row.tid == t) (gather locals_of new)
same_locals old new u fs a b c =
    unchanged local_row local_tid (λ t s. refl) u (slots_at old) (slots_at new) (gather locals_of old) (gather locals_of new) (λ t. own_locals old t a)
    (λ t. own_locals new t b)
    c.locals (λ t d. ap slots_in (c.others t d))

same_frames : (old new : List (ℕ × StackRows)) (u : ℕ) (ls : List LocalSlot) → IsOnce old → IsOnce new → Changes u old new ls (frames_at old u)
    → (t : ℕ) → filter (λ row. row.tid == t) (gather frames_of old) ≡ filter (λ row. row.tid == t) (gather frames_of new)
same_frames old new u ls a b c =
    unchanged frame_row frame_tid (λ t s. refl) u (frames_at old) (frames_at new) (gather frames_of old) (gather frames_of new) (λ t. own_frames old t a)
    (λ t. own_frames new t b)
    c.frames (λ t d. ap frames_in (c.others t d))

top_row : (m : List (ℕ × StackRows)) (t : ℕ) (f : Frame) → IsOnce m → last (frames_at m t) ≡ Some f → top t (gather frames_of m) ≡ Some (frame_row t f)
top_row m t f a is = top_seen m t a ∙ ap (option_map (frame_row t)) is

pub start_step : (old new : List (ℕ × StackRows)) (u : ℕ) (e : List Event) → IsOnce old → IsOnce new → top u (gather frames_of old) ≡ None
    → Changes u old new (slots_at old u) (frames_at old u ++ record { depth = 0; frame = 0; room = promised } ∷ [])
    → Stands (rows_seen old) e → Stands (rows_seen new) (by u Start ∷ e)
start_step old new u e a b none c stands =
    alike_stand _ (rows_seen new) (by u Start ∷ e) (same_locals old new u _ a b c)
    (grow_frames old new u (record { depth = 0; frame = 0; room = promised }) _ a b c)
    (start_law (rows_seen old) e u stands none)

pub make_step : (old new : List (ℕ × StackRows)) (u n o : ℕ) (f : Frame) (e : List Event) → IsOnce old → IsOnce new → last (frames_at old u) ≡ Some f
    → All (λ row. row.tid ≡ u → row.n < n) (gather locals_of old)
    → Changes u old new (slots_at old u ++ slot_made n o f ∷ []) (frames_at old u)
    → Stands (rows_seen old) e → Stands (rows_seen new) (by u (Make n o) ∷ e)
make_step old new u n o f e a b is above c stands =
    alike_stand _ (rows_seen new) (by u (Make n o) ∷ e) (grow_locals old new u (slot_made n o f) _ a b c) (same_frames old new u _ a b c)
    (make_law (rows_seen old) e u n o (frame_row u f) stands (top_row old u f a is) (fresh u n (gather locals_of old) above))

pub push_step : (old new : List (ℕ × StackRows)) (u room : ℕ) (f : Frame) (e : List Event) → IsOnce old → IsOnce new → last (frames_at old u) ≡ Some f
    → Changes u old new (slots_at old u) (frames_at old u ++ record { depth = f.depth; frame = f.frame + 1; room = room } ∷ [])
    → Stands (rows_seen old) e → Stands (rows_seen new) (by u (Push room) ∷ e)
push_step old new u room f e a b is c stands =
    alike_stand _ (rows_seen new) (by u (Push room) ∷ e) (same_locals old new u _ a b c)
    (grow_frames old new u (record { depth = f.depth; frame = f.frame + 1; room = room }) _ a b c)
    (push_law (rows_seen old) e u room (frame_row u f) stands (top_row old u f a is))

pub enter_step : (old new : List (ℕ × StackRows)) (u : ℕ) (f : Frame) (e : List Event) → IsOnce old → IsOnce new → last (frames_at old u) ≡ Some f
    → Changes u old new (slots_at old u) (frames_at old u ++ record { depth = f.depth + 1; frame = 0; room = promised } ∷ [])
    → Stands (rows_seen old) e → Stands (rows_seen new) (by u Enter ∷ e)
enter_step old new u f e a b is c stands =
    alike_stand _ (rows_seen new) (by u Enter ∷ e) (same_locals old new u _ a b c)
    (grow_frames old new u (record { depth = f.depth + 1; frame = 0; room = promised }) _ a b c)
    (enter_law (rows_seen old) e u (frame_row u f) stands (top_row old u f a is))

pub delete_step : (old new : List (ℕ × StackRows)) (u n : ℕ) (e : List Event) → IsOnce old → IsOnce new
    → Changes u old new (filter (λ s. not (s.n == n)) (slots_at old u)) (frames_at old u)
    → Stands (rows_seen old) e → Stands (rows_seen new) (by u (Delete n) ∷ e)
delete_step old new u n e a b c stands =
    alike_stand _ (rows_seen new) (by u (Delete n) ∷ e)
    (thin_locals old new u (λ row. not (row.tid == u && row.n == n)) (λ s. not (s.n == n)) _ a b c (λ s. grind (arith, nat_tests))
    (λ t s d. grind (arith, nat_tests)))
    (same_frames old new u _ a b c)
    (delete_law (rows_seen old) e u n stands)

pub pop_step : (old new : List (ℕ × StackRows)) (u : ℕ) (f : Frame) (e : List Event) → IsOnce old → IsOnce new → last (frames_at old u) ≡ Some f → 0 < f.frame
    → Changes u old new (filter (λ s. not (s.depth == f.depth && s.frame == f.frame)) (slots_at old u))
    (filter (λ g. not (g.depth == f.depth && g.frame == f.frame)) (frames_at old u))
    → Stands (rows_seen old) e → Stands (rows_seen new) (by u Pop ∷ e)
pop_step old new u f e a b is some c stands =
    alike_stand _ (rows_seen new) (by u Pop ∷ e)
    (thin_locals old new u (is_not_in u f.depth f.frame) (λ s. not (s.depth == f.depth && s.frame == f.frame)) _ a b c (λ s. grind (arith, nat_tests))
    (λ t s d. grind (arith, nat_tests)))
    (thin_frames old new u (is_not_frame u f.depth f.frame) (λ g. not (g.depth == f.depth && g.frame == f.frame)) _ a b c (λ g. grind (arith, nat_tests))
    (λ t g d. grind (arith, nat_tests)))
    (pop_law (rows_seen old) e u (frame_row u f) stands (top_row old u f a is) some)

pub leave_step : (old new : List (ℕ × StackRows)) (u : ℕ) (f : Frame) (e : List Event) → IsOnce old → IsOnce new → last (frames_at old u) ≡ Some f → 0 < f.depth
    → Changes u old new (filter (λ s. not (s.depth == f.depth)) (slots_at old u)) (filter (λ g. not (g.depth == f.depth)) (frames_at old u))
    → Stands (rows_seen old) e → Stands (rows_seen new) (by u Leave ∷ e)
leave_step old new u f e a b is some c stands =
    alike_stand _ (rows_seen new) (by u Leave ∷ e)
    (thin_locals old new u (is_not_at u f.depth) (λ s. not (s.depth == f.depth)) _ a b c (λ s. grind (arith, nat_tests)) (λ t s d. grind (arith, nat_tests)))
    (thin_frames old new u (is_not_depth u f.depth) (λ g. not (g.depth == f.depth)) _ a b c (λ g. grind (arith, nat_tests)) (λ t g d. grind (arith, nat_tests)))
    (leave_law (rows_seen old) e u (frame_row u f) stands (top_row old u f a is) some)

-- ---- what the newest frame holds, and its room

-- the rows of the frame's locals are as many as its stack's
held_seen : (m : List (ℕ × StackRows)) (t : ℕ) (f : Frame) → IsOnce m
    → how_many (is_of_frame (frame_row t f)) (gather locals_of m) ≡ held_in (Some f) (slots_at m t)
held_seen m t f ordered =
    count-filter (λ row. row.depth == f.depth && row.frame == f.frame) (λ row. row.tid == t) (gather locals_of m)
    ∙ (ap (how_many (λ row. row.depth == f.depth && row.frame == f.frame)) (own_locals m t ordered)
    ∙ how_many-map (λ row. row.depth == f.depth && row.frame == f.frame) (local_row t) (slots_at m t))

row_set : (t d k room : ℕ) (f : Frame) → raised t d k room (frame_row t f) ≡ frame_row t (room_set room d k f)
row_set t d k room f =
    let mine : (t == t) ≡ true = grind (arith, nat_tests) in
    rw mine (at (is_frame d k f))
  where
    at : (b : Bool) → (if b then record (frame_row t f) { room = room } else frame_row t f) ≡ frame_row t (if b then record f { room = room } else f)
    at true = refl
    at false = refl

rows_set : (t d k room : ℕ) (fs : List Frame) → map (raised t d k room) (map (frame_row t) fs) ≡ map (frame_row t) (map (room_set room d k) fs)
rows_set t d k room [] = refl
rows_set t d k room (f ∷ fs) = rw (row_set t d k room f, rows_set t d k room fs) refl

raise_frames : (old new : List (ℕ × StackRows)) (u d k room : ℕ) (ls : List LocalSlot) → IsOnce old → IsOnce new
    → Changes u old new ls (map (room_set room d k) (frames_at old u))
    → (t : ℕ) → filter (λ row. row.tid == t) (map (raised u d k room) (gather frames_of old)) ≡ filter (λ row. row.tid == t) (gather frames_of new)
raise_frames old new u d k room ls a b c t =
    let olds = gather frames_of old in
    let news = gather frames_of new in
    each_thread (λ v. filter (λ row. row.tid == v) (map (raised u d k room) olds) ≡ filter (λ row. row.tid == v) news) u
    (own_alike u (raised u d k room) olds (λ row. same_tid u d k room row)
    ∙ (ap (map (raised u d k room)) (own_frames old u a)
    ∙ (rows_set u d k room (frames_at old u) ∙ (ap (map (frame_row u)) (sym c.frames) ∙ sym (own_frames new u b)))))
    (λ v differ. others_alike v u (raised u d k room) olds differ (λ row. same_tid u d k room row) (λ row other. other_raised u d k room row other)
    ∙ (own_frames old v a ∙ (ap (λ x. map (frame_row v) (frames_in x)) (sym (c.others v differ)) ∙ sym (own_frames new v b))))
    t

pub ensure_step : (old new : List (ℕ × StackRows)) (u c : ℕ) (f : Frame) (e : List Event) → IsOnce old → IsOnce new → last (frames_at old u) ≡ Some f
    → Changes u old new (slots_at old u) (map (room_set (greater f.room (c + held_in (Some f) (slots_at old u))) f.depth f.frame) (frames_at old u))
    → Stands (rows_seen old) e → Stands (rows_seen new) (by u (Ensure c) ∷ e)
ensure_step old new u c f e a b is changes stands =
    let room = greater f.room (c + held_in (Some f) (slots_at old u)) in
    let same : room_made c (frame_row u f) (gather locals_of old) ≡ room = ap (λ n. greater f.room (c + n)) (held_seen old u f a) in
    let P : ℕ → Type 0 = λ x. Stands (record { locals = gather locals_of old; frames = map (raised u f.depth f.frame x) (gather frames_of old) })
    (by u (Ensure c) ∷ e) in
    let law = subst P same (ensure_law (rows_seen old) e u c (frame_row u f) stands (top_row old u f a is)) in
    alike_stand _ (rows_seen new) (by u (Ensure c) ∷ e) (same_locals old new u _ a b changes) (raise_frames old new u f.depth f.frame room _ a b changes) law

none_left : {X : Type 0} (xs : List X) → [] ≡ filter (λ x. false) xs
none_left [] = refl
none_left (x ∷ xs) = none_left xs

as_filtered : (u : ℕ) (old new : List (ℕ × StackRows)) → Changes u old new [] []
    → Changes u old new (filter (λ s. false) (slots_at old u)) (filter (λ f. false) (frames_at old u))
as_filtered u old new c = record { locals = c.locals ∙ none_left (slots_at old u); frames = c.frames ∙ none_left (frames_at old u); others = c.others }

pub end_step : (old new : List (ℕ × StackRows)) (u : ℕ) (e : List Event) → IsOnce old → IsOnce new → Changes u old new [] []
    → Stands (rows_seen old) e → Stands (rows_seen new) (by u End ∷ e)
end_step old new u e a b c stands =
    let d = as_filtered u old new c in
    alike_stand _ (rows_seen new) (by u End ∷ e)
    (thin_locals old new u (λ row. not (row.tid == u)) (λ s. false) _ a b d (λ s. grind (arith, nat_tests)) (λ t s d. grind (arith, nat_tests)))
    (thin_frames old new u (λ row. not (row.tid == u)) (λ f. false) _ a b d (λ g. grind (arith, nat_tests)) (λ t g d. grind (arith, nat_tests)))
    (end_law (rows_seen old) e u stands)

-- ---- what is looked up

find_one : (t n : ℕ) (rows : List LocalRow) → find (is_local t n) rows ≡ find (λ row. row.n == n) (filter (λ row. row.tid == t) rows)
find_one t n rows = find-both (λ row. row.n == n) (λ row. row.tid == t) rows

object_same : (t : ℕ) (found : Option LocalSlot) → option_map (λ row. row.object) (option_map (local_row t) found) ≡ option_map (λ s. s.object) found
object_same t None = refl
object_same t (Some s) = refl

pub object_seen : (m : List (ℕ × StackRows)) (t n : ℕ) → IsOnce m
    → option_map (λ s. s.object) (find (λ s. s.n == n) (slots_at m t)) ≡ option_map (λ row. row.object) (find (is_local t n) (gather locals_of m))
object_seen m t n a =
    let found = find_one t n (gather locals_of m)
    ∙ (ap (find (λ row. row.n == n)) (own_locals m t a) ∙ find-map (λ row. row.n == n) (local_row t) (slots_at m t)) in
    sym (ap (option_map (λ row. row.object)) found ∙ object_same t (find (λ s. s.n == n) (slots_at m t)))

each_tomap : {X Y : Type 0} (P : Y → Type 0) (g : X → Y) (xs : List X) → AllByRecursion (λ x. P (g x)) xs → AllByRecursion P (map g xs)
each_tomap P g [] all = tt
each_tomap P g (x ∷ xs) all = (all.0, each_tomap P g xs all.1)

each_of_one : (t : ℕ) (P : LocalRow → Type 0) (rows : List LocalRow) → AllByRecursion P (filter (λ row. row.tid == t) rows)
    → AllByRecursion (λ row. row.tid ≡ t → P row) rows
each_of_one t P [] all = tt
each_of_one t P (row ∷ rows) all = at t P row rows (row.tid == t) refl all (each_of_one t P rows)
  where
    at : (t : ℕ) (P : LocalRow → Type 0) (row : LocalRow) (rows : List LocalRow) (b : Bool) → (row.tid == t) ≡ b
        → AllByRecursion P (if b then row ∷ filter (λ row. row.tid == t) rows else filter (λ row. row.tid == t) rows)
        → (AllByRecursion P (filter (λ row. row.tid == t) rows) → AllByRecursion (λ row. row.tid ≡ t → P row) rows)
        → AllByRecursion (λ row. row.tid ≡ t → P row) (row ∷ rows)
    at t P row rows true is all later = ((λ _. all.0), later all.1)
    at t P row rows false is all later = ((λ mine. absurd (apart row.tid t is mine)), later all)
      where
        apart : (a t : ℕ) → (a == t) ≡ false → a ≡ t → ⊥
        apart a t is mine = grind (arith, nat_tests, is, mine)

pub above_slots : (m : List (ℕ × StackRows)) (t n : ℕ) → IsOnce m → All (λ row. row.tid ≡ t → row.n < n) (gather locals_of m)
    → All (λ s. s.n < n) (slots_at m t)
above_slots m t n a all =
    let kept = each-filter (λ row. row.tid ≡ t → row.n < n) (λ row. row.tid == t) (gather locals_of m) (recursion_from_All _ _ all) in
    let P : List LocalRow → Type 0 = λ l. AllByRecursion (λ row. row.tid ≡ t → row.n < n) l in
    let there = each_unmapped (λ row. row.tid ≡ t → row.n < n) (local_row t) (slots_at m t) (subst P (own_locals m t a) kept) in
    All-from_recursion (λ s. s.n < n) (slots_at m t) (each-map (λ (s : LocalSlot). t ≡ t → s.n < n) (λ s. s.n < n) (λ s h. h refl) (slots_at m t) there)

above_rows : (m : List (ℕ × StackRows)) (t n : ℕ) → IsOnce m → All (λ s. s.n < n) (slots_at m t) → All (λ row. row.tid ≡ t → row.n < n) (gather locals_of m)
above_rows m t n a all =
    let P : List LocalRow → Type 0 = λ l. AllByRecursion (λ row. row.n < n) l in
    let there = subst P (sym (own_locals m t a)) (each_tomap (λ row. row.n < n) (local_row t) (slots_at m t) (recursion_from_All _ _ all)) in
    All-from_recursion _ _ (each_of_one t (λ row. row.n < n) (gather locals_of m) there)

any_row : (o t : ℕ) (slots : List LocalSlot) → list_any (λ row. row.object == o) (map (local_row t) slots) ≡ list_any (λ s. s.object == o) slots
any_row o t [] = refl
any_row o t (s ∷ slots) = ap (λ b. (s.object == o) || b) (any_row o t slots)

pub any_seen : (o : ℕ) (es : List (ℕ × StackRows))
    → list_any (λ v. list_any (λ s. s.object == o) v.locals) (values_of es) ≡ list_any (λ row. row.object == o) (gather locals_of es)
any_seen o [] = refl
any_seen o (e ∷ es) = sym (list_any-append (λ row. row.object == o) (locals_of e.0 e.1) (gather locals_of es)
    ∙ (ap (λ b. b || list_any (λ row. row.object == o) (gather locals_of es)) (any_row o e.0 e.1.locals)
    ∙ ap (λ b. list_any (λ s. s.object == o) e.1.locals || b) (sym (any_seen o es))))

some_top : (t : ℕ) (found : Option Frame) → IsSome (option_map (frame_row t) found) → IsSome found
some_top t None is = is
some_top t (Some f) is = refl

-- the room that the table shows is the stack's
room_is : (es : List (ℕ × StackRows)) (t : ℕ) → room_of (rooms_seen es) t ≡ room_seen es t
room_is [] t = refl
room_is (e ∷ es) t = at e es t (is_at (nat_cmp t) e.0) (room_is es t)
  where
    at : (e : ℕ × StackRows) (es : List (ℕ × StackRows)) (t : ℕ) (b : Bool) → room_of (rooms_seen es) t ≡ room_seen es t
        → room_or_none (if b then Some e.1.room else lookup (is_at (nat_cmp t)) (rooms_seen es))
        ≡ room_in (if b then Some e.1 else lookup (is_at (nat_cmp t)) es)
    at e es t true same = refl
    at e es t false same = same

-- ---- what the table shows

abbrev pub table_seen : List (ℕ × StackRows) → Table
table_seen m = record { rows = rows_seen m; room = rooms_seen m }

pub ok_not_err : {T E : Type 0} (r : Result T E) (x : E) → IsOk r → r ≡ Err x → ⊥
ok_not_err (Ok y) x ok is = cc
ok_not_err (Err y) x ok is = cc

top_in : (m : List (ℕ × StackRows)) (a : Table) (t : ℕ) → IsOnce m → table_seen m ≡ a → top t a.rows.frames ≡ option_map (frame_row t) (last (frames_at m t))
top_in m a t ordered is = ap (λ (v : Table). top t v.rows.frames) (sym is) ∙ top_seen m t ordered

pub pushed_seen : (m : List (ℕ × StackRows)) (a : Table) (t x : ℕ) (f : Option Frame) → IsOnce m → table_seen m ≡ a → f ≡ last (frames_at m t)
    → x ≡ frame_number (option_map (frame_row t) f) → x ≡ pushed t a.rows
pushed_seen m a t x f ordered is at found = found ∙ (ap (λ o. frame_number (option_map (frame_row t) o)) at ∙ ap frame_number (sym (top_in m a t ordered is)))

past_by : (bound : ℕ → ℕ) (m : List (ℕ × StackRows)) (t : ℕ) (f : Option Frame) → IsOnce m → last (frames_at m t) ≡ f
    → is_past bound (gather locals_of m) (option_map (frame_row t) f) ≡ is_full bound f (held_in f (slots_at m t))
past_by bound m t None ordered is = refl
past_by bound m t (Some f) ordered is = ap (λ n. nat_lt (bound f.room) n) (held_seen m t f ordered)

-- the newest frame is the one that was looked up
-- whether the newest frame holds more than what is made of its room
pub past_seen : (bound : ℕ → ℕ) (m : List (ℕ × StackRows)) (a : Table) (e : List Event) (t : ℕ) → IsOnce m → table_seen m ≡ a → Stands a.rows e
    → is_full bound (last (frames_at m t)) (held_in (last (frames_at m t)) (slots_at m t))
    ≡ nat_lt (bound (room_here (acts_of t e))) (held_here (acts_of t e))
past_seen bound m a e t ordered is stands =
    let by_rows = past_by bound m t (last (frames_at m t)) ordered refl in
    let P : Table → Type 0 = λ v. Stands v.rows e in
    sym (ap (is_past bound (gather locals_of m)) (top_seen m t ordered) ∙ by_rows) ∙ past_law bound (rows_seen m) e t (subst P (sym is) stands)

pub depth_seen : (m : List (ℕ × StackRows)) (a : Table) (t x : ℕ) (f : Option Frame) → IsOnce m → table_seen m ≡ a → f ≡ last (frames_at m t)
    → x ≡ depth_number (option_map (frame_row t) f)
    → x ≡ entered t a.rows
depth_seen m a t x f ordered is at found = found ∙ (ap (λ o. depth_number (option_map (frame_row t) o)) at ∙ ap depth_number (sym (top_in m a t ordered is)))

some_same : (t : ℕ) (f : Option Frame) → is_some f ≡ is_some (option_map (frame_row t) f)
some_same t None = refl
some_same t (Some f) = refl

pub session_seen : (m : List (ℕ × StackRows)) (a : Table) (t : ℕ) (f : Option Frame) → IsOnce m → table_seen m ≡ a → f ≡ last (frames_at m t)
    → is_some f ≡ is_some (top t a.rows.frames)
session_seen m a t f ordered is at = some_same t f ∙ (ap (λ o. is_some (option_map (frame_row t) o)) at ∙ ap is_some (sym (top_in m a t ordered is)))

pub started_top : (m : List (ℕ × StackRows)) (a : Table) (t : ℕ) (f : Option Frame) → IsOnce m → table_seen m ≡ a → f ≡ last (frames_at m t)
    → IsSome (top t a.rows.frames) → IsSome f
started_top m a t f ordered is at some =
    let Q : Option FrameRow → Type 0 = λ o. IsSome o in
    let R : Option Frame → Type 0 = λ o. IsSome o in
    subst R (sym at) (some_top t (last (frames_at m t)) (subst Q (top_in m a t ordered is) some))

frame_some : (t : ℕ) (f : Option Frame) → 0 < frame_number (option_map (frame_row t) f) → IsSome f
frame_some t None some = absurd (omega (arith, some))
frame_some t (Some f) some = refl

depth_some : (t : ℕ) (f : Option Frame) → 0 < depth_number (option_map (frame_row t) f) → IsSome f
depth_some t None some = absurd (omega (arith, some))
depth_some t (Some f) some = refl

pub pushed_some : (m : List (ℕ × StackRows)) (a : Table) (t : ℕ) (f : Option Frame) → IsOnce m → table_seen m ≡ a → f ≡ last (frames_at m t)
    → 0 < pushed t a.rows → IsSome f
pushed_some m a t f ordered is at some =
    let P : Option FrameRow → Type 0 = λ o. 0 < frame_number o in
    let R : Option Frame → Type 0 = λ o. IsSome o in
    subst R (sym at) (frame_some t (last (frames_at m t)) (subst P (top_in m a t ordered is) some))

pub entered_some : (m : List (ℕ × StackRows)) (a : Table) (t : ℕ) (f : Option Frame) → IsOnce m → table_seen m ≡ a → f ≡ last (frames_at m t)
    → 0 < entered t a.rows → IsSome f
entered_some m a t f ordered is at some =
    let P : Option FrameRow → Type 0 = λ o. 0 < depth_number o in
    let R : Option Frame → Type 0 = λ o. IsSome o in
    subst R (sym at) (depth_some t (last (frames_at m t)) (subst P (top_in m a t ordered is) some))

pub pushed_is : (m : List (ℕ × StackRows)) (a : Table) (t : ℕ) (f : Frame) → IsOnce m → table_seen m ≡ a → last (frames_at m t) ≡ Some f
    → pushed t a.rows ≡ f.frame
pushed_is m a t f ordered is at = ap frame_number (top_in m a t ordered is) ∙ ap (λ o. frame_number (option_map (frame_row t) o)) at

pub entered_is : (m : List (ℕ × StackRows)) (a : Table) (t : ℕ) (f : Frame) → IsOnce m → table_seen m ≡ a → last (frames_at m t) ≡ Some f
    → entered t a.rows ≡ f.depth
entered_is m a t f ordered is at = ap depth_number (top_in m a t ordered is) ∙ ap (λ o. depth_number (option_map (frame_row t) o)) at

pub above_in : (m : List (ℕ × StackRows)) (a : Table) (t n : ℕ) → table_seen m ≡ a → All (λ row. row.tid ≡ t → row.n < n) a.rows.locals
    → All (λ row. row.tid ≡ t → row.n < n) (gather locals_of m)
above_in m a t n is all =
    let P : Table → Type 0 = λ v. All (λ row. row.tid ≡ t → row.n < n) v.rows.locals in
    subst P (sym is) all

pub above_seen : (m : List (ℕ × StackRows)) (a : Table) (t n : ℕ) (b : Bool) → IsOnce m → table_seen m ≡ a → IsTrue b ↔ All (λ s. s.n < n) (slots_at m t)
    → IsTrue b ↔ All (λ row. row.tid ≡ t → row.n < n) a.rows.locals
above_seen m a t n b ordered is test =
    let P : Table → Type 0 = λ v. All (λ row. row.tid ≡ t → row.n < n) v.rows.locals in
    ((λ yes. subst P is (above_rows m t n ordered (test.0 yes))), (λ all. test.1 (above_slots m t n ordered (above_in m a t n is all))))

none_of_top : (t : ℕ) (f : Option Frame) → option_map (frame_row t) f ≡ None → f ≡ None
none_of_top t None is = refl
none_of_top t (Some f) is = cc

no_row : {X : Type 0} (o : Option X) → IsNone o → o ≡ None
no_row None h = refl
no_row (Some x) h = cc

pub none_top : (r s : Rows) (t : ℕ) → r ≡ s → IsNone (top t s.frames) → top t r.frames ≡ None
none_top r s t is none = ap (λ (v : Rows). top t v.frames) is ∙ no_row _ none

pub next_first : (m : List (ℕ × StackRows)) (t : ℕ) (f : Frame) → IsOnce m → top t (rows_seen m).frames ≡ None → IsNext (last (frames_at m t)) f
next_first m t f ordered none =
    let P : Option Frame → Type 0 = λ o. IsNext o f in
    subst P (sym (none_of_top t (last (frames_at m t)) (sym (top_seen m t ordered) ∙ none))) tt

next_push : (top : Frame) (room : ℕ) → is_under top (record { depth = top.depth; frame = top.frame + 1; room = room }) ≡ true
next_push top room = grind (arith, nat_tests)

next_enter : (top : Frame) (room : ℕ) → is_under top (record { depth = top.depth + 1; frame = 0; room = room }) ≡ true
next_enter top room = grind (arith, nat_tests)

-- ---- room

pub spare_is : (m : List (ℕ × StackRows)) (a : Table) (t : ℕ) → table_seen m ≡ a → spare a t ≡ (room_seen m t).locals
spare_is m a t is = ap (λ (v : Table). spare v t) (sym is) ∙ ap (λ (r : Room). r.locals) (room_is m t)

pub starts_is : (m : List (ℕ × StackRows)) (a : Table) (t : ℕ) → table_seen m ≡ a → spare_starts a t ≡ (room_seen m t).frames
starts_is m a t is = ap (λ (v : Table). spare_starts v t) (sym is) ∙ ap (λ (r : Room). r.frames) (room_is m t)

pub room_up : (old new : List (ℕ × StackRows)) (a : Table) (t : ℕ) → table_seen old ≡ a → (room_seen old t).locals ≤ (room_seen new t).locals
    → spare a t ≤ spare (table_seen new) t
room_up old new a t is up = let x = spare_is old a t is in let y = spare_is new (table_seen new) t refl in omega (arith, x, y, up)

pub starts_up : (old new : List (ℕ × StackRows)) (a : Table) (t : ℕ) → table_seen old ≡ a → (room_seen old t).frames ≤ (room_seen new t).frames
    → spare_starts a t ≤ spare_starts (table_seen new) t
starts_up old new a t is up = let x = starts_is old a t is in let y = starts_is new (table_seen new) t refl in omega (arith, x, y, up)

pub room_one : (old new : List (ℕ × StackRows)) (a : Table) (t : ℕ) → table_seen old ≡ a → (room_seen old t).locals ≤ (room_seen new t).locals + 1
    → spare a t ≤ spare (table_seen new) t + 1
room_one old new a t is up = let x = spare_is old a t is in let y = spare_is new (table_seen new) t refl in omega (arith, x, y, up)

pub room_from : (old : List (ℕ × StackRows)) (a : Table) (t : ℕ) → table_seen old ≡ a → 0 < spare a t → 0 < (room_seen old t).locals
room_from old a t is some = let x = spare_is old a t is in omega (arith, x, some)

pub starts_from : (old new : List (ℕ × StackRows)) (a : Table) (t : ℕ) → table_seen old ≡ a → (room_seen old t).frames ≤ (room_seen new t).frames
    → 0 < spare_starts a t
    → 0 < (room_seen new t).frames
starts_from old new a t is up some = let x = starts_is old a t is in omega (arith, x, up, some)

pub room_to : (new : List (ℕ × StackRows)) (t : ℕ) → 0 < (room_seen new t).locals → 0 < spare (table_seen new) t
room_to new t some = let y = spare_is new (table_seen new) t refl in omega (arith, y, some)

pub starts_to : (new : List (ℕ × StackRows)) (t : ℕ) → 0 < (room_seen new t).frames → 0 < spare_starts (table_seen new) t
starts_to new t some = let y = starts_is new (table_seen new) t refl in omega (arith, y, some)

stack_if : (found : Option StackRows) → 0 < (room_in found).frames → IsSome found
stack_if None some = absurd (omega (arith, some))
stack_if (Some v) some = refl

pub has_stack : (old : List (ℕ × StackRows)) (a : Table) (t : ℕ) → table_seen old ≡ a → 0 < spare_starts a t → IsSome (stack_at t old)
has_stack old a t is some = let x = starts_is old a t is in stack_if (stack_at t old) (omega (arith, x, some))

pub restand : (r s : Rows) (e : List Event) → r ≡ s → Stands s e → Stands r e
restand r s e is stands = let P : Rows → Type 0 = λ v. Stands v e in subst P (sym is) stands

above_by : (x y : ℕ) → x ≡ y → IsTrue (nat_lt 0 x) → 0 < y
above_by x y is h = grind (arith, nat_tests, is, h)

by_above : (x y : ℕ) → x ≡ y → 0 < y → IsTrue (nat_lt 0 x)
by_above x y is h = grind (arith, nat_tests, is, h)

pub above_none : (x y : ℕ) → x ≡ y → IsTrue (nat_lt 0 x) ↔ (0 < y)
above_none x y is = ((λ h. above_by x y is h), (λ h. by_above x y is h))

-- the newest frame, where there is one
pub newest_there : (o : Option Frame) → IsSome o → (f : Frame) × (o ≡ Some f)
newest_there (Some f) some = (f, refl)
newest_there None some = absurd (false≢true some)
