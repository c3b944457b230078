-- A list of objects that go: what can't, and what is left.
use Rattle.std.proofs.Common.{ℕ, ◌≡◌, ◌+◌, ◌++◌, ◌∙◌, ◌<◌, Bool, true, false, List, [], ◌∷◌, map, Option, Some, None, refl, ap, sym, subst, arith, eqb-true, if◌then◌else◌, take, zero, suc, length, slice_index_or}
use Rattle.std.specs.Prelude.{◌==◌, ◌&&◌, ◌||◌, not, nat_lt}
use Rattle.std.specs.List.{list_any}
use Rattle.std.specs.Option.{option_map, is_some}
use Rattle.std.proofs.lemmas.Bool.Decides.{nat_tests}
use Rattle.std.proofs.lemmas.List.Folds.{list_any_more}
use Rattle.std.proofs.Math.Bool.{or-false}
use Rattle.std.specs.Cmp.{both_ways}
use Rattle.std.proofs.lemmas.Bool.{or_right}
use Rattle.jg_words.specs.declared.object.ObjId.{ObjId}
use Rattle.jg_words.proofs.Common.{or_first_off}
use Rattle.jg_policy.specs.Stated.{StatedSetup, class_count}
use Rattle.jg_table_globals.specs.History as globals
use Rattle.jg_table_globals.proofs.Callers.{holds_law}
use Rattle.jg_table_heap.specs.History as heap
use Rattle.jg_table_objects.specs.History.{is_listed, is_told, told, went}
use Rattle.jg_table_heap.specs.Making.{class_in, length_in}
use Rattle.jg_table_globals.specs.Standing as global_standing
use Rattle.jg_lists.specs.Marks.{Marks}
use Rattle.jg_table_objects.specs.Rows.{Rows, mark_in, told_in}
use Rattle.jg_table_objects.specs.Standing.{Tells}
use Rattle.jg_rules.specs.Parts.{HoldersStand, Parts, RowsBeside}
use Rattle.jg_rules.specs.Names.{is_here}
use Rattle.jg_rules.specs.Holding.{is_root}
use Rattle.jg_core.specs.declared.fact.Fact.{Fact}
use Rattle.jg_core.specs.declared.fact.Fact.TheVariants.{Gone}
use Rattle.jg_core.specs.Facts.{all_gone, can_be, first_held, made_in, on, parts_of, History}
use Rattle.jg_core.specs.Kernel.{CoreState, CoreStands}
use Rattle.jg_core.specs.Gone.{first_unfit, gone_on, is_set, is_unset, with_set}
use Rattle.jg_core.specs.Tables.{Stand}

-- the tables beside a store that was written stand for what they stood for
pub holders_beside : (s : StatedSetup) (rows new : RowsBeside Rows) (store : Rows) (p : Parts) → Stand s rows p → new ≡ record rows { heap = store }
    → HoldersStand new p
holders_beside s rows new store p stand same =
    subst (λ r. HoldersStand r p) (sym same)
    (record { threads = stand.threads; locals = stand.locals; globals = stand.globals; buffers = stand.buffers; monitors = stand.monitors })

-- ---- marks

set_same : (b : Bool) (m m' : Option Bool) → m ≡ m' → (if b then Some true else m) ≡ (if b then Some true else m')
set_same true m m' same = refl
set_same false m m' same = same

-- what is unfit is read of the marks, one by one
unfit_same : (m m' : ℕ → Option Bool) (objects : List ObjId) → ((o : ℕ) → m o ≡ m' o) → first_unfit m objects ≡ first_unfit m' objects
unfit_same m m' [] same = refl
unfit_same m m' (o ∷ objects) same =
    ap (λ b. if b then option_map (λ n. n + 1) (first_unfit (with_set m o.0) objects) else Some 0) (ap is_unset (same o.0))
    ∙ ap (λ r. if is_unset (m' o.0) then option_map (λ n. n + 1) r else Some 0)
    (unfit_same (with_set m o.0) (with_set m' o.0) objects (λ q. set_same (o.0 == q) (m q) (m' q) (same q)))

shifted : (i : ℕ) (r : Option ℕ) → option_map (λ n. n + i) (option_map (λ n. n + 1) r) ≡ option_map (λ n. n + (i + 1)) r
shifted i None = refl
shifted i (Some n) = ap Some (omega arith)

-- the first of the list passes
pub unfit_later : (i : ℕ) (m m' : ℕ → Option Bool) (o : ObjId) (objects : List ObjId) → is_unset (m o.0) ≡ true → ((q : ℕ) → m' q ≡ with_set m o.0 q)
    → option_map (λ n. n + i) (first_unfit m (o ∷ objects)) ≡ option_map (λ n. n + (i + 1)) (first_unfit m' objects)
unfit_later i m m' o objects unset set =
    ap (λ b. option_map (λ n. n + i) (if b then option_map (λ n. n + 1) (first_unfit (with_set m o.0) objects) else Some 0)) unset
    ∙ shifted i (first_unfit (with_set m o.0) objects)
    ∙ ap (option_map (λ n. n + (i + 1))) (unfit_same (with_set m o.0) m' objects (λ q. sym (set q)))

-- it doesn't
pub unfit_now : (i : ℕ) (m : ℕ → Option Bool) (o : ObjId) (objects : List ObjId) → is_unset (m o.0) ≡ false
    → option_map (λ n. n + i) (first_unfit m (o ∷ objects)) ≡ Some i
unfit_now i m o objects set = ap (λ b. option_map (λ n. n + i) (if b then option_map (λ n. n + 1) (first_unfit (with_set m o.0) objects) else Some 0)) set
    ∙ ap Some (omega arith)

-- one more of the list is marked
pub marked_more : (objects : List ObjId) (i q : ℕ) (m new : ℕ → Option Bool) (old : Option Bool) → i < length objects
    → m q ≡ (if is_listed (take i objects) q then Some true else old) → new q ≡ with_set m (slice_index_or objects i (record { 0 = 0 })).0 q
    → new q ≡ (if is_listed (take (i + 1) objects) q then Some true else old)
marked_more objects i q m new old within before set =
    let o : ObjId = slice_index_or objects i (record { 0 = 0 }) in
    set
    ∙ ap (λ x. if o.0 == q then Some true else x) before
    ∙ either (o.0 == q) (is_listed (take i objects) q)
    ∙ ap (λ b. if b then Some true else old) (sym (list_any_more (λ (x : ObjId). x.0 == q) objects i (record { 0 = 0 }) within))
  where
    either : (b c : Bool) → (if b then Some true else (if c then Some true else old)) ≡ (if (c || b) then Some true else old)
    either true true = refl
    either true false = refl
    either false true = refl
    either false false = refl

unlisted_rest : (b rest : Bool) → (b || rest) ≡ false → rest ≡ false
unlisted_rest true rest is = absurd cc
unlisted_rest false rest is = is

-- what the list hasn't, the front of it hasn't
unlisted_front : (objects : List ObjId) (i q : ℕ) → is_listed objects q ≡ false → is_listed (take i objects) q ≡ false
unlisted_front objects zero q is = refl
unlisted_front [] (suc i) q is = refl
unlisted_front (o ∷ objects) (suc i) q is =
    rw (or_first_off (o.0 == q) (is_listed objects q) is) (unlisted_front objects i q (unlisted_rest (o.0 == q) (is_listed objects q) is))

pub unlisted_before : {X : Type 0} (objects : List ObjId) (i q : ℕ) (new old : X) → is_listed objects q ≡ false
    → (if is_listed (take i objects) q then new else old) ≡ old
unlisted_before objects i q new old is = rw (unlisted_front objects i q is) refl

-- ---- one that goes leaves others as they were

cleared_holds : (e : List globals.Event) (x o : ℕ) → globals.holds_object (globals.Clear x ∷ e) o ≡ globals.holds_object e o
cleared_holds e x o = both_ways (globals.holds_object (globals.Clear x ∷ e) o) (globals.holds_object e o)
    (λ is. let found = (holds_law (globals.Clear x ∷ e) o).0 is in (holds_law e o).1 found)
    (λ is. let found = (holds_law e o).0 is in (holds_law (globals.Clear x ∷ e) o).1 found)

same_root : (p : Parts) (x : ObjId) (o : ℕ) → is_root (on (Gone x) p) o ≡ is_root p o
same_root p x o = rw (cleared_holds p.globals x.0 o) refl

other_gone : (made gone same rest : Bool) → same ≡ false → (made && not (gone || (same && rest))) ≡ (made && not gone)
other_gone made true same rest other = refl
other_gone made false same rest other = rw other refl

same_here : (s : StatedSetup) (p : Parts) (x o : ObjId) → (o.0 == x.0) ≡ false → is_here s (on (Gone x) p) o.0 ≡ is_here s p o.0
same_here s p x o other = other_gone (nat_lt o.0 (heap.count_of (class_count s) p.heap)) (heap.gone_at (class_count s) p.heap o.0) (o.0 == x.0) _ other

same_can : (s : StatedSetup) (p : Parts) (x o : ObjId) → (o.0 == x.0) ≡ false → can_be s (on (Gone x) p) (Gone o) ≡ can_be s p (Gone o)
same_can s p x o other = rw (same_here s p x o other, same_root p x o.0) refl

gone_then : (made gone class : Bool) → ((made && not gone) && (not class && true)) ≡ true → (made && not (gone || (true && (made && not class)))) ≡ false
gone_then true true class is = refl
gone_then true false true is = absurd cc
gone_then true false false is = refl
gone_then false gone class is = refl

never_twice : (here class root after : Bool) → after ≡ false → (after && (not class && not root)) ≡ false
never_twice here class root after is = rw is refl

first_two : (a b c : Bool) → (a && (b && c)) ≡ true → (a && (b && true)) ≡ true
first_two true true c is = refl
first_two true false c is = absurd cc
first_two false b c is = absurd cc

gone_once : (s : StatedSetup) (p : Parts) (o : ObjId) → can_be s p (Gone o) ≡ true → can_be s (on (Gone o) p) (Gone o) ≡ false
gone_once s p o can =
    let k : ℕ = class_count s in
    let same : (o.0 == o.0) ≡ true = grind (arith, nat_tests) in
    let gone : is_here s (on (Gone o) p) o.0 ≡ false =
    ap (λ b. nat_lt o.0 (heap.count_of k p.heap) && not (heap.gone_at k p.heap o.0 || (b && (nat_lt o.0 (heap.count_of k p.heap) && not (nat_lt o.0 k))))) same
    ∙ gone_then (nat_lt o.0 (heap.count_of k p.heap)) (heap.gone_at k p.heap o.0) (nat_lt o.0 k)
    (first_two (is_here s p o.0) (not (nat_lt o.0 k)) (not (is_root p o.0)) can) in
    never_twice true (nat_lt o.0 k) (is_root (on (Gone o) p) o.0) (is_here s (on (Gone o) p) o.0) gone

-- ---- what is unfit is what is held

listed_first : (o : ObjId) (objects : List ObjId) → is_listed (o ∷ objects) o.0 ≡ true
listed_first o objects = let same : (o.0 == o.0) ≡ true = grind (arith, nat_tests) in rw same refl

step_mark : (s : StatedSetup) (p : Parts) (m : ℕ → Option Bool) (o x : ObjId) (b : Bool) → (o.0 == x.0) ≡ b → can_be s p (Gone o) ≡ true
    → is_unset (m x.0) ≡ can_be s p (Gone x) → is_unset (if b then Some true else m x.0) ≡ can_be s (on (Gone o) p) (Gone x)
step_mark s p m o x true same can old =
    sym (subst (λ (y : ℕ). can_be s (on (Gone o) p) (Gone (record { 0 = y })) ≡ false) (eqb-true o.0 x.0 same) (gone_once s p o can))
step_mark s p m o x false other can old = old ∙ sym (same_can s p o x (turned o.0 x.0 other))
  where
    turned : (i j : ℕ) → (i == j) ≡ false → (j == i) ≡ false
    turned i j is = grind (arith, nat_tests)

held_if : (s : StatedSetup) (p : Parts) (m : ℕ → Option Bool) (o : ObjId) (objects : List ObjId) (b : Bool) → can_be s p (Gone o) ≡ b → is_unset (m o.0) ≡ b
    → (b ≡ true → first_unfit (with_set m o.0) objects ≡ first_held s (on (Gone o) p) objects) → first_unfit m (o ∷ objects) ≡ first_held s p (o ∷ objects)
held_if s p m o objects true can unset rest = rw (can, unset, rest refl) refl
held_if s p m o objects false can unset rest = rw (can, unset) refl

-- where each object of the list has a mark that isn't set exactly where it can go
unfit_is_held : (s : StatedSetup) (p : Parts) (m : ℕ → Option Bool) (objects : List ObjId)
    → ((x : ObjId) → is_listed objects x.0 ≡ true → is_unset (m x.0) ≡ can_be s p (Gone x))
    → first_unfit m objects ≡ first_held s p objects
unfit_is_held s p m [] marks = refl
unfit_is_held s p m (o ∷ objects) marks =
    held_if s p m o objects (can_be s p (Gone o)) refl (marks o (listed_first o objects)) (λ can. unfit_is_held s (on (Gone o) p) (with_set m o.0) objects
    (λ x listed. step_mark s p m o x (o.0 == x.0) refl can (marks x (or_right (o.0 == x.0) (is_listed objects x.0) listed))))

-- ---- the list

-- the numbers of the list, the last first
abbrev pub numbers_of : List ObjId → List ℕ → List ℕ
numbers_of [] before = before
numbers_of (o ∷ objects) before = numbers_of objects (o.0 ∷ before)

or_assoc : (a b c : Bool) → (b || (a || c)) ≡ ((a || b) || c)
or_assoc true true c = refl
or_assoc true false c = refl
or_assoc false b c = refl

listed_numbers : (objects : List ObjId) (before : List ℕ) (q : ℕ)
    → list_any (λ x. x == q) (numbers_of objects before) ≡ (is_listed objects q || list_any (λ x. x == q) before)
listed_numbers [] before q = refl
listed_numbers (o ∷ objects) before q = listed_numbers objects (o.0 ∷ before) q ∙ or_assoc (o.0 == q) (is_listed objects q) (list_any (λ x. x == q) before)

pub all_listed : (objects : List ObjId) (q : ℕ) → list_any (λ x. x == q) (numbers_of objects []) ≡ is_listed objects q
all_listed objects q = listed_numbers objects [] q ∙ or-false (is_listed objects q)

-- ---- the marks of a list, and what can go of it

given_then_marked : (found : Option (ℕ × ℕ)) (root : Bool)
    → is_unset (option_map (λ mark. mark || root) (option_map (λ told. false) found)) ≡ (is_some found && not root)
given_then_marked None root = refl
given_then_marked (Some t) root = refl

is_some_if : (b : Bool) (t : ℕ × ℕ) → is_some (if b then Some t else None) ≡ b
is_some_if true t = refl
is_some_if false t = refl

some_told : (k : ℕ) (e : List heap.Event) (o : ℕ) → is_some (told k e o) ≡ is_told k e o
unfolding told
some_told k e o = is_some_if (is_told k e o) (class_in (heap.making_at k e o), length_in (heap.making_at k e o))

turned_and : (there class root : Bool) → ((not class && there) && not root) ≡ (there && (not class && not root))
turned_and true true root = refl
turned_and true false root = refl
turned_and false true root = refl
turned_and false false root = refl

-- the marks that were given and then set where something holds the object
pub record AreMarked (p : Parts) (rows : Rows) (objects : List ObjId) (m : ℕ → Option Bool) : Type 0 where
  pub given : (o : ℕ) → is_listed objects o ≡ true → m o ≡ option_map (λ mark. mark || is_root p o) (option_map (λ told. false) (told_in rows o))
  pub others : (o : ℕ) → is_listed objects o ≡ false → m o ≡ None

pub are_marked : (p : Parts) (rows : Rows) (objects : List ObjId) (m n : ℕ → Option Bool) → ((o : ℕ) → mark_in rows o ≡ None)
    → ((o : ℕ) → m o ≡ (if is_listed objects o then option_map (λ told. false) (told_in rows o) else mark_in rows o)) → Marks (is_root p) m n
    → AreMarked p rows objects n
are_marked p rows objects m n none given set = record {
  given = λ o listed. set o
      ∙ ap (option_map (λ mark. mark || is_root p o)) (given o ∙ ap (λ b. if b then option_map (λ told. false) (told_in rows o) else mark_in rows o) listed);
  others = λ o unlisted. set o
      ∙ ap (option_map (λ mark. mark || is_root p o)) (given o ∙ ap (λ b. if b then option_map (λ told. false) (told_in rows o) else mark_in rows o) unlisted
      ∙ none o);
}

pub unfit_among : (s : StatedSetup) (p : Parts) (rows : Rows) (objects : List ObjId) (m : ℕ → Option Bool) → Tells rows (class_count s) p.heap
    → AreMarked p rows objects m
    → first_unfit m objects ≡ first_held s p objects
unfit_among s p rows objects m tells marks = unfit_is_held s p m objects (λ x listed.
    ap is_unset (marks.given x.0 listed)
    ∙ given_then_marked (told_in rows x.0) (is_root p x.0)
    ∙ ap (λ b. b && not (is_root p x.0)) (ap is_some (tells.stands.told x.0) ∙ some_told rows.classes p.heap x.0 ∙ ap (λ k. is_told k p.heap x.0) tells.classes)
    ∙ turned_and (is_here s p x.0) (nat_lt x.0 (class_count s)) (is_root p x.0))

-- where all passed, exactly the list is marked
pub set_where_listed : (p : Parts) (rows : Rows) (objects : List ObjId) (m n : ℕ → Option Bool) → AreMarked p rows objects m
    → ((o : ℕ) → n o ≡ (if is_listed objects o then Some true else m o))
    → (o : ℕ) → is_set (n o) ≡ list_any (λ x. x == o) (numbers_of objects [])
set_where_listed p rows objects m n marks set o = ap is_set (set o) ∙ by (is_listed objects o) refl ∙ sym (all_listed objects o)
  where
    by : (b : Bool) → is_listed objects o ≡ b → is_set (if b then Some true else m o) ≡ b
    by true listed = refl
    by false unlisted = ap is_set (marks.others o unlisted)

-- what is taken away of the list leaves no mark
pub unmarked_after : (p : Parts) (rows : Rows) (objects : List ObjId) (m n last : ℕ → Option Bool) → AreMarked p rows objects m
    → ((o : ℕ) → is_listed objects o ≡ false → n o ≡ m o)
    → ((o : ℕ) → last o ≡ (if is_listed objects o then None else n o)) → (o : ℕ) → last o ≡ None
unmarked_after p rows objects m n last marks same taken o = taken o ∙ by (is_listed objects o) refl
  where
    by : (b : Bool) → is_listed objects o ≡ b → (if b then None else n o) ≡ None
    by true listed = refl
    by false unlisted = same o unlisted ∙ marks.others o unlisted

-- ---- all of them gone

-- the parts with all of them gone
parts_gone : (objects : List ObjId) (p : Parts) (before : List ℕ) (g : List globals.Event)
    → gone_on objects (record p { globals = map (λ o. globals.Clear o) before ++ g })
    ≡ record p { globals = map (λ o. globals.Clear o) (numbers_of objects before) ++ g; heap = went objects p.heap }
parts_gone [] p before g = refl
parts_gone (o ∷ objects) p before g = parts_gone objects (record p { heap = heap.Went o.0 ∷ p.heap }) (o.0 ∷ before) g

told_gone : (objects : List ObjId) (w : List Fact) → parts_of (all_gone objects w) ≡ gone_on objects (parts_of w)
told_gone [] w = refl
told_gone (o ∷ objects) w = told_gone objects (Gone o ∷ w)

-- the tables stand for that
pub gone_stand : (s : StatedSetup) (old new : RowsBeside Rows) (objects : List ObjId) (p : Parts) → Stand s old p
    → new ≡ record old { globals = new.globals; heap = new.heap }
    → global_standing.Stands new.globals (map (λ o. globals.Clear o) (numbers_of objects []) ++ p.globals)
    → Tells new.heap (class_count s) (went objects p.heap) → Stand s new (gone_on objects p)
gone_stand s old new objects p stand others of_globals of_heap =
    let q : Parts = record p { globals = map (λ o. globals.Clear o) (numbers_of objects []) ++ p.globals; heap = went objects p.heap } in
    let all : Stand s (record old { globals = new.globals; heap = new.heap }) q = record {
      threads = stand.threads;
      locals = stand.locals;
      globals = of_globals;
      buffers = stand.buffers;
      monitors = stand.monitors;
      heap = of_heap;
      links = stand.links;
    } in
    rw (others, parts_gone objects p [] p.globals) all

-- ---- the facts

more_held : (i : Option ℕ) → option_map (λ n. n + 1) i ≡ None → i ≡ None
more_held None is = refl
more_held (Some n) is = absurd cc

no_first : (b : Bool) (rest : Option ℕ) → (if b then option_map (λ n. n + 1) rest else Some 0) ≡ None → (b ≡ true) × (rest ≡ None)
no_first true rest is = (refl, more_held rest is)
no_first false rest is = absurd cc

-- where none is held, each could be told
all_could : (s : StatedSetup) (objects : List ObjId) (w : List Fact) → History s w → first_held s (parts_of w) objects ≡ None → History s (all_gone objects w)
all_could s [] w could none = could
all_could s (o ∷ objects) w could none =
    let both = no_first (can_be s (parts_of w) (Gone o)) (first_held s (on (Gone o) (parts_of w)) objects) none in
    all_could s objects (Gone o ∷ w) (both.0, could) both.1

-- and none of them makes anything
made_gone : (objects : List ObjId) (w : List Fact) → made_in (all_gone objects w) ≡ made_in w
made_gone [] w = refl
made_gone (o ∷ objects) w = made_gone objects (Gone o ∷ w)

pub told_all : (c d : CoreState) (objects : List ObjId) (w : List Fact) → CoreStands c w → d.setup ≡ c.setup → d.made ≡ c.made
    → first_held c.setup (parts_of w) objects ≡ None
    → Stand c.setup d.rows (gone_on objects (parts_of w)) → CoreStands d (all_gone objects w)
told_all c d objects w stands same_setup same_made none tables =
    rw same_setup (record {
      history = all_could c.setup objects w stands.history none;
      counted = made_gone objects w ∙ stands.counted ∙ sym same_made;
      tables = subst (λ (p : Parts). Stand c.setup d.rows p) (sym (told_gone objects w)) tables;
    })
