-- How the rows stand after one more event.
use Rattle.std.proofs.Common.{◌≡◌, ℕ, ◌<◌, ◌≤◌, length, Bool, true, false, cond, List, [], ◌∷◌, ◌++◌, Option, Some, None, refl, ◌∙◌, ap, sym, subst, arith}
use Rattle.std.specs.Prelude.{◌==◌, ◌||◌, if◌then◌else◌, filter, map, All}
use Rattle.std.specs.List.{list_any, AllByRecursion}
use Rattle.std.specs.Map.{lookup}
use Rattle.std.specs.Option.{option_map, option_to_list}
use Rattle.std.proofs.lemmas.Bool.Decides.{nat_tests}
use Rattle.std.proofs.lemmas.List.Elements.{recursion_from_All}
use Rattle.jg_words.specs.declared.object.ObjId.{ObjId}
use Rattle.jg_lists.specs.ByMaker.{Name, same_name, Adds, Drops, IsThereOnce}
use Rattle.jg_table_globals.specs.declared.target.Target.{Target}
use Rattle.jg_table_globals.specs.declared.target.Target.TheVariants.{Object, Cleared}
use Rattle.jg_table_globals.specs.History.{Event, MakeStrong, MakeWeak, DeleteStrong, DeleteWeak, Clear, is_same, strong, weak, after_making, clears, unless_cleared, weak_target}
use Rattle.jg_table_globals.specs.Rows.{Rows, Strong, Weak, is_strong, is_weak, IsAbove}
use Rattle.jg_table_globals.specs.Seen.{strong_seen, weak_seen}
use Rattle.jg_table_globals.specs.Standing.{Stands, strong_rows, weak_rows, IsListOf}
use Rattle.jg_table_globals.specs.Clearing.{IsCleared, EachCleared}
use Rattle.jg_lists.proofs.Lists.{first}
use Rattle.jg_lists.proofs.Named.{first_named, once_named, rows_named}
use Rattle.jg_table_globals.proofs.Lookups.{strong_tests, weak_tests, no_value, get_strong_law, get_weak_law}

-- what an event that isn't about weak references does to what they name: nothing
quiet : (maker n : ℕ) (later : List Event) (ev : Event) (found : Option ℕ) → ((o : ℕ) → clears o ev ≡ false)
    → unless_cleared (ev ∷ later) found ≡ unless_cleared later found
quiet maker n later ev None none = refl
quiet maker n later ev (Some o) none = rw (none o) refl

-- the rows of one name once an entry is added, which had none where the entry has the name
rows_added : {X Y : Type 0} (f : X → Y) (p : Y → Bool) (front back : List X) (x : X) (b : Bool) → p (f x) ≡ b
    → (b ≡ true → filter p (map f (front ++ back)) ≡ [])
    → filter p (map f (front ++ x ∷ back)) ≡ (if b then f x ∷ [] else filter p (map f (front ++ back)))
rows_added f p [] back x true is none = rw (is, none refl) refl
rows_added f p [] back x false is none = rw is refl
rows_added f p (y ∷ front) back x b is none = by f p y front back x b (p (f y)) none (λ later. rows_added f p front back x b is later)
  where
    by : {X Y : Type 0} (f : X → Y) (p : Y → Bool) (y : X) (front back : List X) (x : X) (b c : Bool)
        → (b ≡ true → (if c then f y ∷ filter p (map f (front ++ back)) else filter p (map f (front ++ back))) ≡ [])
        → ((b ≡ true → filter p (map f (front ++ back)) ≡ [])
        → filter p (map f (front ++ x ∷ back)) ≡ (if b then f x ∷ [] else filter p (map f (front ++ back))))
        → (if c then f y ∷ filter p (map f (front ++ x ∷ back)) else filter p (map f (front ++ x ∷ back)))
        ≡ (if b then f x ∷ [] else (if c then f y ∷ filter p (map f (front ++ back)) else filter p (map f (front ++ back))))
    by f p y front back x true true none later = let never = none refl in cc
    by f p y front back x false true none later = ap (λ l. f y ∷ l) (later (λ is. cc))
    by f p y front back x b false none later = later none

strong_new : (m n k i : ℕ) (o : ObjId) (b : Bool) (rows : List Strong) (was : Option ℕ) → is_same m n k i ≡ b → rows ≡ strong_rows m n was
    → (if b then strong_seen ((k, i), o) ∷ [] else rows) ≡ strong_rows m n (if b then Some o.0 else was)
strong_new m n k i o true rows was is stands =
    let maker : k ≡ m = grind (arith, nat_tests) in
    let number : i ≡ n = grind (arith, nat_tests) in
    rw (maker, number) refl
strong_new m n k i o false rows was is stands = stands

weak_new : (m n k i : ℕ) (t : Target) (b : Bool) (rows : List Weak) (was : Option Target) → is_same m n k i ≡ b → rows ≡ weak_rows m n was
    → (if b then weak_seen ((k, i), t) ∷ [] else rows) ≡ weak_rows m n (if b then Some t else was)
weak_new m n k i t true rows was is stands =
    let maker : k ≡ m = grind (arith, nat_tests) in
    let number : i ≡ n = grind (arith, nat_tests) in
    rw (maker, number) refl
weak_new m n k i t false rows was is stands = stands

strong_above : (k i : ℕ) (rows : List Strong) → AllByRecursion (λ row. row.maker ≡ k → row.n < i) rows → (m n : ℕ) → is_same m n k i ≡ true
    → filter (is_strong m n) rows ≡ []
strong_above k i [] above m n is = refl
strong_above k i (row ∷ rows) above m n is =
    let tail = strong_above k i rows above.1 m n is in
    let below = above.0 in
    grind (arith, nat_tests, tail, below)

weak_above : (k i : ℕ) (rows : List Weak) → AllByRecursion (λ row. row.maker ≡ k → row.n < i) rows → (m n : ℕ) → is_same m n k i ≡ true
    → filter (is_weak m n) rows ≡ []
weak_above k i [] above m n is = refl
weak_above k i (row ∷ rows) above m n is =
    let tail = weak_above k i rows above.1 m n is in
    let below = above.0 in
    grind (arith, nat_tests, tail, below)

pub make_strong_law : (rows : Rows) (e : List Event) (k i : ℕ) (o : ObjId) (es news : List (Name × ObjId)) → rows.strong ≡ map strong_seen es
    → Adds (k, i) o es news → IsAbove k i rows → Stands rows e
    → Stands (record { strong = map strong_seen news; weak = rows.weak }) (MakeStrong k i o.0 ∷ e)
make_strong_law rows e k i o es news seen adds above stands =
    let same : rows.strong ≡ map strong_seen (adds.front ++ adds.back) = seen ∙ ap (map strong_seen) adds.was in
    record {
      strong = λ m n.
          ap (λ (l : List (Name × ObjId)). filter (is_strong m n) (map strong_seen l)) adds.now
          ∙ rows_added strong_seen (is_strong m n) adds.front adds.back ((k, i), o) (is_same m n k i) refl
          (λ is. ap (filter (is_strong m n)) (sym same) ∙ strong_above k i rows.strong (recursion_from_All _ _ above.strong) m n is)
          ∙ strong_new m n k i o (is_same m n k i) (filter (is_strong m n) (map strong_seen (adds.front ++ adds.back))) (strong e m n) refl
          (ap (filter (is_strong m n)) (sym same) ∙ stands.strong m n);
      weak = λ m n. stands.weak m n ∙ ap (weak_rows m n) (sym (quiet m n (after_making m n e) (MakeStrong k i o.0) (weak e m n) (λ p. refl)));
    }

-- what a weak reference names once another or itself is made
weak_target-make : (m n k i o : ℕ) (e : List Event) (b : Bool)
    → unless_cleared (if b then [] else MakeWeak k i o ∷ after_making m n e) (if b then Some o else weak e m n)
    ≡ (if b then Some (Object (record { 0 = o })) else weak_target e m n)
weak_target-make m n k i o e true = refl
weak_target-make m n k i o e false = quiet m n (after_making m n e) (MakeWeak k i o) (weak e m n) (λ p. refl)

pub make_weak_law : (rows : Rows) (e : List Event) (k i o : ℕ) (es news : List (Name × Target))
    → rows.weak ≡ map weak_seen es → Adds (k, i) (Object (record { 0 = o })) es news → IsAbove k i rows → Stands rows e
    → Stands (record { strong = rows.strong; weak = map weak_seen news }) (MakeWeak k i o ∷ e)
make_weak_law rows e k i o es news seen adds above stands =
    let same : rows.weak ≡ map weak_seen (adds.front ++ adds.back) = seen ∙ ap (map weak_seen) adds.was in
    record {
      strong = stands.strong;
      weak = λ m n. rw (weak_target-make m n k i o e (is_same m n k i))
          (ap (λ (l : List (Name × Target)). filter (is_weak m n) (map weak_seen l)) adds.now
          ∙ rows_added weak_seen (is_weak m n) adds.front adds.back ((k, i), Object (record { 0 = o })) (is_same m n k i) refl
          (λ is. ap (filter (is_weak m n)) (sym same) ∙ weak_above k i rows.weak (recursion_from_All _ _ above.weak) m n is)
          ∙ weak_new m n k i (Object (record { 0 = o })) (is_same m n k i) (filter (is_weak m n) (map weak_seen (adds.front ++ adds.back)))
          (weak_target e m n) refl
          (ap (filter (is_weak m n)) (sym same) ∙ stands.weak m n));
    }

-- the row of a reference that is deleted goes, and no other does
strong_left : (m n : ℕ) (b : Bool) (found : Option ObjId) (was : Option ℕ) → option_map (λ o. o.0) found ≡ was
    → option_to_list (option_map (λ o. strong_seen ((m, n), o)) (cond b None found)) ≡ strong_rows m n (if b then None else was)
strong_left m n true found was is = refl
strong_left m n false None was is = ap (strong_rows m n) is
strong_left m n false (Some o) was is = ap (strong_rows m n) is

weak_left : (m n : ℕ) (b : Bool) (found was : Option Target) → found ≡ was
    → option_to_list (option_map (λ t. weak_seen ((m, n), t)) (cond b None found)) ≡ weak_rows m n (if b then None else was)
weak_left m n true found was is = refl
weak_left m n false None was is = ap (weak_rows m n) is
weak_left m n false (Some t) was is = ap (weak_rows m n) is

few_strong : (m n : ℕ) (found : Option ℕ) → length (strong_rows m n found) ≤ 1
few_strong m n None = omega arith
few_strong m n (Some o) = omega arith

few_weak : (m n : ℕ) (found : Option Target) → length (weak_rows m n found) ≤ 1
few_weak m n None = omega arith
few_weak m n (Some t) = omega arith

pub delete_strong_law : (rows : Rows) (e : List Event) (k i : ℕ) (es news : List (Name × ObjId)) → rows.strong ≡ map strong_seen es → Drops (k, i) es news
    → ((q : Name) → IsThereOnce q es → IsThereOnce q news) → Stands rows e
    → Stands (record { strong = map strong_seen news; weak = rows.weak }) (DeleteStrong k i ∷ e)
delete_strong_law rows e k i es news seen drops once stands = record {
  strong = λ m n.
      let was : filter (is_strong m n) (map strong_seen es) ≡ strong_rows m n (strong e m n) = ap (filter (is_strong m n)) (sym seen) ∙ stands.strong m n in
      let few : length (filter (is_strong m n) (map strong_seen es)) ≤ 1 = subst (λ (l : List Strong). length l ≤ 1) (sym was) (few_strong m n (strong e m n))
      in
      rows_named strong_seen (is_strong m n) (m, n) (strong_tests m n) news
      (once (m, n) (once_named strong_seen (is_strong m n) (m, n) (strong_tests m n) es few))
      ∙ ap (λ found. option_to_list (option_map (λ o. strong_seen ((m, n), o)) found)) (drops (m, n))
      ∙ strong_left m n (is_same m n k i) (lookup (same_name (m, n)) es) (strong e m n) (get_strong_law rows e es m n seen stands);
  weak = λ m n. stands.weak m n ∙ ap (weak_rows m n) (sym (quiet m n (after_making m n e) (DeleteStrong k i) (weak e m n) (λ p. refl)));
}

weak_target-delete : (m n k i : ℕ) (e : List Event) (b : Bool)
    → unless_cleared (DeleteWeak k i ∷ after_making m n e) (if b then None else weak e m n) ≡ (if b then None else weak_target e m n)
weak_target-delete m n k i e true = refl
weak_target-delete m n k i e false = quiet m n (after_making m n e) (DeleteWeak k i) (weak e m n) (λ p. refl)

pub delete_weak_law : (rows : Rows) (e : List Event) (k i : ℕ) (es news : List (Name × Target)) → rows.weak ≡ map weak_seen es → Drops (k, i) es news
    → ((q : Name) → IsThereOnce q es → IsThereOnce q news) → Stands rows e
    → Stands (record { strong = rows.strong; weak = map weak_seen news }) (DeleteWeak k i ∷ e)
delete_weak_law rows e k i es news seen drops once stands = record {
  strong = stands.strong;
  weak = λ m n.
      let was : filter (is_weak m n) (map weak_seen es) ≡ weak_rows m n (weak_target e m n) = ap (filter (is_weak m n)) (sym seen) ∙ stands.weak m n in
      let few : length (filter (is_weak m n) (map weak_seen es)) ≤ 1 = subst (λ (l : List Weak). length l ≤ 1) (sym was) (few_weak m n (weak_target e m n)) in
      rw (weak_target-delete m n k i e (is_same m n k i))
      (rows_named weak_seen (is_weak m n) (m, n) (weak_tests m n) news (once (m, n) (once_named weak_seen (is_weak m n) (m, n) (weak_tests m n) es few))
      ∙ ap (λ found. option_to_list (option_map (λ t. weak_seen ((m, n), t)) found)) (drops (m, n))
      ∙ weak_left m n (is_same m n k i) (lookup (same_name (m, n)) es) (weak_target e m n) (get_weak_law rows e es m n seen stands));
}

-- a number above all of the maker's is no name yet
pub strong_absent : (k i : ℕ) (es : List (Name × ObjId)) → All (λ row. row.maker ≡ k → row.n < i) (map strong_seen es) → lookup (same_name (k, i)) es ≡ None
strong_absent k i es above =
    let own : is_same k i k i ≡ true = grind (arith, nat_tests) in
    let none = strong_above k i (map strong_seen es) (recursion_from_All _ _ above) k i own in
    no_value (λ o. strong_seen ((k, i), o)) (lookup (same_name (k, i)) es)
    (sym (first_named strong_seen (is_strong k i) (k, i) (strong_tests k i) es) ∙ ap first none)

pub weak_absent : (k i : ℕ) (es : List (Name × Target)) → All (λ row. row.maker ≡ k → row.n < i) (map weak_seen es) → lookup (same_name (k, i)) es ≡ None
weak_absent k i es above =
    let own : is_same k i k i ≡ true = grind (arith, nat_tests) in
    let none = weak_above k i (map weak_seen es) (recursion_from_All _ _ above) k i own in
    no_value (λ t. weak_seen ((k, i), t)) (lookup (same_name (k, i)) es) (sym (first_named weak_seen (is_weak k i) (k, i) (weak_tests k i) es) ∙ ap first none)

-- what a reference names once each of the objects was cleared
abbrev pub cleared_by : List ℕ → Option Target → Option Target
cleared_by objects None = None
cleared_by objects (Some Cleared) = Some Cleared
cleared_by objects (Some (Object o)) = Some (if list_any (λ p. p == o.0) objects then Cleared else Object o)

none_cleared : (found : Option Target) → found ≡ cleared_by [] found
none_cleared None = refl
none_cleared (Some Cleared) = refl
none_cleared (Some (Object o)) = refl

clear_some : (p o : ℕ) (a : Bool)
    → Some (if p == o || a then Cleared else Object (record { 0 = o })) ≡ cleared_by (p ∷ []) (Some (if a then Cleared else Object (record { 0 = o })))
clear_some p o true = elim (p == o) as (λ b. Some (if b || true then Cleared else Object (record { 0 = o })) ≡ Some Cleared) [ true ↦ refl | false ↦ refl ]
clear_some p o false = refl

clear_one : (later : List Event) (p : ℕ) (found : Option ℕ) → unless_cleared (Clear p ∷ later) found ≡ cleared_by (p ∷ []) (unless_cleared later found)
clear_one later p None = refl
clear_one later p (Some o) = clear_some p o (list_any (clears o) later)

clear_object : (p : ℕ) (objects : List ℕ) (o : ObjId) (a : Bool)
    → cleared_by (p ∷ []) (Some (if a then Cleared else Object o)) ≡ Some (if (p == o.0) || a then Cleared else Object o)
clear_object p objects o true = elim (p == o.0) as (λ b. Some Cleared ≡ Some (if b || true then Cleared else Object o)) [ true ↦ refl | false ↦ refl ]
clear_object p objects o false = refl

clear_more : (p : ℕ) (objects : List ℕ) (found : Option Target) → cleared_by (p ∷ []) (cleared_by objects found) ≡ cleared_by (p ∷ objects) found
clear_more p objects None = refl
clear_more p objects (Some Cleared) = refl
clear_more p objects (Some (Object o)) = clear_object p objects o (list_any (λ q. q == o.0) objects)

pub weak_target-clear : (m n : ℕ) (objects : List ℕ) (e : List Event)
    → weak_target (map (λ o. Clear o) objects ++ e) m n ≡ cleared_by objects (weak_target e m n)
weak_target-clear m n [] e = none_cleared (weak_target e m n)
weak_target-clear m n (o ∷ objects) e =
    let older = map (λ p. Clear p) objects ++ e in
    clear_one (after_making m n older) o (weak older m n)
    ∙ (ap (cleared_by (o ∷ [])) (weak_target-clear m n objects e) ∙ clear_more o objects (weak_target e m n))

pub strong-clear : (m n : ℕ) (objects : List ℕ) (e : List Event) → strong (map (λ o. Clear o) objects ++ e) m n ≡ strong e m n
strong-clear m n [] e = refl
strong-clear m n (o ∷ objects) e = strong-clear m n objects e

-- what the test says at the object that a reference names is what the list says
abbrev Listed : (ObjId → Bool → Type 0) → List ℕ → Option Target → Type 0
Listed test objects found = (o : ℕ) (answer : Bool) → found ≡ Some (Object (record { 0 = o })) → test (record { 0 = o }) answer
    → answer ≡ list_any (λ p. p == o) objects

target_cleared : (test : ObjId → Bool → Type 0) (objects : List ℕ) (t now : Target) → Listed test objects (Some t) → IsCleared test t now
    → cleared_by objects (Some t) ≡ Some now
target_cleared test objects Cleared now listed cleared = ap Some (sym cleared)
target_cleared test objects (Object o) now listed cleared =
    let says : cleared.0 ≡ list_any (λ p. p == o.0) objects = listed o.0 cleared.0 refl cleared.1.0 in
    ap (λ b. Some (if b then Cleared else Object o)) (sym says) ∙ ap Some (sym cleared.1.1)

abbrev head_target : List Weak → Option Target
head_target [] = None
head_target (row ∷ rows) = Some row.target

abbrev tail_of : List Weak → List Weak
tail_of [] = []
tail_of (row ∷ rows) = rows

one_cleared : (test : ObjId → Bool → Type 0) (m n : ℕ) (objects : List ℕ) (row new : Name × Target) (rest rest' : List Weak) (found : Option Target)
    → is_weak m n (weak_seen row) ≡ true → new.0 ≡ row.0 → IsCleared test row.1 new.1 → Listed test objects found
    → (rest ≡ [] → rest' ≡ []) → weak_seen row ∷ rest ≡ weak_rows m n found → weak_seen new ∷ rest' ≡ weak_rows m n (cleared_by objects found)
one_cleared test m n objects row new rest rest' None mine named cleared listed others stands = cc
one_cleared test m n objects row new rest rest' (Some t) mine named cleared listed others stands =
    let none : rest' ≡ [] = others (ap tail_of stands) in
    let names : Some row.1 ≡ Some t = ap head_target stands in
    let same : row.1 ≡ t = cc in
    let own : Listed test objects (Some row.1) = λ o answer is. listed o answer (ap Some (sym same) ∙ is) in
    let now : cleared_by objects (Some t) ≡ Some new.1 = ap (λ u. cleared_by objects (Some u)) (sym same) ∙ target_cleared test objects row.1 new.1 own cleared
    in
    let its_maker : new.0.0 ≡ m = ap (λ k. k.0) named ∙ grind (arith, nat_tests) in
    let its_number : new.0.1 ≡ n = ap (λ k. k.1) named ∙ grind (arith, nat_tests) in
    rw (now, none, its_maker, its_number) refl

head_cleared : (test : ObjId → Bool → Type 0) (m n : ℕ) (objects : List ℕ) (row new : Name × Target) (rest rest' : List Weak) (found : Option Target) (b : Bool)
    → is_weak m n (weak_seen row) ≡ b → new.0 ≡ row.0 → IsCleared test row.1 new.1 → Listed test objects found
    → ((was : Option Target) → Listed test objects was → rest ≡ weak_rows m n was → rest' ≡ weak_rows m n (cleared_by objects was))
    → (if b then weak_seen row ∷ rest else rest) ≡ weak_rows m n found → (if b then weak_seen new ∷ rest' else rest') ≡ weak_rows m n (cleared_by objects found)
head_cleared test m n objects row new rest rest' found true is named cleared listed tail stands =
    one_cleared test m n objects row new rest rest' found is named cleared listed (tail None (λ o answer none. cc)) stands
head_cleared test m n objects row new rest rest' found false is named cleared listed tail stands = tail found listed stands

-- the rows of one weak reference, cleared
rows_cleared : (test : ObjId → Bool → Type 0) (m n : ℕ) (objects : List ℕ) (olds news : List (Name × Target)) (found : Option Target)
    → Listed test objects found
    → EachCleared test olds news → filter (is_weak m n) (map weak_seen olds) ≡ weak_rows m n found
    → filter (is_weak m n) (map weak_seen news) ≡ weak_rows m n (cleared_by objects found)
rows_cleared test m n objects [] news None listed cleared stands = rw cleared refl
rows_cleared test m n objects [] news (Some t) listed cleared stands = cc
rows_cleared test m n objects (row ∷ olds) [] found listed cleared stands = absurd cleared
rows_cleared test m n objects (row ∷ olds) (new ∷ news) found listed cleared stands =
    let news_rest : List Weak = filter (is_weak m n) (map weak_seen news) in
    let P : Bool → Type 0 = λ b. (if b then weak_seen new ∷ news_rest else news_rest) ≡ weak_rows m n (cleared_by objects found) in
    let same : is_weak m n (weak_seen new) ≡ is_weak m n (weak_seen row) = rw cleared.0.0 refl in
    subst P (sym same)
    (head_cleared test m n objects row new (filter (is_weak m n) (map weak_seen olds)) news_rest found (is_weak m n (weak_seen row)) refl cleared.0.0
    cleared.0.1 listed
    (λ was own is. rows_cleared test m n objects olds news was own cleared.1 is) stands)

pub clear_law : (test : ObjId → Bool → Type 0) (rows : Rows) (olds news : List (Name × Target)) (e : List Event) (objects : List ℕ)
    → rows.weak ≡ map weak_seen olds → EachCleared test olds news
    → IsListOf test e objects → Stands rows e
    → Stands (record { strong = rows.strong; weak = map weak_seen news }) (map (λ o. Clear o) objects ++ e)
clear_law test rows olds news e objects seen cleared listed stands = record {
  strong = λ m n. rw (strong-clear m n objects e) (stands.strong m n);
  weak = λ m n. rw (weak_target-clear m n objects e)
      (rows_cleared test m n objects olds news (weak_target e m n) (λ o answer. listed m n o answer) cleared (rw (sym seen) (stands.weak m n)));
}
