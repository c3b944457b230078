-- What the look-ups answer where the rows stand.
use Rattle.std.proofs.Common.{◌≡◌, ℕ, Bool, true, false, List, [], ◌∷◌, Option, Some, None, refl, ◌∙◌, ap, sym, subst, arith, inl, inr, eqb-true}
use Rattle.std.specs.Prelude.{◌==◌, ◌||◌, if◌then◌else◌, IfSome, filter, find, map}
use Rattle.std.specs.List.{list_any}
use Rattle.std.specs.Map.{lookup}
use Rattle.std.specs.Option.{option_map}
use Rattle.std.proofs.lemmas.Bool.Decides.{nat_tests}
use Rattle.std.specs.Cmp.{both_ways}
use Rattle.jg_words.specs.declared.object.ObjId.{ObjId}
use Rattle.jg_lists.specs.ByMaker.{Name, same_name}
use Rattle.jg_table_globals.specs.declared.target.Target.{Target}
use Rattle.jg_table_globals.specs.History.{Event, MakeStrong, MakeWeak, DeleteStrong, DeleteWeak, Clear, is_same, strong, weak_target, is_now, made_and_held, holds_object}
use Rattle.jg_table_globals.specs.Rows.{Rows, Strong, is_strong, is_weak, IsAbove}
use Rattle.jg_table_globals.specs.Seen.{strong_seen, weak_seen}
use Rattle.jg_table_globals.specs.Standing.{Stands, strong_rows, weak_rows}
use Rattle.jg_lists.proofs.Found.{found_in, is_found}
use Rattle.jg_lists.proofs.Named.{first_named}
use Rattle.jg_lists.proofs.Lists.{first, list_any-map, Member, any_member, member_filter, any_of_filter}

pub strong_tests : (m n : ℕ) (e : Name × ObjId) → is_strong m n (strong_seen e) ≡ same_name (m, n) e.0
strong_tests m n e = grind (arith, nat_tests)

pub weak_tests : (m n : ℕ) (e : Name × Target) → is_weak m n (weak_seen e) ≡ same_name (m, n) e.0
weak_tests m n e = grind (arith, nat_tests)

pub no_value : {X Y : Type 0} (f : X → Y) (found : Option X) → option_map f found ≡ None → found ≡ None
no_value f None none = refl
no_value f (Some x) none = cc

object_of_first : (m n : ℕ) (found : Option ObjId) (was : Option ℕ) → option_map (λ o. strong_seen ((m, n), o)) found ≡ first (strong_rows m n was)
    → option_map (λ o. o.0) found ≡ was
object_of_first m n None None is = refl
object_of_first m n None (Some p) is = cc
object_of_first m n (Some o) None is = cc
object_of_first m n (Some o) (Some p) is = ap (option_map (λ row. row.object)) is

pub get_strong_law : (rows : Rows) (e : List Event) (es : List (Name × ObjId)) (m n : ℕ) → rows.strong ≡ map strong_seen es → Stands rows e
    → option_map (λ o. o.0) (lookup (same_name (m, n)) es) ≡ strong e m n
get_strong_law rows e es m n seen stands =
    object_of_first m n (lookup (same_name (m, n)) es) (strong e m n)
    (sym (first_named strong_seen (is_strong m n) (m, n) (strong_tests m n) es) ∙ ap (λ l. first (filter (is_strong m n) l)) (sym seen)
    ∙ ap first (stands.strong m n))

target_of_first : (m n : ℕ) (found was : Option Target) → option_map (λ t. weak_seen ((m, n), t)) found ≡ first (weak_rows m n was) → found ≡ was
target_of_first m n None None is = refl
target_of_first m n None (Some p) is = cc
target_of_first m n (Some t) None is = cc
target_of_first m n (Some t) (Some p) is = ap (option_map (λ row. row.target)) is

pub get_weak_law : (rows : Rows) (e : List Event) (es : List (Name × Target)) (m n : ℕ) → rows.weak ≡ map weak_seen es → Stands rows e
    → lookup (same_name (m, n)) es ≡ weak_target e m n
get_weak_law rows e es m n seen stands =
    target_of_first m n (lookup (same_name (m, n)) es) (weak_target e m n)
    (sym (first_named weak_seen (is_weak m n) (m, n) (weak_tests m n) es) ∙ ap (λ l. first (filter (is_weak m n) l)) (sym seen) ∙ ap first (stands.weak m n))

-- a reference in being was made
made_here : (all e : List Event) (m n o k i p : ℕ) (b : Bool) → is_same m n k i ≡ b → strong all m n ≡ Some o
    → (strong e m n ≡ Some o → list_any (made_and_held all o) e ≡ true)
    → (if b then Some p else strong e m n) ≡ Some o → (is_now o (strong all k i) || list_any (made_and_held all o) e) ≡ true
made_here all e m n o k i p true is now older here =
    let maker : k ≡ m = grind (arith, nat_tests) in
    let number : i ≡ n = grind (arith, nat_tests) in
    rw (maker, number, now) (grind (arith, nat_tests))
made_here all e m n o k i p false is now older here =
    rw (older here) (elim (is_now o (strong all k i)) as (λ b. (b || true) ≡ true) [ true ↦ refl | false ↦ refl ])

deleted_here : (e : List Event) (m n o : ℕ) (b : Bool) → if◌then◌else◌ {A = Option ℕ} b None (strong e m n) ≡ Some o → strong e m n ≡ Some o
deleted_here e m n o true here = cc
deleted_here e m n o false here = here

pub was_made : (all e : List Event) (m n o : ℕ) → strong all m n ≡ Some o → strong e m n ≡ Some o → list_any (made_and_held all o) e ≡ true
was_made all [] m n o now here = cc
was_made all (MakeStrong k i p ∷ e) m n o now here = made_here all e m n o k i p (is_same m n k i) refl now (was_made all e m n o now) here
was_made all (MakeWeak k i p ∷ e) m n o now here = was_made all e m n o now here
was_made all (DeleteStrong k i ∷ e) m n o now here = was_made all e m n o now (deleted_here e m n o (is_same m n k i) here)
was_made all (DeleteWeak k i ∷ e) m n o now here = was_made all e m n o now here
was_made all (Clear p ∷ e) m n o now here = was_made all e m n o now here

now_is : (o : ℕ) (found : Option ℕ) → is_now o found ≡ true → found ≡ Some o
now_is o None is = cc
now_is o (Some p) is =
    let same : p ≡ o = eqb-true p o is in
    ap Some same

held_here : (all e : List Event) (o k i : ℕ) (b : Bool) → is_now o (strong all k i) ≡ b
    → (list_any (made_and_held all o) e ≡ true → (m : ℕ) × ((n : ℕ) × (strong all m n ≡ Some o)))
    → (b || list_any (made_and_held all o) e) ≡ true → (m : ℕ) × ((n : ℕ) × (strong all m n ≡ Some o))
held_here all e o k i true is older some = (k, (i, now_is o (strong all k i) is))
held_here all e o k i false is older some = older some

-- a held object has a reference in being
pub has_reference : (all e : List Event) (o : ℕ) → list_any (made_and_held all o) e ≡ true → (m : ℕ) × ((n : ℕ) × (strong all m n ≡ Some o))
has_reference all [] o some = cc
has_reference all (MakeStrong k i p ∷ e) o some = held_here all e o k i (is_now o (strong all k i)) refl (has_reference all e o) some
has_reference all (MakeWeak k i p ∷ e) o some = has_reference all e o some
has_reference all (DeleteStrong k i ∷ e) o some = has_reference all e o some
has_reference all (DeleteWeak k i ∷ e) o some = has_reference all e o some
has_reference all (Clear p ∷ e) o some = has_reference all e o some

pub strong_of_member : (m n o : ℕ) (row : Strong) (found : Option ℕ) → Member row (strong_rows m n found) → row.object ≡ o → found ≡ Some o
strong_of_member m n o row None there is = absurd there
strong_of_member m n o row (Some p) there is = elim there [ inl same ↦ ap (λ r. Some r.object) (sym same) ∙ ap Some is | inr other ↦ absurd other ]

any_of_strong : (m n o : ℕ) (found : Option ℕ) → found ≡ Some o → list_any (λ row. row.object == o) (strong_rows m n found) ≡ true
any_of_strong m n o None is = cc
any_of_strong m n o (Some p) is =
    let same : p ≡ o = cc in
    grind (arith, nat_tests)

-- a row of the object is that of a reference in being, which names it
row_named : (rows : Rows) (e : List Event) (o : ℕ) (row : Strong) → Stands rows e → Member row rows.strong → (row.object == o) ≡ true
    → strong e row.maker row.n ≡ Some o
row_named rows e o row stands there is =
    let mine : is_strong row.maker row.n row ≡ true = grind (arith, nat_tests) in
    let P : List Strong → Type 0 = λ l. Member row l in
    let kept = subst P (stands.strong row.maker row.n) (member_filter (is_strong row.maker row.n) row rows.strong there mine) in
    strong_of_member row.maker row.n o row (strong e row.maker row.n) kept (eqb-true row.object o is)

row_holds : (rows : Rows) (e : List Event) (o : ℕ) → Stands rows e → list_any (λ row. row.object == o) rows.strong ≡ true → holds_object e o ≡ true
row_holds rows e o stands is =
    let found = any_member (λ row. row.object == o) rows.strong is in
    let row : Strong = found.0 in
    let now = row_named rows e o row stands found.1.0 found.1.1 in
    was_made e e row.maker row.n o now now

held_row : (rows : Rows) (e : List Event) (o : ℕ) → Stands rows e → holds_object e o ≡ true → list_any (λ row. row.object == o) rows.strong ≡ true
held_row rows e o stands is =
    let found = has_reference e e o is in
    let here = any_of_strong found.0 found.1.0 o (strong e found.0 found.1.0) found.1.1 in
    any_of_filter (λ row. row.object == o) (is_strong found.0 found.1.0) rows.strong (rw (stands.strong found.0 found.1.0) here)

pub holds_law : (rows : Rows) (e : List Event) (es : List (Name × ObjId)) (o : ℕ) → rows.strong ≡ map strong_seen es → Stands rows e
    → list_any (λ entry. entry.1.0 == o) es ≡ holds_object e o
holds_law rows e es o seen stands =
    list_any-map strong_seen (λ entry. entry.1.0 == o) (λ row. row.object == o) (λ entry. refl) es
    ∙ (ap (list_any (λ row. row.object == o)) (sym seen)
    ∙ both_ways (list_any (λ row. row.object == o) rows.strong) (holds_object e o) (row_holds rows e o stands) (held_row rows e o stands))

-- the reference that is found names the object
pub named_law : (rows : Rows) (e : List Event) (es : List (Name × ObjId)) (o : ℕ) → rows.strong ≡ map strong_seen es → Stands rows e
    → IfSome (option_map (λ (entry : Name × ObjId). entry.0) (find (λ entry. entry.1.0 == o) es)) (λ name. strong e name.0 name.1 ≡ Some o)
named_law rows e es o seen stands =
    let P : Option Name → Type 0 = λ found. IfSome found (λ name. strong e name.0 name.1 ≡ Some o) in
    subst P (sym (found_in {R = Name} strong_seen (λ row. row.object == o) (λ (row : Strong). (row.maker, row.n)) es
    ∙ ap (λ l. option_map {U = Name} (λ (row : Strong). (row.maker, row.n)) (find (λ row. row.object == o) l))
    (sym seen)))
    (by (find (λ row. row.object == o) rows.strong) (is_found (λ row. row.object == o) rows.strong))
  where
    by : (found : Option Strong) → IfSome found (λ row. Member row rows.strong × ((row.object == o) ≡ true))
        → IfSome (option_map {U = Name} (λ (row : Strong). (row.maker, row.n)) found)
        (λ name. strong e name.0 name.1 ≡ Some o)
    by None all = tt
    by (Some row) all = row_named rows e o row stands all.0 all.1

-- a value is seen as its view
pub reopened : (a b : Rows) (e : List Event) → a ≡ b → Stands b e → Stands a e
reopened a b e is stands =
    let P : Rows → Type 0 = λ v. Stands v e in
    subst P (sym is) stands

pub above_in : (a b : Rows) (k i : ℕ) → a ≡ b → IsAbove k i b → IsAbove k i a
above_in a b k i is above =
    let P : Rows → Type 0 = λ v. IsAbove k i v in
    subst P (sym is) above
