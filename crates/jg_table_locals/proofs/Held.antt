-- Which objects live locals hold.
use Rattle.std.proofs.Common.{◌≡◌, ℕ, Bool, true, false, List, [], ◌∷◌, ◌++◌, Option, Some, None, refl, ◌∙◌, ap, sym, subst, arith, inl, inr, eqb-true}
use Rattle.std.specs.Prelude.{◌==◌, IsTrue, ◌↔◌}
use Rattle.std.specs.List.{list_any}
use Rattle.std.proofs.lemmas.Bool.Decides.{nat_tests}
use Rattle.std.specs.Cmp.{both_ways}
use Rattle.jg_table_locals.specs.History.{Act, Start, Make, Push, Ensure, Enter, Delete, Pop, Leave, End, Event, acts_of, Local, live_local, object_of, live, is_object, makes_live, holds_object}
use Rattle.jg_table_locals.specs.Rows.{LocalRow}
use Rattle.jg_table_locals.specs.Rows.{Rows, is_local}
use Rattle.jg_table_locals.specs.Standing.{rows_of_local, Stands}
use Rattle.jg_table_locals.specs.Laws.{HeldMeans}
use Rattle.jg_lists.proofs.Lists.{Member, member_filter, any_member, any_of_filter}
use Rattle.jg_table_locals.proofs.Lives.{live_was_made}

pub live_of_member : (t n o : ℕ) (row : LocalRow) (found : Option Local) → Member row (rows_of_local t found) → row.object ≡ o → object_of found ≡ Some o
live_of_member t n o row None m is = absurd m
live_of_member t n o row (Some l) m is = elim m [ inl same ↦ ap (λ r. Some r.object) (sym same) ∙ ap Some is | inr other ↦ absurd other ]

any_of_live : (t o : ℕ) (found : Option Local) → object_of found ≡ Some o → list_any (λ row. row.object == o) (rows_of_local t found) ≡ true
any_of_live t o None is = cc
any_of_live t o (Some l) is =
    let same : l.object ≡ o = cc in
    grind (arith, nat_tests)

rows_hold : (rows : Rows) (e : List Event) (o : ℕ) → Stands rows e
    → IsTrue (list_any (λ row. row.object == o) rows.locals) ↔ ((t : ℕ) × (n : ℕ) × (live n (acts_of t e) ≡ Some o))
rows_hold rows e o stands = (
  (λ is.
      let found = any_member (λ row. row.object == o) rows.locals is in
      let row : LocalRow = found.0 in
      let mine : is_local row.tid row.n row ≡ true = grind (arith, nat_tests) in
      let kept = member_filter (is_local row.tid row.n) row rows.locals found.1.0 mine in
      let P : List LocalRow → Type 0 = λ l. Member row l in
      let there = subst P (stands.locals row.tid row.n) kept in
      let named : row.object ≡ o = eqb-true row.object o found.1.1 in
      (row.tid, row.n, live_of_member row.tid row.n o row (live_local row.n (acts_of row.tid e)) there named)),
  (λ some.
      let t = some.0 in
      let n = some.1 in
      let here = any_of_live t o (live_local n (acts_of t e)) some.2 in
      any_of_filter (λ row. row.object == o) (is_local t n) rows.locals (rw (stands.locals t n) here)),
)

same_act : (q : Event → Bool) (t : ℕ) (a : Act) (ev : Event) (e : List Event) (later before : List Act)
    → ev.act ∷ acts_of t e ≡ later ++ a ∷ before → ev.tid ≡ t → ((v : Event) → v.tid ≡ t → v.act ≡ a → q v ≡ true)
    → ((rest : List Act) → acts_of t e ≡ rest ++ a ∷ before → list_any q e ≡ true) → list_any q (ev ∷ e) ≡ true
same_act q t a ev e [] before is mine here earlier =
    let same : ev.act ≡ a = cc in
    let found = here ev mine same in
    rw found refl
same_act q t a ev e (b ∷ later) before is mine here earlier =
    let rest : acts_of t e ≡ later ++ a ∷ before = cc in
    let found = earlier later rest in
    grind (arith, nat_tests)

none_of : (a : Act) (later before : List Act) → [] ≡ later ++ a ∷ before → ⊥
none_of a [] before is = cc
none_of a (b ∷ later) before is = cc

any_act_at : (q : Event → Bool) (t : ℕ) (a : Act) (ev : Event) (e : List Event) (later before : List Act) (mine : Bool) → (ev.tid == t) ≡ mine
    → acts_of t (ev ∷ e) ≡ later ++ a ∷ before → ((v : Event) → v.tid ≡ t → v.act ≡ a → q v ≡ true)
    → ((rest : List Act) → acts_of t e ≡ rest ++ a ∷ before → list_any q e ≡ true) → list_any q (ev ∷ e) ≡ true
any_act_at q t a ev e later before true mine is here earlier =
    same_act q t a ev e later before (rw mine at is) (eqb-true ev.tid t mine) here earlier
any_act_at q t a ev e later before false mine is here earlier =
    let found = earlier later (rw mine at is) in
    grind (arith, nat_tests)

-- an act of the thread is an event's
any_act : (q : Event → Bool) (t : ℕ) (a : Act) (e : List Event) (later before : List Act) → acts_of t e ≡ later ++ a ∷ before
    → ((v : Event) → v.tid ≡ t → v.act ≡ a → q v ≡ true) → list_any q e ≡ true
any_act q t a [] later before is here = absurd (none_of a later before is)
any_act q t a (ev ∷ e) later before is here =
    any_act_at q t a ev e later before (ev.tid == t) refl is here (λ rest same. any_act q t a e rest before same here)

found_live : (o : ℕ) (found : Option ℕ) → is_object o found ≡ true → found ≡ Some o
found_live o None is = cc
found_live o (Some p) is = ap Some (eqb-true p o is)

live_made : (o t : ℕ) (e : List Event) (a : Act) → makes_live o (acts_of t e) a ≡ true → (u : ℕ) × (n : ℕ) × (live n (acts_of u e) ≡ Some o)
live_made o t e (Make n p) is = (t, n, found_live o (live n (acts_of t e)) is)
live_made o t e Start is = cc
live_made o t e End is = cc
live_made o t e (Push room) is = cc
live_made o t e (Ensure c) is = cc
live_made o t e Enter is = cc
live_made o t e (Delete n) is = cc
live_made o t e Pop is = cc
live_made o t e Leave is = cc

makes_it : (o t n : ℕ) (e : List Event) (v : Event) → live n (acts_of t e) ≡ Some o → v.tid ≡ t → v.act ≡ Make n o → makes_live o (acts_of v.tid e) v.act ≡ true
makes_it o t n e v is mine made = rw (mine, made, is) (grind (arith, nat_tests))

pub held_means : HeldMeans
held_means e o = (
  (λ is.
      let found = any_member (λ ev. makes_live o (acts_of ev.tid e) ev.act) e is in
      live_made o found.0.tid e found.0.act found.1.1),
  (λ some.
      let made = live_was_made some.1 o (acts_of some.0 e) some.2 in
      any_act (λ ev. makes_live o (acts_of ev.tid e) ev.act) some.0 (Make some.1 o) e made.0 made.1 made.2
      (λ v mine act. makes_it o some.0 some.1 e v some.2 mine act)),
)

-- the rows tell which objects are held
pub holds_law : (rows : Rows) (e : List Event) (o : ℕ) → Stands rows e → list_any (λ row. row.object == o) rows.locals ≡ holds_object e o
holds_law rows e o stands =
    let by_rows = rows_hold rows e o stands in
    let by_events = held_means e o in
    both_ways _ _ (λ is. by_events.1 (by_rows.0 is)) (λ is. by_rows.1 (by_events.0 is))
