-- Which objects are pending, by the rows.
use Rattle.std.proofs.Common.{◌≡◌, ℕ, Bool, true, false, List, [], ◌∷◌, Option, Some, None, is_some, inl, inr, refl, ◌∙◌, ap, sym, subst, arith, eqb-true}
use Rattle.std.specs.Prelude.{◌==◌, IfSome, find, option_map}
use Rattle.std.specs.List.{list_any}
use Rattle.std.specs.Cmp.{eq_by_cmp_equiv, nat_cmp_total}
use Rattle.std.specs.Ordering.{nat_cmp, eq_by_cmp}
use Rattle.std.specs.BTreeMap.{is_at}
use Rattle.std.specs.Map.{lookup, keys_of, values_of}
use Rattle.std.proofs.lemmas.Bool.Decides.{nat_tests}
use Rattle.std.proofs.lemmas.List.Folds.{list_any_none}
use Rattle.std.proofs.lemmas.Map.Keys.{IsDistinct-head, IsDistinct-tail}
use Rattle.std.proofs.lemmas.Map.Views.{All-values_from_lookup}
use Rattle.jg_lists.proofs.Found.{number_where, is_found, any_found}
use Rattle.jg_lists.proofs.Lists.{Member, at_member, list_any-map}
use Rattle.jg_lists.proofs.Marks.{marks_stay}
use Rattle.jg_lists.specs.ByThread.{IsOnce}
use Rattle.jg_table_threads.specs.History.{Event, acts_of, pending, is_object, is_pending}
use Rattle.jg_table_threads.specs.Rows.{Row, row_or_none}
use Rattle.jg_table_threads.specs.Standing.{row_after, Stands}

some_at : (q : Event → Bool) (ev : Event) (e : List Event) (b : Bool) → q ev ≡ b → list_any q (ev ∷ e) ≡ true
    → (list_any q e ≡ true → (v : Event) × (q v ≡ true)) → (v : Event) × (q v ≡ true)
some_at q ev e true here is later = (ev, here)
some_at q ev e false here is later = later (rw here at is)

pub some_event : (q : Event → Bool) (e : List Event) → list_any q e ≡ true → (v : Event) × (q v ≡ true)
some_event q [] is = cc
some_event q (ev ∷ e) is = some_at q ev e (q ev) refl is (λ h. some_event q e h)

event_at : (q : Event → Bool) (t : ℕ) (ev : Event) (e : List Event) (p : Option ℕ) (mine : Bool) → (ev.tid == t) ≡ mine → pending (acts_of t (ev ∷ e)) ≡ p
    → ((v : Event) → v.tid ≡ t → q v ≡ true) → (pending (acts_of t e) ≡ p → list_any q e ≡ true) → list_any q (ev ∷ e) ≡ true
event_at q t ev e p true mine is each earlier =
    let here : q ev ≡ true = each ev (eqb-true ev.tid t mine) in
    rw here refl
event_at q t ev e p false mine is each earlier =
    let found = earlier (rw mine at is) in
    grind (arith, nat_tests)

-- a thread with a pending exception did something
event_of : (q : Event → Bool) (t o : ℕ) (e : List Event) → pending (acts_of t e) ≡ Some o → ((v : Event) → v.tid ≡ t → q v ≡ true) → list_any q e ≡ true
event_of q t o [] is each = cc
event_of q t o (ev ∷ e) is each = event_at q t ev e (Some o) (ev.tid == t) refl is each (λ h. event_of q t o e h each)

pub object_is : (o : ℕ) (found : Option ℕ) → is_object o found ≡ true → found ≡ Some o
object_is o None is = cc
object_is o (Some p) is = ap Some (eqb-true p o is)

pub is_pending_by : (e : List Event) (o t : ℕ) → is_object o (pending (acts_of t e)) ≡ true → is_pending e o ≡ true
is_pending_by e o t is =
    let P : ℕ → Type 0 = λ u. is_object o (pending (acts_of u e)) ≡ true in
    event_of (λ ev. is_object o (pending (acts_of ev.tid e))) t o e (object_is o (pending (acts_of t e)) is) (λ v mine. subst P (sym mine) is)

-- what a thread's row says is pending is what it did
pending_in : (e : List Event) (o t : ℕ) (found : Option Row) → row_or_none found ≡ row_after e t
    → is_object o (row_or_none found).pending ≡ is_object o (pending (acts_of t e))
pending_in e o t found is = ap (λ (row : Row). is_object o row.pending) is

row_at : (e : List Event) (o t : ℕ) (b : Bool) (found : Option Row) → row_or_none found ≡ row_after e t → is_object o (pending (acts_of t e)) ≡ b → b ≡ false
    → IfSome found (λ row. is_object o row.pending ≡ false)
row_at e o t b None is here none = tt
row_at e o t b (Some row) is here none = pending_in e o t (Some row) is ∙ here ∙ none

no_row_at : (rows : List (ℕ × Row)) (e : List Event) (o t : ℕ) (b : Bool) → Stands rows e → is_pending e o ≡ false → is_object o (pending (acts_of t e)) ≡ b
    → b ≡ false
no_row_at rows e o t true stands none here = sym (is_pending_by e o t here) ∙ none
no_row_at rows e o t false stands none here = refl

value_at : (p : Row → Bool) (test : ℕ → Bool) (entry : ℕ × Row) (rows : List (ℕ × Row)) (row : Row) (b : Bool) → test entry.0 ≡ b
    → lookup test (entry ∷ rows) ≡ Some row → p row ≡ true
    → (lookup test rows ≡ Some row → list_any p (values_of rows) ≡ true) → list_any p (values_of (entry ∷ rows)) ≡ true
value_at p test entry rows row true mine is here later =
    let same : Some entry.1 ≡ Some row = rw mine at is in
    let found : p entry.1 ≡ true = cc in
    rw found refl
value_at p test entry rows row false mine is here later =
    let found = later (rw mine at is) in
    grind (arith, nat_tests)

value_there : (p : Row → Bool) (test : ℕ → Bool) (rows : List (ℕ × Row)) (row : Row) → lookup test rows ≡ Some row → p row ≡ true
    → list_any p (values_of rows) ≡ true
value_there p test [] row is here = cc
value_there p test (entry ∷ rows) row is here = value_at p test entry rows row (test entry.0) refl is here (λ h. value_there p test rows row h here)

some_value : (rows : List (ℕ × Row)) (e : List Event) (o t : ℕ) (found : Option Row) → lookup (is_at (nat_cmp t)) rows ≡ found
    → row_or_none found ≡ row_after e t
    → is_object o (pending (acts_of t e)) ≡ true → list_any (λ row. is_object o row.pending) (values_of rows) ≡ true
some_value rows e o t None looked is here =
    let none = pending_in e o t None is in
    cc
some_value rows e o t (Some row) looked is here =
    value_there (λ row. is_object o row.pending) (is_at (nat_cmp t)) rows row looked (pending_in e o t (Some row) is ∙ here)

by_cases : (rows : List (ℕ × Row)) (e : List Event) (o : ℕ) (b : Bool) → IsOnce rows → Stands rows e → is_pending e o ≡ b
    → list_any (λ row. is_object o row.pending) (values_of rows) ≡ b
by_cases rows e o true once stands is =
    let found = some_event (λ ev. is_object o (pending (acts_of ev.tid e))) e is in
    some_value rows e o found.0.tid (lookup (is_at (nat_cmp found.0.tid)) rows) refl (stands.threads found.0.tid) found.1
by_cases rows e o false once stands is =
    list_any_none (λ row. is_object o row.pending) (values_of rows)
    (All-values_from_lookup (eq_by_cmp_equiv nat_cmp_total) (λ row. is_object o row.pending ≡ false) rows once
    (λ t. row_at e o t (is_object o (pending (acts_of t e))) (lookup (is_at (nat_cmp t)) rows) (stands.threads t) refl (no_row_at rows e o t _ stands is refl)))

-- the rows tell which objects are pending
pub pending_law : (rows : List (ℕ × Row)) (e : List Event) (o : ℕ) → IsOnce rows → Stands rows e
    → list_any (λ row. is_object o row.pending) (values_of rows) ≡ is_pending e o
pending_law rows e o once stands = by_cases rows e o (is_pending e o) once stands refl

-- ---- in which thread

key_member : (entry : ℕ × Row) (rows : List (ℕ × Row)) → Member entry rows → Member entry.0 (keys_of rows)
key_member entry [] there = there
key_member entry (row ∷ rows) (inl same) = inl (ap (λ (e : ℕ × Row). e.0) same)
key_member entry (row ∷ rows) (inr later) = inr (key_member entry rows later)

-- an entry's thread finds it
pub entry_found : (entry : ℕ × Row) (rows : List (ℕ × Row)) → IsOnce rows → Member entry rows → lookup (is_at (nat_cmp entry.0)) rows ≡ Some entry.1
entry_found entry [] once there = absurd there
entry_found entry (row ∷ rows) once (inl same) =
    let own : is_at (nat_cmp entry.0) row.0 ≡ true = ap (λ (e : ℕ × Row). is_at (nat_cmp entry.0) e.0) (sym same) ∙ itself entry.0 in
    rw own (ap (λ (e : ℕ × Row). Some e.1) (sym same))
  where
    itself : (n : ℕ) → is_at (nat_cmp n) n ≡ true
    itself n = grind (arith, nat_tests)
entry_found entry (row ∷ rows) once (inr later) =
    let apart : eq_by_cmp nat_cmp row.0 entry.0 ≡ false =
    at_member (λ k. eq_by_cmp nat_cmp row.0 k ≡ false) entry.0 (keys_of rows) (IsDistinct-head (eq_by_cmp nat_cmp) row.0 (keys_of rows) once)
    (key_member entry rows later) in
    let other : is_at (nat_cmp entry.0) row.0 ≡ false = grind (arith, nat_tests, apart) in
    rw other (entry_found entry rows (IsDistinct-tail (eq_by_cmp nat_cmp) row.0 (keys_of rows) once) later)

-- something is found where the object is pending
pub held_law : (rows : List (ℕ × Row)) (e : List Event) (o : ℕ) → IsOnce rows → Stands rows e
    → is_some (number_where (λ row. is_object o row.pending) rows) ≡ is_pending e o
held_law rows e o once stands =
    any_found (λ (entry : ℕ × Row). entry.0) (λ entry. is_object o entry.1.pending) rows
    ∙ list_any-map (λ (entry : ℕ × Row). entry.1) (λ entry. is_object o entry.1.pending) (λ row. is_object o row.pending) (λ entry. refl) rows
    ∙ pending_law rows e o once stands

-- and in the thread that is found it is
pub named_law : (rows : List (ℕ × Row)) (e : List Event) (o : ℕ) → IsOnce rows → Stands rows e
    → IfSome (number_where (λ row. is_object o row.pending) rows) (λ t. pending (acts_of t e) ≡ Some o)
named_law rows e o once stands =
    by (find (λ (entry : ℕ × Row). is_object o entry.1.pending) rows) (is_found (λ (entry : ℕ × Row). is_object o entry.1.pending) rows)
  where
    by : (found : Option (ℕ × Row)) → IfSome found (λ entry. Member entry rows × (is_object o entry.1.pending ≡ true))
        → IfSome (option_map (λ (entry : ℕ × Row). entry.0) found) (λ t. pending (acts_of t e) ≡ Some o)
    by None all = tt
    by (Some entry) all =
        let row : row_or_none (Some entry.1) ≡ row_after e entry.0 = ap row_or_none (sym (entry_found entry rows once all.0)) ∙ stands.threads entry.0 in
        object_is o (pending (acts_of entry.0 e)) (sym (pending_in e o entry.0 (Some entry.1) row) ∙ all.1)

pub ruleset none = (marks_stay)
