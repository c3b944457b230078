-- How the rows stand after one more act.
use Rattle.std.proofs.Common.{◌≡◌, ◌≢◌, ◌<◌, ◌≤◌, ◌+◌, ◌-◌, ℕ, Bool, true, false, List, [], ◌∷◌, Option, Some, None, refl, ◌∙◌, ap, sym, subst, arith, inl, inr, ◌⊎◌}
use Rattle.std.specs.Prelude.{◌==◌, not, if◌then◌else◌, IsTrue}
use Rattle.std.specs.Option.{option_map}
use Rattle.std.specs.Map.{lookup}
use Rattle.std.specs.BTreeMap.{is_at}
use Rattle.std.specs.Ordering.{nat_cmp}
use Rattle.std.proofs.lemmas.Bool.Decides.{nat_tests}
use Rattle.jg_lists.proofs.Acts.{each_acted, one_if, counted_law}
use Rattle.jg_lists.specs.ByThread.{IsOnce}
use Rattle.jg_table_threads.specs.History.{Act, Attach, Detach, Enter, Leave, Raise, Calm, CountRef, CountBuffer, Event, by, acts_of, how_many, is_enter, is_leave, since, attached, was_attached, sessions, depth}
use Rattle.jg_table_threads.specs.Rows.{Row, no_row, row_or_none, row_of}
use Rattle.jg_table_threads.specs.Standing.{IsAllowed, AllAllowed, row_by, rows_wanted, Stands}

-- ---- what threads may do

-- no native method is left that was not entered
pub leaves_at_most : (acts : List Act) → AllAllowed acts → how_many is_leave (since acts) ≤ how_many is_enter (since acts)
leaves_at_most [] h = omega arith
leaves_at_most (Attach ∷ acts) h = leaves_at_most acts h.0
leaves_at_most (Detach ∷ acts) h = omega arith
leaves_at_most (Enter ∷ acts) h = omega (arith, leaves_at_most acts h.0)
leaves_at_most (Leave ∷ acts) h = omega (arith, leaves_at_most acts h.0, h.1)
leaves_at_most (Raise o ∷ acts) h = leaves_at_most acts h.0
leaves_at_most (Calm ∷ acts) h = leaves_at_most acts h.0
leaves_at_most (CountRef ∷ acts) h = leaves_at_most acts h.0
leaves_at_most (CountBuffer ∷ acts) h = leaves_at_most acts h.0

row_same : (s r b : ℕ) → s ≡ 0 → r ≡ 0 → b ≡ 0 → no_row ≡ record no_row { sessions = s; refs = r; buffers = b }
row_same s r b s_is r_is b_is = rw (s_is, r_is, b_is) refl

-- a thread that was never attached did nothing that its row would tell
pub never_attached : (acts : List Act) → AllAllowed acts → was_attached acts ≡ false → no_row ≡ row_by acts
never_attached [] h never = refl
never_attached (Attach ∷ acts) h never = cc
never_attached (Detach ∷ acts) h never =
    let was = never_attached acts h.0 never in
    row_same _ _ _ (sym (ap (λ (r : Row). r.sessions) was)) (sym (ap (λ (r : Row). r.refs) was)) (sym (ap (λ (r : Row). r.buffers) was))
never_attached (Calm ∷ acts) h never =
    ap (λ (r : Row). record r { pending = None }) (never_attached acts h.0 never)
never_attached (Enter ∷ acts) h never =
    let off : attached acts ≡ false = sym (ap (λ (r : Row). r.attached) (never_attached acts h.0 never)) in
    let on : attached acts ≡ true = h.1 in
    cc
never_attached (Leave ∷ acts) h never =
    let outside : 0 ≡ depth acts = ap (λ (r : Row). r.depth) (never_attached acts h.0 never) in
    let inside : 0 < depth acts = h.1 in
    absurd (omega (arith, outside, inside))
never_attached (Raise o ∷ acts) h never =
    let off : attached acts ≡ false = sym (ap (λ (r : Row). r.attached) (never_attached acts h.0 never)) in
    let on : attached acts ≡ true = h.1 in
    cc
never_attached (CountRef ∷ acts) h never =
    let off : attached acts ≡ false = sym (ap (λ (r : Row). r.attached) (never_attached acts h.0 never)) in
    let on : attached acts ≡ true = h.1 in
    cc
never_attached (CountBuffer ∷ acts) h never =
    let off : attached acts ≡ false = sym (ap (λ (r : Row). r.attached) (never_attached acts h.0 never)) in
    let on : attached acts ≡ true = h.1 in
    cc

-- an attached thread was once attached
once_attached : (acts : List Act) → attached acts ≡ true → was_attached acts ≡ true
once_attached [] on = on
once_attached (Attach ∷ acts) on = refl
once_attached (Detach ∷ acts) on = cc
once_attached (Enter ∷ acts) on = once_attached acts on
once_attached (Leave ∷ acts) on = once_attached acts on
once_attached (Raise o ∷ acts) on = once_attached acts on
once_attached (Calm ∷ acts) on = once_attached acts on
once_attached (CountRef ∷ acts) on = once_attached acts on
once_attached (CountBuffer ∷ acts) on = once_attached acts on

-- ---- what a look-up finds

-- the row of a thread that did these acts, where it has one
abbrev row_if : Bool → List Act → Option Row
row_if b acts = if b then Some (row_by acts) else None

found_is : (acts : List Act) (b : Bool) (found : Option Row) → row_or_none found ≡ row_by acts → one_if found ≡ (if b then 1 else 0) → found ≡ row_if b acts
found_is acts true None is one = cc
found_is acts false None is one = refl
found_is acts true (Some row) is one = ap Some is
found_is acts false (Some row) is one = cc

found_law : (rows : List (ℕ × Row)) (e : List Event) (t : ℕ) → IsOnce rows → Stands rows e
    → lookup (is_at (nat_cmp t)) rows ≡ row_if (was_attached (acts_of t e)) (acts_of t e)
found_law rows e t once stands =
    found_is (acts_of t e) (was_attached (acts_of t e)) (lookup (is_at (nat_cmp t)) rows) (stands.threads t) (sym (counted_law t rows once) ∙ stands.once t)

row_found : (acts : List Act) (b : Bool) → was_attached acts ≡ b → AllAllowed acts → row_or_none (row_if b acts) ≡ row_by acts
row_found acts true is h = refl
row_found acts false is h = never_attached acts h is

one_found : (acts : List Act) (b : Bool) → one_if (row_if b acts) ≡ (if b then 1 else 0)
one_found acts true = refl
one_found acts false = refl

stands_by : (rows : List (ℕ × Row)) (e : List Event) → IsOnce rows → ((t : ℕ) → AllAllowed (acts_of t e))
    → ((t : ℕ) → lookup (is_at (nat_cmp t)) rows ≡ row_if (was_attached (acts_of t e)) (acts_of t e)) → Stands rows e
stands_by rows e once allowed found = record {
  threads = λ t. ap row_or_none (found t) ∙ row_found (acts_of t e) (was_attached (acts_of t e)) refl (allowed t);
  once = λ t. counted_law t rows once ∙ (ap one_if (found t) ∙ one_found (acts_of t e) (was_attached (acts_of t e)));
  allowed = allowed;
}

-- after one more act of a thread, the look-up finds its new row, and the other rows as they were
stands_more : (old new : List (ℕ × Row)) (e : List Event) (u : ℕ) (a : Act) → IsOnce old → IsOnce new → Stands old e
    → IsAllowed a (acts_of u e) → ((t : ℕ) → t ≢ u → lookup (is_at (nat_cmp t)) new ≡ lookup (is_at (nat_cmp t)) old)
    → lookup (is_at (nat_cmp u)) new ≡ row_if (was_attached (a ∷ acts_of u e)) (a ∷ acts_of u e) → Stands new (by u a ∷ e)
stands_more old new e u a was_once once stands now others here =
    stands_by new (by u a ∷ e) once
    (each_acted (λ t acts. AllAllowed acts) u a e (λ t differ. stands.allowed t) (stands.allowed u, now))
    (each_acted (λ t acts. lookup (is_at (nat_cmp t)) new ≡ row_if (was_attached acts) acts) u a e
    (λ t differ. others t differ ∙ found_law old e t was_once stands) here)

-- ---- a row is changed

-- the row of the thread is changed, where it has one, and the others are as they were
abbrev pub Written : List (ℕ × Row) → List (ℕ × Row) → ℕ → (Row → Row) → Type 0
Written old new u change = (t : ℕ)
    → lookup (is_at (nat_cmp t)) new ≡ (if u == t then option_map change (lookup (is_at (nat_cmp t)) old) else lookup (is_at (nat_cmp t)) old)

written_other : (old new : List (ℕ × Row)) (u : ℕ) (change : Row → Row) → Written old new u change → (t : ℕ) → t ≢ u
    → lookup (is_at (nat_cmp t)) new ≡ lookup (is_at (nat_cmp t)) old
written_other old new u change written t differ =
    let other : (u == t) ≡ false = grind (arith, nat_tests) in
    let here = written t in
    rw other at here

written_here : (old new : List (ℕ × Row)) (u : ℕ) (change : Row → Row) → Written old new u change
    → lookup (is_at (nat_cmp u)) new ≡ option_map change (lookup (is_at (nat_cmp u)) old)
written_here old new u change written =
    let same : (u == u) ≡ true = grind (arith, nat_tests) in
    let here = written u in
    rw same at here

row_written : (acts more : List Act) (change : Row → Row) (b : Bool) → change (row_by acts) ≡ row_by more → option_map change (row_if b acts) ≡ row_if b more
row_written acts more change true is = ap Some is
row_written acts more change false is = refl

-- an act that attaches nobody changes the row to that of what was done with it
written_law : (old new rows : List (ℕ × Row)) (e : List Event) (u : ℕ) (a : Act) (change : Row → Row) → old ≡ rows → IsOnce old → IsOnce new
    → Stands rows e → IsAllowed a (acts_of u e) → was_attached (a ∷ acts_of u e) ≡ was_attached (acts_of u e)
    → change (row_by (acts_of u e)) ≡ row_by (a ∷ acts_of u e) → Written old new u change
    → Stands new (by u a ∷ e)
written_law old new rows e u a change seen was_once once stands now quiet is written =
    let was : Stands old e = subst (λ (r : List (ℕ × Row)). Stands r e) (sym seen) stands in
    stands_more old new e u a was_once once was now (written_other old new u change written)
    (written_here old new u change written
    ∙ (ap (option_map change) (found_law old e u was_once was)
    ∙ (row_written (acts_of u e) (a ∷ acts_of u e) change (was_attached (acts_of u e)) is
    ∙ ap (λ b. row_if b (a ∷ acts_of u e)) (sym quiet))))

-- ---- each act

pub detach_law : (old new rows : List (ℕ × Row)) (e : List Event) (u : ℕ) → old ≡ rows → IsOnce old → IsOnce new
    → Stands rows e → Written old new u (λ (r : Row). record r { attached = false; depth = 0; pending = None }) → Stands new (by u Detach ∷ e)
detach_law old new rows e u seen was_once once stands =
    written_law old new rows e u Detach (λ (r : Row). record r { attached = false; depth = 0; pending = None }) seen was_once once stands tt refl
    refl

pub calm_law : (old new rows : List (ℕ × Row)) (e : List Event) (u : ℕ) → old ≡ rows → IsOnce old → IsOnce new
    → Stands rows e → Written old new u (λ (r : Row). record r { pending = None }) → Stands new (by u Calm ∷ e)
calm_law old new rows e u seen was_once once stands =
    written_law old new rows e u Calm (λ (r : Row). record r { pending = None }) seen was_once once stands tt refl
    refl

-- the thread is attached, by its row
on_by : (rows : List (ℕ × Row)) (e : List Event) (u : ℕ) → Stands rows e → IsTrue (row_of rows u).attached → attached (acts_of u e) ≡ true
on_by rows e u stands on = sym (ap (λ (r : Row). r.attached) (stands.threads u)) ∙ on

pub raise_law : (old new rows : List (ℕ × Row)) (e : List Event) (u o : ℕ) → old ≡ rows → IsOnce old → IsOnce new
    → Stands rows e → IsTrue (row_of rows u).attached → Written old new u (λ (r : Row). record r { pending = Some o }) → Stands new (by u (Raise o) ∷ e)
raise_law old new rows e u o seen was_once once stands on =
    written_law old new rows e u (Raise o) (λ (r : Row). record r { pending = Some o }) seen was_once once stands
    (on_by rows e u stands on) refl
    refl

pub count_ref_law : (old new rows : List (ℕ × Row)) (e : List Event) (u : ℕ) → old ≡ rows → IsOnce old → IsOnce new
    → Stands rows e → IsTrue (row_of rows u).attached → Written old new u (λ (r : Row). record r { refs = r.refs + 1 }) → Stands new (by u CountRef ∷ e)
count_ref_law old new rows e u seen was_once once stands on =
    written_law old new rows e u CountRef (λ (r : Row). record r { refs = r.refs + 1 }) seen was_once once stands
    (on_by rows e u stands on) refl
    refl

pub count_buffer_law : (old new rows : List (ℕ × Row)) (e : List Event) (u : ℕ) → old ≡ rows → IsOnce old → IsOnce new
    → Stands rows e → IsTrue (row_of rows u).attached → Written old new u (λ (r : Row). record r { buffers = r.buffers + 1 })
    → Stands new (by u CountBuffer ∷ e)
count_buffer_law old new rows e u seen was_once once stands on =
    written_law old new rows e u CountBuffer (λ (r : Row). record r { buffers = r.buffers + 1 }) seen was_once once
    stands (on_by rows e u stands on) refl
    refl

deeper : (acts : List Act) → AllAllowed acts → depth acts + 1 ≡ depth (Enter ∷ acts)
deeper acts h = omega (arith, leaves_at_most acts h)

pub enter_law : (old new rows : List (ℕ × Row)) (e : List Event) (u : ℕ) → old ≡ rows → IsOnce old → IsOnce new
    → Stands rows e → IsTrue (row_of rows u).attached → Written old new u (λ (r : Row). record r { depth = r.depth + 1 }) → Stands new (by u Enter ∷ e)
enter_law old new rows e u seen was_once once stands on =
    written_law old new rows e u Enter (λ (r : Row). record r { depth = r.depth + 1 }) seen was_once once stands (on_by rows e u stands on) refl
    (ap (λ (d : ℕ). record (row_by (acts_of u e)) { depth = d }) (deeper (acts_of u e) (stands.allowed u)))

less_deep : (acts : List Act) → depth acts - 1 ≡ depth (Leave ∷ acts)
less_deep acts = omega arith

pub leave_law : (old new rows : List (ℕ × Row)) (e : List Event) (u : ℕ) → old ≡ rows → IsOnce old → IsOnce new
    → Stands rows e → 0 < (row_of rows u).depth → Written old new u (λ (r : Row). record r { depth = r.depth - 1 }) → Stands new (by u Leave ∷ e)
leave_law old new rows e u seen was_once once stands inside =
    written_law old new rows e u Leave (λ (r : Row). record r { depth = r.depth - 1 }) seen was_once once stands
    (subst (λ (n : ℕ). 0 < n) (ap (λ (r : Row). r.depth) (stands.threads u)) inside) refl
    (ap (λ (d : ℕ). record (row_by (acts_of u e)) { depth = d }) (less_deep (acts_of u e)))

-- ---- attaching

-- the row of the thread is this one, and the others are as they were
abbrev pub Put : List (ℕ × Row) → List (ℕ × Row) → ℕ → Row → Type 0
Put old new u row = (t : ℕ) → lookup (is_at (nat_cmp t)) new ≡ (if u == t then Some row else lookup (is_at (nat_cmp t)) old)

put_other : (old new : List (ℕ × Row)) (u : ℕ) (row : Row) → Put old new u row → (t : ℕ) → t ≢ u
    → lookup (is_at (nat_cmp t)) new ≡ lookup (is_at (nat_cmp t)) old
put_other old new u row put t differ =
    let other : (u == t) ≡ false = grind (arith, nat_tests) in
    let here = put t in
    rw other at here

put_here : (old new : List (ℕ × Row)) (u : ℕ) (row : Row) → Put old new u row → lookup (is_at (nat_cmp u)) new ≡ Some row
put_here old new u row put =
    let same : (u == u) ≡ true = grind (arith, nat_tests) in
    let here = put u in
    rw same at here

attached_now : (acts : List Act) → attached acts ≡ false → record (row_by acts) { attached = true; sessions = sessions acts + 1 } ≡ row_by (Attach ∷ acts)
attached_now acts off =
    let next : sessions acts + 1 ≡ sessions (Attach ∷ acts) = rw off refl in
    ap (λ (n : ℕ). record (row_by acts) { attached = true; sessions = n }) next

pub attach_law : (old new rows : List (ℕ × Row)) (e : List Event) (u : ℕ) (r : Row) → old ≡ rows → IsOnce old → IsOnce new
    → Stands rows e → r ≡ row_of rows u → r.attached ≡ false → Put old new u (record r { attached = true; sessions = r.sessions + 1 })
    → Stands new (by u Attach ∷ e)
attach_law old new rows e u r seen was_once once stands is off put =
    let was : Stands old e = subst (λ (r : List (ℕ × Row)). Stands r e) (sym seen) stands in
    let row = is ∙ stands.threads u in
    stands_more old new e u Attach was_once once was tt (put_other old new u _ put)
    (put_here old new u _ put
    ∙ ap Some (ap (λ (r : Row). record r { attached = true; sessions = r.sessions + 1 }) row
    ∙ attached_now (acts_of u e) (sym (ap (λ (r : Row). r.attached) row) ∙ off)))

same_session : (acts : List Act) → attached acts ≡ true → row_by acts ≡ row_by (Attach ∷ acts)
same_session acts on =
    let same : sessions acts ≡ sessions (Attach ∷ acts) = rw on refl in
    ap (λ (b : Bool). record (row_by acts) { attached = b }) on ∙ ap (λ (n : ℕ). record (row_by acts) { attached = true; sessions = n }) same

wanted_still : (acts : List Act) → was_attached acts ≡ true → rows_wanted acts ≡ rows_wanted (Attach ∷ acts)
wanted_still acts was = rw was refl

-- an attached thread is attached once more
pub attach_again_law : (rows : List (ℕ × Row)) (e : List Event) (u : ℕ) (r : Row) → Stands rows e → r ≡ row_of rows u → r.attached ≡ true
    → Stands rows (by u Attach ∷ e)
attach_again_law rows e u r stands is on =
    let here : attached (acts_of u e) ≡ true = sym (ap (λ (r : Row). r.attached) (is ∙ stands.threads u)) ∙ on in
    record {
      threads = each_acted (λ t acts. row_of rows t ≡ row_by acts) u Attach e (λ t differ. stands.threads t)
          (stands.threads u ∙ same_session (acts_of u e) here);
      once = each_acted (λ t acts. how_many (λ row. row.0 == t) rows ≡ rows_wanted acts) u Attach e (λ t differ. stands.once t) (stands.once u
          ∙ wanted_still (acts_of u e) (once_attached (acts_of u e) here));
      allowed = each_acted (λ t acts. AllAllowed acts) u Attach e (λ t differ. stands.allowed t) (stands.allowed u, tt);
    }

-- ---- a row is replaced

replaced_at : (u t : ℕ) (old : List (ℕ × Row)) (change : Row → Row) (b : Bool) → (u == t) ≡ b
    → (if b then option_map (λ _. change (row_of old u)) (lookup (is_at (nat_cmp t)) old) else lookup (is_at (nat_cmp t)) old)
    ≡ (if b then option_map change (lookup (is_at (nat_cmp t)) old) else lookup (is_at (nat_cmp t)) old)
replaced_at u t old change true same =
    let mine : u ≡ t = grind (arith, nat_tests, same) in
    ap (λ k. option_map (λ _. change (row_of old k)) (lookup (is_at (nat_cmp t)) old)) mine ∙ by (lookup (is_at (nat_cmp t)) old) refl
  where
    by : (found : Option Row) → lookup (is_at (nat_cmp t)) old ≡ found → option_map (λ _. change (row_of old t)) found ≡ option_map change found
    by None is = refl
    by (Some row) is = ap (λ r. Some (change (row_or_none r))) is
replaced_at u t old change false differs = refl

-- the thread's row is replaced by what a change makes of it
pub written_by : (old new : List (ℕ × Row)) (u : ℕ) (change : Row → Row) (row : Row) → row ≡ change (row_of old u)
    → ((t : ℕ) → lookup (is_at (nat_cmp t)) new ≡ (if u == t then option_map (λ _. row) (lookup (is_at (nat_cmp t)) old) else lookup (is_at (nat_cmp t)) old))
    → Written old new u change
written_by old new u change row is put t =
    put t ∙ ap (λ r. if u == t then option_map (λ _. r) (lookup (is_at (nat_cmp t)) old) else lookup (is_at (nat_cmp t)) old) is
    ∙ replaced_at u t old change (u == t) refl

-- what the thread's row is then: of one without a row only what leaves it without one is asked
pub row_now : (old new : List (ℕ × Row)) (u : ℕ) (change : Row → Row) → Written old new u change → (IsTrue (row_of old u).attached ⊎ (change no_row ≡ no_row))
    → row_of new u ≡ change (row_of old u)
row_now old new u change written known = ap row_or_none (written_here old new u change written) ∙ by (lookup (is_at (nat_cmp u)) old) known
  where
    by : (found : Option Row) → (IsTrue (row_or_none found).attached ⊎ (change no_row ≡ no_row))
        → row_or_none (option_map change found) ≡ change (row_or_none found)
    by (Some row) known = refl
    by None (inr none) = sym none
    by None (inl on) = cc
