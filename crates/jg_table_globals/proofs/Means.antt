-- What the definitions mean, by one case for each event.
use Rattle.std.proofs.Common.{◌≡◌, ℕ, Bool, true, false, List, [], ◌∷◌, ◌++◌, Option, Some, None, refl, ◌∙◌, ap, subst, arith}
use Rattle.std.specs.Prelude.{◌||◌, if◌then◌else◌}
use Rattle.std.specs.List.{list_any}
use Rattle.std.proofs.lemmas.Bool.Decides.{nat_tests}
use Rattle.std.proofs.lemmas.Bool.{or_parts}
use Rattle.jg_table_globals.specs.declared.target.Target.{Target}
use Rattle.jg_table_globals.specs.declared.target.Target.TheVariants.{Object, Cleared}
use Rattle.jg_table_globals.specs.History.{Event, MakeStrong, MakeWeak, DeleteStrong, DeleteWeak, Clear, is_same, strong, weak, clears, after_making, unless_cleared, weak_target}
use Rattle.jg_table_globals.specs.Laws.{StrongSince, WeakSince, about_strong, about_weak}

-- ---- global references

-- the same making, seen from one event later
strong_later : (ev : Event) (e : List Event) (m n o : ℕ) → about_strong m n ev ≡ false → StrongSince e m n o → StrongSince (ev ∷ e) m n o
strong_later ev e m n o other since = record {
  later = ev ∷ since.later;
  before = since.before;
  made = ap (λ l. ev ∷ l) since.made;
  kept = rw (other, since.kept) refl;
}

strong_made : (e : List Event) (m n o k i p : ℕ) (b : Bool) → is_same m n k i ≡ b → (strong e m n ≡ Some o → StrongSince e m n o)
    → (if b then Some p else strong e m n) ≡ Some o → StrongSince (MakeStrong k i p ∷ e) m n o
strong_made e m n o k i p true is older now =
    let maker : k ≡ m = grind (arith, nat_tests) in
    let number : i ≡ n = grind (arith, nat_tests) in
    let object : p ≡ o = cc in
    record { later = []; before = e; made = rw (maker, number, object) refl; kept = refl }
strong_made e m n o k i p false is older now = strong_later (MakeStrong k i p) e m n o is (older now)

strong_deleted : (e : List Event) (m n o k i : ℕ) (b : Bool) → is_same m n k i ≡ b → (strong e m n ≡ Some o → StrongSince e m n o)
    → if◌then◌else◌ {A = Option ℕ} b None (strong e m n) ≡ Some o → StrongSince (DeleteStrong k i ∷ e) m n o
strong_deleted e m n o k i true is older now = cc
strong_deleted e m n o k i false is older now = strong_later (DeleteStrong k i) e m n o is (older now)

pub strong_since : (e : List Event) (m n o : ℕ) → strong e m n ≡ Some o → StrongSince e m n o
strong_since [] m n o now = cc
strong_since (MakeStrong k i p ∷ e) m n o now = strong_made e m n o k i p (is_same m n k i) refl (strong_since e m n o) now
strong_since (DeleteStrong k i ∷ e) m n o now = strong_deleted e m n o k i (is_same m n k i) refl (strong_since e m n o) now
strong_since (MakeWeak k i p ∷ e) m n o now = strong_later (MakeWeak k i p) e m n o refl (strong_since e m n o now)
strong_since (DeleteWeak k i ∷ e) m n o now = strong_later (DeleteWeak k i) e m n o refl (strong_since e m n o now)
strong_since (Clear p ∷ e) m n o now = strong_later (Clear p) e m n o refl (strong_since e m n o now)

is_same_self : (m n : ℕ) → is_same m n m n ≡ true
is_same_self m n = grind (arith, nat_tests)

-- an event that isn't about it changes nothing
strong_other : (ev : Event) (e : List Event) (m n : ℕ) → about_strong m n ev ≡ false → strong (ev ∷ e) m n ≡ strong e m n
strong_other (MakeStrong k i p) e m n other = rw other refl
strong_other (DeleteStrong k i) e m n other = rw other refl
strong_other (MakeWeak k i p) e m n other = refl
strong_other (DeleteWeak k i) e m n other = refl
strong_other (Clear p) e m n other = refl

strong_kept : (later before : List Event) (m n o : ℕ) → list_any (about_strong m n) later ≡ false → strong (later ++ MakeStrong m n o ∷ before) m n ≡ Some o
strong_kept [] before m n o kept = rw (is_same_self m n) refl
strong_kept (ev ∷ later) before m n o kept =
    let parts = or_parts (about_strong m n ev) (list_any (about_strong m n) later) kept in
    strong_other ev (later ++ MakeStrong m n o ∷ before) m n parts.0 ∙ strong_kept later before m n o parts.1

pub strong_target_since : (e : List Event) (m n o : ℕ) → StrongSince e m n o → strong e m n ≡ Some o
strong_target_since e m n o since = rw since.made (strong_kept since.later since.before m n o since.kept)

-- ---- weak references

weak_later : (ev : Event) (e : List Event) (m n o : ℕ) (b : Bool) → about_weak m n ev ≡ false → WeakSince e m n o b
    → WeakSince (ev ∷ e) m n o (clears o ev || b)
weak_later ev e m n o b other since = record {
  later = ev ∷ since.later;
  before = since.before;
  made = ap (λ l. ev ∷ l) since.made;
  kept = rw (other, since.kept) refl;
  cleared = ap (λ c. clears o ev || c) since.cleared;
}

-- the object of a weak reference in being, and whether it was cleared since
abbrev Known : List Event → ℕ → ℕ → ℕ → Type 0
Known e m n o = WeakSince e m n o (list_any (clears o) (after_making m n e))

weak_made : (e : List Event) (m n o k i p : ℕ) (b : Bool) → is_same m n k i ≡ b → (weak e m n ≡ Some o → Known e m n o)
    → (if b then Some p else weak e m n) ≡ Some o
    → WeakSince (MakeWeak k i p ∷ e) m n o (list_any (clears o) (if b then [] else MakeWeak k i p ∷ after_making m n e))
weak_made e m n o k i p true is older now =
    let maker : k ≡ m = grind (arith, nat_tests) in
    let number : i ≡ n = grind (arith, nat_tests) in
    let object : p ≡ o = cc in
    record { later = []; before = e; made = rw (maker, number, object) refl; kept = refl; cleared = refl }
weak_made e m n o k i p false is older now = weak_later (MakeWeak k i p) e m n o (list_any (clears o) (after_making m n e)) is (older now)

weak_deleted : (e : List Event) (m n o k i : ℕ) (b : Bool) → is_same m n k i ≡ b → (weak e m n ≡ Some o → Known e m n o)
    → if◌then◌else◌ {A = Option ℕ} b None (weak e m n) ≡ Some o → Known (DeleteWeak k i ∷ e) m n o
weak_deleted e m n o k i true is older now = cc
weak_deleted e m n o k i false is older now = weak_later (DeleteWeak k i) e m n o (list_any (clears o) (after_making m n e)) is (older now)

weak_since : (e : List Event) (m n o : ℕ) → weak e m n ≡ Some o → Known e m n o
weak_since [] m n o now = cc
weak_since (MakeStrong k i p ∷ e) m n o now = weak_later (MakeStrong k i p) e m n o (list_any (clears o) (after_making m n e)) refl (weak_since e m n o now)
weak_since (DeleteStrong k i ∷ e) m n o now = weak_later (DeleteStrong k i) e m n o (list_any (clears o) (after_making m n e)) refl (weak_since e m n o now)
weak_since (MakeWeak k i p ∷ e) m n o now = weak_made e m n o k i p (is_same m n k i) refl (weak_since e m n o) now
weak_since (DeleteWeak k i ∷ e) m n o now = weak_deleted e m n o k i (is_same m n k i) refl (weak_since e m n o) now
weak_since (Clear p ∷ e) m n o now = weak_later (Clear p) e m n o (list_any (clears o) (after_making m n e)) refl (weak_since e m n o now)

abbrev number_of : Option Target → ℕ
number_of None = 0
number_of (Some Cleared) = 0
number_of (Some (Object o)) = o.0

live_if : (o p : ℕ) (b : Bool) → Some (if b then Cleared else Object (record { 0 = p })) ≡ Some (Object (record { 0 = o })) → (b ≡ false) × (p ≡ o)
live_if o p true is = cc
live_if o p false is = (refl, ap number_of is)

pub cleared_if : (p : ℕ) (b : Bool) → Some (if b then Cleared else Object (record { 0 = p })) ≡ Some Cleared → b ≡ true
cleared_if p true is = refl
cleared_if p false is = cc

live_found : (e : List Event) (m n o : ℕ) (found : Option ℕ) → weak e m n ≡ found → unless_cleared (after_making m n e) found ≡ Some (Object (record { 0 = o }))
    → WeakSince e m n o false
live_found e m n o None is now = cc
live_found e m n o (Some p) is now =
    let known = weak_since e m n p is in
    let parts = live_if o p (list_any (clears p) (after_making m n e)) now in
    let P : Bool → Type 0 = λ b. WeakSince e m n p b in
    let Q : ℕ → Type 0 = λ q. WeakSince e m n q false in
    subst Q parts.1 (subst P parts.0 known)

pub live_since : (e : List Event) (m n o : ℕ) → weak_target e m n ≡ Some (Object (record { 0 = o })) → WeakSince e m n o false
live_since e m n o now = live_found e m n o (weak e m n) refl now

cleared_found : (e : List Event) (m n : ℕ) (found : Option ℕ) → weak e m n ≡ found → unless_cleared (after_making m n e) found ≡ Some Cleared
    → (o : ℕ) × WeakSince e m n o true
cleared_found e m n None is now = cc
cleared_found e m n (Some p) is now =
    let known = weak_since e m n p is in
    let P : Bool → Type 0 = λ b. WeakSince e m n p b in
    (p, subst P (cleared_if p (list_any (clears p) (after_making m n e)) now) known)

pub cleared_since : (e : List Event) (m n : ℕ) → weak_target e m n ≡ Some Cleared → (o : ℕ) × WeakSince e m n o true
cleared_since e m n now = cleared_found e m n (weak e m n) refl now

weak_other : (ev : Event) (e : List Event) (m n : ℕ) → about_weak m n ev ≡ false → weak (ev ∷ e) m n ≡ weak e m n
weak_other (MakeStrong k i p) e m n other = refl
weak_other (DeleteStrong k i) e m n other = refl
weak_other (MakeWeak k i p) e m n other = rw other refl
weak_other (DeleteWeak k i) e m n other = rw other refl
weak_other (Clear p) e m n other = refl

after_other : (ev : Event) (e : List Event) (m n : ℕ) → about_weak m n ev ≡ false → after_making m n (ev ∷ e) ≡ ev ∷ after_making m n e
after_other (MakeStrong k i p) e m n other = refl
after_other (DeleteStrong k i) e m n other = refl
after_other (MakeWeak k i p) e m n other = rw other refl
after_other (DeleteWeak k i) e m n other = refl
after_other (Clear p) e m n other = refl

weak_kept : (later before : List Event) (m n o : ℕ) → list_any (about_weak m n) later ≡ false → weak (later ++ MakeWeak m n o ∷ before) m n ≡ Some o
weak_kept [] before m n o kept = rw (is_same_self m n) refl
weak_kept (ev ∷ later) before m n o kept =
    let parts = or_parts (about_weak m n ev) (list_any (about_weak m n) later) kept in
    weak_other ev (later ++ MakeWeak m n o ∷ before) m n parts.0 ∙ weak_kept later before m n o parts.1

after_kept : (later before : List Event) (m n o : ℕ) → list_any (about_weak m n) later ≡ false → after_making m n (later ++ MakeWeak m n o ∷ before) ≡ later
after_kept [] before m n o kept = rw (is_same_self m n) refl
after_kept (ev ∷ later) before m n o kept =
    let parts = or_parts (about_weak m n ev) (list_any (about_weak m n) later) kept in
    after_other ev (later ++ MakeWeak m n o ∷ before) m n parts.0 ∙ ap (λ l. ev ∷ l) (after_kept later before m n o parts.1)

pub weak_target_since : (e : List Event) (m n o : ℕ) (b : Bool) → WeakSince e m n o b
    → weak_target e m n ≡ Some (if b then Cleared else Object (record { 0 = o }))
weak_target_since e m n o b since =
    rw (since.made, weak_kept since.later since.before m n o since.kept, after_kept since.later since.before m n o since.kept, since.cleared) refl
