-- Counts and owners, one event later.
use Rattle.std.proofs.Common.{◌≡◌, ◌≢◌, ℕ, ◌+◌, ◌-◌, ◌<◌, ◌≤◌, Bool, true, false, zero, suc, List, [], ◌∷◌, Option, Some, None, refl, ◌∙◌, ap, sym, subst, arith, inl, inr, eqb-true}
use Rattle.std.specs.Prelude.{◌==◌, ◌⊎◌, nat_lt, if◌then◌else◌, map}
use Rattle.std.specs.List.{find}
use Rattle.std.proofs.lemmas.Bool.Decides.{nat_tests}
use Rattle.std.proofs.lemmas.Option.{same_Some}
use Rattle.jg_words.proofs.Common.{clash, eqb_self, positive}
use Rattle.jg_table_monitors.specs.History.{Act, Enter, Exit, ReleaseAll, Event, by, acts_of, since, enters, exits, how_many, count, owner, is_some, held}
use Rattle.jg_table_monitors.specs.Standing.{IsAllowed, AllAllowed}
use Rattle.jg_lists.proofs.Lists.{Member}

-- how often the thread entered and exited since it last released all
abbrev pub entries_in : List Event → ℕ → ℕ → ℕ
entries_in e t o = how_many (enters o) (since (acts_of t e))

abbrev pub exits_in : List Event → ℕ → ℕ → ℕ
exits_in e t o = how_many (exits o) (since (acts_of t e))

-- the acts of the thread after one that u did
abbrev after : Bool → Act → List Act → List Act
after b a acts = if b then a ∷ acts else acts

exit_here : (e : List Event) (t o p : ℕ) (b : Bool) → (p == o) ≡ b → 0 < count e t p → exits_in e t o ≤ entries_in e t o
    → (if b then exits_in e t o + 1 else exits_in e t o) ≤ entries_in e t o
exit_here e t o p true is some was =
    let same : p ≡ o = eqb-true p o is in
    let P : ℕ → Type 0 = λ q. 0 < count e t q in
    let here : 0 < count e t o = subst P same some in
    omega (arith, here)
exit_here e t o p false is some was = was

exits_step : (u : ℕ) (a : Act) (e : List Event) (t o : ℕ) (b : Bool) → (u == t) ≡ b → IsAllowed u a e → exits_in e t o ≤ entries_in e t o
    → how_many (exits o) (since (after b a (acts_of t e))) ≤ how_many (enters o) (since (after b a (acts_of t e)))
exits_step u (Enter p) e t o true is allowed was = grind (arith, nat_tests)
exits_step u (Exit p) e t o true is allowed was =
    let same : u ≡ t = eqb-true u t is in
    let P : ℕ → Type 0 = λ v. 0 < count e v p in
    let some : 0 < count e t p = subst P same allowed in
    exit_here e t o p (p == o) refl some was
exits_step u ReleaseAll e t o true is allowed was = omega arith
exits_step u a e t o false is allowed was = was

-- no thread exited a monitor more often than it entered it
pub exits_at_most : (e : List Event) (t o : ℕ) → AllAllowed e → exits_in e t o ≤ entries_in e t o
exits_at_most [] t o all = omega arith
exits_at_most (ev ∷ e) t o all = exits_step ev.tid ev.act e t o (ev.tid == t) refl all.1 (exits_at_most e t o all.0)

-- ---- how a count changes

pub count_other_thread : (e : List Event) (t u o : ℕ) (a : Act) → u ≢ t → count (by u a ∷ e) t o ≡ count e t o
count_other_thread e t u o a differ =
    let apart : (u == t) ≡ false = grind (arith, nat_tests) in
    rw apart refl

pub count_enter : (e : List Event) (t o : ℕ) → AllAllowed e → count (by t (Enter o) ∷ e) t o ≡ count e t o + 1
count_enter e t o all =
    let most = exits_at_most e t o all in
    rw (eqb_self t, eqb_self o) (omega (arith, most))

other_enter : (e : List Event) (t u o p : ℕ) (b : Bool) → (p == o) ≡ false
    → how_many (enters o) (since (after b (Enter p) (acts_of t e))) - how_many (exits o) (since (after b (Enter p) (acts_of t e))) ≡ count e t o
other_enter e t u o p true differ = rw differ refl
other_enter e t u o p false differ = refl

pub count_other_enter : (e : List Event) (t u o p : ℕ) → (p == o) ≡ false → count (by u (Enter p) ∷ e) t o ≡ count e t o
count_other_enter e t u o p differ = other_enter e t u o p (u == t) differ

other_exit : (e : List Event) (t u o p : ℕ) (b : Bool) → (p == o) ≡ false
    → how_many (enters o) (since (after b (Exit p) (acts_of t e))) - how_many (exits o) (since (after b (Exit p) (acts_of t e))) ≡ count e t o
other_exit e t u o p true differ = rw differ refl
other_exit e t u o p false differ = refl

pub count_other_exit : (e : List Event) (t u o p : ℕ) → (p == o) ≡ false → count (by u (Exit p) ∷ e) t o ≡ count e t o
count_other_exit e t u o p differ = other_exit e t u o p (u == t) differ

pub count_exit : (e : List Event) (t o : ℕ) → count (by t (Exit o) ∷ e) t o ≡ count e t o - 1
count_exit e t o = rw (eqb_self t, eqb_self o) (omega arith)

pub count_release : (e : List Event) (t o : ℕ) → count (by t ReleaseAll ∷ e) t o ≡ 0
count_release e t o = rw (eqb_self t) refl

-- ---- one owner

entered_by : (u p : ℕ) (e : List Event) (t o : ℕ) (b : Bool) → (p == o) ≡ b → u ≡ t
    → 0 < (if b then entries_in e t o + 1 else entries_in e t o) - exits_in e t o → (0 < count e t o)
    ⊎ ((u ≡ t) × (Enter p ≡ Enter o))
entered_by u p e t o true is same some = inr (same, ap (λ q. Enter q) (eqb-true p o is))
entered_by u p e t o false is same some = inl some

exited_by : (p : ℕ) (e : List Event) (t o : ℕ) (b : Bool) → 0 < entries_in e t o - (if b then exits_in e t o + 1 else exits_in e t o) → 0 < count e t o
exited_by p e t o true some = omega arith
exited_by p e t o false some = some

grown_by : (u : ℕ) (a : Act) (e : List Event) (t o : ℕ) (b : Bool) → (u == t) ≡ b
    → 0 < how_many (enters o) (since (after b a (acts_of t e))) - how_many (exits o) (since (after b a (acts_of t e)))
    → (0 < count e t o) ⊎ ((u ≡ t) × (a ≡ Enter o))
grown_by u (Enter p) e t o true is some = entered_by u p e t o (p == o) refl (eqb-true u t is) some
grown_by u (Exit p) e t o true is some = inl (exited_by p e t o (p == o) some)
grown_by u ReleaseAll e t o true is some = absurd (omega arith)
grown_by u a e t o false is some = inl some

-- a count above 0 was so before, or the thread entered just now
grown : (ev : Event) (e : List Event) (t o : ℕ) → 0 < count (ev ∷ e) t o → (0 < count e t o) ⊎ ((ev.tid ≡ t) × (ev.act ≡ Enter o))
grown ev e t o some = grown_by ev.tid ev.act e t o (ev.tid == t) refl some

by_test : (t u : ℕ) (b : Bool) → (t == u) ≡ b → ((t ≢ u) → ⊥) → t ≡ u
by_test t u true is never = eqb-true t u is
by_test t u false is never = absurd (never (λ same. grind (arith, nat_tests)))

-- who enters just now is the only owner
enters_alone : (ev : Event) (e : List Event) (t u o : ℕ) → IsAllowed ev.tid ev.act e → ev.tid ≡ t → ev.act ≡ Enter o → 0 < count e u o → t ≡ u
enters_alone ev e t u o allowed mine act some =
    let P : Act → Type 0 = λ a. IsAllowed ev.tid a e in
    let alone : (v : ℕ) → v ≢ ev.tid → count e v o ≡ 0 = subst P act allowed in
    by_test t u (t == u) refl (λ differ. positive (count e u o) some (alone u (λ is. differ (sym mine ∙ sym is))))

owners_meet : (ev : Event) (e : List Event) (t u o : ℕ) → IsAllowed ev.tid ev.act e → (0 < count e t o → 0 < count e u o → t ≡ u)
    → (0 < count e t o) ⊎ ((ev.tid ≡ t) × (ev.act ≡ Enter o)) → (0 < count e u o) ⊎ ((ev.tid ≡ u) × (ev.act ≡ Enter o)) → t ≡ u
owners_meet ev e t u o allowed older (inl a) (inl b) = older a b
owners_meet ev e t u o allowed older (inl a) (inr b) = sym (enters_alone ev e u t o allowed b.0 b.1 a)
owners_meet ev e t u o allowed older (inr a) (inl b) = enters_alone ev e t u o allowed a.0 a.1 b
owners_meet ev e t u o allowed older (inr a) (inr b) = sym a.0 ∙ b.0

pub one_owner : (e : List Event) (t u o : ℕ) → AllAllowed e → 0 < count e t o → 0 < count e u o → t ≡ u
one_owner [] t u o all a b = absurd (omega arith)
one_owner (ev ∷ e) t u o all a b = owners_meet ev e t u o all.1 (one_owner e t u o all.0) (grown ev e t o a) (grown ev e u o b)

-- ---- the owner that is found

found_in : {X : Type 0} (p : X → Bool) (x y : X) (xs : List X) (b : Bool) → p y ≡ b → (Member x xs → (z : X) × ((find p xs ≡ Some z) × (p z ≡ true)))
    → p x ≡ true → (x ≡ y) ⊎ Member x xs
    → (z : X) × (((if b then Some y else find p xs) ≡ Some z) × (p z ≡ true))
found_in p x y xs true is later passes there = (y, (refl, is))
found_in p x y xs false is later passes (inl same) = absurd (clash (p y) (ap p (sym same) ∙ passes) is)
found_in p x y xs false is later passes (inr there) = later there

find_some : {X : Type 0} (p : X → Bool) (x : X) (xs : List X) → p x ≡ true → Member x xs → (z : X) × ((find p xs ≡ Some z) × (p z ≡ true))
find_some p x [] passes there = absurd there
find_some p x (y ∷ ys) passes there = found_in p x y ys (p y) refl (find_some p x ys passes) passes there

find_passes_by : {X : Type 0} (p : X → Bool) (y z : X) (ys : List X) (b : Bool) → p y ≡ b → (find p ys ≡ Some z → p z ≡ true)
    → (if b then Some y else find p ys) ≡ Some z → p z ≡ true
find_passes_by p y z ys true is later found =
    let same : y ≡ z = same_Some y z found in
    ap p (sym same) ∙ is
find_passes_by p y z ys false is later found = later found

find_passes : {X : Type 0} (p : X → Bool) (z : X) (ys : List X) → find p ys ≡ Some z → p z ≡ true
find_passes p z [] found = cc
find_passes p z (y ∷ ys) found = find_passes_by p y z ys (p y) refl (find_passes p z ys) found

acted_by : (ev : Event) (e : List Event) (t o : ℕ) (b : Bool) → (ev.tid == t) ≡ b → (0 < count e t o → Member t (map (λ x. x.tid) e))
    → 0 < how_many (enters o) (since (after b ev.act (acts_of t e))) - how_many (exits o) (since (after b ev.act (acts_of t e)))
    → (t ≡ ev.tid) ⊎ Member t (map (λ x. x.tid) e)
acted_by ev e t o true is older some = inl (sym (eqb-true ev.tid t is))
acted_by ev e t o false is older some = inr (older some)

-- an owner did something
acted : (e : List Event) (t o : ℕ) → 0 < count e t o → Member t (map (λ ev. ev.tid) e)
acted [] t o some = absurd (omega arith)
acted (ev ∷ e) t o some = acted_by ev e t o (ev.tid == t) refl (acted e t o) some

pub owner_has : (e : List Event) (t o : ℕ) → owner e o ≡ Some t → 0 < count e t o
owner_has e t o is =
    let passes = find_passes (λ u. nat_lt 0 (count e u o)) t (map (λ ev. ev.tid) e) is in
    grind (arith, nat_tests, passes)

held_is : (found : Option ℕ) (t : ℕ) → found ≡ Some t → is_some found ≡ true
held_is None t is = cc
held_is (Some u) t is = refl

-- who counts some owns it, or another does
pub held_by : (e : List Event) (t o : ℕ) → 0 < count e t o → held e o ≡ true
held_by e t o some =
    let passes : nat_lt 0 (count e t o) ≡ true = grind (arith, nat_tests) in
    let found = find_some (λ u. nat_lt 0 (count e u o)) t (map (λ ev. ev.tid) e) passes (acted e t o some) in
    held_is (owner e o) found.0 found.1.0

holder_is : (e : List Event) (o : ℕ) (found : Option ℕ) → owner e o ≡ found → is_some found ≡ true → (t : ℕ) × (0 < count e t o)
holder_is e o None is held = cc
holder_is e o (Some t) is held = (t, owner_has e t o is)

pub holder : (e : List Event) (o : ℕ) → held e o ≡ true → (t : ℕ) × (0 < count e t o)
holder e o is = holder_is e o (owner e o) refl is

pub owner_is : (e : List Event) (t o : ℕ) → AllAllowed e → 0 < count e t o → owner e o ≡ Some t
owner_is e t o all some =
    let passes : nat_lt 0 (count e t o) ≡ true = grind (arith, nat_tests) in
    let found = find_some (λ u. nat_lt 0 (count e u o)) t (map (λ ev. ev.tid) e) passes (acted e t o some) in
    let there : 0 < count e found.0 o = owner_has e found.0 o found.1.0 in
    found.1.0 ∙ ap Some (one_owner e found.0 t o all there some)

owner_none : (e : List Event) (o : ℕ) (found : Option ℕ) → owner e o ≡ found → ((t : ℕ) → count e t o ≡ 0) → found ≡ None
owner_none e o None is free = refl
owner_none e o (Some t) is free = absurd (positive (count e t o) (owner_has e t o is) (free t))

pub no_owner : (e : List Event) (o : ℕ) → ((t : ℕ) → count e t o ≡ 0) → owner e o ≡ None
no_owner e o free = owner_none e o (owner e o) refl free

free_by : (e : List Event) (t o n : ℕ) → count e t o ≡ n → AllAllowed e → owner e o ≡ None → n ≡ 0
free_by e t o zero is all none = refl
free_by e t o (suc n) is all none =
    let some : 0 < count e t o = omega arith in
    let there : owner e o ≡ Some t = owner_is e t o all some in
    cc

pub all_free : (e : List Event) (t o : ℕ) → AllAllowed e → owner e o ≡ None → count e t o ≡ 0
all_free e t o all none = free_by e t o (count e t o) refl all none
