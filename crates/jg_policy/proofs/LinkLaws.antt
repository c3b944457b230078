-- What is linked and what was warned of, in terms of single events.
use Rattle.std.proofs.Common.{◌≡◌, ℕ, ◌<◌, zero, suc, Bool, true, false, not, ◌||◌, ◌&&◌, ◌==◌, List, [], ◌∷◌, ◌++◌, length, All, Contains, get_or, refl, ap, ◌∙◌, sym, arith}
use Rattle.std.proofs.lemmas.Bool.{false≢true, eqb-true, and_parts}
use Rattle.std.proofs.lemmas.List.Elements.{All-nil, All-cons, Contains-push, Contains-append_left, Contains-append_right}
use Rattle.std.specs.Prelude.{◌≢◌}
use Rattle.std.proofs.Math.Bool.{or-true}
use Rattle.jg_words.proofs.Common.{eqb_self}
use Rattle.jg_policy.specs.Links.{Event, Linked, UnlinkedAll, Warned, linked, warned}
use Rattle.jg_policy.specs.Laws.{IsLinked}

later_by : (class native : ℕ) (ev : Event) (e : List Event) → ev ≢ UnlinkedAll class → IsLinked e class native → IsLinked (ev ∷ e) class native
later_by class native ev e other (later, before, is, none) =
    (ev ∷ later, before, ap (λ l. ev ∷ l) is, All-cons (λ x. x ≢ UnlinkedAll class) ev later other none)

pub is_linked : (e : List Event) (class native : ℕ) → linked e class native ≡ true → IsLinked e class native
is_linked [] class native h = absurd (false≢true h)
is_linked (Linked c n ∷ e) class native h = by (class == c && native == n) refl h (is_linked e class native)
  where
    by : (b : Bool) → (class == c && native == n) ≡ b → (b || linked e class native) ≡ true → (linked e class native ≡ true → IsLinked e class native)
        → IsLinked (Linked c n ∷ e) class native
    by true same h rest =
        let tests = and_parts _ _ same in
        let c_is : class ≡ c = eqb-true class c tests.0 in
        let n_is : native ≡ n = eqb-true native n tests.1 in
        rw (c_is, n_is) ([], e, refl, All-nil _)
    by false same h rest = later_by class native (Linked c n) e (λ is. cc) (rest h)
is_linked (UnlinkedAll c ∷ e) class native h =
    let both = and_parts (not (c == class)) (linked e class native) h in
    later_by class native (UnlinkedAll c) e
    (λ is. let same : c ≡ class = cc in let yes : (c == class) ≡ true = rw same (eqb_self class) in false≢true (ap not (sym yes) ∙ both.0))
    (is_linked e class native both.1)
is_linked (Warned home ∷ e) class native h = later_by class native (Warned home) e (λ is. cc) (is_linked e class native h)

stays_linked : (later before : List Event) (class native : ℕ) → All (λ ev. ev ≢ UnlinkedAll class) later
    → linked (later ++ Linked class native ∷ before) class native ≡ true
stays_linked [] before class native none = rw (eqb_self class, eqb_self native)
stays_linked (Linked c n ∷ later) before class native none =
    rw (stays_linked later before class native (λ k d h. none (suc k) d (omega arith))) (or-true (class == c && native == n))
stays_linked (UnlinkedAll c ∷ later) before class native none =
    by (c == class) refl (stays_linked later before class native (λ k d h. none (suc k) d (omega arith)))
  where
    by : (b : Bool) → (c == class) ≡ b → linked (later ++ Linked class native ∷ before) class native ≡ true
        → (not b && linked (later ++ Linked class native ∷ before) class native) ≡ true
    by true same rest = absurd (none 0 (UnlinkedAll c) (omega arith) (ap UnlinkedAll (eqb-true c class same)))
    by false same rest = rest
stays_linked (Warned home ∷ later) before class native none = stays_linked later before class native (λ k d h. none (suc k) d (omega arith))

pub linked_from : (e : List Event) (class native : ℕ) → IsLinked e class native → linked e class native ≡ true
linked_from e class native (later, before, is, none) = rw is (stays_linked later before class native none)

warned_before : (ev : Event) (e : List Event) (home : ℕ) → Contains e (Warned home) → Contains (ev ∷ e) (Warned home)
warned_before ev e home there = Contains-append_right (ev ∷ []) e (Warned home) there

pub is_warned : (e : List Event) (home : ℕ) → warned e home ≡ true → Contains e (Warned home)
is_warned [] home h = absurd (false≢true h)
is_warned (Linked c n ∷ e) home h = warned_before (Linked c n) e home (is_warned e home h)
is_warned (UnlinkedAll c ∷ e) home h = warned_before (UnlinkedAll c) e home (is_warned e home h)
is_warned (Warned other ∷ e) home h = by (home == other) refl h (is_warned e home)
  where
    by : (b : Bool) → (home == other) ≡ b → (b || warned e home) ≡ true → (warned e home ≡ true → Contains e (Warned home))
        → Contains (Warned other ∷ e) (Warned home)
    by true same h rest = rw (eqb-true home other same) (Contains-append_left (Warned other ∷ []) e (Warned other) (Contains-push [] (Warned other)))
    by false same h rest = warned_before (Warned other) e home (rest h)

warned_at : (e : List Event) (home k : ℕ) → k < length e → get_or e k (Warned home) ≡ Warned home → warned e home ≡ true
warned_at [] home k below at = absurd (omega arith)
warned_at (Linked c n ∷ e) home zero below at = absurd (let no : ⊥ = cc in no)
warned_at (Linked c n ∷ e) home (suc k) below at = warned_at e home k (omega arith) at
warned_at (UnlinkedAll c ∷ e) home zero below at = absurd (let no : ⊥ = cc in no)
warned_at (UnlinkedAll c ∷ e) home (suc k) below at = warned_at e home k (omega arith) at
warned_at (Warned other ∷ e) home zero below at = let same : other ≡ home = cc in rw (same, eqb_self home)
warned_at (Warned other ∷ e) home (suc k) below at = rw (warned_at e home k (omega arith) at) (or-true (home == other))

pub warned_from : (e : List Event) (home : ℕ) → Contains e (Warned home) → warned e home ≡ true
warned_from e home (k, below, at) = warned_at e home k below at
