-- What ended stays ended where no number is handed out twice, and what a caller that counts the numbers knows of the rows.
use Rattle.std.proofs.Common.{◌≡◌, ℕ, ◌<◌, Bool, true, false, List, [], ◌∷◌, ◌++◌, Option, Some, None, refl, ◌∙◌, ap, sym, subst, arith, inl, inr}
use Rattle.std.specs.Prelude.{◌==◌, ◌||◌, if◌then◌else◌}
use Rattle.std.specs.List.{list_any}
use Rattle.std.proofs.lemmas.Bool.Decides.{nat_tests}
use Rattle.std.proofs.lemmas.List.Elements.{All-from_recursion}
use Rattle.std.proofs.lemmas.Option.{same_Some}
use Rattle.std.proofs.lemmas.Bool.{or_right}
use Rattle.jg_table_globals.specs.declared.target.Target.{Target}
use Rattle.jg_table_globals.specs.declared.target.Target.TheVariants.{Object, Cleared}
use Rattle.jg_table_globals.specs.History.{Event, MakeStrong, MakeWeak, DeleteStrong, DeleteWeak, Clear, is_same, strong, weak, clears, after_making, unless_cleared, weak_target}
use Rattle.jg_table_globals.specs.Laws.{IsMadeBelow, NumbersRise, makes, StaysEnded}
use Rattle.jg_table_globals.specs.Rows.{Rows, Strong, Weak, is_strong, is_weak, IsAbove}
use Rattle.jg_table_globals.specs.Standing.{Stands, weak_rows}
use Rattle.jg_lists.proofs.Lists.{Member, member_filter, each_member}
use Rattle.jg_table_globals.proofs.Lookups.{strong_of_member}
use Rattle.jg_table_globals.proofs.Means.{cleared_if}

-- a number that was given isn't above all that were given
given_below : (e : List Event) (m n k i : ℕ) → list_any (makes m n) e ≡ true → IsMadeBelow k i e → is_same m n k i ≡ false
given_below [] m n k i made below = cc
given_below (MakeStrong j l o ∷ e) m n k i made below =
    let older = given_below e m n k i in
    let here = below.0 in
    grind (arith, nat_tests, older, here, below.1)
given_below (MakeWeak j l o ∷ e) m n k i made below =
    let older = given_below e m n k i in
    let here = below.0 in
    grind (arith, nat_tests, older, here, below.1)
given_below (DeleteStrong j l ∷ e) m n k i made below = given_below e m n k i made below
given_below (DeleteWeak j l ∷ e) m n k i made below = given_below e m n k i made below
given_below (Clear o ∷ e) m n k i made below = given_below e m n k i made below

was_given : (later e : List Event) (m n : ℕ) → list_any (makes m n) e ≡ true → list_any (makes m n) (later ++ e) ≡ true
was_given [] e m n made = made
was_given (ev ∷ later) e m n made = rw (was_given later e m n made) (elim (makes m n ev) as (λ b. (b || true) ≡ true) [ true ↦ refl | false ↦ refl ])

strong_ended : (later e : List Event) (m n : ℕ) → NumbersRise (later ++ e) → list_any (makes m n) e ≡ true → strong e m n ≡ None
    → strong (later ++ e) m n ≡ None
strong_ended [] e m n rise made none = none
strong_ended (MakeStrong k i o ∷ later) e m n rise made none =
    rw (given_below (later ++ e) m n k i (was_given later e m n made) rise.0) (strong_ended later e m n rise.1 made none)
strong_ended (MakeWeak k i o ∷ later) e m n rise made none = strong_ended later e m n rise.1 made none
strong_ended (DeleteStrong k i ∷ later) e m n rise made none =
    rw (strong_ended later e m n rise made none)
    (elim (is_same m n k i) as (λ b. (if◌then◌else◌ {A = Option ℕ} b None None) ≡ None) [ true ↦ refl | false ↦ refl ])
strong_ended (DeleteWeak k i ∷ later) e m n rise made none = strong_ended later e m n rise made none
strong_ended (Clear o ∷ later) e m n rise made none = strong_ended later e m n rise made none

weak_ended : (later e : List Event) (m n : ℕ) → NumbersRise (later ++ e) → list_any (makes m n) e ≡ true → weak e m n ≡ None → weak (later ++ e) m n ≡ None
weak_ended [] e m n rise made none = none
weak_ended (MakeStrong k i o ∷ later) e m n rise made none = weak_ended later e m n rise.1 made none
weak_ended (MakeWeak k i o ∷ later) e m n rise made none =
    rw (given_below (later ++ e) m n k i (was_given later e m n made) rise.0) (weak_ended later e m n rise.1 made none)
weak_ended (DeleteStrong k i ∷ later) e m n rise made none = weak_ended later e m n rise made none
weak_ended (DeleteWeak k i ∷ later) e m n rise made none = rw (weak_ended later e m n rise made none)
    (elim (is_same m n k i) as (λ b. (if◌then◌else◌ {A = Option ℕ} b None None) ≡ None) [ true ↦ refl | false ↦ refl ])
weak_ended (Clear o ∷ later) e m n rise made none = weak_ended later e m n rise made none

not_in_being : (later : List Event) (found : Option ℕ) → unless_cleared later found ≡ None → found ≡ None
not_in_being later None is = refl
not_in_being later (Some o) is = cc

pub stays_ended : (later e : List Event) (m n : ℕ) → NumbersRise (later ++ e) → list_any (makes m n) e ≡ true → StaysEnded later e m n
stays_ended later e m n rise made = record {
  strong = strong_ended later e m n rise made;
  weak = λ none. rw (weak_ended later e m n rise made (not_in_being (after_making m n e) (weak e m n) none)) refl;
}

-- ---- a cleared weak reference

made_weakly : (e : List Event) (m n k i o : ℕ) (b : Bool) → is_same m n k i ≡ b → ((p : ℕ) → weak e m n ≡ Some p → list_any (makes m n) e ≡ true) → (p : ℕ)
    → (if b then Some o else weak e m n) ≡ Some p → (b || list_any (makes m n) e) ≡ true
made_weakly e m n k i o true is older p now = refl
made_weakly e m n k i o false is older p now = older p now

still_there : (found : Option ℕ) (b : Bool) (o : ℕ) → if◌then◌else◌ {A = Option ℕ} b None found ≡ Some o → found ≡ Some o
still_there found true o now = cc
still_there found false o now = now

-- a weak reference in being was made
was_weak : (e : List Event) (m n p : ℕ) → weak e m n ≡ Some p → list_any (makes m n) e ≡ true
was_weak [] m n p now = cc
was_weak (MakeStrong k i o ∷ e) m n p now = or_right (is_same m n k i) (list_any (makes m n) e) (was_weak e m n p now)
was_weak (MakeWeak k i o ∷ e) m n p now = made_weakly e m n k i o (is_same m n k i) refl (was_weak e m n) p now
was_weak (DeleteStrong k i ∷ e) m n p now = was_weak e m n p now
was_weak (DeleteWeak k i ∷ e) m n p now = was_weak e m n p (still_there (weak e m n) (is_same m n k i) p now)
was_weak (Clear o ∷ e) m n p now = was_weak e m n p now

-- whether a reference that was made keeps its object for good, and what cleared it is never forgotten
weak_same : (later e : List Event) (m n o : ℕ) → NumbersRise (later ++ e) → list_any (makes m n) e ≡ true → weak (later ++ e) m n ≡ Some o → weak e m n ≡ Some o
weak_same [] e m n o rise made now = now
weak_same (MakeStrong k i p ∷ later) e m n o rise made now = weak_same later e m n o rise.1 made now
weak_same (MakeWeak k i p ∷ later) e m n o rise made now =
    weak_same later e m n o rise.1 made (rw (given_below (later ++ e) m n k i (was_given later e m n made) rise.0) at now)
weak_same (DeleteStrong k i ∷ later) e m n o rise made now = weak_same later e m n o rise made now
weak_same (DeleteWeak k i ∷ later) e m n o rise made now = weak_same later e m n o rise made (still_there (weak (later ++ e) m n) (is_same m n k i) o now)
weak_same (Clear p ∷ later) e m n o rise made now = weak_same later e m n o rise made now

clear_seen : (later e : List Event) (m n o : ℕ) → NumbersRise (later ++ e) → list_any (makes m n) e ≡ true → list_any (clears o) (after_making m n e) ≡ true
    → list_any (clears o) (after_making m n (later ++ e)) ≡ true
clear_seen [] e m n o rise made seen = seen
clear_seen (MakeStrong k i p ∷ later) e m n o rise made seen = clear_seen later e m n o rise.1 made seen
clear_seen (MakeWeak k i p ∷ later) e m n o rise made seen =
    rw (given_below (later ++ e) m n k i (was_given later e m n made) rise.0) (clear_seen later e m n o rise.1 made seen)
clear_seen (DeleteStrong k i ∷ later) e m n o rise made seen = clear_seen later e m n o rise made seen
clear_seen (DeleteWeak k i ∷ later) e m n o rise made seen = clear_seen later e m n o rise made seen
clear_seen (Clear p ∷ later) e m n o rise made seen =
    or_right (p == o) (list_any (clears o) (after_making m n (later ++ e))) (clear_seen later e m n o rise made seen)

was_cleared : (later : List Event) (found : Option ℕ) → unless_cleared later found ≡ Some Cleared
    → (o : ℕ) × ((found ≡ Some o) × (list_any (clears o) later ≡ true))
was_cleared later None is = cc
was_cleared later (Some o) is = (o, (refl, cleared_if o (list_any (clears o) later) is))

not_live : (later : List Event) (p o : ℕ) (found : Option ℕ) → ((q : ℕ) → found ≡ Some q → q ≡ p) → list_any (clears p) later ≡ true
    → unless_cleared later found ≡ Some (Object (record { 0 = o })) → ⊥
not_live later p o None same seen live = cc
not_live later p o (Some q) same seen live =
    let is : q ≡ p = same q refl in
    let gone : list_any (clears q) later ≡ true = ap (λ r. list_any (clears r) later) is ∙ seen in
    let now : Some Cleared ≡ Some (Object (record { 0 = o })) = sym (ap (λ b. Some (if b then Cleared else Object (record { 0 = q }))) gone) ∙ live in
    cc

pub never_again : (later e : List Event) (m n o : ℕ) → NumbersRise (later ++ e) → weak_target e m n ≡ Some Cleared
    → ¬ (weak_target (later ++ e) m n ≡ Some (Object (record { 0 = o })))
never_again later e m n o rise cleared =
    let was = was_cleared (after_making m n e) (weak e m n) cleared in
    let made = was_weak e m n was.0 was.1.0 in
    not_live (after_making m n (later ++ e)) was.0 o (weak (later ++ e) m n)
    (λ q now. same_Some q was.0 (sym (weak_same later e m n q rise made now) ∙ was.1.0))
    (clear_seen later e m n was.0 rise made was.1.1)

-- ---- numbers in the rows

strong_below : (e : List Event) (k i o n : ℕ) → strong e k i ≡ Some o → IsMadeBelow k n e → i < n
strong_below [] k i o n now below = cc
strong_below (MakeStrong j l p ∷ e) k i o n now below =
    let older = strong_below e k i o n in
    let here = below.0 in
    let rest = below.1 in
    grind (arith, nat_tests, older, here, rest)
strong_below (MakeWeak j l p ∷ e) k i o n now below = strong_below e k i o n now below.1
strong_below (DeleteStrong j l ∷ e) k i o n now below = strong_below e k i o n (still_there (strong e k i) (is_same k i j l) o now) below
strong_below (DeleteWeak j l ∷ e) k i o n now below = strong_below e k i o n now below
strong_below (Clear p ∷ e) k i o n now below = strong_below e k i o n now below

weak_below : (e : List Event) (k i o n : ℕ) → weak e k i ≡ Some o → IsMadeBelow k n e → i < n
weak_below [] k i o n now below = cc
weak_below (MakeStrong j l p ∷ e) k i o n now below = weak_below e k i o n now below.1
weak_below (MakeWeak j l p ∷ e) k i o n now below =
    let older = weak_below e k i o n in
    let here = below.0 in
    let rest = below.1 in
    grind (arith, nat_tests, older, here, rest)
weak_below (DeleteStrong j l ∷ e) k i o n now below = weak_below e k i o n now below
weak_below (DeleteWeak j l ∷ e) k i o n now below = weak_below e k i o n (still_there (weak e k i) (is_same k i j l) o now) below
weak_below (Clear p ∷ e) k i o n now below = weak_below e k i o n now below

in_being : (e : List Event) (k i : ℕ) (t : Target) (found : Option ℕ) → unless_cleared (after_making k i e) found ≡ Some t → (o : ℕ) × (found ≡ Some o)
in_being e k i t None is = cc
in_being e k i t (Some o) is = (o, refl)

weak_of_member : (m n : ℕ) (row : Weak) (found : Option Target) → Member row (weak_rows m n found) → found ≡ Some row.target
weak_of_member m n row None there = absurd there
weak_of_member m n row (Some t) there = elim there [ inl same ↦ ap (λ r. Some r.target) (sym same) | inr other ↦ absurd other ]

strong_row_below : (rows : Rows) (e : List Event) (m n : ℕ) → Stands rows e → IsMadeBelow m n e → (row : Strong) → Member row rows.strong → row.maker ≡ m
    → row.n < n
strong_row_below rows e m n stands below row there is =
    let mine : is_strong row.maker row.n row ≡ true = grind (arith, nat_tests) in
    let kept = member_filter (is_strong row.maker row.n) row rows.strong there mine in
    let P : List Strong → Type 0 = λ l. Member row l in
    let Q : ℕ → Type 0 = λ k. IsMadeBelow k n e in
    let now = strong_of_member row.maker row.n row.object row (strong e row.maker row.n) (subst P (stands.strong row.maker row.n) kept) refl in
    strong_below e row.maker row.n row.object n now (subst Q (sym is) below)

weak_row_below : (rows : Rows) (e : List Event) (m n : ℕ) → Stands rows e → IsMadeBelow m n e → (row : Weak) → Member row rows.weak → row.maker ≡ m → row.n < n
weak_row_below rows e m n stands below row there is =
    let mine : is_weak row.maker row.n row ≡ true = grind (arith, nat_tests) in
    let kept = member_filter (is_weak row.maker row.n) row rows.weak there mine in
    let P : List Weak → Type 0 = λ l. Member row l in
    let Q : ℕ → Type 0 = λ k. IsMadeBelow k n e in
    let now = weak_of_member row.maker row.n row (weak_target e row.maker row.n) (subst P (stands.weak row.maker row.n) kept) in
    let made = in_being e row.maker row.n row.target (weak e row.maker row.n) now in
    weak_below e row.maker row.n made.0 n made.1 (subst Q (sym is) below)

pub new_number : (rows : Rows) (e : List Event) (m n : ℕ) → Stands rows e → IsMadeBelow m n e → IsAbove m n rows
new_number rows e m n stands below = record {
  strong = All-from_recursion _ _ (each_member (λ row. row.maker ≡ m → row.n < n) rows.strong (strong_row_below rows e m n stands below));
  weak = All-from_recursion _ _ (each_member (λ row. row.maker ≡ m → row.n < n) rows.weak (weak_row_below rows e m n stands below));
}
