-- What each thread did, one event later, and rows counted by a key.
use Rattle.std.proofs.Common.{◌≡◌, ◌≢◌, ◌+◌, ℕ, length, Bool, true, false, List, [], ◌∷◌, ◌++◌, Option, Some, None, refl, ◌∙◌, ap, subst, eqb, eqb-true, arith}
use Rattle.std.specs.Prelude.{◌==◌, if◌then◌else◌, filter, map}
use Rattle.std.specs.Map.{keys_of}
use Rattle.std.specs.BTreeMap.{is_at}
use Rattle.std.specs.Ordering.{nat_cmp, eq_by_cmp}
use Rattle.std.specs.Cmp.{nat_cmp_total, eq_by_cmp_equiv}
use Rattle.std.proofs.lemmas.Bool.Decides.{nat_tests}
use Rattle.std.proofs.lemmas.Map.{lookup-none}
use Rattle.std.proofs.lemmas.Map.Entries.{none_past_head}
use Rattle.std.proofs.lemmas.Map.Keys.{IsDistinct-tail}
use Rattle.jg_lists.specs.Acts.{Event, by, acts_of, how_many}
use Rattle.jg_lists.specs.ByThread.{at, IsOnce}

pub acts_more : {Act : Type 0} (t u : ℕ) (a : Act) (e : List (Event Act)) → t ≡ u → acts_of t (by u a ∷ e) ≡ a ∷ acts_of t e
acts_more t u a e is = grind (arith, nat_tests)

pub acts_same : {Act : Type 0} (t u : ℕ) (a : Act) (e : List (Event Act)) → t ≢ u → acts_of t (by u a ∷ e) ≡ acts_of t e
acts_same t u a e differ = grind (arith, nat_tests)

at_thread : (P : ℕ → Type 0) (u : ℕ) → P u → ((t : ℕ) → t ≢ u → P t) → (t : ℕ) (same : Bool) → eqb u t ≡ same → P t
at_thread P u here others t true is = subst P (eqb-true u t is) here
at_thread P u here others t false is = others t (grind (arith, nat_tests))

-- a claim on each thread, from one on the thread that acted and one on the others
pub each_thread : (P : ℕ → Type 0) (u : ℕ) → P u → ((t : ℕ) → t ≢ u → P t) → (t : ℕ) → P t
each_thread P u here others t = at_thread P u here others t (eqb u t) refl

-- a claim on what each thread did, after one more act
pub each_acted : {Act : Type 0} (P : ℕ → List Act → Type 0) (u : ℕ) (a : Act) (e : List (Event Act)) → ((t : ℕ) → t ≢ u → P t (acts_of t e))
    → P u (a ∷ acts_of u e)
    → (t : ℕ) → P t (acts_of t (by u a ∷ e))
each_acted P u a e others here t =
    each_thread (λ v. P v (acts_of v (by u a ∷ e))) u
    (rw (acts_more u u a e refl) here)
    (λ v differ. rw (acts_same v u a e differ) (others v differ))
    t

-- ---- rows by key

pub at_key : (t k : ℕ) → is_at (nat_cmp t) k ≡ (k == t)
at_key t k = grind (arith, nat_tests)

-- one where something is found
abbrev pub one_if : {V : Type 0} → Option V → ℕ
one_if None = 0
one_if (Some v) = 1

counted_at : {V : Type 0} (t : ℕ) (x : ℕ × V) (rows : List (ℕ × V)) (b : Bool) → (x.0 == t) ≡ b → IsOnce (x ∷ rows)
    → how_many (λ row. row.0 == t) rows ≡ one_if (at t rows)
    → (if b then how_many (λ row. row.0 == t) rows + 1 else how_many (λ row. row.0 == t) rows) ≡ one_if (if b then Some x.1 else at t rows)
counted_at t x rows true is once later =
    let none : at t rows ≡ None = lookup-none (is_at (nat_cmp t)) rows (none_past_head (eq_by_cmp_equiv nat_cmp_total) t x rows once (at_key t x.0 ∙ is)) in
    let empty : how_many (λ row. row.0 == t) rows ≡ 0 = later ∙ ap one_if none in
    omega (arith, empty)
counted_at t x rows false is once later = later

-- each thread has as many rows as a look-up finds
pub counted_law : {V : Type 0} (t : ℕ) (rows : List (ℕ × V)) → IsOnce rows → how_many (λ row. row.0 == t) rows ≡ one_if (at t rows)
counted_law t [] once = refl
counted_law t (x ∷ rows) once =
    let later = counted_law t rows (IsDistinct-tail (eq_by_cmp nat_cmp) x.0 (keys_of rows) once) in
    rw (at_key t x.0) (counted_at t x rows (x.0 == t) refl once later)

-- ---- one item more

swapped : (a b : Bool) (h : ℕ)
    → (if a then (if b then h + 1 else h) + 1 else (if b then h + 1 else h)) ≡ (if b then (if a then h + 1 else h) + 1 else (if a then h + 1 else h))
swapped true true h = refl
swapped true false h = refl
swapped false true h = refl
swapped false false h = refl

-- it is one more of the count, if it is of the kind
pub how_many-between : {X : Type 0} (p : X → Bool) (front : List X) (x : X) (back : List X)
    → how_many p (front ++ x ∷ back) ≡ (if p x then how_many p (front ++ back) + 1 else how_many p (front ++ back))
how_many-between p [] x back = refl
how_many-between p (y ∷ front) x back = ap (λ h. if p y then h + 1 else h) (how_many-between p front x back) ∙ swapped (p y) (p x) (how_many p (front ++ back))

counted_by : {X : Type 0} (x : X) (passed : List X) (h : ℕ) (b : Bool) → length passed ≡ h
    → length (if b then x ∷ passed else passed) ≡ (if b then h + 1 else h)
counted_by x passed h true later = omega (arith, later)
counted_by x passed h false later = later

pub length-filter : {X : Type 0} (p : X → Bool) (xs : List X) → length (filter p xs) ≡ how_many p xs
length-filter p [] = refl
length-filter p (x ∷ xs) = counted_by x (filter p xs) (how_many p xs) (p x) (length-filter p xs)

-- what another thread did, all at once, is not among one's own
pub acts_others : {Act : Type 0} (t u : ℕ) (acts : List Act) (e : List (Event Act)) → t ≢ u → acts_of t (map (by u) acts ++ e) ≡ acts_of t e
acts_others t u [] e differ = refl
acts_others t u (a ∷ acts) e differ = acts_same t u a (map (by u) acts ++ e) differ ∙ acts_others t u acts e differ
