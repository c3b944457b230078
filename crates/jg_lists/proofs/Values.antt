-- What look-ups of numbers find, once one number's value is written, added or taken out.
use Rattle.std.proofs.Common.{◌≡◌, ◌<◌, ℕ, Bool, true, false, List, [], ◌∷◌, ◌++◌, Option, Some, None, refl, ◌∙◌, sym, ap, subst, arith, eqb-true}
use Rattle.std.specs.Prelude.{All, ◌==◌, ◌||◌, if◌then◌else◌, IsPermutation, IfSome, IsSome, map}
use Rattle.std.specs.List.{IsDistinct, list_any}
use Rattle.std.specs.Option.{is_some, option_map}
use Rattle.std.specs.Map.{keys_of, values_of, set_value}
use Rattle.std.specs.BTreeMap.{is_at}
use Rattle.std.specs.Cmp.{nat_cmp_total, eq_by_cmp_equiv}
use Rattle.std.specs.Ordering.{nat_cmp, eq_by_cmp}
use Rattle.std.proofs.lemmas.Bool.Decides.{nat_tests}
use Rattle.std.proofs.lemmas.List.Elements.{All-map, All-from_recursion, recursion_from_All}
use Rattle.std.proofs.lemmas.List.Sorted.{IsPermutation-map, All-permutation}
use Rattle.indexmap.proofs.MapLemmas.{distinct_permutation, lookup_permutation}
use Rattle.std.proofs.lemmas.Map.{keys-set_value, lookup-set_value}
use Rattle.jg_lists.specs.declared.by_number.Numbered.{Numbered}
use Rattle.jg_lists.specs.ByThread.{at, IsOnce}
use Rattle.jg_lists.specs.ByNumber.{seen}
use Rattle.jg_lists.specs.Lending.{WritesThrough}
use Rattle.jg_lists.specs.Marks.{Marks}
use Rattle.jg_lists.proofs.Acts.{at_key}
use Rattle.jg_lists.proofs.Lists.{all_mapped}

pub set_once : {V : Type 0} (es : List (ℕ × V)) (t : ℕ) (w : V) → IsOnce es → IsOnce (set_value (is_at (nat_cmp t)) es w)
set_once es t w once = subst (IsDistinct (eq_by_cmp nat_cmp)) (sym (keys-set_value (is_at (nat_cmp t)) es w)) once

-- a value is written, and the numbers stay as small as they were
pub set_below : {V : Type 0} (bound : ℕ) (es news : List (ℕ × V)) (t : ℕ) (w : V) → news ≡ set_value (is_at (nat_cmp t)) es w → All (λ e. e.0 < bound) es
    → All (λ e. e.0 < bound) news
set_below {V} bound es news t w is all =
    all_mapped (λ (e : ℕ × V). e.0) (λ n. n < bound) news
    (subst (All (λ n. n < bound)) (sym (ap keys_of is ∙ keys-set_value (is_at (nat_cmp t)) es w)) (All-map (λ n. n < bound) (λ (e : ℕ × V). e.0) es all))

-- the same where a value was taken out, or none
pub removed_below : {V : Type 0} (bound : ℕ) (es news : List (ℕ × V)) (n : ℕ) (gone : Option V) → All (λ e. e.0 < bound) es
    → IfSome gone (λ v. IsPermutation es ((n, v) ∷ news)) → (gone ≡ None → news ≡ es) → All (λ e. e.0 < bound) news
removed_below bound es news n None all taken none = subst (All (λ e. e.0 < bound)) (sym (none refl)) all
removed_below bound es news n (Some v) all taken none =
    All-from_recursion (λ e. e.0 < bound) news
    (recursion_from_All (λ e. e.0 < bound) ((n, v) ∷ news) (All-permutation (λ e. e.0 < bound) es ((n, v) ∷ news) taken all)).1

alike : (t x y : ℕ) → is_at (nat_cmp t) x ≡ true → is_at (nat_cmp t) y ≡ eq_by_cmp nat_cmp x y
alike t x y own = grind (arith, nat_tests, own)

turned : (t q : ℕ) → is_at (nat_cmp t) q ≡ (t == q)
turned t q = grind (arith, nat_tests)

is_some_by : {V : Type 0} (found : Option V) (v : V) → found ≡ Some v → IsSome found
is_some_by found v is = rw is refl

-- the number finds what was written, and each other one what it found
pub set_at : {V : Type 0} (es : List (ℕ × V)) (t q : ℕ) (v w : V) → at t es ≡ Some v
    → at q (set_value (is_at (nat_cmp t)) es w) ≡ (if t == q then Some w else at q es)
set_at es t q v w is =
    lookup-set_value (eq_by_cmp_equiv nat_cmp_total) (is_at (nat_cmp t)) (alike t) q w es (is_some_by (at t es) v is)
    ∙ ap (λ b. if b then Some w else at q es) (turned t q)

changed_at : {V : Type 0} (es : List (ℕ × V)) (t q : ℕ) (v w : V) (change : V → V) (same : Bool) → (t == q) ≡ same → at t es ≡ Some v → w ≡ change v
    → (if same then Some w else at q es) ≡ (if same then option_map change (at q es) else at q es)
changed_at es t q v w change true same is now =
    let own : at q es ≡ Some v = ap (λ k. at k es) (sym (eqb-true t q same)) ∙ is in
    rw own (ap Some now)
changed_at es t q v w change false same is now = refl

written_at : {V : Type 0} (es : List (ℕ × V)) (t q : ℕ) (v w : V) (change : V → V) → at t es ≡ Some v → w ≡ change v
    → at q (set_value (is_at (nat_cmp t)) es w) ≡ (if t == q then option_map change (at q es) else at q es)
written_at es t q v w change is now = set_at es t q v w is ∙ changed_at es t q v w change (t == q) refl is now

added_by : {V : Type 0} (t q : ℕ) (v : V) (e : ℕ × V) (es : List (ℕ × V)) (mine same : Bool) → (e.0 == q) ≡ mine → (t == q) ≡ same
    → is_at (nat_cmp t) e.0 ≡ false
    → at q (es ++ (t, v) ∷ []) ≡ (if t == q then Some v else at q es)
    → (if mine then Some e.1 else at q (es ++ (t, v) ∷ [])) ≡ (if same then Some v else (if mine then Some e.1 else at q es))
added_by t q v e es true true mine same other later = absurd (both (grind (arith, nat_tests)) other)
  where
    both : {b : Bool} → b ≡ true → b ≡ false → ⊥
    both own differs = cc
added_by t q v e es true false mine same other later = refl
added_by t q v e es false true mine same other later = later ∙ ap (λ b. if b then Some v else at q es) same
added_by t q v e es false false mine same other later = later ∙ ap (λ b. if b then Some v else at q es) same

none_head : {V : Type 0} (found : Option V) (x : V) (b : Bool) → (if b then Some x else found) ≡ None → b ≡ false
none_head found x true none = cc
none_head found x false none = refl

none_tail : {V : Type 0} (found : Option V) (x : V) (b : Bool) → (if b then Some x else found) ≡ None → found ≡ None
none_tail found x true none = cc
none_tail found x false none = none

-- the number finds what was added, and each other one what it found
pub added_at : {V : Type 0} (es : List (ℕ × V)) (t q : ℕ) (v : V) → at t es ≡ None → at q (es ++ (t, v) ∷ []) ≡ (if t == q then Some v else at q es)
added_at [] t q v none = ap (λ b. if b then Some v else None) (at_key q t)
added_at (e ∷ es) t q v none =
    rw (at_key q e.0) (added_by t q v e es (e.0 == q) (t == q) refl refl (none_head (at t es) e.1 (is_at (nat_cmp t) e.0) none)
    (added_at es t q v (none_tail (at t es) e.1 (is_at (nat_cmp t) e.0) none)))

removed_by : {V : Type 0} (n q : ℕ) (v : V) (es fs : List (ℕ × V)) (b : Bool) → (n == q) ≡ b → at n fs ≡ None → at q ((n, v) ∷ fs) ≡ at q es
    → at q fs ≡ (if b then None else at q es)
removed_by n q v es fs true same none all = ap (λ k. at k fs) (sym (eqb-true n q same)) ∙ none
removed_by n q v es fs false differ none all =
    let other : is_at (nat_cmp q) n ≡ false = grind (arith, nat_tests, differ) in
    rw other at all

-- in another order no number is there twice
pub moved_once : {V : Type 0} (es fs : List (ℕ × V)) → IsOnce es → IsPermutation es fs → IsOnce fs
moved_once es fs once moves = distinct_permutation (eq_by_cmp_equiv nat_cmp_total) (keys_of es) (keys_of fs) (IsPermutation-map (λ e. e.0) es fs moves) once

-- and each number finds what it found
pub moved_at : {V : Type 0} (es fs : List (ℕ × V)) (q : ℕ) → IsOnce es → IsPermutation es fs → at q fs ≡ at q es
moved_at es fs q once moves = lookup_permutation (eq_by_cmp_equiv nat_cmp_total) es fs moves (moved_once es fs once moves) (is_at (nat_cmp q)) (alike q)

-- the number finds nothing once its value was taken out, and each other one what it found
pub removed_at : {V : Type 0} (es fs : List (ℕ × V)) (n q : ℕ) (v : V) → IsOnce es → IsPermutation es ((n, v) ∷ fs) → at n fs ≡ None
    → at q fs ≡ (if n == q then None else at q es)
removed_at es fs n q v once moves none = removed_by n q v es fs (n == q) refl none (moved_at es ((n, v) ∷ fs) q once moves)

-- nothing is taken out where the number has no value
pub removed_none : {V : Type 0} (es : List (ℕ × V)) (n q : ℕ) → at n es ≡ None → at q es ≡ (if n == q then None else at q es)
removed_none es n q none = none_by (n == q) refl
  where
    none_by : (b : Bool) → (n == q) ≡ b → at q es ≡ (if b then None else at q es)
    none_by true same = ap (λ k. at k es) (sym (eqb-true n q same)) ∙ none
    none_by false differ = refl

any_in : {V : Type 0} (p : V → Bool) (seats : List (Numbered V)) → list_any (λ seat. p seat.value) seats ≡ list_any p (values_of (map seen seats))
any_in p [] = refl
any_in p (seat ∷ seats) = ap (λ b. p seat.value || b) (any_in p seats)

-- whether some thread's value passes
any_value : {V : Type 0} (p : V → Bool) (seats : List (Numbered V)) (es : List (ℕ × V)) → map seen seats ≡ es
    → list_any (λ seat. p seat.value) seats ≡ list_any p (values_of es)
any_value p seats es is = any_in p seats ∙ ap (λ l. list_any p (values_of l)) is

-- the marks of what some thread's value names
pub marks_value : {V : Type 0} (test : V → ℕ → Bool) (seats : List (Numbered V)) (es : List (ℕ × V)) (old new : ℕ → Option Bool) → map seen seats ≡ es
    → Marks (λ o. list_any (λ seat. test seat.value o) seats) old new → Marks (λ o. list_any (λ v. test v o) (values_of es)) old new
marks_value test seats es old new is marks o = marks o ∙ ap (λ b. option_map (λ mark. mark || b) (old o)) (any_value (λ v. test v o) seats es is)

set_past : {V : Type 0} (e : ℕ × V) (es new : List (ℕ × V)) (w : V) (mine : Bool) → mine ≡ false → new ≡ es → (if mine then (e.0, w) ∷ es else e ∷ new) ≡ e ∷ es
set_past e es new w true other same = cc
set_past e es new w false other same = ap (λ l. e ∷ l) same

-- nothing is written where the number has no value
set_none : {V : Type 0} (es : List (ℕ × V)) (t : ℕ) (w : V) → at t es ≡ None → set_value (is_at (nat_cmp t)) es w ≡ es
set_none [] t w none = refl
set_none (e ∷ es) t w none =
    set_past e es (set_value (is_at (nat_cmp t)) es w) w (is_at (nat_cmp t) e.0) (none_head (at t es) e.1 (is_at (nat_cmp t) e.0) none)
    (set_none es t w (none_tail (at t es) e.1 (is_at (nat_cmp t) e.0) none))

pub some_there : {V : Type 0} (value : Option V) → is_some value ≡ true → IsSome value
some_there None is = cc
some_there (Some v) is = refl

pub none_some : {V : Type 0} {Q : Type 0} (value : Option V) → value ≡ None → IsSome value → Q
none_some None none some = cc
none_some (Some v) none some = cc

-- what is known once a value is written through a reference to it
pub through : {V : Type 0} (es : List (ℕ × V)) (t : ℕ) (v w : V) → IsOnce es → at t es ≡ Some v → WritesThrough t es w (set_value (is_at (nat_cmp t)) es w)
through es t v w once is = record {
  entries = refl;
  values = λ some q. set_at es t q v w is;
  once = set_once es t w once;
}

pub through_none : {V : Type 0} (es : List (ℕ × V)) (t : ℕ) (w : V) → IsOnce es → at t es ≡ None → WritesThrough t es w es
through_none es t w once none = record {
  entries = sym (set_none es t w none);
  values = λ some. none_some (at t es) none some;
  once = once;
}
