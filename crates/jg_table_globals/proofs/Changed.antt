-- Entries whose values change one after the other, in place.
use Rattle.std.proofs.Common.{◌≡◌, ℕ, zero, suc, ◌<◌, ◌≤◌, ◌+◌, take, drop, length, get_or, Bool, true, false, List, [], ◌∷◌, ◌++◌, Some, None, refl, ◌∙◌, ap, sym, subst, arith, add-one}
use Rattle.std.specs.Prelude.{if◌then◌else◌, map, slice_get, slice_set, IsSome}
use Rattle.std.specs.List.{AllByRecursion}
use Rattle.std.specs.Map.{set_value, keys_of}
use Rattle.std.specs.BTreeMap.{is_at}
use Rattle.std.specs.Ordering.{nat_cmp, eq_by_cmp}
use Rattle.std.proofs.lemmas.Bool.Decides.{nat_tests}
use Rattle.std.proofs.lemmas.List.{take_all, length-map}
use Rattle.std.proofs.lemmas.Map.Keys.{IsDistinct-head, IsDistinct-tail}
use Rattle.std.proofs.lemmas.Map.Steps.{set_value_same}
use Rattle.std.proofs.lemmas.Option.{same_Some}
use Rattle.jg_lists.specs.ByThread.{at, IsOnce}
use Rattle.jg_words.specs.declared.object.ObjId.{ObjId}
use Rattle.jg_table_globals.specs.declared.target.Target.{Target}
use Rattle.jg_table_globals.specs.declared.target.Target.TheVariants.{Cleared}
use Rattle.jg_table_globals.specs.Clearing.{IsCleared, EachChanged}
use Rattle.jg_lists.specs.ByMaker.{entries, named}
use Rattle.jg_lists.proofs.Seats.{some_none}

-- the first i entries are changed, and the others are as they were
pub record ChangedSoFar {K V : Type 0} (change : V → V → Type 0) (olds now : List (K × V)) (i : ℕ) : Type 0 where
  pub done : EachChanged change (take i olds) (take i now)
  pub rest : drop i now ≡ drop i olds
  pub long : length now ≡ length olds

-- with one value more changed
one_more : {K V : Type 0} (change : V → V → Type 0) (olds es : List (K × V)) (i : ℕ) (k : K) (v w : V) → ChangedSoFar change olds es i
    → slice_get es i ≡ Some (k, v) → change v w
    → ChangedSoFar change olds (slice_set es i (k, w)) (suc i)
one_more change [] [] i k v w so is changed = cc
one_more change (old ∷ olds) [] i k v w so is changed = cc
one_more change [] (e ∷ es) i k v w so is changed = let long = so.long in cc
one_more change (old ∷ olds) (e ∷ es) zero k v w so is changed =
    let same : e ∷ es ≡ old ∷ olds = so.rest in
    let head : e ≡ old = cc in
    let tail : es ≡ olds = cc in
    let there : v ≡ old.1 = ap (λ p. p.1) (sym (same_Some _ _ is)) ∙ ap (λ p. p.1) head in
    record { done = ((ap (λ p. p.0) (sym (same_Some _ _ is)) ∙ ap (λ p. p.0) head, subst (λ u. change u w) there changed), refl); rest = tail; long = so.long }
one_more change (old ∷ olds) (e ∷ es) (suc i) k v w so is changed =
    let more = one_more change olds es i k v w (record { done = so.done.1; rest = so.rest; long = omega (arith, so.long) }) is changed in
    record { done = (so.done.0, more.done); rest = more.rest; long = ap suc more.long }

-- ---- by the key

entry_at : {S E : Type 0} (seen : S → E) (seats : List S) (i : ℕ) (d : S) → i < length seats → slice_get (map seen seats) i ≡ Some (seen (get_or seats i d))
entry_at seen [] i d within = absurd (omega (arith, within))
entry_at seen (seat ∷ seats) zero d within = refl
entry_at seen (seat ∷ seats) (suc i) d within = entry_at seen seats i d (omega (arith, within))

-- the head's key is another one, where the entry at a place behind it has the key
other_head : {V : Type 0} (k head : ℕ) (v : V) (es : List (ℕ × V)) (i : ℕ) → IsOnce es → slice_get es i ≡ Some (k, v)
    → AllByRecursion (λ y. eq_by_cmp nat_cmp head y ≡ false) (keys_of es)
    → is_at (nat_cmp k) head ≡ false
other_head k head v [] i once is apart = cc
other_head k head v (e ∷ es) zero once is apart =
    let same : e.0 ≡ k = ap (λ p. p.0) (same_Some _ _ is) in
    let differ = apart.0 in
    grind (arith, nat_tests, same, differ)
other_head k head v (e ∷ es) (suc i) once is apart = other_head k head v es i (IsDistinct-tail (eq_by_cmp nat_cmp) e.0 (keys_of es) once) is apart.1

-- what is written by the key is written at its place
set_by_key : {V : Type 0} (es : List (ℕ × V)) (i k : ℕ) (v w : V) → IsOnce es → slice_get es i ≡ Some (k, v)
    → set_value (is_at (nat_cmp k)) es w ≡ slice_set es i (k, w)
set_by_key [] i k v w once is = cc
set_by_key (e ∷ es) zero k v w once is =
    let same : e.0 ≡ k = ap (λ p. p.0) (same_Some _ _ is) in
    let here : is_at (nat_cmp k) e.0 ≡ true = grind (arith, nat_tests, same) in
    rw here (ap (λ t. (t, w) ∷ es) same)
set_by_key (e ∷ es) (suc i) k v w once is =
    let rest = IsDistinct-tail (eq_by_cmp nat_cmp) e.0 (keys_of es) once in
    let other = other_head k e.0 v es i rest is (IsDistinct-head (eq_by_cmp nat_cmp) e.0 (keys_of es) once) in
    rw other (ap (λ l. e ∷ l) (set_by_key es i k v w rest is))

-- the entry at a place is found by its key
found_at : {V : Type 0} (es : List (ℕ × V)) (i k : ℕ) (v : V) → IsOnce es → slice_get es i ≡ Some (k, v) → at k es ≡ Some v
found_at [] i k v once is = cc
found_at (e ∷ es) zero k v once is =
    let same : e.0 ≡ k = ap (λ p. p.0) (same_Some _ _ is) in
    let here : is_at (nat_cmp k) e.0 ≡ true = grind (arith, nat_tests, same) in
    rw here (ap (λ p. Some p.1) (same_Some _ _ is))
found_at (e ∷ es) (suc i) k v once is =
    let rest = IsDistinct-tail (eq_by_cmp nat_cmp) e.0 (keys_of es) once in
    let other = other_head k e.0 v es i rest is (IsDistinct-head (eq_by_cmp nat_cmp) e.0 (keys_of es) once) in
    rw other (found_at es i k v rest is)

pub some_at : {V : Type 0} (es : List (ℕ × V)) (i k : ℕ) (v : V) → IsOnce es → slice_get es i ≡ Some (k, v) → IsSome (at k es)
some_at es i k v once is = rw (found_at es i k v once is) refl

pub found_none : {V : Type 0} (es : List (ℕ × V)) (i k : ℕ) (v : V) → IsOnce es → slice_get es i ≡ Some (k, v) → at k es ≡ None → ⊥
found_none es i k v once is none = some_none (sym (found_at es i k v once is) ∙ none)

-- one entry more is changed
pub changed_more : {V : Type 0} (change : V → V → Type 0) (olds es news : List (ℕ × V)) (i k : ℕ) (v w : V) → ChangedSoFar change olds es i → IsOnce es
    → slice_get es i ≡ Some (k, v) → change v w
    → news ≡ set_value (is_at (nat_cmp k)) es w → ChangedSoFar change olds news (i + 1)
changed_more {V} change olds es news i k v w so once is changed set =
    subst (λ (l : List (ℕ × V)). ChangedSoFar change olds l (i + 1)) (sym (set ∙ set_by_key es i k v w once is))
    (rw add-one (one_more change olds es i k v w so is changed))

-- the same, where the value was found by its key
pub changed_found : {V : Type 0} (change : V → V → Type 0) (olds es news : List (ℕ × V)) (i k : ℕ) (v found w : V)
    → ChangedSoFar change olds es i → IsOnce es → slice_get es i ≡ Some (k, v) → at k es ≡ Some found
    → change found w → news ≡ set_value (is_at (nat_cmp k)) es w → ChangedSoFar change olds news (i + 1)
changed_found change olds es news i k v found w so once is there changed set =
    changed_more change olds es news i k v w so once is (subst (λ u. change u w) (same_Some _ _ (sym there ∙ found_at es i k v once is)) changed) set

-- one entry more is changed, into what it was
pub changed_none : {V : Type 0} (change : V → V → Type 0) (olds es news : List (ℕ × V)) (i k : ℕ) (v : V)
    → ChangedSoFar change olds es i → IsOnce es → slice_get es i ≡ Some (k, v) → change v v → news ≡ es
    → ChangedSoFar change olds news (i + 1)
changed_none change olds es news i k v so once is changed same =
    changed_more change olds es news i k v v so once is changed (same ∙ sym (set_value_same (is_at (nat_cmp k)) es v (found_at es i k v once is)))

pub all_changed : {K V : Type 0} (change : V → V → Type 0) (olds now : List (K × V)) (i : ℕ) → ChangedSoFar change olds now i → length olds ≤ i
    → EachChanged change olds now
all_changed {K} {V} change olds now i so reached =
    let P : List (K × V) → Type 0 = λ l. EachChanged change l now in
    let Q : List (K × V) → Type 0 = λ l. EachChanged change (take i olds) l in
    subst P (take_all i olds reached) (subst Q (take_all i now (omega (arith, reached, so.long))) so.done)

-- the entry of the seat at a place that was within the first seats
pub seat_at : {S V : Type 0} (seen : S → ℕ × V) (firsts seats : List S) (olds es : List (ℕ × V)) (i : ℕ) (d : S)
    → map seen firsts ≡ olds → map seen seats ≡ es → length es ≡ length olds → i < length firsts
    → slice_get es i ≡ Some (seen (get_or seats i d))
seat_at {S} {V} seen firsts seats olds es i d was is long within =
    let all : length firsts ≡ length seats = sym (length-map firsts seen) ∙ ap length was ∙ sym long ∙ ap length (sym is) ∙ length-map seats seen in
    subst (λ (l : List (ℕ × V)). slice_get l i ≡ Some (seen (get_or seats i d))) is (entry_at seen seats i d (omega (arith, all, within)))

-- what clearing is for a target whose object meets the test, and for another
pub when_met : (test : ObjId → Bool → Type 0) (t : Target) (met : Bool) → IsCleared test t (if met then Cleared else t) → met ≡ true → IsCleared test t Cleared
when_met test t met cleared is = subst (λ b. IsCleared test t (if b then Cleared else t)) is cleared

pub unless_met : (test : ObjId → Bool → Type 0) (t : Target) (met : Bool) → IsCleared test t (if met then Cleared else t) → met ≡ false → IsCleared test t t
unless_met test t met cleared is = subst (λ b. IsCleared test t (if b then Cleared else t)) is cleared

-- ---- the entries of all tables

each_entry : {V : Type 0} (change : V → V → Type 0) (old new : ℕ) (es news : List (ℕ × V)) → new ≡ old → EachChanged change es news
    → EachChanged change (entries old es) (entries new news)
each_entry change old new [] [] same changed = refl
each_entry change old new [] (e ∷ news) same changed = cc
each_entry change old new (e ∷ es) [] same changed = absurd changed
each_entry change old new (e ∷ es) (f ∷ news) same changed = ((rw (same, changed.0.0) refl, changed.0.1), each_entry change old new es news same changed.1)

each_append : {K V : Type 0} (change : V → V → Type 0) (xs us ys vs : List (K × V)) → EachChanged change xs us → EachChanged change ys vs
    → EachChanged change (xs ++ ys) (us ++ vs)
each_append change [] [] ys vs changed later = later
each_append change [] (u ∷ us) ys vs changed later = cc
each_append change (x ∷ xs) [] ys vs changed later = absurd changed
each_append change (x ∷ xs) (u ∷ us) ys vs changed later = (changed.0, each_append change xs us ys vs changed.1 later)

-- what each table says of its entries holds of all
pub each_named : {V : Type 0} (change : V → V → Type 0) (tables news : List (ℕ × List (ℕ × V))) → EachChanged (EachChanged change) tables news
    → EachChanged change (named tables) (named news)
each_named change [] [] changed = refl
each_named change [] (new ∷ news) changed = cc
each_named change (table ∷ tables) [] changed = absurd changed
each_named change (table ∷ tables) (new ∷ news) changed =
    each_append change (entries table.0 table.1) (entries new.0 new.1) (named tables) (named news)
    (each_entry change table.0 new.0 table.1 new.1 changed.0.0 changed.0.1)
    (each_named change tables news changed.1)
