-- What a look-up by object tells of the counts, and how that changes with one more event.
use Rattle.std.proofs.Common.{◌≡◌, ◌≢◌, ℕ, ◌+◌, ◌-◌, ◌<◌, Bool, true, false, zero, suc, List, [], ◌∷◌, Option, Some, None, refl, ◌∙◌, ap, sym, subst, arith, eqb-true}
use Rattle.std.specs.Prelude.{◌==◌, not, nat_lt, if◌then◌else◌, filter, map}
use Rattle.std.specs.List.{find}
use Rattle.std.specs.Map.{keys_of}
use Rattle.std.specs.BTreeMap.{is_at}
use Rattle.std.specs.Cmp.{nat_cmp_total, eq_by_cmp_equiv}
use Rattle.std.specs.Ordering.{nat_cmp, eq_by_cmp}
use Rattle.std.proofs.lemmas.Bool.Decides.{nat_tests}
use Rattle.std.proofs.lemmas.Map.{lookup-none}
use Rattle.std.proofs.lemmas.Map.Entries.{none_past_head, option_filter}
use Rattle.std.proofs.lemmas.Map.Keys.{IsDistinct-tail}
use Rattle.jg_table_monitors.specs.declared.owned.Owned.{Owned}
use Rattle.jg_table_monitors.specs.declared.owned.Found.TheVariants.{Free, Own, Others}
use Rattle.jg_table_monitors.specs.History.{Enter, Exit, ReleaseAll, Event, by, count, owner}
use Rattle.jg_table_monitors.specs.Rows.{Row, is_of, count_in}
use Rattle.jg_table_monitors.specs.Seen.{seen, lowered, raised, finds}
use Rattle.jg_table_monitors.specs.Standing.{IsAllowed, AllAllowed, rows_of, Stands}
use Rattle.jg_lists.specs.ByThread.{at, IsOnce}
use Rattle.jg_lists.proofs.Acts.{at_key}
use Rattle.jg_lists.proofs.Lists.{first, find-filter}
use Rattle.jg_table_monitors.proofs.Counting.{count_enter, count_exit, count_release, count_other_thread, count_other_enter, count_other_exit, one_owner, owner_is, owner_has, no_owner, all_free}

-- ---- rows and look-ups

-- what is kept at an object, as a row and as rows
abbrev pub row_at : ℕ → Option Owned → Option Row
row_at o None = None
row_at o (Some w) = Some (seen (o, w))

abbrev pub rows_at : ℕ → Option Owned → List Row
rows_at o None = []
rows_at o (Some w) = seen (o, w) ∷ []

found_by : (o : ℕ) (e : ℕ × Owned) (es : List (ℕ × Owned)) (b : Bool) → (e.0 == o) ≡ b → find (is_of o) (map seen es) ≡ row_at o (at o es)
    → (if b then Some (seen e) else find (is_of o) (map seen es)) ≡ row_at o (if b then Some e.1 else at o es)
found_by o e es true is later = ap (λ k. Some (seen (k, e.1))) (eqb-true e.0 o is)
found_by o e es false is later = later

pub found_row : (o : ℕ) (es : List (ℕ × Owned)) → find (is_of o) (map seen es) ≡ row_at o (at o es)
found_row o [] = refl
found_row o (e ∷ es) = rw (at_key o e.0) (found_by o e es (e.0 == o) refl (found_row o es))

kept_by : (o : ℕ) (e : ℕ × Owned) (es : List (ℕ × Owned)) (b : Bool) → (e.0 == o) ≡ b → IsOnce (e ∷ es)
    → filter (is_of o) (map seen es) ≡ rows_at o (at o es)
    → (if b then seen e ∷ filter (is_of o) (map seen es) else filter (is_of o) (map seen es)) ≡ rows_at o (if b then Some e.1 else at o es)
kept_by o e es true is distinct later =
    let none : at o es ≡ None = lookup-none (is_at (nat_cmp o)) es (none_past_head (eq_by_cmp_equiv nat_cmp_total) o e es distinct (at_key o e.0 ∙ is)) in
    let empty : filter (is_of o) (map seen es) ≡ [] = later ∙ ap (rows_at o) none in
    rw (empty, eqb-true e.0 o is) refl
kept_by o e es false is distinct later = later

pub filter_lookup : (o : ℕ) (es : List (ℕ × Owned)) → IsOnce es → filter (is_of o) (map seen es) ≡ rows_at o (at o es)
filter_lookup o [] distinct = refl
filter_lookup o (e ∷ es) distinct =
    let later = filter_lookup o es (IsDistinct-tail (eq_by_cmp nat_cmp) e.0 (keys_of es) distinct) in
    rw (at_key o e.0) (kept_by o e es (e.0 == o) refl distinct later)

-- ---- what a look-up tells of the counts

abbrev pub Tells : List Event → ℕ → Option Owned → Type 0
Tells e o None = (t : ℕ) → count e t o ≡ 0
Tells e o (Some w) = (count e w.tid o ≡ w.count) × (0 < w.count)

abbrev owner_at : Option Row → ℕ
owner_at None = 0
owner_at (Some row) = row.owner

told_by : (e : List Event) (o : ℕ) (found : Option Owned) (was : Option ℕ) → owner e o ≡ was → AllAllowed e → row_at o found ≡ first (rows_of e o was)
    → Tells e o found
told_by e o None None is all same = λ t. all_free e t o all is
told_by e o None (Some t) is all same = cc
told_by e o (Some w) None is all same = cc
told_by e o (Some w) (Some t) is all same =
    let thread : w.tid ≡ t = ap owner_at same in
    let number : w.count ≡ count e t o = ap count_in same in
    let some : 0 < count e t o = owner_has e t o is in
    (rw thread (sym number), omega (arith, number, some))

pub tells : (es : List (ℕ × Owned)) (e : List Event) (o : ℕ) → Stands (record { owned = map seen es }) e → Tells e o (at o es)
tells es e o stands =
    told_by e o (at o es) (owner e o) refl stands.allowed
    (sym (found_row o es) ∙ (find-filter (is_of o) (map seen es) ∙ ap first (stands.owned o)))

rows_told : (e : List Event) (o : ℕ) (found : Option Owned) → AllAllowed e → Tells e o found → rows_at o found ≡ rows_of e o (owner e o)
rows_told e o None all told = rw (no_owner e o told) refl
rows_told e o (Some w) all told =
    let some : 0 < count e w.tid o = omega (arith, told.0, told.1) in
    rw (owner_is e w.tid o all some, told.0) refl

pub stands_by : (es : List (ℕ × Owned)) (e : List Event) → AllAllowed e → IsOnce es → ((o : ℕ) → Tells e o (at o es))
    → Stands (record { owned = map seen es }) e
stands_by es e all distinct each = record {
  owned = λ o. filter_lookup o es distinct ∙ rows_told e o (at o es) all (each o);
  allowed = all;
}

-- ---- one more event

zero_by : (e : List Event) (t u o n : ℕ) → count e u o ≡ n → AllAllowed e → 0 < count e t o → u ≢ t → n ≡ 0
zero_by e t u o zero is all some differ = refl
zero_by e t u o (suc n) is all some differ =
    let there : 0 < count e u o = omega arith in
    absurd (differ (one_owner e u t o all there some))

-- where one thread owns it, another's count is 0
zero_else : (e : List Event) (t u o : ℕ) → AllAllowed e → 0 < count e t o → u ≢ t → count e u o ≡ 0
zero_else e t u o all some differ = zero_by e t u o (count e u o) refl all some differ

own_by : (e : List Event) (t o : ℕ) (w : Owned) (b : Bool) → (w.tid == t) ≡ b → AllAllowed e → Tells e o (Some w) → (if b then Own else Others) ≡ Own
    → IsAllowed t (Enter o) e × Tells (by t (Enter o) ∷ e) o (if b then Some (record w { count = w.count + 1 }) else Some w)
own_by e t o w true mine all told is =
    let same : w.tid ≡ t = eqb-true w.tid t mine in
    let some : 0 < count e w.tid o = omega (arith, told.0, told.1) in
    let P : ℕ → Type 0 = λ u. count (by u (Enter o) ∷ e) w.tid o ≡ w.count + 1 in
    let more : count (by w.tid (Enter o) ∷ e) w.tid o ≡ w.count + 1 = count_enter e w.tid o all ∙ ap (λ n. n + 1) told.0 in
    (λ u differ. zero_else e w.tid u o all some (λ same_too. differ (same_too ∙ same)), (subst P same more, omega arith))
own_by e t o w false mine all told is = cc

-- the owner may enter once more
own_entered : (e : List Event) (t o : ℕ) (found : Option Owned) → AllAllowed e → Tells e o found → finds t found ≡ Own
    → IsAllowed t (Enter o) e × Tells (by t (Enter o) ∷ e) o (raised t found)
own_entered e t o None all told is = cc
own_entered e t o (Some w) all told is = own_by e t o w (w.tid == t) refl all told is

not_free : (w : Owned) (b : Bool) → (if b then Own else Others) ≡ Free → ⊥
not_free w true is = cc
not_free w false is = cc

pub free_is : (t : ℕ) (found : Option Owned) → finds t found ≡ Free → found ≡ None
free_is t None is = refl
free_is t (Some w) is = absurd (not_free w (w.tid == t) is)

-- any thread may enter what is free
free_entered : (e : List Event) (t o : ℕ) (found : Option Owned) → found ≡ None → AllAllowed e → Tells e o found
    → IsAllowed t (Enter o) e × Tells (by t (Enter o) ∷ e) o (Some (record { tid = t; count = 1 }))
free_entered e t o None none all told = (λ u differ. told u, (count_enter e t o all ∙ ap (λ n. n + 1) (told t), omega arith))
free_entered e t o (Some w) none all told = cc

enter_elsewhere : (e : List Event) (t o q : ℕ) (found : Option Owned) → (o == q) ≡ false → Tells e q found → Tells (by t (Enter o) ∷ e) q found
enter_elsewhere e t o q None apart told = λ u. count_other_enter e u t q o apart ∙ told u
enter_elsewhere e t o q (Some w) apart told = (count_other_enter e w.tid t q o apart ∙ told.0, told.1)

enter_each : (e : List Event) (t o q : ℕ) (es : List (ℕ × Owned)) (change : Option Owned → Option Owned) (b : Bool) → (o == q) ≡ b
    → Tells (by t (Enter o) ∷ e) o (change (at o es)) → Tells e q (at q es)
    → Tells (by t (Enter o) ∷ e) q (if b then change (at q es) else at q es)
enter_each e t o q es change true is here told =
    let P : ℕ → Type 0 = λ p. Tells (by t (Enter o) ∷ e) p (change (at p es)) in
    subst P (eqb-true o q is) here
enter_each e t o q es change false is here told = enter_elsewhere e t o q (at q es) is told

-- the look-up of one object is changed to what its entering makes true
enter_law : (es news : List (ℕ × Owned)) (e : List Event) (t o : ℕ) (change : Option Owned → Option Owned) → Stands (record { owned = map seen es }) e
    → IsAllowed t (Enter o) e × Tells (by t (Enter o) ∷ e) o (change (at o es)) → IsOnce news
    → ((q : ℕ) → at q news ≡ (if o == q then change (at q es) else at q es))
    → Stands (record { owned = map seen news }) (by t (Enter o) ∷ e)
enter_law es news e t o change stands may distinct changed =
    stands_by news (by t (Enter o) ∷ e) (stands.allowed, may.0) distinct
    (λ q. rw (changed q) (enter_each e t o q es change (o == q) refl may.1 (tells es e q stands)))

pub raise_law : (es news : List (ℕ × Owned)) (e : List Event) (t o : ℕ) → Stands (record { owned = map seen es }) e → finds t (at o es) ≡ Own
    → IsOnce news → ((q : ℕ) → at q news ≡ (if o == q then raised t (at q es) else at q es))
    → Stands (record { owned = map seen news }) (by t (Enter o) ∷ e)
raise_law es news e t o stands own = enter_law es news e t o (raised t) stands (own_entered e t o (at o es) stands.allowed (tells es e o stands) own)

pub take_law : (es was news : List (ℕ × Owned)) (e : List Event) (t o : ℕ) → Stands (record { owned = map seen es }) e → finds t (at o es) ≡ Free → was ≡ es
    → IsOnce news → ((q : ℕ) → at q news ≡ (if o == q then Some (record { tid = t; count = 1 }) else at q was))
    → Stands (record { owned = map seen news }) (by t (Enter o) ∷ e)
take_law es was news e t o stands free same distinct taken =
    enter_law es news e t o (λ found. Some (record { tid = t; count = 1 })) stands
    (free_entered e t o (at o es) (free_is t (at o es) free) stands.allowed (tells es e o stands)) distinct
    (λ q. taken q ∙ ap (λ xs. if o == q then Some (record { tid = t; count = 1 }) else at q xs) same)

freed_by : (e : List Event) (t u o : ℕ) (w : Owned) (b : Bool) → (t == u) ≡ b → nat_lt 1 w.count ≡ false → w.tid ≡ t → AllAllowed e → Tells e o (Some w)
    → count (by t (Exit o) ∷ e) u o ≡ 0
freed_by e t u o w true is few mine all told =
    let same : t ≡ u = eqb-true t u is in
    let P : ℕ → Type 0 = λ v. count (by t (Exit o) ∷ e) v o ≡ 0 in
    let Q : ℕ → Type 0 = λ v. count e v o ≡ w.count in
    let was : count e t o ≡ w.count = subst Q mine told.0 in
    let last : w.count - 1 ≡ 0 = grind (arith, nat_tests) in
    subst P same (count_exit e t o ∙ (ap (λ n. n - 1) was ∙ last))
freed_by e t u o w false is few mine all told =
    let differ : t ≢ u = grind (arith, nat_tests) in
    let some : 0 < count e w.tid o = omega (arith, told.0, told.1) in
    count_other_thread e u t o (Exit o) differ ∙ zero_else e w.tid u o all some (λ same. differ (sym mine ∙ sym same))

exit_here : (e : List Event) (t o : ℕ) (w : Owned) (b : Bool) → nat_lt 1 w.count ≡ b → w.tid ≡ t → AllAllowed e → Tells e o (Some w)
    → Tells (by t (Exit o) ∷ e) o (if b then Some (record w { count = w.count - 1 }) else None)
exit_here e t o w true is mine all told =
    let P : ℕ → Type 0 = λ u. count (by u (Exit o) ∷ e) w.tid o ≡ w.count - 1 in
    let left : count (by w.tid (Exit o) ∷ e) w.tid o ≡ w.count - 1 = count_exit e w.tid o ∙ ap (λ n. n - 1) told.0 in
    let more : 0 < w.count - 1 = grind (arith, nat_tests) in
    (subst P mine left, more)
exit_here e t o w false is mine all told = λ u. freed_by e t u o w (t == u) refl is mine all told

exit_elsewhere : (e : List Event) (t o q : ℕ) (found : Option Owned) → (o == q) ≡ false → Tells e q found → Tells (by t (Exit o) ∷ e) q found
exit_elsewhere e t o q None apart told = λ u. count_other_exit e u t q o apart ∙ told u
exit_elsewhere e t o q (Some w) apart told = (count_other_exit e w.tid t q o apart ∙ told.0, told.1)

exit_each : (e : List Event) (t o q : ℕ) (w : Owned) (found : Option Owned) (b : Bool) → (o == q) ≡ b → w.tid ≡ t → AllAllowed e → Tells e o (Some w)
    → (o ≡ q → found ≡ Some w) → Tells e q found
    → Tells (by t (Exit o) ∷ e) q (if b then lowered found else found)
exit_each e t o q w found true is mine all here same told =
    let at : o ≡ q = eqb-true o q is in
    let P : ℕ → Type 0 = λ p. Tells (by t (Exit o) ∷ e) p (lowered (Some w)) in
    rw (same at) (subst P at (exit_here e t o w (nat_lt 1 w.count) refl mine all here))
exit_each e t o q w found false is mine all here same told = exit_elsewhere e t o q found is told

pub exit_law : (es news : List (ℕ × Owned)) (e : List Event) (t o : ℕ) (w : Owned) → Stands (record { owned = map seen es }) e → at o es ≡ Some w → w.tid ≡ t
    → IsOnce news → ((q : ℕ) → at q news ≡ (if o == q then lowered (at q es) else at q es))
    → Stands (record { owned = map seen news }) (by t (Exit o) ∷ e)
exit_law es news e t o w stands found mine distinct put =
    let P : Option Owned → Type 0 = λ f. Tells e o f in
    let here : Tells e o (Some w) = subst P found (tells es e o stands) in
    let R : ℕ → Type 0 = λ u. 0 < count e u o in
    let some : 0 < count e w.tid o = omega (arith, here.0, here.1) in
    stands_by news (by t (Exit o) ∷ e) (stands.allowed, subst R mine some) distinct
    (λ q. rw (put q) (exit_each e t o q w (at q es) (o == q) refl mine stands.allowed here
    (λ same. ap (λ p. at p es) (sym same) ∙ found) (tells es e q stands)))

released_by : (e : List Event) (t u q : ℕ) (b : Bool) → (t == u) ≡ b → count e u q ≡ 0 → count (by t ReleaseAll ∷ e) u q ≡ 0
released_by e t u q true is was =
    let P : ℕ → Type 0 = λ v. count (by t ReleaseAll ∷ e) v q ≡ 0 in
    subst P (eqb-true t u is) (count_release e t q)
released_by e t u q false is was =
    let differ : t ≢ u = grind (arith, nat_tests) in
    count_other_thread e u t q ReleaseAll differ ∙ was

let_go : (e : List Event) (t u q : ℕ) (w : Owned) (b : Bool) → (t == u) ≡ b → w.tid ≡ t → AllAllowed e → Tells e q (Some w)
    → count (by t ReleaseAll ∷ e) u q ≡ 0
let_go e t u q w true is mine all told =
    let P : ℕ → Type 0 = λ v. count (by t ReleaseAll ∷ e) v q ≡ 0 in
    subst P (eqb-true t u is) (count_release e t q)
let_go e t u q w false is mine all told =
    let differ : t ≢ u = grind (arith, nat_tests) in
    let some : 0 < count e w.tid q = omega (arith, told.0, told.1) in
    count_other_thread e u t q ReleaseAll differ ∙ zero_else e w.tid u q all some (λ same. differ (sym mine ∙ sym same))

release_owned : (e : List Event) (t q : ℕ) (w : Owned) (b : Bool) → (w.tid == t) ≡ b → AllAllowed e → Tells e q (Some w)
    → Tells (by t ReleaseAll ∷ e) q (if not b then Some w else None)
release_owned e t q w true is all told = λ u. let_go e t u q w (t == u) refl (eqb-true w.tid t is) all told
release_owned e t q w false is all told =
    let differ : t ≢ w.tid = grind (arith, nat_tests) in
    (count_other_thread e w.tid t q ReleaseAll differ ∙ told.0, told.1)

release_each : (e : List Event) (t q : ℕ) (found : Option Owned) → AllAllowed e → Tells e q found
    → Tells (by t ReleaseAll ∷ e) q (option_filter (λ w. not (w.tid == t)) found)
release_each e t q None all told = λ u. released_by e t u q (t == u) refl (told u)
release_each e t q (Some w) all told = release_owned e t q w (w.tid == t) refl all told

pub release_law : (es news : List (ℕ × Owned)) (e : List Event) (t : ℕ) → Stands (record { owned = map seen es }) e
    → IsOnce news → ((q : ℕ) → at q news ≡ option_filter (λ w. not (w.tid == t)) (at q es))
    → Stands (record { owned = map seen news }) (by t ReleaseAll ∷ e)
release_law es news e t stands distinct is =
    stands_by news (by t ReleaseAll ∷ e) (stands.allowed, tt) distinct
    (λ q. rw (is q) (release_each e t q (at q es) stands.allowed (tells es e q stands)))
