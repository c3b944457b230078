-- The definition that computes finds exactly the units that the items spell.
use Rattle.std.proofs.Common.{ℕ, ℤ, pos, negsuc, ◌≡◌, ◌+◌, ◌-◌, ◌*◌, ◌/◌, ◌%◌, ◌<◌, ◌≤◌, ◌^◌, ◌⊎◌, ◌↔◌, ◌∙◌, sym, ap, subst, refl, inl, inr, List, [], ◌∷◌, ◌++◌, length, map, take, drop, Option, Some, None, Result, Ok, Err, Vec, Bool, true, false, ◌||◌, ltb, eqb, arith, zero, suc, length-append, cond}
use Rattle.std.specs.Prelude.{slice_get, find, is_some, IfOk, IfSome, IfNone}
use Rattle.std.specs.Option.{option_map}
use Rattle.std.specs.List.{list_any}
use Rattle.std.specs.Cmp.Rules.{signed_items}
use Rattle.std.proofs.lemmas.Bool.{cases_Bool, cases_eq, false_from_ne_true, lt-ltb, ltb-true, and_parts, and_from, or_left, or_right, eq-eqb, ne_eqb, cond-true, cond-false, false≢true}
use Rattle.std.proofs.lemmas.List.{length-map, take-append-drop, take_at, drop_at}
use Rattle.std.proofs.lemmas.Option.{same_Some}
use Rattle.jg_table_heap.specs.Spelling.{spelling, spelt, AreUnits, IsSpeltInItems, IsByteAt}
use Rattle.jg_table_heap.specs.Laws.{DecodedMeans, SpellingIsUnique}
use Rattle.jg_table_heap.specs.Reading.{candidates, stands_first, first_unit, before, decoded_by, decoded}
use Rattle.jg_table_heap.proofs.Shapes.{spelling_one, spelling_two, spelling_long}
use Rattle.jg_table_heap.proofs.Next.{shape, is_found, same_unit, positive}
use Rattle.jg_table_heap.proofs.Whole.{front_of}

-- ---- one unit at the front

-- the byte that an item is
abbrev byte_in : Option ℤ → Option ℕ
byte_in None = None
byte_in (Some (pos n)) = cond (ltb n 256) (Some n) None
byte_in (Some (negsuc n)) = None

is_byte_in : (items : List ℤ) (i : ℕ) (item : Option ℤ) → slice_get items i ≡ item → IsByteAt items i (byte_in item)
is_byte_in items i None e = λ n h g. (cc)
is_byte_in items i (Some (negsuc n)) e = λ m h g. (cc)
is_byte_in items i (Some (pos n)) e =
    let P : Option ℕ → Type 0 = λ b. IsByteAt items i b in
    elim (cases_Bool (ltb n 256)) [
      | inl byte ↦ subst P (sym (cond-true (ltb n 256) (Some n) None byte)) e
      | inr other ↦ subst P (sym (cond-false (ltb n 256) (Some n) None other)) (λ m h g. too_large n m other h (sym e ∙ g))
    ]
  where
    too_large : (n m : ℕ) → ltb n 256 ≡ false → m < 256 → Some (pos n) ≡ Some (pos m) → ⊥
    too_large n m other h e = let same : n ≡ m = cc in false≢true (sym other ∙ lt-ltb n 256 (omega arith))

-- two units whose spellings stand at the front are one
one_unit : (items : List ℤ) (u v : ℕ) (rest tail : List ℤ) → u < 2 ^ 16 → v < 2 ^ 16 → items ≡ map pos (spelling u) ++ rest
    → items ≡ map pos (spelling v) ++ tail → u ≡ v
one_unit items u v rest tail a b h g =
    let x = byte_in (slice_get items 0) in
    let y = byte_in (slice_get items 1) in
    let z = byte_in (slice_get items 2) in
    let p = is_byte_in items 0 (slice_get items 0) refl in
    let q = is_byte_in items 1 (slice_get items 1) refl in
    let r = is_byte_in items 2 (slice_get items 2) refl in
    same_unit u v x y z a b (is_found items 0 u rest x y z p q r a h) (is_found items 0 v tail x y z p q r b g)

-- what the test says
stands_is : (items : List ℤ) (u : ℕ) → stands_first items u ≡ true → (u < 2 ^ 16) × (items ≡ map pos (spelling u) ++ drop (length (spelling u)) items)
stands_is items u h =
    let parts = and_parts _ _ h in
    let n = length (spelling u) in
    let small : u < 65536 = ltb-true u 65536 parts.0 in
    let front : take n items ≡ map pos (spelling u) = (signed_items (take n items) (map pos (spelling u))).0 parts.1 in
    (small, sym (take-append-drop n items) ∙ ap (λ (xs : List ℤ). xs ++ drop n items) front)

stands_so : (items : List ℤ) (u : ℕ) (rest : List ℤ) → u < 2 ^ 16 → items ≡ map pos (spelling u) ++ rest → stands_first items u ≡ true
stands_so items u rest small h =
    let n = length (spelling u) in
    let front : take n items ≡ map pos (spelling u) = ap (take n) h ∙ take_at (map pos (spelling u)) rest n (length-map (spelling u) pos) in
    and_from _ _ (lt-ltb u 65536 small) ((signed_items (take n items) (map pos (spelling u))).1 front)

-- it is among the candidates
is_candidate : (items : List ℤ) (u : ℕ) (rest : List ℤ) → items ≡ map pos (spelling u) ++ rest → list_any (λ v. eqb v u) (candidates items) ≡ true
is_candidate items u rest h =
    elim (shape u) [
      | inl w ↦ (let is : items ≡ pos u ∷ rest = h ∙ rw (spelling_one u w.0 w.1) refl in rw is (or_left _ _ (eq-eqb u u refl)))
      | inr more ↦ elim more [
        | inl w ↦ (
            let is : items ≡ pos (192 + u / 64) ∷ pos (128 + u % 64) ∷ rest = h ∙ rw (spelling_two u (u / 64) (u % 64) (omega arith) (omega arith) w.0 w.1) refl
            in
            rw is (or_right _ _ (or_left _ _ (eq-eqb _ u (two_is u)))))
        | inr w ↦ (
            let is : items ≡ pos (224 + u / 4096) ∷ pos (128 + u / 64 % 64) ∷ pos (128 + u % 64) ∷ rest = h ∙ rw (spelling_long u w) refl in
            rw is (or_right _ _ (or_right _ _ (or_left _ _ (eq-eqb _ u (three_is u))))))
      ]
    ]
  where
    two_is : (u : ℕ) → (192 + u / 64 - 192) * 64 + (128 + u % 64 - 128) ≡ u
    two_is u = omega arith

    three_is : (u : ℕ) → (224 + u / 4096 - 224) * 4096 + (128 + u / 64 % 64 - 128) * 64 + (128 + u % 64 - 128) ≡ u
    three_is u = omega arith

find_only : (p : ℕ → Bool) (xs : List ℕ) (u : ℕ) → p u ≡ true → ((v : ℕ) → p v ≡ true → v ≡ u) → list_any (λ v. eqb v u) xs ≡ true → find p xs ≡ Some u
find_only p [] u t only h = absurd (false≢true h)
find_only p (x ∷ xs) u t only h =
    elim (cases_Bool (p x)) [
      | inl here ↦ cond-true _ _ _ here ∙ ap Some (only x here)
      | inr other ↦ cond-false _ _ _ other ∙ find_only p xs u t only (later (cases_eq x u) other)
    ]
  where
    later : (x ≡ u) ⊎ (x ≡ u → ⊥) → p x ≡ false → list_any (λ v. eqb v u) xs ≡ true
    later (inl same) other = absurd (false≢true (sym other ∙ ap p same ∙ t))
    later (inr apart) other = sym (ap (λ b. b || list_any (λ v. eqb v u) xs) (ne_eqb x u apart)) ∙ h

find_true : (p : ℕ → Bool) (xs : List ℕ) (u : ℕ) → find p xs ≡ Some u → p u ≡ true
find_true p [] u h = cc
find_true p (x ∷ xs) u h =
    elim (cases_Bool (p x)) [
      | inl here ↦ (let same : x ≡ u = same_Some x u (sym (cond-true (p x) (Some x) (find p xs) here) ∙ h) in ap p (sym same) ∙ here)
      | inr other ↦ find_true p xs u (sym (cond-false (p x) (Some x) (find p xs) other) ∙ h)
    ]

first_found : (items : List ℤ) (u : ℕ) (rest : List ℤ) → u < 2 ^ 16 → items ≡ map pos (spelling u) ++ rest → first_unit items ≡ Some u
first_found items u rest small h =
    find_only (stands_first items) (candidates items) u (stands_so items u rest small h)
    (λ v t. let w = stands_is items v t in one_unit items v u (drop (length (spelling v)) items) rest w.0 small w.1 h)
    (is_candidate items u rest h)

-- ---- all units

-- a unit, where the rest is read
one_more : (u : ℕ) (units : List ℕ) (items : List ℤ) (n : ℕ)
    → ((items : List ℤ) (n : ℕ) → length items ≤ n → IsSpeltInItems units items → decoded_by items n ≡ Some units)
    → length items ≤ n → u < 2 ^ 16 → AreUnits units → items ≡ map pos (spelling u) ++ map pos (spelt units) → decoded_by items n ≡ Some (u ∷ units)
one_more u units [] n again h small fit begins =
    let len : 0 ≡ length (map pos (spelling u)) + length (map pos (spelt units)) =
    ap length begins ∙ length-append (map pos (spelling u)) (map pos (spelt units)) in
    absurd (omega (arith, length-map (spelling u) pos, positive u small))
one_more u units (x ∷ items) zero again h small fit begins = absurd (omega arith)
one_more u units (x ∷ items) (suc n) again h small fit begins =
    let len : length (x ∷ items) ≡ length (map pos (spelling u)) + length (map pos (spelt units)) =
    ap length begins ∙ length-append (map pos (spelling u)) (map pos (spelt units)) in
    let rest : drop (length (spelling u)) (x ∷ items) ≡ map pos (spelt units) =
    ap (drop (length (spelling u))) begins ∙ drop_at (map pos (spelling u)) (map pos (spelt units)) (length (spelling u)) (length-map (spelling u) pos) in
    let left : length (drop (length (spelling u)) (x ∷ items)) ≡ length (map pos (spelt units)) = ap length rest in
    ap (λ o. before o (λ v. decoded_by (drop (length (spelling v)) (x ∷ items)) n)) (first_found (x ∷ items) u (map pos (spelt units)) small begins)
    ∙ ap (option_map (λ us. u ∷ us))
    (again (drop (length (spelling u)) (x ∷ items)) n (omega (arith, length-map (spelling u) pos, positive u small)) (fit, rest))

complete : (units : List ℕ) (items : List ℤ) (n : ℕ) → length items ≤ n → IsSpeltInItems units items → decoded_by items n ≡ Some units
complete [] items n h s = rw s.1 refl
complete (u ∷ units) items n h s = one_more u units items n (complete units) h s.0.0 s.0.1 (s.1 ∙ front_of u units)

-- what was read behind a unit
behind : (u : ℕ) (items : List ℤ) (units : List ℕ) (r : Option (List ℕ)) → ((us : List ℕ) → r ≡ Some us → IsSpeltInItems us (drop (length (spelling u)) items))
    → first_unit items ≡ Some u
    → option_map (λ us. u ∷ us) r ≡ Some units → IsSpeltInItems units items
behind u items units None again is g = absurd (cc)
behind u items units (Some us) again is g =
    let both : u ∷ us ≡ units = cc in
    let w = stands_is items u (find_true (stands_first items) (candidates items) u is) in
    let later = again us refl in
    let P : List ℕ → Type 0 = λ (vs : List ℕ). IsSpeltInItems vs items in
    subst P both ((w.0, later.0), w.1 ∙ ap (λ (t : List ℤ). map pos (spelling u) ++ t) later.1 ∙ sym (front_of u us))

from_first : (items : List ℤ) (units : List ℕ) (n : ℕ) (o : Option ℕ)
    → ((u : ℕ) (us : List ℕ) → decoded_by (drop (length (spelling u)) items) n ≡ Some us → IsSpeltInItems us (drop (length (spelling u)) items))
    → first_unit items ≡ o → before o (λ u. decoded_by (drop (length (spelling u)) items) n) ≡ Some units → IsSpeltInItems units items
from_first items units n None again is g = absurd (cc)
from_first items units n (Some u) again is g = behind u items units (decoded_by (drop (length (spelling u)) items) n) (again u) is g

sound : (n : ℕ) (items : List ℤ) (units : List ℕ) → decoded_by items n ≡ Some units → IsSpeltInItems units items
sound n [] units h =
    let none : [] ≡ units = cc in
    let P : List ℕ → Type 0 = λ (us : List ℕ). IsSpeltInItems us [] in
    subst P none (tt, refl)
sound zero (x ∷ items) units h = absurd (cc)
sound (suc n) (x ∷ items) units h = from_first (x ∷ items) units n (first_unit (x ∷ items)) (λ u us. sound n (drop (length (spelling u)) (x ∷ items)) us) refl h

pub decoded_means : DecodedMeans
decoded_means items units = (sound (length items) items units, λ s. complete units items (length items) (omega arith) s)

pub spelling_is_unique : SpellingIsUnique
spelling_is_unique units others a b h =
    let items : List ℤ = map pos (spelt units) in
    let one : decoded items ≡ Some units = (decoded_means items units).1 (a, refl) in
    let other : decoded items ≡ Some others = (decoded_means items others).1 (b, ap (map pos) h) in
    same_Some units others (sym one ∙ other)

-- ---- what the calls answer

is_read : (items : List ℤ) (b : Bool) (o : Option (List ℕ)) → decoded items ≡ o → ((b ≡ true) ↔ ((units : List ℕ) × IsSpeltInItems units items)) → b ≡ is_some o
is_read items b None e w = false_from_ne_true b (λ t. let found = w.0 t in none_some found.0 (sym e ∙ (decoded_means items found.0).1 found.1))
  where
    none_some : (units : List ℕ) → None ≡ Some units → ⊥
    none_some units h = cc
is_read items b (Some units) e w = w.1 (units, (decoded_means items units).0 e)

pub some_decoded : (items same : List ℤ) (b : Bool) → same ≡ items → ((b ≡ true) ↔ ((units : List ℕ) × IsSpeltInItems units same)) → b ≡ is_some (decoded items)
some_decoded items same b e w = is_read same b (decoded same) refl w ∙ ap (λ (xs : List ℤ). is_some (decoded xs)) e

not_read : (items : List ℤ) (o : Option (List ℕ)) → decoded items ≡ o → ((units : List ℕ) → IsSpeltInItems units items → ⊥) → None ≡ o
not_read items None e none = refl
not_read items (Some units) e none = absurd (none units ((decoded_means items units).0 e))

decoded_found : {A E : Type 0} (items : List ℤ) (r : Result (Option (Vec ℕ A)) E) → IfOk r (λ found. IfSome found (λ units. IsSpeltInItems units.items items))
    → IfOk r (λ found. IfNone found ((units : List ℕ) → IsSpeltInItems units items → ⊥))
    → IfOk r (λ found. option_map (λ units. units.items) found ≡ decoded items)
decoded_found items (Err e) h none = tt
decoded_found items (Ok None) h none = not_read items (decoded items) refl none
decoded_found items (Ok (Some units)) h none = sym ((decoded_means items units.items).1 h)

pub found_decoded : {A E : Type 0} (items same : List ℤ) (r : Result (Option (Vec ℕ A)) E) → same ≡ items
    → IfOk r (λ found. IfSome found (λ units. IsSpeltInItems units.items same))
    → IfOk r (λ found. IfNone found ((units : List ℕ) → IsSpeltInItems units same → ⊥))
    → IfOk r (λ found. option_map (λ units. units.items) found ≡ decoded items)
found_decoded items same r e h none =
    let P : List ℤ → Type 0 = λ (xs : List ℤ). IfOk r (λ found. option_map (λ units. units.items) found ≡ decoded xs) in
    subst P e (decoded_found same r h none)
