-- A spelling at a place of a list of items.
use Rattle.std.proofs.Common.{ℕ, ℤ, pos, ◌≡◌, ◌+◌, ◌<◌, ◌≤◌, ◌^◌, ◌⊎◌, ◌∙◌, sym, ap, subst, refl, inl, inr, List, ◌∷◌, ◌++◌, length, map, drop, get_or, Option, Some, None, arith, suc, add-one, drop-cons, length-drop, length-append, ◌/◌, ◌%◌}
use Rattle.std.specs.Prelude.{slice_get, IfSome, IfNone}
use Rattle.std.proofs.lemmas.Option.{slice_get_within, get_or_from_slice_get, slice_get-get_or}
use Rattle.std.proofs.lemmas.List.{length-map}
use Rattle.std.proofs.lemmas.Bool.{cases_lt}
use Rattle.jg_table_heap.specs.Forms.{One, Two, Three}
use Rattle.jg_table_heap.specs.Spelling.{spelling, Starts, IsByteAt}
use Rattle.jg_table_heap.proofs.Shapes.{forms, starts_one, starts_two, starts_three, spelling_one, spelling_two, spelling_three}

pub drop_at : {A : Type 0} (xs : List A) (i : ℕ) (x : A) → slice_get xs i ≡ Some x → drop i xs ≡ x ∷ drop (i + 1) xs
drop_at xs i x h =
    drop-cons xs i x (slice_get_within xs i x h) ∙ ap (λ y. y ∷ drop (suc i) xs) (get_or_from_slice_get xs i x x h) ∙ ap (λ n. x ∷ drop n xs) (sym (add-one i))

at_drop : {A : Type 0} (xs : List A) (i : ℕ) (x : A) (tail : List A) → drop i xs ≡ x ∷ tail → (slice_get xs i ≡ Some x) × (drop (i + 1) xs ≡ tail)
at_drop xs i x tail h =
    let n : length (drop i xs) ≡ suc (length tail) = ap length h in
    let inside : i < length xs = omega (arith, length-drop i xs) in
    let cut : get_or xs i x ∷ drop (suc i) xs ≡ x ∷ tail = sym (drop-cons xs i x inside) ∙ h in
    let one : get_or xs i x ≡ x = cc in
    let rest : drop (suc i) xs ≡ tail = cc in
    (slice_get-get_or xs i x inside ∙ ap Some one, ap (λ m. drop m xs) (add-one i) ∙ rest)

-- a byte that stands there is the one that was found
byte_is : (items : List ℤ) (i : ℕ) (x : Option ℕ) (n : ℕ) → IsByteAt items i x → n < 256 → slice_get items i ≡ Some (pos n) → x ≡ Some n
byte_is items i None n h below at = absurd (h n below at)
byte_is items i (Some b) n h below at = let same : b ≡ n = cc in ap Some same

byte_stands : (items : List ℤ) (i : ℕ) (x : Option ℕ) (n : ℕ) → IsByteAt items i x → x ≡ Some n → slice_get items i ≡ Some (pos n)
byte_stands items i x n h e = let P : Option ℕ → Type 0 = λ y. IsByteAt items i y in subst P e h

one_stands : (items : List ℤ) (at u : ℕ) (x : Option ℕ) → IsByteAt items at x → One u x → drop at items ≡ map pos (spelling u) ++ drop (at + 1) items
one_stands items at u x p w = drop_at items at (pos u) (byte_stands items at x u p w.first) ∙ rw (spelling_one u w.above w.below) refl

two_stands : (items : List ℤ) (at u : ℕ) (x y : Option ℕ) → IsByteAt items at x → IsByteAt items (at + 1) y → Two u x y
    → drop at items ≡ map pos (spelling u) ++ drop (at + 2) items
two_stands items at u x y p q w =
    let next : at + 1 + 1 ≡ at + 2 = omega arith in
    drop_at items at (pos (192 + w.high)) (byte_stands items at x (192 + w.high) p w.first)
    ∙ ap (λ (t : List ℤ). pos (192 + w.high) ∷ t) (drop_at items (at + 1) (pos (128 + w.low)) (byte_stands items (at + 1) y (128 + w.low) q w.second)
    ∙ ap (λ n. pos (128 + w.low) ∷ drop n items) next)
    ∙ rw (spelling_two u w.high w.low w.is w.small w.below w.other) refl

three_stands : (items : List ℤ) (at u : ℕ) (x y z : Option ℕ) → IsByteAt items at x → IsByteAt items (at + 1) y → IsByteAt items (at + 2) z → Three u x y z
    → drop at items ≡ map pos (spelling u) ++ drop (at + 3) items
three_stands items at u x y z p q r w =
    let next : at + 1 + 1 ≡ at + 2 = omega arith in
    let after : at + 2 + 1 ≡ at + 3 = omega arith in
    drop_at items at (pos (224 + w.high)) (byte_stands items at x (224 + w.high) p w.first)
    ∙ ap (λ (t : List ℤ). pos (224 + w.high) ∷ t) (drop_at items (at + 1) (pos (128 + w.middle)) (byte_stands items (at + 1) y (128 + w.middle) q w.second)
    ∙ ap (λ (t : List ℤ). pos (128 + w.middle) ∷ t)
    (ap (λ n. drop n items) next ∙ drop_at items (at + 2) (pos (128 + w.low)) (byte_stands items (at + 2) z (128 + w.low) r w.third)
    ∙ ap (λ n. pos (128 + w.low) ∷ drop n items) after))
    ∙ rw (spelling_three u w.high w.middle w.low w.is w.small w.small_middle w.above) refl

-- what stands at a place, and how long it is
stands : (items : List ℤ) (at u len : ℕ) (x y z : Option ℕ) → IsByteAt items at x → IsByteAt items (at + 1) y → IsByteAt items (at + 2) z → u < 2 ^ 16
    → Starts u x y z → len ≡ length (spelling u)
    → drop at items ≡ map pos (spelling u) ++ drop (at + len) items
stands items at u len x y z p q r below s n =
    elim (forms u x y z below s) [
      | inl w ↦ one_stands items at u x p w ∙ ap (λ m. map pos (spelling u) ++ drop (at + m) items) ((starts_one u x y z w).2 ∙ sym n)
      | inr more ↦ elim more [
        | inl w ↦ two_stands items at u x y p q w ∙ ap (λ m. map pos (spelling u) ++ drop (at + m) items) ((starts_two u x y z w).2 ∙ sym n)
        | inr w ↦ three_stands items at u x y z p q r w ∙ ap (λ m. map pos (spelling u) ++ drop (at + m) items) ((starts_three u x y z w).2 ∙ sym n)
      ]
    ]

-- a spelling that stands at a place is found
pub shape : (u : ℕ) → ((0 < u) × (u < 128)) ⊎ (((u < 2048) × ((u ≡ 0) ⊎ (128 ≤ u))) ⊎ (2048 ≤ u))
shape u =
    elim (cases_lt u 2048) [
      | inl below ↦ elim (cases_lt u 128) [
        | inl less ↦ elim (cases_lt 0 u) [ inl above ↦ inl (above, less) | inr zero ↦ inr (inl (below, inl (omega arith))) ]
        | inr more ↦ inr (inl (below, inr more))
      ]
      | inr above ↦ inr (inr above)
    ]

found_one : (items : List ℤ) (at u : ℕ) (tail : List ℤ) (x : Option ℕ) → IsByteAt items at x → 0 < u → u < 128 → drop at items ≡ map pos (spelling u) ++ tail
    → One u x
found_one items at u tail x p above below h =
    let is : drop at items ≡ pos u ∷ tail = h ∙ rw (spelling_one u above below) refl in
    record { above = above; below = below; first = byte_is items at x u p (omega arith) (at_drop items at (pos u) tail is).0 }

found_two : (items : List ℤ) (at u : ℕ) (tail : List ℤ) (x y : Option ℕ) → IsByteAt items at x → IsByteAt items (at + 1) y → u < 2048 → (u ≡ 0) ⊎ (128 ≤ u)
    → drop at items ≡ map pos (spelling u) ++ tail → Two u x y
found_two items at u tail x y p q below other h =
    let is : drop at items ≡ pos (192 + u / 64) ∷ pos (128 + u % 64) ∷ tail =
    h ∙ rw (spelling_two u (u / 64) (u % 64) (omega arith) (omega arith) below other) refl in
    let first = at_drop items at (pos (192 + u / 64)) (pos (128 + u % 64) ∷ tail) is in
    let second = at_drop items (at + 1) (pos (128 + u % 64)) tail first.1 in
    record {
      high = u / 64;
      low = u % 64;
      small = omega arith;
      is = omega arith;
      below = below;
      other = other;
      first = byte_is items at x (192 + u / 64) p (omega arith) first.0;
      second = byte_is items (at + 1) y (128 + u % 64) q (omega arith) second.0;
    }

found_three : (items : List ℤ) (at u : ℕ) (tail : List ℤ) (x y z : Option ℕ) → IsByteAt items at x → IsByteAt items (at + 1) y → IsByteAt items (at + 2) z
    → 2048 ≤ u → u < 2 ^ 16
    → drop at items ≡ map pos (spelling u) ++ tail → Three u x y z
found_three items at u tail x y z p q r above below h =
    let is : drop at items ≡ pos (224 + u / 4096) ∷ pos (128 + u / 64 % 64) ∷ pos (128 + u % 64) ∷ tail =
    h ∙ rw (spelling_three u (u / 4096) (u / 64 % 64) (u % 64) (omega arith) (omega arith) (omega arith) above) refl in
    let next : at + 1 + 1 ≡ at + 2 = omega arith in
    let first = at_drop items at (pos (224 + u / 4096)) (pos (128 + u / 64 % 64) ∷ pos (128 + u % 64) ∷ tail) is in
    let second = at_drop items (at + 1) (pos (128 + u / 64 % 64)) (pos (128 + u % 64) ∷ tail) first.1 in
    let third = at_drop items (at + 2) (pos (128 + u % 64)) tail (ap (λ n. drop n items) (sym next) ∙ second.1) in
    record {
      high = u / 4096;
      middle = u / 64 % 64;
      low = u % 64;
      small = omega arith;
      small_middle = omega arith;
      is = omega arith;
      above = above;
      below = below;
      first = byte_is items at x (224 + u / 4096) p (omega arith) first.0;
      second = byte_is items (at + 1) y (128 + u / 64 % 64) q (omega arith) second.0;
      third = byte_is items (at + 2) z (128 + u % 64) r (omega arith) third.0;
    }

pub is_found : (items : List ℤ) (at u : ℕ) (tail : List ℤ) (x y z : Option ℕ) → IsByteAt items at x → IsByteAt items (at + 1) y → IsByteAt items (at + 2) z
    → u < 2 ^ 16
    → drop at items ≡ map pos (spelling u) ++ tail → Starts u x y z
is_found items at u tail x y z p q r below h =
    elim (shape u) [
      | inl w ↦ (starts_one u x y z (found_one items at u tail x p w.0 w.1 h)).1
      | inr more ↦ elim more [
        | inl w ↦ (starts_two u x y z (found_two items at u tail x y p q w.0 w.1 h)).1
        | inr w ↦ (starts_three u x y z (found_three items at u tail x y z p q r w below h)).1
      ]
    ]

-- bytes begin one spelling alone
same_one : (u v : ℕ) (x y z : Option ℕ) → One u x → One v x ⊎ (Two v x y ⊎ Three v x y z) → u ≡ v
same_one u v x y z a b =
    let first = a.first in
    let small = a.below in
    elim b [
      | inl w ↦ (let e = w.first in let is : u ≡ v = cc in is)
      | inr more ↦ elim more [
        | inl w ↦ (let e = w.first in let is : u ≡ 192 + w.high = cc in absurd (omega arith))
        | inr w ↦ (let e = w.first in let is : u ≡ 224 + w.high = cc in absurd (omega arith))
      ]
    ]

same_two : (u v : ℕ) (x y z : Option ℕ) → Two u x y → One v x ⊎ (Two v x y ⊎ Three v x y z) → u ≡ v
same_two u v x y z a b =
    let first = a.first in
    let second = a.second in
    elim b [
      | inl w ↦ (let e = w.first in let is : v ≡ 192 + a.high = cc in absurd (omega arith))
      | inr more ↦ elim more [
        | inl w ↦ (let e = w.first in let f = w.second in let is : 192 + w.high ≡ 192 + a.high = cc in let low : 128 + w.low ≡ 128 + a.low = cc in omega arith)
        | inr w ↦ (let e = w.first in let is : 192 + a.high ≡ 224 + w.high = cc in absurd (omega arith))
      ]
    ]

same_three : (u v : ℕ) (x y z : Option ℕ) → Three u x y z → One v x ⊎ (Two v x y ⊎ Three v x y z) → u ≡ v
same_three u v x y z a b =
    let first = a.first in
    let second = a.second in
    let third = a.third in
    elim b [
      | inl w ↦ (let e = w.first in let is : v ≡ 224 + a.high = cc in absurd (omega arith))
      | inr more ↦ elim more [
        | inl w ↦ (let e = w.first in let is : 192 + w.high ≡ 224 + a.high = cc in absurd (omega arith))
        | inr w ↦ (let e = w.first in let f = w.second in let g = w.third in let is : 224 + w.high ≡ 224 + a.high = cc
            in let middle : 128 + w.middle ≡ 128 + a.middle = cc in
            let low : 128 + w.low ≡ 128 + a.low = cc in omega arith)
      ]
    ]

pub same_unit : (u v : ℕ) (x y z : Option ℕ) → u < 2 ^ 16 → v < 2 ^ 16 → Starts u x y z → Starts v x y z → u ≡ v
same_unit u v x y z a b s t =
    elim (forms u x y z a s) [
      | inl w ↦ same_one u v x y z w (forms v x y z b t)
      | inr more ↦ elim more [ inl w ↦ same_two u v x y z w (forms v x y z b t) | inr w ↦ same_three u v x y z w (forms v x y z b t) ]
    ]

-- ---- what the look-up at a place says

abbrev Found : Option ℕ → Option ℕ → Option ℕ → ℕ × ℕ → Type 0
Found x y z unit = (unit.0 < 2 ^ 16) × Starts unit.0 x y z × (unit.1 ≡ length (spelling unit.0))

pub next_found : (items : List ℤ) (at : ℕ) (x y z : Option ℕ) (r : Option (ℕ × ℕ)) → IsByteAt items at x → IsByteAt items (at + 1) y → IsByteAt items (at + 2) z
    → IfSome r (Found x y z)
    → IfSome r (λ unit. (unit.0 < 2 ^ 16) × (drop at items ≡ map pos (spelling unit.0) ++ drop (at + unit.1) items))
next_found items at x y z None p q r f = tt
next_found items at x y z (Some u) p q r f = (f.0, stands items at u.0 u.1 x y z p q r f.0 f.1 f.2)

pub next_only : (items : List ℤ) (at : ℕ) (x y z : Option ℕ) (r : Option (ℕ × ℕ)) → IsByteAt items at x → IsByteAt items (at + 1) y → IsByteAt items (at + 2) z
    → IfSome r (Found x y z)
    → IfSome r (λ unit. (v : ℕ) (tail : List ℤ) → v < 2 ^ 16 → drop at items ≡ map pos (spelling v) ++ tail → unit.0 ≡ v)
next_only items at x y z None p q r f = tt
next_only items at x y z (Some u) p q r f = λ v tail below h. same_unit u.0 v x y z f.0 below f.1 (is_found items at v tail x y z p q r below h)

pub positive : (u : ℕ) → u < 2 ^ 16 → 0 < length (spelling u)
positive u below =
    elim (shape u) [
      | inl w ↦ rw (spelling_one u w.0 w.1) (omega arith)
      | inr more ↦ elim more [
        | inl w ↦ rw (spelling_two u (u / 64) (u % 64) (omega arith) (omega arith) w.0 w.1) (omega arith)
        | inr w ↦ rw
            (spelling_three u (u / 4096) (u / 64 % 64) (u % 64) (omega arith) (omega arith) (omega arith) w) (omega arith)
      ]
    ]

pub next_len : (items : List ℤ) (at : ℕ) (x y z : Option ℕ) (r : Option (ℕ × ℕ)) → IsByteAt items at x → IsByteAt items (at + 1) y → IsByteAt items (at + 2) z
    → at < length items
    → IfSome r (Found x y z) → IfSome r (λ unit. (0 < unit.1) × (at + unit.1 ≤ length items))
next_len items at x y z None p q r h f = tt
next_len items at x y z (Some u) p q r h f =
    let n : length (drop at items) ≡ length (map pos (spelling u.0)) + length (drop (at + u.1) items) =
    ap length (stands items at u.0 u.1 x y z p q r f.0 f.1 f.2)
    ∙ length-append (map pos (spelling u.0)) (drop (at + u.1) items) in
    (rw f.2 (positive u.0 f.0), omega (arith, length-map (spelling u.0) pos, length-drop at items, f.2))

pub next_none : (items : List ℤ) (at : ℕ) (x y z : Option ℕ) (r : Option (ℕ × ℕ)) → IsByteAt items at x → IsByteAt items (at + 1) y → IsByteAt items (at + 2) z
    → IfNone r ((u : ℕ) → u < 2 ^ 16 → Starts u x y z → ⊥) → IfNone r ((u : ℕ) (tail : List ℤ) → u < 2 ^ 16 → drop at items ≡ map pos (spelling u) ++ tail → ⊥)
next_none items at x y z None p q r n = λ u tail below h. n u below (is_found items at u tail x y z p q r below h)
next_none items at x y z (Some u) p q r n = tt
