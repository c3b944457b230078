-- How many slots of a list are dead.
use Rattle.std.proofs.Common.{ℕ, zero, suc, ◌≡◌, ◌<◌, ◌≤◌, ◌+◌, ◌∙◌, ap, sym, refl, List, [], ◌∷◌, ◌++◌, length, get_or, set, arith, Bool, true, false, not, inl, inr, Some, None}
use mir.Val.{bool_byte}
use Rattle.std.specs.Prelude.{filter, if◌then◌else◌}
use Rattle.std.specs.Option.{is_some}
use Rattle.std.proofs.lemmas.Bool.{cases_Bool}
use Rattle.std.proofs.lemmas.List.{length-append}
use Rattle.std.proofs.lemmas.List.Elements.{filter-append}
use Rattle.jg_table_locals.specs.declared.row.LocalSlot.{LocalSlot}
use Rattle.jg_table_locals.specs.Seen.{is_live, dead_in, ended}

pub dead-append : (xs ys : List LocalSlot) → dead_in (xs ++ ys) ≡ dead_in xs + dead_in ys
dead-append xs ys = ap length (filter-append (λ s. not s.live) xs ys) ∙ length-append (filter (λ s. not s.live) xs) (filter (λ s. not s.live) ys)

pub dead-le : (slots : List LocalSlot) → dead_in slots ≤ length slots
dead-le [] = omega arith
dead-le (s ∷ slots) = let rest = dead-le slots in elim (cases_Bool s.live) [ inl is ↦ rw is (omega (arith, rest)) | inr out ↦ rw out (omega (arith, rest)) ]

-- none is among those that live
pub dead-live : (slots : List LocalSlot) → dead_in (filter is_live slots) ≡ 0
dead-live [] = refl
dead-live (s ∷ slots) = elim (cases_Bool s.live) [ inl is ↦ rw is (dead-live slots) | inr out ↦ rw out (dead-live slots) ]

-- it is found where it was live
pub one_of : (s : LocalSlot) → ◌≡◌ {A = ℕ} (if is_some (if s.live then Some s else None) then 1 else 0) (if s.live then 1 else 0)
one_of s = elim (cases_Bool s.live) [ inl is ↦ rw is refl | inr out ↦ rw out refl ]

-- one that is marked dead makes one more, if it was live
pub dead-ended : (slots : List LocalSlot) (i : ℕ) (s : LocalSlot) → i < length slots → s ≡ get_or slots i s
    → dead_in (set slots i (ended s)) ≤ dead_in slots + (if s.live then 1 else 0)
dead-ended [] i s within is = absurd (omega (arith, within))
dead-ended (x ∷ slots) zero s within is =
    elim (cases_Bool s.live) [
      | inl live ↦ let here : x.live ≡ true = ap (λ (y : LocalSlot). y.live) (sym is) ∙ live in rw (here, live) (omega arith)
      | inr out ↦ let here : x.live ≡ false = ap (λ (y : LocalSlot). y.live) (sym is) ∙ out in rw (here, out) (omega arith)
    ]
dead-ended (x ∷ slots) (suc i) s within is =
    let rest = dead-ended slots i s (omega (arith, within)) is in
    elim (cases_Bool x.live) [ inl live ↦ rw live (omega (arith, rest)) | inr out ↦ rw out (omega (arith, rest)) ]

-- a live one makes none more
pub dead-pushed : (slots : List LocalSlot) (s : LocalSlot) → s.live ≡ true → dead_in (slots ++ s ∷ []) ≡ dead_in slots
dead-pushed slots s live = let none : dead_in (s ∷ []) ≡ 0 = rw live refl in omega (arith, dead-append slots (s ∷ []), none)

-- a truth that is counted
pub one_more_if : (b : Bool) → ◌≡◌ {A = ℕ} (bool_byte b) (if b then 1 else 0)
one_more_if true = refl
one_more_if false = refl

pub byte-le : (b : Bool) → bool_byte b ≤ 1
byte-le true = omega arith
byte-le false = omega arith

-- ---- how many live

-- one that is marked dead is one less, if it was live
pub live-ended : (slots : List LocalSlot) (i : ℕ) (s : LocalSlot) → i < length slots → s ≡ get_or slots i s
    → length (filter is_live slots) ≡ length (filter is_live (set slots i (ended s))) + (if s.live then 1 else 0)
live-ended [] i s within is = absurd (omega (arith, within))
live-ended (x ∷ slots) zero s within is =
    elim (cases_Bool s.live) [
      | inl live ↦ let here : x.live ≡ true = ap (λ (y : LocalSlot). y.live) (sym is) ∙ live in rw (here, live) (omega arith)
      | inr out ↦ let here : x.live ≡ false = ap (λ (y : LocalSlot). y.live) (sym is) ∙ out in rw (here, out) (omega arith)
    ]
live-ended (x ∷ slots) (suc i) s within is =
    let rest = live-ended slots i s (omega (arith, within)) is in
    elim (cases_Bool x.live) [ inl live ↦ rw live (omega (arith, rest)) | inr out ↦ rw out (omega (arith, rest)) ]

pub live-append : (xs ys : List LocalSlot) → length (filter is_live (xs ++ ys)) ≡ length (filter is_live xs) + length (filter is_live ys)
live-append xs ys = ap length (filter-append is_live xs ys) ∙ length-append (filter is_live xs) (filter is_live ys)

pub live-le : (slots : List LocalSlot) → length (filter is_live slots) ≤ length slots
live-le [] = omega arith
live-le (s ∷ slots) = let rest = live-le slots in elim (cases_Bool s.live) [ inl is ↦ rw is (omega (arith, rest)) | inr out ↦ rw out (omega (arith, rest)) ]
