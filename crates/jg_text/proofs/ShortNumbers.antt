-- Digits read one by one.
use Rattle.std.proofs.Common.{◌≡◌, ℕ, ◌+◌, ◌-◌, ◌*◌, ◌<◌, ◌≤◌, ◌^◌, List, ◌++◌, length, take, drop, get_or, subst, sym, ◌∙◌, ap, arith, length-take-le}
use Rattle.std.proofs.lemmas.List.{take-append-drop}
use Rattle.std.specs.Int.{IsInRange}
use Rattle.std.specs.Fmt.{decimal}
use Rattle.std.specs.Str.Parse.{AllDigits, digits_value}
use Rattle.std.proofs.lemmas.Fmt.{decimal-digits_value}
use Rattle.std.proofs.lemmas.Str.{digit_value_digit}
use Rattle.std.proofs.lemmas.Str.Parse.{digits_value_short}
use Rattle.std.proofs.lemmas.Int.Digits.{digits_more, digits_value_more}
use Rattle.jg_text.specs.Pieces.{IsPlain}
use Rattle.jg_text.proofs.Numbers.{own}

-- at most 18 digits are a small number
pub small_front : (bs : List ℕ) (i : ℕ) → i ≤ length bs → i ≤ 18 → AllDigits 10 (take i bs) → digits_value 10 (take i bs) < 10 ^ 18
small_front bs i within short h = digits_value_short own (take i bs) 18 h (omega (arith, length-take-le i bs within))

pub one_more : (bs : List ℕ) (i byte : ℕ) → i < length bs → byte ≡ get_or bs i 0 → IsInRange 48 57 byte → AllDigits 10 (take i bs)
    → AllDigits 10 (take (i + 1) bs) × (digits_value 10 (take (i + 1) bs) ≡ digits_value 10 (take i bs) * 10 + (byte - 48))
one_more bs i byte within is digit h =
    let there : IsInRange 48 57 (get_or bs i 0) = subst (λ b. IsInRange 48 57 b) is digit in
    let worth = digit_value_digit (get_or bs i 0) there in (
      digits_more 10 bs i within h (omega (arith, worth, there)),
      digits_value_more 10 bs i within
          ∙ ap (λ d. digits_value 10 (take i bs) * 10 + d) (omega (arith, worth, is)),
    )

-- digits in front, none of them a leading zero, are a decimal's
pub spelt_in_front : (bs front rest : List ℕ) (n i : ℕ) → i ≤ length bs → i ≤ 18 → front ≡ take i bs → rest ≡ drop i bs → IsPlain front → 0 < length front
    → AllDigits 10 (take i bs)
    → n ≡ digits_value 10 (take i bs) → bs ≡ decimal n ++ rest
spelt_in_front bs front rest n i within short is_front is_rest plain some h is =
    let small = small_front bs i within short h in
    let spelt = decimal-digits_value own (take i bs) h (omega (arith, ap length is_front, some)) (subst IsPlain is_front plain).no_zero (omega (arith, small))
    in
    sym (take-append-drop i bs) ∙ cc (is_rest, ap decimal is, spelt)
