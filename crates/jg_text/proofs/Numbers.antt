-- Decimal texts, and what `parse` reads of them.
use Rattle.std.proofs.Common.{◌≡◌, ℕ, ℤ, pos, negsuc, FitsSigned, w32, w64, ◌<◌, ◌≤◌, ◌^◌, List, [], ◌∷◌, length, get_or, suc, zero, All, subst, Result, Ok, sym, ◌∙◌, ap, arith, ◌==◌, false}
use Rattle.std.specs.Int.{IsInRange}
use lib.Signed.{mag}
use Rattle.std.specs.Fmt.{decimal, signed_decimal}
use Rattle.std.specs.Str.{IsUtf8}
use Rattle.std.proofs.lemmas.Str.{IsUtf8-from_ascii}
use Rattle.jg_text.specs.Pieces.{IsPlain}
use Rattle.std.specs.Str.Parse.{ParsesUnsigned, AllDigits, digits_value}
use Rattle.std.proofs.lemmas.Fmt.{decimal-digits_value, first_decimal, digits_decimal, decimal_nonempty, IsAscii-decimal, decimal_digit}
use Rattle.std.proofs.lemmas.Str.Parse.{IsNumeralModel, numerals_by_value, tells_digits, digit_at, digit_from_value, parse_plain}
use Rattle.std.specs.List.{AllByRecursion}
use Rattle.std.proofs.lemmas.List.Elements.{All-from_recursion}
use Rattle.std.proofs.lemmas.Bool.{ne_eqb}
use Rattle.std.proofs.lemmas.Result.{OkIff-at_ok}

pub own : IsNumeralModel (AllDigits 10) (digits_value 10)
own = numerals_by_value (AllDigits 10) tells_digits

-- what `parse` reads of a text with no plus and no leading zero is spelt by the text
pub spelt_by_parse : {E : Type 0} (bs : List ℕ) (r : Result ℕ E) → ParsesUnsigned 64 10 bs r → IsPlain bs → (n : ℕ) → r ≡ Ok n → bs ≡ decimal n
spelt_by_parse bs r h plain n e =
    let both = OkIff-at_ok r _ _ n (parse_plain own 64 bs r h plain.no_plus) e in
    sym (decimal-digits_value own bs both.0.0 both.0.1 plain.no_zero both.0.2) ∙ ap decimal (sym both.1)

-- each byte of a decimal is a digit
decimal_digit_at : (n : ℕ) → n < 2 ^ 64 → (i : ℕ) → i < length (decimal n) → IsInRange 48 57 (get_or (decimal n) i 0)
decimal_digit_at n small i within =
    digit_at (decimal n) i (digits_decimal own n small) within

no_zero : (n : ℕ) → n < 2 ^ 64 → get_or (decimal n) 0 0 ≡ 48 → length (decimal n) ≡ 1
no_zero zero small e = ap length (decimal_digit 0 (omega arith))
no_zero (suc n) small e = absurd (omega (arith, first_decimal (suc n) (omega arith) small))

-- a decimal has no plus and no leading zero, and is text
decimal_plain : (n : ℕ) → n < 2 ^ 64 → IsPlain (decimal n)
decimal_plain n small = record {
  no_plus = λ e. let digit = decimal_digit_at n small 0 (decimal_nonempty n small) in absurd (omega (arith, digit));
  no_zero = no_zero n small;
}

decimal_utf8 : (n : ℕ) → n < 2 ^ 64 → IsUtf8 (decimal n)
decimal_utf8 n small = IsUtf8-from_ascii (decimal n) (IsAscii-decimal n small)

pub plain_along : (bs : List ℕ) (n : ℕ) → n < 2 ^ 64 → bs ≡ decimal n → IsPlain bs
plain_along bs n small e = subst IsPlain (sym e) (decimal_plain n small)

pub utf8_along : (bs : List ℕ) (n : ℕ) → n < 2 ^ 64 → bs ≡ decimal n → IsUtf8 bs
utf8_along bs n small e = subst IsUtf8 (sym e) (decimal_utf8 n small)

-- no byte below '0' stands in a decimal
clean_digits : (c : ℕ) → c < 48 → (bs : List ℕ) → AllDigits 10 bs → AllByRecursion (λ b. (b == c) ≡ false) bs
clean_digits c low [] h = tt
clean_digits c low (b ∷ bs) h =
    let digit = digit_from_value b h.0 in
    (ne_eqb b c (λ e. absurd (omega (arith, digit))), clean_digits c low bs h.1)

pub clean_decimal : (c n : ℕ) → c < 48 → n < 2 ^ 64 → All (λ b. (b == c) ≡ false) (decimal n)
clean_decimal c n low small = All-from_recursion (λ b. (b == c) ≡ false) (decimal n) (clean_digits c low (decimal n) (digits_decimal own n small))

no_minus : (n : ℕ) → n < 2 ^ 64 → (text : List ℕ) → 45 ∷ text ≡ decimal n → ⊥
no_minus n small text e =
    let digit = decimal_digit_at n small 0 (decimal_nonempty n small) in
    let head : 45 ≡ get_or (decimal n) 0 0 = ap (λ xs. get_or xs 0 0) e in
    absurd (omega (arith, digit, head))

-- what stands behind a minus
pub minus_is : (z : ℤ) (text : List ℕ) → FitsSigned w64 z → 45 ∷ text ≡ signed_decimal z → (n : ℕ) × (text ≡ decimal n) × (0 < n) × (n ≤ 2 ^ 63)
minus_is (pos n) text fits e = absurd (no_minus n (omega (arith, fits)) text e)
minus_is (negsuc m) text fits e = (suc m, cc, omega arith, omega (arith, fits))

-- what has no minus in front
pub plain_is : (z : ℤ) (text : List ℕ) → FitsSigned w64 z → text ≡ signed_decimal z → ¬ ((0 < length text) × (get_or text 0 0 ≡ 45))
    → (n : ℕ) × (text ≡ decimal n) × (n < 2 ^ 63)
plain_is (pos n) text fits e h = (n, e, omega (arith, fits))
plain_is (negsuc m) text fits e h = absurd (h (omega (arith, ap length e), ap (λ xs. get_or xs 0 0) e))

pub mag_fits : (z : ℤ) → FitsSigned w64 z → mag z < 2 ^ 63
mag_fits (pos n) fits = omega (arith, fits)
mag_fits (negsuc m) fits = omega (arith, fits)

pub mag_fits_small : (z : ℤ) → FitsSigned w32 z → mag z < 2 ^ 63
mag_fits_small (pos n) fits = omega (arith, fits)
mag_fits_small (negsuc m) fits = omega (arith, fits)
