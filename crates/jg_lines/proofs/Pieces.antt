-- Pieces of lines: what a buffered device shows, up to its first line feed.
use Rattle.std.proofs.Common.{◌≡◌, ◌==◌, ℕ, ◌+◌, ◌<◌, ◌≤◌, Bool, true, false, List, [], ◌∷◌, ◌++◌, length, take, slice_index, refl, sym, ◌∙◌, ap, arith, length-take-le, get_or-take, eqb-true}
use Rattle.std.proofs.lemmas.List.{take_more}
use Rattle.std.proofs.lemmas.List.Elements.{All-from_get_or}
use Rattle.memchr.specs.Find.{Nowhere, Passes, is_byte}
use Rattle.jg_lines.specs.Devices.{IsOneLine}

not_true : (b : Bool) → ¬ (b ≡ true) → b ≡ false
not_true true = λ no. absurd (no refl)
not_true false = λ no. refl

-- no line feed was found
pub no_feed : (hay : List ℕ) → Nowhere (Passes (is_byte 10) hay) 0 (length hay) → IsOneLine hay
no_feed hay none = All-from_get_or (λ b. (b == 10) ≡ false) hay 0 (λ i below. not_true (slice_index hay i == 10) (none i (omega arith) below))

-- one was found: none stands before it
pub before_feed : (shown : List ℕ) (most k : ℕ) → k < length (take most shown) → k ≤ most → k < length shown
    → Nowhere (Passes (is_byte 10) (take most shown)) 0 k → IsOneLine (take k shown)
before_feed shown most k below within short none =
    let long = length-take-le k shown (omega arith) in
    All-from_get_or (λ b. (b == 10) ≡ false) (take k shown) 0 (λ i lt.
    let at : slice_index (take k shown) i ≡ slice_index (take most shown) i =
    get_or-take k shown i 0 (omega (arith, long)) ∙ sym (get_or-take most shown i 0 (omega (arith, long))) in
    rw at (not_true (slice_index (take most shown) i == 10) (none i (omega arith) (omega (arith, long)))))

pub through_feed : (shown : List ℕ) (most k : ℕ) → k < most → k < length shown → Passes (is_byte 10) (take most shown) k
    → take (k + 1) shown ≡ take k shown ++ 10 ∷ []
through_feed shown most k within short feed =
    take_more shown k 0 short ∙ ap (λ b. take k shown ++ b ∷ []) (sym (get_or-take most shown k 0 within) ∙ eqb-true _ _ feed)
