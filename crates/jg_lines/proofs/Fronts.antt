-- What was taken of a line that can't be had.
use Rattle.std.proofs.Common.{◌≡◌, ◌≢◌, ◌==◌, ℕ, ◌<◌, false, List, [], ◌∷◌, ◌++◌, length, Option, refl, arith, length-append, inl, inr}
use Rattle.std.specs.Io.KnownBytes.{Consumes}
use Rattle.std.proofs.KnownBytes.{Consumes-trans}
use Rattle.std.proofs.lemmas.Bool.{ne_eqb}
use Rattle.std.proofs.lemmas.List.Elements.{All-append, All-cons, All-nil}
use Rattle.jg_lines.specs.Devices.{IsOneLine, TakesFront}

pub with_feed : (old mid new : Option (List ℕ)) (line : List ℕ) → Consumes old mid line → Consumes mid new (10 ∷ []) → IsOneLine line → length line < 65537
    → TakesFront old new
with_feed old mid new line taken more clean short =
    (line ++ 10 ∷ [], (line, clean, inr refl, omega (arith, length-append line (10 ∷ []), short)), Consumes-trans old mid new line (10 ∷ []) taken more)

pub with_byte : (old mid new : Option (List ℕ)) (line : List ℕ) (byte : ℕ) → Consumes old mid line → Consumes mid new (byte ∷ []) → byte ≢ 10 → IsOneLine line
    → length line < 65537
    → TakesFront old new
with_byte old mid new line byte taken more other clean short =
    let one = All-cons (λ b. (b == 10) ≡ false) byte [] (ne_eqb byte 10 other) (All-nil (λ b. (b == 10) ≡ false)) in (
      line ++ byte ∷ [],
      (line ++ byte ∷ [], All-append (λ b. (b == 10) ≡ false) line (byte ∷ []) clean one, inl refl, omega (arith, length-append line (byte ∷ []), short)),
      Consumes-trans old mid new line (byte ∷ []) taken more,
    )
