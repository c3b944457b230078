-- Operands that are put into the room stand at its front.
use Rattle.std.proofs.Common.{◌≡◌, List, [], ◌∷◌, arith, length, refl, take}
use Rattle.std.specs.Prelude.{slice_set}
use Rattle.jg_judge.specs.declared.argument.Argument.{Argument}

pub one_put : (room : List Argument) (a : Argument) → length room ≡ 3 → take 1 (slice_set room 0 a) ≡ a ∷ []
one_put [] a is = absurd (omega (arith, is))
one_put (x ∷ room) a is = refl

pub two_put : (room : List Argument) (a b : Argument) → length room ≡ 3 → take 2 (slice_set (slice_set room 0 a) 1 b) ≡ a ∷ b ∷ []
two_put [] a b is = absurd (omega (arith, is))
two_put (x ∷ []) a b is = absurd (omega (arith, is))
two_put (x ∷ y ∷ room) a b is = refl

pub three_put : (room : List Argument) (a b c : Argument) → length room ≡ 3
    → take 3 (slice_set (slice_set (slice_set room 0 a) 1 b) 2 c) ≡ a ∷ b ∷ c ∷ []
three_put [] a b c is = absurd (omega (arith, is))
three_put (x ∷ []) a b c is = absurd (omega (arith, is))
three_put (x ∷ y ∷ []) a b c is = absurd (omega (arith, is))
three_put (x ∷ y ∷ z ∷ room) a b c is = refl
