-- Texts that are written one after the other.
use Rattle.std.proofs.Common.{◌≡◌, ◌++◌, ℕ, List, ◌∙◌, ap, append_assoc, OnOk, Result, if◌then◌else◌}
use Rattle.std.specs.Result.{is_ok}
use Rattle.std.specs.declared.result.Result.TheVariants.{Ok, Err}

-- one text, and one more
pub two : (a x y : List ℕ) {b c : List ℕ} → b ≡ a ++ x → c ≡ b ++ y → c ≡ a ++ (x ++ y)
two a x y first second = second ∙ ap (λ it. it ++ y) first ∙ append_assoc a x y

-- one text, and one more that may be refused, as `push_str` says it
pub then_words : {T E : Type 0} (r : Result T E) (a x y : List ℕ) {b c : List ℕ}
    → b ≡ a ++ x → c ≡ (if is_ok r then b ++ y else b) → OnOk r (c ≡ a ++ (x ++ y))
then_words (Ok _) a x y first second = two a x y first second
then_words (Err _) a x y first second = tt

-- what `push_str` says of its text alone
pub words_alone : {T E : Type 0} (r : Result T E) (a x : List ℕ) {b : List ℕ} → b ≡ (if is_ok r then a ++ x else a) → OnOk r (b ≡ a ++ x)
words_alone (Ok _) a x said = said
words_alone (Err _) a x said = tt
