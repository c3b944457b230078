-- What is known of a line: it is too long, or it is that of an entry.
use Rattle.std.proofs.Common.{◌≡◌, ℕ, Bool, true, false, List, [], ◌∷◌, ◌++◌, Option, Some, None, refl, sym, ◌∙◌, ap, arith, ◌↔◌}
use Rattle.std.specs.Prelude.{IsTrue, nat_eq}
use Rattle.std.specs.Cmp.Lexicographic.{pointwise, same_text, other_text}
use Rattle.std.proofs.lemmas.List.{append_cancel_right}
use Rattle.jg_text.specs.declared.fault.ScriptFault.TheVariants.{LineTooLong}
use Rattle.jg_text.specs.Faults.{IsFirstFault}
use Rattle.jg_lines.specs.TextLines.{LinesTaken, BeginsTooLong, AreFollowedBy}

-- the line that comes next is too long
pub followed_by_long : (a b : Option (List ℕ)) (xs : List (List ℕ)) → LinesTaken a b xs → BeginsTooLong b
    → AreFollowedBy a xs (λ next. IsFirstFault next LineTooLong)
followed_by_long None b xs e long = tt
followed_by_long (Some text) None xs e long = absurd e
followed_by_long (Some text) (Some rest) xs e (bad, more, split, long) =
    (bad, more, e ∙ ap (λ ls. xs ++ ls) split, record { fault = long; first = λ g low. absurd (omega (arith, low)) })

-- a text that ends with a line feed is compared with a line
pub tells_line : (entry front text : List ℕ) (last : ℕ) (r : Bool) → entry ≡ front ++ last ∷ [] → last ≡ 10 → r ≡ pointwise nat_eq front text
    → IsTrue r ↔ (entry ≡ text ++ 10 ∷ [])
tells_line entry front text last true is ten told = (
  λ _. is ∙ ap (λ b. front ++ b ∷ []) ten ∙ ap (λ (bs : List ℕ). bs ++ 10 ∷ []) (same_text front text told),
  λ _. refl,
)
tells_line entry front text last false is ten told = (
  λ clash. absurd (cc),
  λ same. absurd (other_text front text told (append_cancel_right front text (10 ∷ []) (sym (is ∙ ap (λ b. front ++ b ∷ []) ten) ∙ same))),
)
