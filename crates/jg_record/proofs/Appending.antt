-- Words written one behind the other are the fields of the text.
use Rattle.std.proofs.Common.{◌≡◌, ◌∙◌, ◌==◌, ℕ, List, [], ◌∷◌, ◌++◌, All, map, sym, ap, subst, arith, append_assoc}
use Rattle.std.specs.Int.{IsInRange}
use Rattle.std.specs.List.{AllByRecursion}
use Rattle.std.proofs.lemmas.List.{append-nil}
use Rattle.std.proofs.lemmas.List.Elements.{All-append, All-cons, All-nil}
use Rattle.std.proofs.lemmas.List.Splits.{slice_split_none}
use Rattle.jg_text.specs.Faults.{fields}
use Rattle.jg_text.specs.Pieces.{after_spaces}
use Rattle.jg_text.proofs.Cuts.{split_first}
use Rattle.jg_text.proofs.Laws.{IsVisible, clean_of, wide}
use Rattle.jg_record.specs.Texts.{appended}

-- what was written, with the words of what is left, is all; and where what is left fits, all does
pub record LeavesWords {A : Type 0} (text : A → List ℕ) (Fits : A → Type 0) (start : List ℕ) (whole : List A) (now : List ℕ) (rest : List A) : Type 0 where
  pub written : appended now (map text rest) ≡ appended start (map text whole)
  pub fits : AllByRecursion Fits rest → AllByRecursion Fits whole

pub one_word : {A : Type 0} (text : A → List ℕ) (Fits : A → Type 0) (start : List ℕ) (whole : List A) (now new : List ℕ) (rest later : List A) (a : A)
    → LeavesWords text Fits start whole now rest
    → rest ≡ a ∷ later → new ≡ now ++ 32 ∷ text a → Fits a → LeavesWords text Fits start whole new later
one_word text Fits start whole now new rest later a left is new_is fits = record {
  written = ap (λ bs. appended bs (map text later)) new_is ∙ ap (λ r. appended now (map text r)) (sym is) ∙ left.written;
  fits = λ more. left.fits (subst (AllByRecursion Fits) (sym is) (fits, more));
}

pub no_word : {A : Type 0} (text : A → List ℕ) (Fits : A → Type 0) (start : List ℕ) (whole : List A) (now : List ℕ) (rest : List A)
    → LeavesWords text Fits start whole now rest → rest ≡ []
    → (now ≡ appended start (map text whole)) × AllByRecursion Fits whole
no_word text Fits start whole now rest left is = (
  ap (λ r. appended now (map text r)) (sym is) ∙ left.written,
  left.fits (subst (AllByRecursion Fits) (sym is) tt),
)

pub appended_is : (old : List ℕ) (words : List (List ℕ)) → appended old words ≡ old ++ after_spaces words
appended_is old [] = sym (append-nil old)
appended_is old (word ∷ words) = appended_is (old ++ 32 ∷ word) words ∙ append_assoc old (32 ∷ word) (after_spaces words)

pub fields_after : (first : List ℕ) (words : List (List ℕ)) → IsVisible first → AllByRecursion IsVisible words
    → fields (first ++ after_spaces words) ≡ first ∷ words
fields_after first [] seen rest = ap fields (append-nil first) ∙ slice_split_none (λ b. b == 32) first (clean_of first seen)
fields_after first (word ∷ words) seen rest = split_first 32 first (word ++ after_spaces words) (clean_of first seen)
    ∙ ap (λ ws. first ∷ ws) (fields_after word words rest.0 rest.1)

printable_spaces : (words : List (List ℕ)) → AllByRecursion IsVisible words → All (λ b. IsInRange 32 126 b) (after_spaces words)
printable_spaces [] seen = All-nil (λ b. IsInRange 32 126 b)
printable_spaces (word ∷ words) seen =
    All-cons (λ b. IsInRange 32 126 b) 32 (word ++ after_spaces words) (omega arith)
    (All-append (λ b. IsInRange 32 126 b) word (after_spaces words) (wide word seen.0) (printable_spaces words seen.1))

pub printable_after : (first : List ℕ) (words : List (List ℕ)) → IsVisible first → AllByRecursion IsVisible words
    → All (λ b. IsInRange 32 126 b) (first ++ after_spaces words)
printable_after first words seen rest = All-append (λ b. IsInRange 32 126 b) first (after_spaces words) (wide first seen) (printable_spaces words rest)
