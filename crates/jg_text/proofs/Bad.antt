-- Which texts spell operands, as they are tested without memory.
use Rattle.std.proofs.Common.{◌≡◌, ◌↔◌, ℕ, ℤ, suc, ◌<◌, ◌≤◌, List, [], ◌∷◌, ◌++◌, length, map, ◌==◌, FitsSigned, w64, Option, Some, slice_get, drop, subst, sym, ◌∙◌, ap, arith}
use Rattle.std.specs.Fmt.{signed_decimal}
use Rattle.std.proofs.lemmas.List.{length-map}
use Rattle.std.proofs.lemmas.List.Elements.{All-cons}
use Rattle.std.proofs.lemmas.List.Splits.{length-slice_split}
use Rattle.jg_text.specs.Kinds.{OperandKind, Numbers}
use Rattle.jg_text.specs.Words.{SpellsOperand, SpellOperands}
use Rattle.jg_text.specs.Pieces.{IsFirstNumber, StartsNoNumber, AreNumbers, rest_numbers}
use Rattle.jg_words.specs.declared.fun.Fun.{Fun}
use Rattle.jg_words.specs.Fun.{name_of}
use Rattle.jg_text.specs.declared.fault.ScriptFault.TheVariants.{BadOperand}
use Rattle.jg_text.specs.declared.takes.OperandKind.{OperandKind as KindTold}
use Rattle.jg_text.specs.Operands.{operand_kinds}
use Rattle.jg_text.specs.Faults.{fields, HasFault}
use Rattle.jg_text.specs.Places.{kind_meant, IsFirstBad}
use Rattle.jg_text.proofs.Columns.{one_function}
use Rattle.jg_text.proofs.Lists.{Fit, pieces, items_pieces, spelt_items}

fits_none : Fit []
fits_none k d within = absurd (omega (arith, within))

pub none_left : (left : List (List ℕ)) → left ≡ [] → AreNumbers left
none_left left is = ([], fits_none, is)

one_less : (z : ℤ) (all left : List (List ℕ)) (xs : List ℤ) → all ≡ signed_decimal z ∷ left → Fit xs → all ≡ map signed_decimal xs → AreNumbers left
one_less z all left [] first fits e = absurd (cc)
one_less z all left (x ∷ xs) first fits e = (xs, λ k d within. fits (suc k) d (omega arith), cc)

-- numbers are left where numbers were, once the first of them is taken
pub numbers_left : (all text : List ℕ) (z : ℤ) (behind : Option (List ℕ)) → IsFirstNumber text z behind → AreNumbers (pieces all) ↔ AreNumbers (pieces text)
    → AreNumbers (pieces all) ↔ AreNumbers (rest_numbers behind)
numbers_left all text z behind is so_far = (
  λ numbers. let h = so_far.0 numbers in one_less z (pieces text) (rest_numbers behind) h.0 is.pieces h.1 h.2,
  λ numbers. so_far.1 (z ∷ numbers.0, All-cons (λ x. FitsSigned w64 x) z numbers.0 is.fits numbers.1, is.pieces ∙ ap (λ ps. signed_decimal z ∷ ps) numbers.2),
)

no_first : (text : List ℕ) (xs : List ℤ) → StartsNoNumber text → Fit xs → pieces text ≡ map signed_decimal xs → ⊥
no_first text [] none fits e = absurd (omega (arith, length-slice_split (λ b. b == 44) text, ap length e))
no_first text (x ∷ xs) none fits e = none x (fits 0 x (omega arith)) (map signed_decimal xs) e

-- where no number stands first, not all are numbers
pub no_numbers : (text : List ℕ) → StartsNoNumber text → ¬ AreNumbers (pieces text)
no_numbers text none = λ numbers. no_first text numbers.0 none numbers.1 numbers.2

-- what stands between the brackets is at most 1,000 numbers between commas
pub list_spelt : (text inner : List ℕ) → text ≡ 91 ∷ (inner ++ 93 ∷ []) → 0 < length inner → length (pieces inner) ≤ 1000
    → AreNumbers (pieces inner) ↔ SpellsOperand Numbers text
list_spelt text inner e some few = (
  λ numbers. (
    numbers.0,
    (omega (arith, few, ap length numbers.2, length-map numbers.0 signed_decimal), numbers.1),
    spelt_items text inner numbers.0 e
        numbers.2,
  ),
  λ spelt. (spelt.0, spelt.1.1, items_pieces text inner spelt.0 e some spelt.1 spelt.2),
)

pub list_too_long : (text inner : List ℕ) → text ≡ 91 ∷ (inner ++ 93 ∷ []) → 0 < length inner → 1000 < length (pieces inner) → ¬ SpellsOperand Numbers text
list_too_long text inner e some long = λ spelt.
    let is = items_pieces text inner spelt.0 e some spelt.1 spelt.2 in
    let few : length spelt.0 ≤ 1000 = spelt.1.0 in
    absurd (omega (arith, long, few, ap length is, length-map spelt.0 signed_decimal))

-- the first bad operand of the line's function
pub bad_in_line : (line : List ℕ) (f g : Fun) (kinds : List KindTold) (rest : List (List ℕ)) (i : ℕ) → slice_get (fields line) 2 ≡ Some (name_of g)
    → slice_get (fields line) 2 ≡ Some (name_of f)
    → drop 3 (fields line) ≡ rest → map kind_meant kinds ≡ operand_kinds g
    → (length rest ≡ length kinds → ¬ SpellOperands (map kind_meant kinds) rest → IsFirstBad (map kind_meant kinds) rest i)
    → length (drop 3 (fields line)) ≡ length (operand_kinds f) → HasFault BadOperand line → IsFirstBad (operand_kinds f) (drop 3 (fields line)) i
bad_in_line line f g kinds rest i is found rest_is kinds_are bad count fault =
    let whole : map kind_meant kinds ≡ operand_kinds f = kinds_are ∙ ap operand_kinds (one_function line f g is found) in
    let many : length rest ≡ length kinds = sym (ap length rest_is) ∙ count ∙ sym (ap length whole) ∙ length-map kinds kind_meant in
    subst (λ (fs : List (List ℕ)). IsFirstBad (operand_kinds f) fs i) (sym rest_is)
    (subst (λ (ks : List OperandKind). IsFirstBad ks rest i) whole (bad many (λ spelt. fault f found
    (subst (λ (fs : List (List ℕ)). SpellOperands (operand_kinds f) fs) (sym rest_is) (subst (λ (ks : List OperandKind). SpellOperands ks rest) whole spelt)))))
