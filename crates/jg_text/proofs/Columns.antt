-- Fields are what stands between spaces, so the bytes before a field are all bytes before its space, and that one.
use Rattle.std.proofs.Common.{◌≡◌, ℕ, ◌+◌, ◌<◌, ◌==◌, Bool, true, false, List, [], ◌∷◌, ◌++◌, length, map, slice_get, take, drop, get_or, flat_map, codes, All, Some, refl, sym, ◌∙◌, ap, arith, length-append}
use Rattle.std.specs.Prelude.{cond, min}
use Rattle.std.specs.Int.{IsInRange}
use Rattle.std.specs.List.{onto_first}
use Rattle.std.proofs.lemmas.List.{length-map, take_all, take_at, take-append-drop, drop_more}
use Rattle.std.proofs.lemmas.List.Splits.{length-slice_split}
use Rattle.jg_text.specs.Faults.{fields}
use Rattle.jg_words.specs.declared.fun.Fun.{Fun}
use Rattle.jg_words.specs.Fun.{name_of}
use Rattle.jg_text.specs.declared.place.Place.{Place}
use Rattle.jg_text.specs.declared.takes.OperandKind.{OperandKind}
use Rattle.jg_text.specs.Operands.{operand_kinds}
use Rattle.jg_text.specs.Places.{kind_meant, before_field, byte_place, IsBeforeOdd}
use Rattle.jg_words.proofs.ByName.{names_injective}
use Rattle.jg_text.proofs.Fronts.{spaces}

-- each field with a space behind it
abbrev spaced : List (List ℕ) → List ℕ
spaced texts = flat_map (λ text. text ++ codes " ") texts

some_field : (line : List ℕ) → 0 < length (fields line)
some_field line = omega (arith, length-slice_split (λ b. b == 32) line)

-- one byte more in front of the first field
onto_append : (x : ℕ) (texts more : List (List ℕ)) → 0 < length texts → onto_first x (texts ++ more) ≡ onto_first x texts ++ more
onto_append x [] more some = absurd (omega (arith, some))
onto_append x (text ∷ texts) more some = refl

onto_spaced : (x : ℕ) (texts : List (List ℕ)) → 0 < length texts → spaced (onto_first x texts) ≡ x ∷ spaced texts
onto_spaced x [] some = absurd (omega (arith, some))
onto_spaced x (text ∷ texts) some = refl

put : Bool → ℕ → List (List ℕ) → List (List ℕ)
put b x texts = cond b ([] ∷ texts) (onto_first x texts)

put_append : (b : Bool) (x : ℕ) (texts more : List (List ℕ)) → 0 < length texts → put b x (texts ++ more) ≡ put b x texts ++ more
unfolding put
put_append true x texts more some = refl
put_append false x texts more some = onto_append x texts more some

-- a space parts the fields before it from those behind
fields_cut : (front back : List ℕ) → fields (front ++ 32 ∷ back) ≡ fields front ++ fields back
unfolding put
fields_cut [] back = refl
fields_cut (x ∷ front) back = ap (put (x == 32) x) (fields_cut front back) ∙ put_append (x == 32) x (fields front) (fields back) (some_field front)

put_spaced : (x : ℕ) (b : Bool) (texts : List (List ℕ)) → (x == 32) ≡ b → 0 < length texts → spaced (put b x texts) ≡ x ∷ spaced texts
unfolding put
put_spaced x true texts is some = let same : x ≡ 32 = grind (arith, is) in ap (λ k. k ∷ spaced texts) (sym same)
put_spaced x false texts is some = onto_spaced x texts some

all_spaced : (line : List ℕ) → spaced (fields line) ≡ line ++ codes " "
unfolding put
all_spaced [] = refl
all_spaced (x ∷ line) = put_spaced x (x == 32) (fields line) refl (some_field line) ∙ ap (λ text. x ∷ text) (all_spaced line)

pub before_cut : (line front back : List ℕ) (n : ℕ) → line ≡ front ++ 32 ∷ back → spaces front + 1 ≡ n → length front + 1 ≡ length (before_field line n)
before_cut line front back n is count =
    let many : length (fields front) ≡ n = length-slice_split (λ b. b == 32) front ∙ count in
    let first : take n (fields line) ≡ fields front = ap (λ text. take n (fields text)) is ∙ ap (take n) (fields_cut front back)
    ∙ take_at (fields front) (fields back) n many in
    omega (arith, ap length (ap spaced first ∙ all_spaced front), length-append front (codes " "))

pub before_end : (line : List ℕ) (n : ℕ) → spaces line < n → length line + 1 ≡ length (before_field line n)
before_end line n few =
    let whole : take n (fields line) ≡ fields line = take_all n (fields line) (omega (arith, length-slice_split (λ b. b == 32) line, few)) in
    omega (arith, ap length (ap spaced whole ∙ all_spaced line), length-append line (codes " "))

-- a byte that is not printable, behind printable ones
pub odd_here : (line : List ℕ) (i : ℕ) → i < length line → All (λ b. IsInRange 32 126 b) (take i line) → ¬ IsInRange 32 126 (get_or line i 0)
    → IsBeforeOdd line (take i line)
odd_here line i within seen odd = (
  seen,
  get_or line i 0,
  drop (i + 1) line,
  odd,
  sym (take-append-drop i line) ∙ ap (λ rest. take i line ++ rest) (drop_more line i 0 within),
)

abbrev at_column : ℕ → ℕ → Place
at_column field column = record { field = field; column = column }

pub byte_place_is : (before bytes : List ℕ) (count : ℕ) → bytes ≡ before → count ≡ spaces bytes → at_column (count + 1) (length bytes + 1) ≡ byte_place before
byte_place_is before bytes count same counted =
    let number : count + 1 ≡ length (fields before) = omega (arith, counted, ap spaces same, length-slice_split (λ b. b == 32) before) in
    ap (λ k. at_column k (length bytes + 1)) number ∙ ap (λ (text : List ℕ). at_column (length (fields before)) (length text + 1)) same

-- the third field names one function
pub one_function : (line : List ℕ) (f g : Fun) → slice_get (fields line) 2 ≡ Some (name_of g) → slice_get (fields line) 2 ≡ Some (name_of f) → g ≡ f
one_function line f g is found =
    let both : Some (name_of g) ≡ Some (name_of f) = sym is ∙ found in
    let same : name_of g ≡ name_of f = cc in
    names_injective g f same

pub count_index : (line : List ℕ) (f g : Fun) (count : ℕ) (kinds : List OperandKind) → slice_get (fields line) 2 ≡ Some (name_of g)
    → slice_get (fields line) 2 ≡ Some (name_of f) → count ≡ spaces line
    → map kind_meant kinds ≡ operand_kinds g → min (count + 1) (length kinds + 3) ≡ min (length (fields line)) (length (operand_kinds f) + 3)
count_index line f g count kinds is found counted kinds_are =
    let there : count + 1 ≡ length (fields line) = omega (arith, counted, length-slice_split (λ b. b == 32) line) in
    let taken : length kinds ≡ length (operand_kinds g) = sym (length-map kinds kind_meant) ∙ ap length kinds_are in
    ap (λ k. min k (length kinds + 3)) there
    ∙ ap (λ k. min (length (fields line)) (k + 3)) (taken ∙ ap (λ (k : Fun). length (operand_kinds k)) (one_function line f g is found))
