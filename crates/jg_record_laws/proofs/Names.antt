-- Each place of the table of functions has a name of its own.
use Rattle.std.proofs.Common.{◌≡◌, ◌∙◌, ℕ, Bool, true, List, [], ◌∷◌, map, Some, refl, ap, sym}
use Rattle.std.specs.Prelude.{zero, suc, ◌==◌, ◌&&◌, not, slice_get}
use Rattle.std.specs.List.{list_all}
use Rattle.std.specs.Option.{option_map}
use Rattle.std.proofs.lemmas.Bool.{and_parts}
use Rattle.std.proofs.lemmas.Option.{slice_get-map}
use Rattle.jg_words.proofs.Common.{eqb_self}
use Rattle.jg_rows.specs.ByName.{name_number}
use Rattle.jg_rows.specs.Columns.{Columns}
use Rattle.jg_rows.specs.Table.{functions}

-- no number stands in the list twice
abbrev are_distinct : List ℕ → Bool
are_distinct [] = true
are_distinct (n ∷ ns) = list_all (λ m. not (m == n)) ns && are_distinct ns

passes_at : (test : ℕ → Bool) (ns : List ℕ) (place n : ℕ) → list_all test ns ≡ true → slice_get ns place ≡ Some n → test n ≡ true
passes_at test [] place n all at = absurd (let no : ⊥ = cc in no)
passes_at test (m ∷ ns) zero n all at =
    let same : m ≡ n = cc in
    ap test (sym same) ∙ (and_parts (test m) (list_all test ns) all).0
passes_at test (m ∷ ns) (suc place) n all at = passes_at test ns place n (and_parts (test m) (list_all test ns) all).1 at

not_first : (m n : ℕ) (ns : List ℕ) (place : ℕ) → list_all (λ k. not (k == m)) ns ≡ true → slice_get ns place ≡ Some n → m ≡ n → ⊥
not_first m n ns place all at same =
    let other : not (n == m) ≡ true = passes_at (λ k. not (k == m)) ns place n all at in
    let equal : (n == m) ≡ true = ap (λ k. n == k) same ∙ eqb_self n in
    cc

one_place : (ns : List ℕ) → are_distinct ns ≡ true → (p q n : ℕ) → slice_get ns p ≡ Some n → slice_get ns q ≡ Some n → p ≡ q
one_place [] all p q n at there = absurd (let no : ⊥ = cc in no)
one_place (m ∷ ns) all zero zero n at there = refl
one_place (m ∷ ns) all zero (suc q) n at there =
    absurd (not_first m n ns q (and_parts (list_all (λ k. not (k == m)) ns) (are_distinct ns) all).0 there (let same : m ≡ n = cc in same))
one_place (m ∷ ns) all (suc p) zero n at there =
    absurd (not_first m n ns p (and_parts (list_all (λ k. not (k == m)) ns) (are_distinct ns) all).0 at (let same : m ≡ n = cc in same))
one_place (m ∷ ns) all (suc p) (suc q) n at there =
    ap (λ k. suc k) (one_place ns (and_parts (list_all (λ k. not (k == m)) ns) (are_distinct ns) all).1 p q n at there)

all_distinct : are_distinct (map (λ row. name_number 0 row.name) functions) ≡ true
all_distinct = refl

pub one_function : (p q : ℕ) (row other : Columns) → slice_get functions p ≡ Some row → slice_get functions q ≡ Some other → row.name ≡ other.name → p ≡ q
one_function p q row other at there same =
    one_place (map (λ row. name_number 0 row.name) functions) all_distinct p q (name_number 0 row.name)
    (slice_get-map (λ row. name_number 0 row.name) functions p ∙ ap (option_map (λ row. name_number 0 row.name)) at)
    (slice_get-map (λ row. name_number 0 row.name) functions q ∙ ap (option_map (λ row. name_number 0 row.name)) there
    ∙ ap (λ (name : List ℕ). Some (name_number 0 name)) (sym same))
