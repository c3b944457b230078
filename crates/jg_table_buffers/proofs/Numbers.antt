-- What a call leaves of the numbers in the rows.
use Rattle.std.proofs.Common.{◌≡◌, ℕ, ◌<◌, Bool, true, false, List, [], ◌∷◌, Some, refl, ◌∙◌, ap, sym, arith, inl, inr}
use Rattle.std.specs.Prelude.{◌⊎◌, if◌then◌else◌, filter, find}
use Rattle.std.specs.List.{AllByRecursion}
use Rattle.std.proofs.lemmas.Bool.Decides.{nat_tests}
use Rattle.std.proofs.lemmas.List.Elements.{recursion_from_All, All-from_recursion}
use Rattle.jg_table_buffers.specs.History.{Buffer, is_same}
use Rattle.jg_table_buffers.specs.Rows.{Rows, is_buffer, row_of, IsAbove, AddsNumber, KeepsNumbers}
use Rattle.jg_lists.proofs.Lists.{Member, each_member}

numbered : (k i n : ℕ) (rows : List Buffer) (b : Buffer) → AllByRecursion (λ row. row.maker ≡ k → row.n < i) rows → find (is_buffer k n) rows ≡ Some b → n < i
numbered k i n [] b above found = cc
numbered k i n (row ∷ rows) b above found =
    let tail = numbered k i n rows b above.1 in
    let here = above.0 in
    grind (arith, nat_tests, tail, here)

-- a number in the rows is below each that is above all
below_law : (rows : Rows) (k i n : ℕ) (b : Buffer) → IsAbove k i rows → row_of k n rows ≡ Some b → n < i
below_law rows k i n b above found = numbered k i n rows.lent b (recursion_from_All _ _ above) found

found_by : (p : Buffer → Bool) (row : Buffer) (rows : List Buffer) (b : Bool) → (b ≡ true) ⊎ ((x : Buffer) × (find p rows ≡ Some x))
    → (x : Buffer) × ((if b then Some row else find p rows) ≡ Some x)
found_by p row rows true either = (row, refl)
found_by p row rows false (inl is) = cc
found_by p row rows false (inr later) = later

member_found : (p : Buffer → Bool) (x : Buffer) (rows : List Buffer) → Member x rows → p x ≡ true → (y : Buffer) × (find p rows ≡ Some y)
member_found p x [] there passes = absurd there
member_found p x (row ∷ rows) (inl same) passes = found_by p row rows (p row) (inl (ap p (sym same) ∙ passes))
member_found p x (row ∷ rows) (inr later) passes = found_by p row rows (p row) (inr (member_found p x rows later passes))

row_below : (rows : Rows) (k i : ℕ) → ((n : ℕ) (b : Buffer) → row_of k n rows ≡ Some b → n < i) → (row : Buffer) → Member row rows.lent → row.maker ≡ k
    → row.n < i
row_below rows k i each row there is =
    let mine : is_buffer k row.n row ≡ true = grind (arith, nat_tests) in
    let found = member_found (is_buffer k row.n) row rows.lent there mine in
    each row.n found.0 found.1

-- what is above each number that a look-up finds is above all
pub above_law : (rows : Rows) (k i : ℕ) → ((n : ℕ) (b : Buffer) → row_of k n rows ≡ Some b → n < i) → IsAbove k i rows
above_law rows k i each = All-from_recursion _ _ (each_member (λ row. row.maker ≡ k → row.n < i) rows.lent (row_below rows k i each))

number_by : (old new : Rows) (m n : ℕ) → ((k j : ℕ) (b : Buffer) → is_same k j m n ≡ false → row_of k j new ≡ Some b → (x : Buffer) × (row_of k j old ≡ Some x))
    → (k i j : ℕ) (b : Buffer) → IsAbove k i old → (k ≡ m → n < i) → row_of k j new ≡ Some b → (same : Bool) → is_same k j m n ≡ same → j < i
number_by old new m n was k i j b above below found true is = grind (arith, nat_tests, below)
number_by old new m n was k i j b above below found false is = let before = was k j b is found in below_law old k i j before.0 above before.1

-- each row was there before, but one
pub adds_number : (old new : Rows) (m n : ℕ)
    → ((k j : ℕ) (b : Buffer) → is_same k j m n ≡ false → row_of k j new ≡ Some b → (x : Buffer) × (row_of k j old ≡ Some x)) → AddsNumber m n old new
adds_number old new m n was k i above below = above_law new k i (λ j b found. number_by old new m n was k i j b above below found (is_same k j m n) refl)

-- each row was there before
pub keeps_numbers : (old new : Rows) → ((k j : ℕ) (b : Buffer) → row_of k j new ≡ Some b → (x : Buffer) × (row_of k j old ≡ Some x)) → KeepsNumbers old new
keeps_numbers old new was k i above = above_law new k i (λ j b found. let before = was k j b found in below_law old k i j before.0 above before.1)

none_passes : (m n : ℕ) (rows : List Buffer) → AllByRecursion (λ row. row.maker ≡ m → row.n < n) rows → filter (is_buffer m n) rows ≡ []
none_passes m n [] above = refl
none_passes m n (row ∷ rows) above =
    let tail = none_passes m n rows above.1 in
    let here = above.0 in
    grind (arith, nat_tests, tail, here)

-- a number above all has no row
pub no_row : (rows : Rows) (m n : ℕ) → IsAbove m n rows → filter (is_buffer m n) rows.lent ≡ []
no_row rows m n above = none_passes m n rows.lent (recursion_from_All _ _ above)
