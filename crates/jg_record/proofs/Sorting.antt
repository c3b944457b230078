-- The operands of a function that are of their sorts have words, and what has words is of its sort.
use Rattle.std.proofs.Common.{◌≡◌, ◌∙◌, ◌∷◌, ◌≤◌, ◌^◌, ℕ, ℤ, pos, negsuc, Bool, true, false, List, [], map, FitsSigned, w32, refl, ap, arith, inl, inr, if◌then◌else◌}
use Rattle.std.specs.Prelude.{◌&&◌}
use Rattle.std.specs.List.{AllByRecursion}
use Rattle.std.proofs.lemmas.Bool.{and_parts}
use Rattle.std.proofs.lemmas.Bool.Decides.{nat_tests}
use Rattle.jg_rows.specs.declared.row.Takes.{Takes}
use Rattle.jg_judge.specs.declared.argument.Argument.{Argument}
use Rattle.jg_judge.specs.declared.argument.Argument.TheVariants as argument
use Rattle.jg_judge.specs.Asked.{is_last}
use Rattle.jg_record.specs.declared.operands.Sort.{Sort}
use Rattle.jg_record.specs.declared.operands.Sort.TheVariants as sort
use Rattle.jg_record.specs.Operands.{Asks, Spells, sort_of}
use Rattle.jg_record.specs.Texts.{argument_text, is_long, is_sort, are_sorted, FitsArgument}
use Rattle.jg_record.proofs.Seen.{unknown_is_name}

both : (a b : Bool) → a ≡ true → b ≡ true → (a && b) ≡ true
both true true h k = refl
both true false h k = k
both false b h k = h

-- what 32 bits hold isn't long
long_past : (v : ℤ) → is_long v ≡ true → ¬ FitsSigned w32 v
long_past (pos n) long fits = let past : 2 ^ 31 ≤ n = grind (arith, nat_tests, long) in absurd (omega (arith, past, fits))
long_past (negsuc n) long fits = let past : 2 ^ 31 ≤ n = grind (arith, nat_tests, long) in absurd (omega (arith, past, fits))

long_of : (v : ℤ) (b : Bool) → is_long v ≡ b → ¬ FitsSigned w32 v → b ≡ true
long_of v true is wide = refl
long_of (pos n) false is wide = absurd (wide (grind (arith, nat_tests, is)))
long_of (negsuc n) false is wide = absurd (wide (grind (arith, nat_tests, is)))

spells_of : (s : Sort) (x : Argument) → is_sort s x ≡ true → FitsArgument x → Spells s (argument_text x) x
spells_of sort.Reference (argument.Reference r) has fits = (r, fits, refl, refl)
spells_of sort.Buffer (argument.Buffer b) has fits = (b, fits, refl, refl)
spells_of sort.Bounded (argument.Number n) has fits = (n, fits, refl, refl)
spells_of sort.Number (argument.Number n) has fits = inl (n, fits, refl, refl)
spells_of sort.Number (argument.Value v) has fits = inr (v, fits, long_past v has, refl, refl)
spells_of sort.Value (argument.Value v) has fits = (v, fits, refl, refl)
spells_of sort.Id (argument.Id f) has fits = (f, refl, refl)
spells_of sort.Class (argument.Class class) has fits = (class, fits, refl, refl)
spells_of sort.Native (argument.Native native) has fits = (native, fits, refl, refl)
spells_of sort.Name argument.Name has fits = (unknown_is_name, refl, refl)
spells_of sort.List (argument.List count f) has fits = (count, f, fits, refl, refl)
spells_of s x has fits = absurd (let no : ⊥ = cc in no)

pub asks_of : (takes : List Takes) (xs : List Argument) → are_sorted takes xs ≡ true → AllByRecursion FitsArgument xs → Asks takes (map argument_text xs) xs
asks_of takes [] sorted fits = sorted
asks_of [] (x ∷ xs) sorted fits = absurd (let no : ⊥ = cc in no)
asks_of (t ∷ takes) (x ∷ xs) sorted fits =
    let parts = and_parts (is_sort (sort_of t) x) (are_sorted (if is_last t then t ∷ takes else takes) xs) sorted in
    (spells_of (sort_of t) x parts.0 fits.0, asks_of (if is_last t then t ∷ takes else takes) xs parts.1 fits.1)

sort_is : (s : Sort) (word : List ℕ) (x : Argument) → Spells s word x → is_sort s x ≡ true
sort_is sort.Reference word x (r, fits, spelt, is) = ap (is_sort sort.Reference) is
sort_is sort.Buffer word x (b, fits, spelt, is) = ap (is_sort sort.Buffer) is
sort_is sort.Bounded word x (n, fits, spelt, is) = ap (is_sort sort.Bounded) is
sort_is sort.Number word x (inl (n, fits, spelt, is)) = ap (is_sort sort.Number) is
sort_is sort.Number word x (inr (v, fits, wide, spelt, is)) = ap (is_sort sort.Number) is ∙ long_of v (is_long v) refl wide
sort_is sort.Value word x (v, fits, spelt, is) = ap (is_sort sort.Value) is
sort_is sort.Id word x (f, spelt, is) = ap (is_sort sort.Id) is
sort_is sort.Class word x (class, fits, spelt, is) = ap (is_sort sort.Class) is
sort_is sort.Native word x (native, fits, spelt, is) = ap (is_sort sort.Native) is
sort_is sort.Name word x (name, other, is) = ap (is_sort sort.Name) is
sort_is sort.List word x (count, f, below, spelt, is) = ap (is_sort sort.List) is

pub sorted_of : (takes : List Takes) (words : List (List ℕ)) (xs : List Argument) → Asks takes words xs → are_sorted takes xs ≡ true
sorted_of takes [] [] asks = asks
sorted_of takes [] (x ∷ xs) asks = absurd asks
sorted_of [] (w ∷ words) xs asks = absurd asks
sorted_of (t ∷ takes) (w ∷ words) [] asks = absurd asks
sorted_of (t ∷ takes) (w ∷ words) (x ∷ xs) asks =
    both (is_sort (sort_of t) x) (are_sorted (if is_last t then t ∷ takes else takes) xs) (sort_is (sort_of t) w x asks.0)
    (sorted_of (if is_last t then t ∷ takes else takes) words xs asks.1)
