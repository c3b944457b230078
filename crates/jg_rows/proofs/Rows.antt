-- A row of a part of the table, as contracts see it, and where the parts stand in the whole.
use Rattle.std.proofs.Common.{◌≡◌, ◌∙◌, ◌≤◌, ◌<◌, ◌+◌, ◌-◌, ◌++◌, ℕ, zero, suc, List, [], ◌∷◌, length, Option, map, refl, ap, sym, arith}
use Rattle.std.specs.Prelude.{slice_get}
use Rattle.std.specs.Option.{option_map}
use Rattle.std.proofs.lemmas.Option.{slice_get-map}
use Rattle.jg_words.proofs.Common.{slice_get-before}
use Rattle.jg_rows.specs.declared.row.Row.{Row}
use Rattle.jg_rows.specs.Columns.{Columns, IsRowAt, columns}
use Rattle.jg_rows.specs.Table.{functions, first, fields, virtual_calls, nonvirtual_calls, static_fields, static_calls, strings, arrays, last}

pub seen_at : (rows : List Row) (all : List Columns) (place : ℕ) (row : Option Row) → IsRowAt rows place row → map columns rows ≡ all
    → option_map columns row ≡ slice_get all place
seen_at rows all place row at seen = ap (option_map columns) at.is ∙ (sym (slice_get-map columns rows place) ∙ ap (λ l. slice_get l place) seen)

slice_get-after : {X : Type 0} (xs ys : List X) (i : ℕ) → length xs ≤ i → slice_get (xs ++ ys) i ≡ slice_get ys (i - length xs)
slice_get-after [] ys i past = let same : i ≡ i - 0 = omega arith in ap (slice_get ys) same
slice_get-after (x ∷ xs) ys zero past = absurd (omega (arith, past))
slice_get-after (x ∷ xs) ys (suc i) past =
    let same : i - length xs ≡ suc i - suc (length xs) = omega arith in
    slice_get-after xs ys i (omega (arith, past)) ∙ ap (slice_get ys) same

-- of places that count from a, those before b are in the first list, and those from b in the second
in_first : {X : Type 0} (xs ys : List X) (a b place : ℕ) → a + length xs ≡ b → a ≤ place → place < b
    → slice_get (xs ++ ys) (place - a) ≡ slice_get xs (place - a)
in_first xs ys a b place many from to = slice_get-before xs ys (place - a) (omega (arith, many, from, to))

in_second : {X : Type 0} (xs ys : List X) (a b place : ℕ) → a + length xs ≡ b → b ≤ place → slice_get (xs ++ ys) (place - a) ≡ slice_get ys (place - b)
in_second xs ys a b place many from =
    let same : place - a - length xs ≡ place - b = omega (arith, many, from) in
    slice_get-after xs ys (place - a) (omega (arith, many, from)) ∙ ap (slice_get ys) same

abbrev from_last : List Columns
from_last = last

abbrev from_arrays : List Columns
from_arrays = arrays ++ from_last

abbrev from_strings : List Columns
from_strings = strings ++ from_arrays

abbrev from_static_calls : List Columns
from_static_calls = static_calls ++ from_strings

abbrev from_static_fields : List Columns
from_static_fields = static_fields ++ from_static_calls

abbrev from_nonvirtual_calls : List Columns
from_nonvirtual_calls = nonvirtual_calls ++ from_static_fields

abbrev from_virtual_calls : List Columns
from_virtual_calls = virtual_calls ++ from_nonvirtual_calls

abbrev from_fields : List Columns
from_fields = fields ++ from_virtual_calls

pub to_fields : (place : ℕ) → 31 ≤ place → slice_get functions place ≡ slice_get from_fields (place - 31)
to_fields place from =
    let same : place ≡ place - 0 = omega arith in
    ap (slice_get functions) same ∙ in_second first from_fields 0 31 place refl from

pub to_virtual_calls : (place : ℕ) → 50 ≤ place → slice_get functions place ≡ slice_get from_virtual_calls (place - 50)
to_virtual_calls place from = to_fields place (omega (arith, from)) ∙ in_second fields from_virtual_calls 31 50 place refl from

pub to_nonvirtual_calls : (place : ℕ) → 81 ≤ place → slice_get functions place ≡ slice_get from_nonvirtual_calls (place - 81)
to_nonvirtual_calls place from = to_virtual_calls place (omega (arith, from)) ∙ in_second virtual_calls from_nonvirtual_calls 50 81 place refl from

pub to_static_fields : (place : ℕ) → 111 ≤ place → slice_get functions place ≡ slice_get from_static_fields (place - 111)
to_static_fields place from = to_nonvirtual_calls place (omega (arith, from)) ∙ in_second nonvirtual_calls from_static_fields 81 111 place refl from

pub to_static_calls : (place : ℕ) → 130 ≤ place → slice_get functions place ≡ slice_get from_static_calls (place - 130)
to_static_calls place from = to_static_fields place (omega (arith, from)) ∙ in_second static_fields from_static_calls 111 130 place refl from

pub to_strings : (place : ℕ) → 161 ≤ place → slice_get functions place ≡ slice_get from_strings (place - 161)
to_strings place from = to_static_calls place (omega (arith, from)) ∙ in_second static_calls from_strings 130 161 place refl from

pub to_arrays : (place : ℕ) → 174 ≤ place → slice_get functions place ≡ slice_get from_arrays (place - 174)
to_arrays place from = to_strings place (omega (arith, from)) ∙ in_second strings from_arrays 161 174 place refl from

pub to_last : (place : ℕ) → 220 ≤ place → slice_get functions place ≡ slice_get from_last (place - 220)
to_last place from = to_arrays place (omega (arith, from)) ∙ in_second arrays from_last 174 220 place refl from

pub at_first : (place : ℕ) → place < 31 → slice_get functions place ≡ slice_get first place
at_first place to =
    let same : place ≡ place - 0 = omega arith in
    ap (slice_get functions) same ∙ (in_first first from_fields 0 31 place refl (omega arith) to ∙ ap (slice_get first) (sym same))

pub at_fields : (place : ℕ) → 31 ≤ place → place < 50 → slice_get functions place ≡ slice_get fields (place - 31)
at_fields place from to = to_fields place from ∙ in_first fields from_virtual_calls 31 50 place refl from to

pub at_virtual_calls : (place : ℕ) → 50 ≤ place → place < 81 → slice_get functions place ≡ slice_get virtual_calls (place - 50)
at_virtual_calls place from to = to_virtual_calls place from ∙ in_first virtual_calls from_nonvirtual_calls 50 81 place refl from to

pub at_nonvirtual_calls : (place : ℕ) → 81 ≤ place → place < 111 → slice_get functions place ≡ slice_get nonvirtual_calls (place - 81)
at_nonvirtual_calls place from to = to_nonvirtual_calls place from ∙ in_first nonvirtual_calls from_static_fields 81 111 place refl from to

pub at_static_fields : (place : ℕ) → 111 ≤ place → place < 130 → slice_get functions place ≡ slice_get static_fields (place - 111)
at_static_fields place from to = to_static_fields place from ∙ in_first static_fields from_static_calls 111 130 place refl from to

pub at_static_calls : (place : ℕ) → 130 ≤ place → place < 161 → slice_get functions place ≡ slice_get static_calls (place - 130)
at_static_calls place from to = to_static_calls place from ∙ in_first static_calls from_strings 130 161 place refl from to

pub at_strings : (place : ℕ) → 161 ≤ place → place < 174 → slice_get functions place ≡ slice_get strings (place - 161)
at_strings place from to = to_strings place from ∙ in_first strings from_arrays 161 174 place refl from to

pub at_arrays : (place : ℕ) → 174 ≤ place → place < 220 → slice_get functions place ≡ slice_get arrays (place - 174)
at_arrays place from to = to_arrays place from ∙ in_first arrays from_last 174 220 place refl from to
