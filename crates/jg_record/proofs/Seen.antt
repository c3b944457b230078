-- Each word that is written has bytes from 0x21 to 0x7E.
use Rattle.std.proofs.Common.{◌≡◌, ◌<◌, ◌^◌, ◌∷◌, ℕ, ℤ, Bool, true, false, List, [], Option, Some, None, FitsSigned, w32, refl, arith}
use Rattle.std.specs.Prelude.{zero, suc, nat_lt, ◌&&◌, slice_get, map, codes}
use Rattle.std.specs.Int.{IsInRange}
use Rattle.std.specs.Fmt.{decimal, signed_decimal}
use Rattle.std.specs.List.{list_all, AllByRecursion}
use Rattle.std.proofs.lemmas.Bool.{and_parts}
use Rattle.std.proofs.lemmas.Bool.Decides.{nat_tests}
use Rattle.std.proofs.lemmas.List.Elements.{All-append, All-cons, All-from_recursion}
use Rattle.jg_words.specs.Name.{IsName}
use Rattle.jg_words.specs.declared.object.ObjId.{ObjId}
use Rattle.jg_words.specs.declared.reference.Kind.{Kind}
use Rattle.jg_words.specs.declared.reference.Kind.TheVariants.{Local, Global, Weak}
use Rattle.jg_words.specs.declared.reference.Ref.{Ref}
use Rattle.jg_words.specs.declared.buffer.BufId.{BufId}
use Rattle.jg_words.specs.declared.object.Primitive.TheVariants.{Boolean, Byte, Char, Short, Int, Long}
use Rattle.jg_words.specs.declared.object.ItemType.TheVariants.{Of, Float, Double}
use Rattle.jg_table_buffers.specs.declared.family.Family.{Family}
use Rattle.jg_table_buffers.specs.declared.family.Family.TheVariants.{Elements, Chars, UtfChars, ArrayCritical, StringCritical}
use Rattle.jg_text.specs.Words.{ref_text, buf_text, FitsRef, FitsBuf, of_ref, of_number, of_buffer}
use Rattle.jg_text.proofs.Laws.{IsVisible, seen_number, seen_signed, seen_word}
use Rattle.jg_rows.specs.Columns.{Columns}
use Rattle.jg_rows.specs.Table.{functions}
use Rattle.jg_judge.specs.declared.argument.Argument.{Argument}
use Rattle.jg_judge.specs.declared.argument.Argument.TheVariants as argument
use Rattle.jg_record.specs.Words.{object_text, kept_text, stated_text, list_text, FitsObject, FitsKept, FitsStated}
use Rattle.jg_record.specs.Texts.{kind_word, family_word, argument_text, FitsArgument}

abbrev pub is_seen : ℕ → Bool
is_seen b = nat_lt 32 b && nat_lt b 127

in_range : (b : ℕ) → nat_lt 32 b ≡ true → nat_lt b 127 ≡ true → IsInRange 33 126 b
in_range b h k = grind (arith, nat_tests)

by_test : (bs : List ℕ) → list_all is_seen bs ≡ true → AllByRecursion (λ b. IsInRange 33 126 b) bs
by_test [] h = tt
by_test (b ∷ bs) h =
    let parts = and_parts (is_seen b) (list_all is_seen bs) h in
    let two = and_parts (nat_lt 32 b) (nat_lt b 127) parts.0 in
    (in_range b two.0 two.1, by_test bs parts.1)

-- a word that is known
pub known : (bs : List ℕ) → list_all is_seen bs ≡ true → IsVisible bs
known bs h = All-from_recursion (λ b. IsInRange 33 126 b) bs (by_test bs h)

-- the names of functions
row_seen : (rows : List Columns) (place : ℕ) (row : Columns) → list_all (λ (r : Columns). list_all is_seen r.name) rows ≡ true → slice_get rows place ≡ Some row
    → list_all is_seen row.name ≡ true
row_seen [] place row h at = cc
row_seen (r ∷ rows) zero row h at =
    let parts = and_parts (list_all is_seen r.name) (list_all (λ (r : Columns). list_all is_seen r.name) rows) h in
    let same : r ≡ row = cc in
    rw same at parts.0
row_seen (r ∷ rows) (suc place) row h at =
    row_seen rows place row (and_parts (list_all is_seen r.name) (list_all (λ (r : Columns). list_all is_seen r.name) rows) h).1 at

pub seen_name : (place : ℕ) (row : Columns) → slice_get functions place ≡ Some row → IsVisible row.name
seen_name place row at = known row.name (row_seen functions place row refl at)

-- operands
pub seen_object : (o : ObjId) → FitsObject o → IsVisible (object_text o)
seen_object o fits = All-cons (λ b. IsInRange 33 126 b) 79 (decimal o.0) (omega arith) (seen_number o.0 fits)

pub seen_kept : (kept : Option ObjId) → FitsKept kept → IsVisible (kept_text kept)
seen_kept None fits = known (codes "null") refl
seen_kept (Some o) fits = seen_object o fits

pub seen_natural : (n : ℕ) → n < 2 ^ 32 → IsVisible (decimal n)
seen_natural n below = seen_number n (omega (arith, below))

pub seen_stated : (stated : Option ℕ) → FitsStated stated → IsVisible (stated_text stated)
seen_stated None fits = known (codes "-") refl
seen_stated (Some n) fits = seen_natural n fits

pub seen_ref : (r : Ref) → FitsRef r → IsVisible (ref_text r)
seen_ref r fits = seen_word (of_ref r) fits

pub seen_buf : (b : BufId) → FitsBuf b → IsVisible (buf_text b)
seen_buf b fits = seen_word (of_buffer b) fits

pub seen_small : (n : ℤ) → FitsSigned w32 n → IsVisible (signed_decimal n)
seen_small n fits = seen_word (of_number n) fits

pub seen_kind : (kind : Kind) → IsVisible (kind_word kind)
seen_kind Local = known (codes "local") refl
seen_kind Global = known (codes "global") refl
seen_kind Weak = known (codes "weak") refl

pub seen_family : (family : Family) → IsVisible (family_word family)
seen_family (Elements (Of Boolean)) = known (codes "booleans") refl
seen_family (Elements (Of Byte)) = known (codes "bytes") refl
seen_family (Elements (Of Char)) = known (codes "chars") refl
seen_family (Elements (Of Short)) = known (codes "shorts") refl
seen_family (Elements (Of Int)) = known (codes "ints") refl
seen_family (Elements (Of Long)) = known (codes "longs") refl
seen_family (Elements Float) = known (codes "floats") refl
seen_family (Elements Double) = known (codes "doubles") refl
seen_family Chars = known (codes "string") refl
seen_family UtfChars = known (codes "utf") refl
seen_family ArrayCritical = known (codes "critical") refl
seen_family StringCritical = known (codes "critical-string") refl

seen_list : (count : ℕ) (fits : Bool) → count < 2 ^ 64 → IsVisible (list_text count fits)
seen_list count true below = seen_number count below
seen_list count false below = All-append (λ b. IsInRange 33 126 b) (decimal count) (codes "!") (seen_number count below) (known (codes "!") refl)

pub seen_argument : (x : Argument) → FitsArgument x → IsVisible (argument_text x)
seen_argument (argument.Reference r) fits = seen_ref r fits
seen_argument (argument.Buffer b) fits = seen_buf b fits
seen_argument (argument.Number n) fits = seen_small n fits
seen_argument (argument.Value v) fits = seen_signed v fits
seen_argument (argument.Id true) fits = known (codes "id") refl
seen_argument (argument.Id false) fits = known (codes "id!") refl
seen_argument (argument.Class class) fits = seen_stated class fits
seen_argument (argument.Native native) fits = seen_stated native fits
seen_argument argument.Name fits = known (codes "?") refl
seen_argument (argument.List count f) fits = seen_list count f fits

pub seen_arguments : (xs : List Argument) → AllByRecursion FitsArgument xs → AllByRecursion IsVisible (map argument_text xs)
seen_arguments [] fits = tt
seen_arguments (x ∷ xs) fits = (seen_argument x fits.0, seen_arguments xs fits.1)

pub seen_objects : (gone : List ObjId) → AllByRecursion FitsObject gone → AllByRecursion IsVisible (map object_text gone)
seen_objects [] fits = tt
seen_objects (o ∷ gone) fits = (seen_object o fits.0, seen_objects gone fits.1)

-- what is written for a name is one
pub unknown_is_name : IsName (codes "?")
unknown_is_name = (omega arith, omega arith, λ k d within. let seen = known (codes "?") refl k d within in omega (arith, seen))
