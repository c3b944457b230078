-- How the functions stand in a table by their names.
use Rattle.std.specs.Prelude.{ℕ, List, ◌+◌, ◌*◌, ◌%◌, nat_lt, if◌then◌else◌, length, slice_index, slice_index_or, Contains}
use Rattle.std.specs.Borrow.{Bor}
use Rattle.jg_words.specs.declared.fun.Fun.{Fun}
use Rattle.jg_words.specs.Fun.{name_of}

-- a number that few names have in common
abbrev pub name_key : List ℕ → ℕ
name_key text =
    if nat_lt (length text) 4 then 0 else (length text + slice_index text 0 * 8 + slice_index text 3 * 3) % 64

-- a table in which each function stands in the row of its name's key
pub record IsByKey (rows : List (Bor (List Fun))) : Type 0 where
  pub stands : (f : Fun) (d : Bor (List Fun)) → Contains (slice_index_or rows (name_key (name_of f)) d).now f
