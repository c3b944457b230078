-- The words of a command line.
use Rattle.std.specs.Prelude.{ℕ, ◌==◌, Bool, ◌||◌, List, codes}
use Rattle.std.specs.List.{starts_with}
use Rattle.std.specs.Str.{bytes_eq}

-- the word is the option `--explain`, with its number behind it or in it
abbrev pub is_explain : List ℕ → Bool
is_explain word =
    bytes_eq word (codes "--explain") || starts_with (λ a b. a == b) word (codes "--explain=")
