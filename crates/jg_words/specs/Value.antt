-- What is said of answers.
use Rattle.std.specs.Prelude.{Bool, true, false}
use Rattle.jg_words.specs.declared.value.Value.{Value}
use Rattle.jg_words.specs.declared.value.Value.TheVariants.{List as Listed}

-- the answer is a list, which takes memory to copy
abbrev pub is_list : Value → Bool
is_list (Listed items) = true
is_list value = false
