-- The operands of a question, as C holds them.
use Rattle.std.specs.Prelude.{ℕ, ℤ, Bool, true, false, Option, Some, None, if◌then◌else◌, nat_eq, nat_le, nat_lt, int_le, ◌&&◌, pos, negsuc}
use Rattle.std.specs.Int.{cast_signed, w64}
use Rattle.std.specs.Option.{option_map, option_and_then}
use Rattle.jg_judge.specs.declared.argument.Argument.{Argument}
use Rattle.jg_judge.specs.declared.argument.Argument.TheVariants as argument
use Rattle.jg_witness.specs.declared.operand.Operand.{Operand}
use Rattle.jg_witness.specs.declared.operand.Operand.TheVariants.{Word, Other}
use Rattle.jg_c.specs.declared.value.JgValue.{JgValue}
use Rattle.jg_c.specs.Values.{buffer_of, reference_of}

-- 1 where it fits or is stated, 0 where not
abbrev pub flag_of : ℕ → Option Bool
flag_of n = if nat_eq n 0 then Some false else if nat_eq n 1 then Some true else None

-- the number of a class or a native method, of 32 bits, or none where the setup states no such one
abbrev pub numbered : Bool → ℕ → Option (Option ℕ)
numbered false n = Some None
numbered true n = if nat_lt n 4294967296 then Some (Some n) else None

abbrev pub stated_of : ℕ → ℕ → Option (Option ℕ)
stated_of detail n = option_and_then (λ is_stated. numbered is_stated n) (flag_of detail)

-- a number of 32 bits, in two's complement of 64
abbrev pub narrowed : ℤ → Option ℤ
narrowed z = if int_le (negsuc 2147483647) z && int_le z (pos 2147483647) then Some z else None

abbrev pub number_of : ℕ → Option ℤ
number_of n = narrowed (cast_signed w64 n)

-- the operand that a value is, if it is one; a list of more items than that doesn't fit, whatever is said of them
abbrev pub operand_of : ℕ → JgValue → Option Argument
operand_of most v =
    if nat_eq v.kind 5 then option_map (λ b. argument.Buffer b) (buffer_of v)
    else if nat_eq v.kind 8 then option_map (λ n. argument.Number n) (number_of v.number)
    else if nat_eq v.kind 9 then Some (argument.Value (cast_signed w64 v.number))
    else if nat_eq v.kind 10 then option_map (λ fits. argument.Id fits) (flag_of v.detail)
    else if nat_eq v.kind 11 then option_map (λ class. argument.Class class) (stated_of v.detail v.number)
    else if nat_eq v.kind 12 then option_map (λ native. argument.Native native) (stated_of v.detail v.number)
    else if nat_eq v.kind 13 then Some argument.Name
    else if nat_eq v.kind 14 then option_map (λ fits. argument.List v.number (fits && nat_le v.number most)) (flag_of v.detail)
    else option_map (λ r. argument.Reference r) (reference_of v)

-- the operand of a question to a witness: a machine's word, or what a core takes
abbrev pub word_operand_of : ℕ → JgValue → Option Operand
word_operand_of most v = if nat_eq v.kind 17 then Some (Word v.number) else option_map (λ x. Other x) (operand_of most v)
