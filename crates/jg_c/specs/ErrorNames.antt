-- The names of errors, as jg.h has them without `JG_`.
use Rattle.std.specs.Prelude.{ℕ, ℤ, pos, negsuc, ◌≡◌, codes, List, Option, Some, None, if◌then◌else◌, nat_eq}
use Rattle.jg_c.specs.Errors as errors
use Rattle.jg_c.specs.Lines.{Writes}

-- of the number n below 0, counted from -1
abbrev pub below_zero : ℕ → Option (List ℕ)
below_zero n =
    if nat_eq n 0 then Some (codes "CLOSED")
    else if nat_eq n 1 then Some (codes "IS_OPEN")
    else if nat_eq n 2 then Some (codes "BAD_VERSION")
    else if nat_eq n 3 then Some (codes "NO_MEMORY")
    else if nat_eq n 4 then Some (codes "BAD_THREAD")
    else if nat_eq n 5 then Some (codes "BAD_VALUE")
    else if nat_eq n 6 then Some (codes "NO_FUNCTION")
    else if nat_eq n 7 then Some (codes "MISFIT")
    else if nat_eq n 8 then Some (codes "BAD_FACT")
    else if nat_eq n 9 then Some (codes "IMPOSSIBLE")
    else if nat_eq n 10 then Some (codes "FULL")
    else if nat_eq n 11 then Some (codes "BAD_TICKET")
    else if nat_eq n 12 then Some (codes "LIMIT")
    else if nat_eq n 13 then Some (codes "NO_TEXT")
    else if nat_eq n 14 then Some (codes "NO_RULE")
    else if nat_eq n 15 then Some (codes "UNWRITTEN")
    else if nat_eq n 16 then Some (codes "NO_NAME")
    else if nat_eq n 17 then Some (codes "NULL_POINTER")
    else if nat_eq n 31 then Some (codes "NOT_TOML")
    else if nat_eq n 32 then Some (codes "SETUP_VERSION")
    else if nat_eq n 33 then Some (codes "UNKNOWN_KEY")
    else if nat_eq n 34 then Some (codes "MISSING")
    else if nat_eq n 35 then Some (codes "BAD_TYPE")
    else if nat_eq n 36 then Some (codes "BAD_MODE")
    else if nat_eq n 37 then Some (codes "BAD_NAME")
    else if nat_eq n 38 then Some (codes "DUPLICATE")
    else if nat_eq n 39 then Some (codes "TOO_MANY")
    else if nat_eq n 63 then Some (codes "LINE_TOO_LONG")
    else if nat_eq n 64 then Some (codes "NOT_ASCII")
    else if nat_eq n 65 then Some (codes "NO_THREAD")
    else if nat_eq n 66 then Some (codes "NO_ENV")
    else if nat_eq n 67 then Some (codes "UNKNOWN_FUNCTION")
    else if nat_eq n 68 then Some (codes "WRONG_COUNT")
    else if nat_eq n 69 then Some (codes "BAD_OPERAND")
    else None

-- of an error's number; of another number none
abbrev pub error_name : ℤ → Option (List ℕ)
error_name (pos n) = None
error_name (negsuc n) = below_zero n

-- the name is written, or the number is no error's
abbrev pub TellsError : Option (List ℕ) → List ℕ → List ℕ → ℤ → Type 0
TellsError None old new n = (n ≡ errors.bad_value) × (new ≡ old)
TellsError (Some name) old new n = Writes name old new n
