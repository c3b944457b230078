-- Where in a line its fault stands.
use Rattle.std.specs.Prelude.{◌≡◌, ℕ, zero, suc, ◌+◌, List, [], ◌∷◌, ◌++◌, length, take, drop, flat_map, slice_get, codes, Some, All, min}
use Rattle.std.specs.Int.{IsInRange}
use Rattle.jg_words.specs.declared.fun.Fun.{Fun}
use Rattle.jg_words.specs.Fun.{name_of}
use Rattle.jg_text.specs.declared.fault.ScriptFault.{ScriptFault}
use Rattle.jg_text.specs.declared.fault.ScriptFault.TheVariants.{NoThread, NoEnv, UnknownFunction, BadOperand, WrongCount, LineTooLong, NotAscii, NoMemory, TooManyThreads}
use Rattle.jg_text.specs.declared.place.Place.{Place}
use Rattle.jg_text.specs.declared.takes.OperandKind.{OperandKind as KindTold}
use Rattle.jg_text.specs.declared.takes.OperandKind.TheVariants as told
use Rattle.jg_text.specs.Kinds.{OperandKind, Reference, Number, LongNumber, Numbers, Name, Field, Buffer}
use Rattle.jg_text.specs.Words.{SpellsOperand}
use Rattle.jg_text.specs.Operands.{operand_kinds}
use Rattle.jg_text.specs.Faults.{fields, HasFault}

-- a kind of operands, as the program names it
abbrev pub kind_meant : KindTold → OperandKind
kind_meant told.Reference = Reference
kind_meant told.Number = Number
kind_meant told.LongNumber = LongNumber
kind_meant told.Numbers = Numbers
kind_meant told.Name = Name
kind_meant told.Field = Field
kind_meant told.Buffer = Buffer

-- what stands before the field of that index, from 0: each field before it, with the space behind it
abbrev pub before_field : List ℕ → ℕ → List ℕ
before_field line i = flat_map (λ text. text ++ codes " ") (take i (fields line))

-- the place of the field of that index; behind the last field, the place where one more would begin
abbrev pub field_place : List ℕ → ℕ → Place
field_place line i = record { field = i + 1; column = length (before_field line i) + 1 }

-- the place of the byte behind so many
abbrev pub byte_place : List ℕ → Place
byte_place before = record { field = length (fields before); column = length before + 1 }

-- the first byte outside 0x20 to 0x7E stands behind these
abbrev pub IsBeforeOdd : List ℕ → List ℕ → Type 0
IsBeforeOdd line before = All (λ b. IsInRange 32 126 b) before
    × (odd : ℕ) × (behind : List ℕ) × (¬ IsInRange 32 126 odd) × (line ≡ before ++ odd ∷ behind)

-- the text of that index, from 0, spells no operand of its kind, and each text before it does
abbrev pub IsFirstBad : List OperandKind → List (List ℕ) → ℕ → Type 0
IsFirstBad [] texts i = ⊥
IsFirstBad (kind ∷ kinds) [] i = ⊥
IsFirstBad (kind ∷ kinds) (text ∷ texts) zero = ¬ SpellsOperand kind text
IsFirstBad (kind ∷ kinds) (text ∷ texts) (suc i) = SpellsOperand kind text × IsFirstBad kinds texts i

-- the fault stands at the place, in a line that has it
abbrev pub StandsAt : ScriptFault → List ℕ → Place → Type 0
-- at the first byte outside 0x20 to 0x7E
StandsAt NotAscii line place = HasFault NotAscii line
    → (before : List ℕ) × IsBeforeOdd line before × (place ≡ byte_place before)
-- at the first field, the second and the third, whether it is there or not
StandsAt NoThread line place = place ≡ field_place line 0
StandsAt NoEnv line place = place ≡ field_place line 1
StandsAt UnknownFunction line place = place ≡ field_place line 2
-- at the first field too many, or, where there are too few, behind the last
StandsAt WrongCount line place = (f : Fun) → slice_get (fields line) 2 ≡ Some (name_of f)
    → place ≡ field_place line (min (length (fields line)) (length (operand_kinds f) + 3))
-- at the first operand that is none of its kind, where their number is right
StandsAt BadOperand line place = (f : Fun) → slice_get (fields line) 2 ≡ Some (name_of f)
    → length (drop 3 (fields line)) ≡ length (operand_kinds f) → HasFault BadOperand line
    → (i : ℕ) × IsFirstBad (operand_kinds f) (drop 3 (fields line)) i × (place ≡ field_place line (i + 3))
-- at the thread
StandsAt TooManyThreads line place = place ≡ field_place line 0
-- at none
StandsAt LineTooLong line place = ⊥
StandsAt NoMemory line place = ⊥

-- these faults have no place
abbrev pub HasNoPlace : ScriptFault → Type 0
HasNoPlace LineTooLong = Unit {0}
HasNoPlace NoMemory = Unit {0}
HasNoPlace fault = ⊥
