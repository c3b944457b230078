-- What the readers and writers of a line's parts say to one another.
use Rattle.std.specs.Prelude.{◌≡◌, ◌≢◌, ℕ, ℤ, List, [], ◌∷◌, ◌++◌, ◌+◌, ◌≤◌, ◌==◌, length, map, slice_index, Option, Some, None, All, FitsSigned}
use Rattle.std.specs.List.{flat_map, slice_split}
use Rattle.std.specs.Fmt.{signed_decimal}
use Rattle.std.specs.Int.{w64}
use Rattle.jg_words.specs.declared.thread.Tid.{Tid}
use Rattle.jg_words.specs.declared.thread.EnvId.{EnvId}
use Rattle.jg_words.specs.declared.fun.Fun.{Fun}
use Rattle.jg_words.specs.declared.call.Call.{Call}
use Rattle.jg_words.specs.Call.{fun_of}
use Rattle.jg_text.specs.declared.fault.ScriptFault.{ScriptFault}
use Rattle.jg_text.specs.declared.fault.ScriptFault.TheVariants.{BadOperand, NoMemory}
use Rattle.jg_text.specs.Kinds.{OperandKind}
use Rattle.jg_text.specs.Words.{tid_text, env_text, FitsTid, FitsEnv, SpellsOperand, SpellOperands}
use Rattle.jg_text.specs.Operands.{operand_texts, FitsCall}
use Rattle.jg_text.specs.Faults.{fields}

-- the fields of what stands behind the function's name, where something does
abbrev pub rest_fields : Option (List ℕ) → List (List ℕ)
rest_fields None = []
rest_fields (Some rest) = fields rest

-- a field ends there: nothing stands behind it, or a space and the rest
abbrev pub behind_field : Option (List ℕ) → List ℕ
behind_field None = []
behind_field (Some rest) = 32 ∷ rest

-- texts, each after a space
abbrev pub after_spaces : List (List ℕ) → List ℕ
after_spaces texts = flat_map (λ text. 32 ∷ text) texts

-- the text spells no thread; no environment
abbrev pub IsNoTid : List ℕ → Type 0
IsNoTid text = (t : Tid) → FitsTid t → text ≢ tid_text t

abbrev pub IsNoEnv : List ℕ → Type 0
IsNoEnv text = (e : Option EnvId) → FitsEnv e → text ≢ env_text e

-- operands aren't read where memory runs out, or where one of them isn't spelt
abbrev pub IsOperandFault : List OperandKind → List (List ℕ) → ScriptFault → Type 0
IsOperandFault kinds texts f = f ≢ NoMemory → (f ≡ BadOperand) × (¬ SpellOperands kinds texts)

-- the same of one operand
abbrev pub IsKindFault : OperandKind → List ℕ → ScriptFault → Type 0
IsKindFault kind text f = f ≢ NoMemory → (f ≡ BadOperand) × (¬ SpellsOperand kind text)

-- the text stands between `[` and `]`
abbrev pub IsBracketed : List ℕ → Type 0
IsBracketed text = (inner : List ℕ) × (text ≡ 91 ∷ inner ++ 93 ∷ [])

-- the texts between the commas of what is left of a list, where something is
abbrev pub rest_numbers : Option (List ℕ) → List (List ℕ)
rest_numbers None = []
rest_numbers (Some rest) = slice_split (λ b. b == 44) rest

-- how many bytes are left, with one more for the comma before them
abbrev pub left_length : Option (List ℕ) → ℕ
left_length None = 0
left_length (Some rest) = length rest + 1

-- the number stands first in a list's text, before the comma of what is left
pub record IsFirstNumber (text : List ℕ) (z : ℤ) (rest : Option (List ℕ)) : Type 0 where
  pub pieces : slice_split (λ b. b == 44) text ≡ signed_decimal z ∷ rest_numbers rest
  pub fits : FitsSigned w64 z
  pub shorter : left_length rest ≤ length text

-- no number does
abbrev pub StartsNoNumber : List ℕ → Type 0
StartsNoNumber text = (z : ℤ) → FitsSigned w64 z → (later : List (List ℕ))
    → slice_split (λ b. b == 44) text ≢ signed_decimal z ∷ later

-- numbers, each after a comma
abbrev pub after_commas : List ℤ → List ℕ
after_commas xs = flat_map (λ x. 44 ∷ signed_decimal x) xs

-- one of the pieces is no number
abbrev pub IsBadNumber : List (List ℕ) → ScriptFault → Type 0
IsBadNumber pieces f = f ≢ NoMemory → (f ≡ BadOperand)
    × ((xs : List ℤ) → All (λ x. FitsSigned w64 x) xs → pieces ≢ map signed_decimal xs)

-- the text of a number is its one spelling: neither a plus stands in front nor a leading zero
pub record IsPlain (text : List ℕ) : Type 0 where
  pub no_plus : slice_index text 0 ≢ 43
  pub no_zero : slice_index text 0 ≡ 48 → length text ≡ 1

-- the texts are the operands of this call of the function
pub record SpellCall (f : Fun) (texts : List (List ℕ)) (c : Call) : Type 0 where
  pub fits : FitsCall c
  pub fun : fun_of c ≡ f
  pub texts_are : operand_texts c ≡ texts

-- texts that are numbers
abbrev pub AreNumbers : List (List ℕ) → Type 0
AreNumbers texts = (xs : List ℤ) × All (λ x. FitsSigned w64 x) xs × (texts ≡ map signed_decimal xs)
