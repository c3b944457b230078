-- The operands of a question, each with what the row of its function says of it.
use Rattle.std.specs.Prelude.{ℤ, pos, Bool, true, false, if◌then◌else◌, List, [], ◌∷◌, Option, Some, None, map}
use Rattle.jg_words.specs.declared.reference.Ref.{Ref}
use Rattle.jg_words.specs.declared.reference.Ref.TheVariants.{Null}
use Rattle.jg_words.specs.declared.buffer.BufId.{BufId}
use Rattle.jg_rows.specs.declared.row.ObjectKind.{ObjectKind}
use Rattle.jg_rows.specs.declared.row.ObjectKind.TheVariants.{AnyObject}
use Rattle.jg_rows.specs.declared.row.Takes.{Takes}
use Rattle.jg_rows.specs.declared.row.Takes.TheVariants.{Reference as TakesReference, Nullable, Arguments}
use Rattle.jg_judge.specs.declared.argument.Argument.{Argument}
use Rattle.jg_judge.specs.declared.argument.Argument.TheVariants.{Reference, Buffer, Number}

-- what the rules on references see of an operand
pub record Judged : Type 0 where
  pub reference : Ref
  pub nullable : Bool
  pub kind : ObjectKind

-- a method's arguments are as many as there are
abbrev pub is_last : Takes → Bool
is_last Arguments = true
is_last takes = false

-- each operand, with what the row says of it
abbrev pub paired : List Takes → List Argument → List (Takes × Argument)
paired takes [] = []
paired [] (x ∷ xs) = []
paired (t ∷ takes) (x ∷ xs) = (t, x) ∷ paired (if is_last t then t ∷ takes else takes) xs

abbrev pub allowed : Ref → Judged
allowed r = record { reference = r; nullable = true; kind = AnyObject }

abbrev pub allowed_in : Argument → Judged
allowed_in (Reference r) = allowed r
allowed_in x = allowed Null

abbrev pub needed_in : ObjectKind → Argument → Judged
needed_in kind (Reference r) = record { reference = r; nullable = false; kind = kind }
needed_in kind x = allowed Null

-- what the rules on references see of an operand: null, which breaks none, where it is no reference that is judged
abbrev pub judged_of : Takes → Argument → Judged
judged_of (TakesReference kind) x = needed_in kind x
judged_of Nullable x = allowed_in x
judged_of Arguments x = allowed_in x
judged_of takes x = allowed Null

abbrev pub judged : List Takes → List Argument → List Judged
judged takes arguments = map (λ x. judged_of x.0 x.1) (paired takes arguments)

-- the first operand that is a reference, and null where none is
abbrev pub first_reference : List Argument → Ref
first_reference [] = Null
first_reference (Reference r ∷ xs) = r
first_reference (x ∷ xs) = first_reference xs

-- the first that is a buffer
abbrev pub first_buffer : List Argument → Option BufId
first_buffer [] = None
first_buffer (Buffer b ∷ xs) = Some b
first_buffer (x ∷ xs) = first_buffer xs

-- the first that is a number, and 0 where none is
abbrev pub first_number : List Argument → ℤ
first_number [] = pos 0
first_number (Number n ∷ xs) = n
first_number (x ∷ xs) = first_number xs
