-- How threads, environments, references, buffers, fields, lists and names are spelt, byte by byte. Each has one
-- spelling.
use Rattle.std.specs.Prelude.{◌≡◌, ℕ, ℤ, ◌<◌, ◌≤◌, ◌^◌, List, [], ◌∷◌, ◌++◌, length, map, codes, Option, Some, None, All, FitsSigned}
use Rattle.std.specs.List.{join_with_byte}
use Rattle.std.specs.Fmt.{decimal, signed_decimal}
use Rattle.std.specs.Int.{w32, w64}
use Rattle.jg_words.specs.Name.{IsName}
use Rattle.jg_words.specs.declared.thread.Tid.{Tid}
use Rattle.jg_words.specs.declared.thread.EnvId.{EnvId}
use Rattle.jg_words.specs.declared.buffer.BufId.{BufId}
use Rattle.jg_words.specs.declared.object.FieldId.{FieldId}
use Rattle.jg_words.specs.declared.reference.Kind.{Kind}
use Rattle.jg_words.specs.declared.reference.Kind.TheVariants.{Local, Global, Weak}
use Rattle.jg_words.specs.declared.reference.Ref.{Ref}
use Rattle.jg_words.specs.declared.reference.Ref.TheVariants.{Null, To}
use Rattle.jg_text.specs.Kinds.{OperandKind, Reference, Number, LongNumber, Numbers, Name, Field, Buffer}

-- `T` and its number
abbrev pub tid_text : Tid → List ℕ
tid_text t = 84 ∷ decimal t.0

-- two numbers with a full stop between them
abbrev pub dotted_text : ℕ → ℕ → List ℕ
dotted_text a b = decimal a ++ 46 ∷ decimal b

-- `E`, the number of its thread, `.` and the number of its session
abbrev pub env_id_text : EnvId → List ℕ
env_id_text e = 69 ∷ dotted_text e.tid.0 e.session

-- `-` for none
abbrev pub env_text : Option EnvId → List ℕ
env_text None = codes "-"
env_text (Some e) = env_id_text e

-- `L`, `G` and `W`
abbrev pub kind_letter : Kind → ℕ
kind_letter Local = 76
kind_letter Global = 71
kind_letter Weak = 87

-- `null`, or the letter of its kind, the number of the thread that made it, `.` and its number
abbrev pub ref_text : Ref → List ℕ
ref_text Null = codes "null"
ref_text (To kind maker n) = kind_letter kind ∷ dotted_text maker.0 n

-- `B`, the number of the thread that it was lent to, `.` and its number
abbrev pub buf_text : BufId → List ℕ
buf_text b = 66 ∷ dotted_text b.maker.0 b.n

-- `F`, the number of its class, `.` and its number
abbrev pub field_text : FieldId → List ℕ
field_text f = 70 ∷ dotted_text f.class f.field

-- the numbers between `[` and `]`, with `,` between them
abbrev pub items_text : List ℤ → List ℕ
items_text xs = 91 ∷ join_with_byte 44 (map signed_decimal xs) ++ 93 ∷ []

-- a name is its own text
abbrev pub name_text : List ℕ → List ℕ
name_text name = name

-- which of them the program's types can hold: 16 bits for a thread, 64 for a session, a reference's
-- or a buffer's number and an item, 32 for a field's two numbers, and at most 1,000 items; a name's
-- bytes are what `IsName` says
abbrev pub FitsTid : Tid → Type 0
FitsTid t = t.0 < 2 ^ 16

abbrev pub FitsEnvId : EnvId → Type 0
FitsEnvId e = FitsTid e.tid × (e.session < 2 ^ 64)

abbrev pub FitsEnv : Option EnvId → Type 0
FitsEnv None = Unit {0}
FitsEnv (Some e) = FitsEnvId e

abbrev pub FitsRef : Ref → Type 0
FitsRef Null = Unit {0}
FitsRef (To kind maker n) = FitsTid maker × (n < 2 ^ 64)

abbrev pub FitsBuf : BufId → Type 0
FitsBuf b = FitsTid b.maker × (b.n < 2 ^ 64)

abbrev pub FitsField : FieldId → Type 0
FitsField f = (f.class < 2 ^ 32) × (f.field < 2 ^ 32)

abbrev pub FitsItems : List ℤ → Type 0
FitsItems xs = (length xs ≤ 1000) × All (λ x. FitsSigned w64 x) xs

-- an operand
pub data Word : Type 0 where
  of_ref : Ref → Word
  of_number : ℤ → Word
  of_long_number : ℤ → Word
  of_items : List ℤ → Word
  of_name : List ℕ → Word
  of_field : FieldId → Word
  of_buffer : BufId → Word

abbrev pub kind_of : Word → OperandKind
kind_of (of_ref r) = Reference
kind_of (of_number i) = Number
kind_of (of_long_number i) = LongNumber
kind_of (of_items xs) = Numbers
kind_of (of_name name) = Name
kind_of (of_field f) = Field
kind_of (of_buffer b) = Buffer

abbrev pub text_of : Word → List ℕ
text_of (of_ref r) = ref_text r
text_of (of_number i) = signed_decimal i
text_of (of_long_number i) = signed_decimal i
text_of (of_items xs) = items_text xs
text_of (of_name name) = name_text name
text_of (of_field f) = field_text f
text_of (of_buffer b) = buf_text b

abbrev pub FitsWord : Word → Type 0
FitsWord (of_ref r) = FitsRef r
FitsWord (of_number i) = FitsSigned w32 i
FitsWord (of_long_number i) = FitsSigned w64 i
FitsWord (of_items xs) = FitsItems xs
FitsWord (of_name name) = IsName name
FitsWord (of_field f) = FitsField f
FitsWord (of_buffer b) = FitsBuf b

-- the text spells an operand of the kind
abbrev pub SpellsOperand : OperandKind → List ℕ → Type 0
SpellsOperand Reference text = (r : Ref) × FitsRef r × (text ≡ ref_text r)
SpellsOperand Number text = (i : ℤ) × FitsSigned w32 i × (text ≡ signed_decimal i)
SpellsOperand LongNumber text = (i : ℤ) × FitsSigned w64 i × (text ≡ signed_decimal i)
SpellsOperand Numbers text = (xs : List ℤ) × FitsItems xs × (text ≡ items_text xs)
SpellsOperand Name text = (name : List ℕ) × IsName name × (text ≡ name_text name)
SpellsOperand Field text = (f : FieldId) × FitsField f × (text ≡ field_text f)
SpellsOperand Buffer text = (b : BufId) × FitsBuf b × (text ≡ buf_text b)

-- each text spells an operand of the kind at its place, and there are as many texts as kinds
abbrev pub SpellOperands : List OperandKind → List (List ℕ) → Type 0
SpellOperands [] [] = Unit {0}
SpellOperands [] (text ∷ texts) = ⊥
SpellOperands (kind ∷ kinds) [] = ⊥
SpellOperands (kind ∷ kinds) (text ∷ texts) = SpellsOperand kind text × SpellOperands kinds texts
