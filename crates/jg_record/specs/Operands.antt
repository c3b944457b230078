-- How the operands of a question are spelt, by what the row of its function says of each.
use Rattle.std.specs.Prelude.{◌≡◌, ◌<◌, ◌^◌, ◌==◌, ◌+◌, ◌||◌, ℕ, ℤ, Bool, true, false, List, [], ◌∷◌, length, nat_le, codes, Option, if◌then◌else◌, FitsSigned, ◌⊎◌}
use Rattle.std.specs.Int.{w32, w64}
use Rattle.std.specs.Fmt.{signed_decimal}
use Rattle.std.specs.List.{list_any}
use Rattle.std.specs.Str.{bytes_eq}
use Rattle.jg_words.specs.Name.{IsName}
use Rattle.jg_words.specs.declared.buffer.BufId.{BufId}
use Rattle.jg_words.specs.declared.reference.Ref.{Ref}
use Rattle.jg_text.specs.Words.{ref_text, buf_text, FitsRef, FitsBuf}
use Rattle.jg_rows.specs.declared.row.Takes.{Takes}
use Rattle.jg_rows.specs.declared.row.Takes.TheVariants as takes
use Rattle.jg_judge.specs.declared.argument.Argument.{Argument}
use Rattle.jg_judge.specs.declared.argument.Argument.TheVariants as argument
use Rattle.jg_judge.specs.Asked.{is_last}
use Rattle.jg_judge.specs.Suits.{are_none}
use Rattle.jg_record.specs.declared.operands.Sort.{Sort}
use Rattle.jg_record.specs.declared.operands.Sort.TheVariants.{Reference, Buffer, Bounded, Number, Value, Id, Class, Native, Name, List as ListOf}
use Rattle.jg_record.specs.Words.{stated_text, id_text, list_text, FitsStated}

-- how an operand is spelt, by what the row says of it
abbrev pub sort_of : Takes → Sort
sort_of (takes.Reference kind) = Reference
sort_of takes.Nullable = Reference
sort_of takes.Unjudged = Reference
sort_of takes.Arguments = Reference
sort_of (takes.Buffer family) = Buffer
sort_of takes.Readable = Buffer
sort_of takes.Writable = Buffer
sort_of takes.Number = Number
sort_of takes.Capacity = Bounded
sort_of takes.Length = Bounded
sort_of takes.Count = Bounded
sort_of takes.Mode = Bounded
sort_of takes.Place = Bounded
sort_of takes.Item = Value
sort_of (takes.Value item) = Value
sort_of (takes.Field member type) = Id
sort_of takes.AnyField = Id
sort_of (takes.Method member type) = Id
sort_of takes.Constructor = Id
sort_of takes.AnyMethod = Id
sort_of takes.ClassName = Class
sort_of takes.NativeName = Native
sort_of takes.Name = Name
sort_of (takes.Items item) = ListOf
sort_of takes.Utf8 = ListOf

-- the word is a mark of a line, which would end an event
abbrev pub is_mark : List ℕ → Bool
is_mark word = bytes_eq word (codes "=") || bytes_eq word (codes "@")

-- the word spells the operand; a number that no rule bounds has 32 bits where it can
abbrev pub Spells : Sort → List ℕ → Argument → Type 0
Spells Reference word x = (r : Ref) × FitsRef r × (word ≡ ref_text r) × (x ≡ argument.Reference r)
Spells Buffer word x = (b : BufId) × FitsBuf b × (word ≡ buf_text b) × (x ≡ argument.Buffer b)
Spells Bounded word x = (n : ℤ) × FitsSigned w32 n × (word ≡ signed_decimal n) × (x ≡ argument.Number n)
Spells Number word x = ((n : ℤ) × FitsSigned w32 n × (word ≡ signed_decimal n) × (x ≡ argument.Number n))
    ⊎ ((v : ℤ) × FitsSigned w64 v × (¬ FitsSigned w32 v) × (word ≡ signed_decimal v) × (x ≡ argument.Value v))
Spells Value word x = (v : ℤ) × FitsSigned w64 v × (word ≡ signed_decimal v) × (x ≡ argument.Value v)
Spells Id word x = (fits : Bool) × (word ≡ id_text fits) × (x ≡ argument.Id fits)
Spells Class word x = (class : Option ℕ) × FitsStated class × (word ≡ stated_text class) × (x ≡ argument.Class class)
Spells Native word x =
    (native : Option ℕ) × FitsStated native × (word ≡ stated_text native) × (x ≡ argument.Native native)
Spells Name word x = IsName word × (is_mark word ≡ false) × (x ≡ argument.Name)
Spells ListOf word x =
    (count : ℕ) × (fits : Bool) × (count < 2 ^ 64) × (word ≡ list_text count fits) × (x ≡ argument.List count fits)

-- the words spell the operands of a function that takes these; a method's arguments are any number
abbrev pub Asks : List Takes → List (List ℕ) → List Argument → Type 0
Asks takes [] [] = are_none takes ≡ true
Asks takes [] (x ∷ xs) = ⊥
Asks [] (word ∷ words) xs = ⊥
Asks (t ∷ takes) (word ∷ words) [] = ⊥
Asks (t ∷ takes) (word ∷ words) (x ∷ xs) =
    Spells (sort_of t) word x × Asks (if is_last t then t ∷ takes else takes) words xs

-- so many operands are as many as the function takes
abbrev pub is_count : List Takes → ℕ → Bool
is_count takes n = if list_any is_last takes then nat_le (length takes) (n + 1) else n == length takes
