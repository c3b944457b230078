-- How the words of a record are spelt, byte by byte.
use Rattle.std.specs.Prelude.{◌<◌, ◌^◌, ℕ, Bool, true, false, List, ◌∷◌, ◌++◌, codes, Option, Some, None, if◌then◌else◌}
use Rattle.std.specs.Fmt.{decimal}
use Rattle.std.specs.Str.{bytes_eq}
use Rattle.jg_words.specs.declared.object.ObjId.{ObjId}
use Rattle.jg_words.specs.declared.object.Primitive.TheVariants.{Boolean, Byte, Char, Short, Int, Long}
use Rattle.jg_words.specs.declared.object.ItemType.TheVariants.{Of, Float, Double}
use Rattle.jg_words.specs.declared.reference.Kind.{Kind}
use Rattle.jg_words.specs.declared.reference.Kind.TheVariants as kind
use Rattle.jg_table_buffers.specs.declared.family.Family.{Family}
use Rattle.jg_table_buffers.specs.declared.family.Family.TheVariants as family
use Rattle.jg_judge.specs.declared.kinds.OwnKind.{OwnKind}
use Rattle.jg_judge.specs.declared.kinds.OwnKind.TheVariants as own
use Rattle.jg_record.specs.declared.verb.Verb.{Verb}
use Rattle.jg_record.specs.declared.verb.Verb.TheVariants.{Begins, Ends, Enters, Leaves, Pushed, Popped, Ensured, Raised, Calmed, Got, Lost, Lent, Gave, Owns, Freed, Met, Gone, Linked, Unlinked, Warned, Local, Pending, Length, Bounds}

-- `O` and its number
abbrev pub object_text : ObjId → List ℕ
object_text o = 79 ∷ decimal o.0

-- the same, or `null` for none
abbrev pub kept_text : Option ObjId → List ℕ
kept_text None = codes "null"
kept_text (Some o) = object_text o

-- a number, or `-` for none
abbrev pub stated_text : Option ℕ → List ℕ
stated_text None = codes "-"
stated_text (Some n) = decimal n

-- whether an ID fits
abbrev pub id_text : Bool → List ℕ
id_text true = codes "id"
id_text false = codes "id!"

-- how many items, and whether each is of its type
abbrev pub list_text : ℕ → Bool → List ℕ
list_text count true = decimal count
list_text count false = decimal count ++ codes "!"

-- which of them the program's types can hold
abbrev pub FitsObject : ObjId → Type 0
FitsObject o = o.0 < 2 ^ 64

abbrev pub FitsKept : Option ObjId → Type 0
FitsKept None = Unit {0}
FitsKept (Some o) = FitsObject o

abbrev pub FitsStated : Option ℕ → Type 0
FitsStated None = Unit {0}
FitsStated (Some n) = n < 2 ^ 32

-- the kind of references that a word means
abbrev pub kind_named : List ℕ → Option Kind
kind_named word =
    if bytes_eq word (codes "local") then Some kind.Local
    else if bytes_eq word (codes "global") then Some kind.Global
    else if bytes_eq word (codes "weak") then Some kind.Weak
    else None

-- the family of buffers: those of arrays by what their items are, those of strings, and the critical ones
abbrev pub family_named : List ℕ → Option Family
family_named word =
    if bytes_eq word (codes "booleans") then Some (family.Elements (Of Boolean))
    else if bytes_eq word (codes "bytes") then Some (family.Elements (Of Byte))
    else if bytes_eq word (codes "chars") then Some (family.Elements (Of Char))
    else if bytes_eq word (codes "shorts") then Some (family.Elements (Of Short))
    else if bytes_eq word (codes "ints") then Some (family.Elements (Of Int))
    else if bytes_eq word (codes "longs") then Some (family.Elements (Of Long))
    else if bytes_eq word (codes "floats") then Some (family.Elements Float)
    else if bytes_eq word (codes "doubles") then Some (family.Elements Double)
    else if bytes_eq word (codes "string") then Some family.Chars
    else if bytes_eq word (codes "utf") then Some family.UtfChars
    else if bytes_eq word (codes "critical") then Some family.ArrayCritical
    else if bytes_eq word (codes "critical-string") then Some family.StringCritical
    else None

-- the kind of objects whose class no setup states
abbrev pub own_named : List ℕ → Option OwnKind
own_named word =
    if bytes_eq word (codes "object") then Some own.Object
    else if bytes_eq word (codes "throwable") then Some own.Throwable
    else if bytes_eq word (codes "class") then Some own.Class
    else if bytes_eq word (codes "array-class") then Some own.ClassOfArrays
    else if bytes_eq word (codes "floats") then Some own.Floats
    else if bytes_eq word (codes "doubles") then Some own.Doubles
    else None

-- the kind of a fact
abbrev pub verb_of_run : List ℕ → Option Verb
verb_of_run word =
    if bytes_eq word (codes "begins") then Some Begins
    else if bytes_eq word (codes "ends") then Some Ends
    else if bytes_eq word (codes "linked") then Some Linked
    else if bytes_eq word (codes "unlinked") then Some Unlinked
    else if bytes_eq word (codes "warned") then Some Warned
    else if bytes_eq word (codes "local") then Some Local
    else if bytes_eq word (codes "pending") then Some Pending
    else if bytes_eq word (codes "length") then Some Length
    else if bytes_eq word (codes "bounds") then Some Bounds
    else None

abbrev pub verb_of_calls : List ℕ → Option Verb
verb_of_calls word =
    if bytes_eq word (codes "enters") then Some Enters
    else if bytes_eq word (codes "leaves") then Some Leaves
    else if bytes_eq word (codes "pushed") then Some Pushed
    else if bytes_eq word (codes "popped") then Some Popped
    else if bytes_eq word (codes "ensured") then Some Ensured
    else if bytes_eq word (codes "raised") then Some Raised
    else if bytes_eq word (codes "calmed") then Some Calmed
    else verb_of_run word

abbrev pub verb_named : List ℕ → Option Verb
verb_named word =
    if bytes_eq word (codes "got") then Some Got
    else if bytes_eq word (codes "lost") then Some Lost
    else if bytes_eq word (codes "met") then Some Met
    else if bytes_eq word (codes "gone") then Some Gone
    else if bytes_eq word (codes "lent") then Some Lent
    else if bytes_eq word (codes "gave") then Some Gave
    else if bytes_eq word (codes "owns") then Some Owns
    else if bytes_eq word (codes "freed") then Some Freed
    else verb_of_calls word
