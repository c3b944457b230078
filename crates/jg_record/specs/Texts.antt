-- The words of an event as they are written. No public contract stands on this.
use Rattle.std.specs.Prelude.{◌==◌, ◌<◌, ◌^◌, ◌-◌, ◌&&◌, ◌++◌, ℕ, ℤ, pos, negsuc, Bool, true, false, not, List, [], ◌∷◌, length, map, codes, nat_le, nat_lt, slice_get, Option, Some, None, if◌then◌else◌, FitsSigned}
use Rattle.std.specs.List.{AllByRecursion}
use Rattle.std.specs.Int.{w32, w64}
use Rattle.std.specs.Fmt.{decimal, signed_decimal}
use Rattle.jg_words.specs.declared.object.ObjId.{ObjId}
use Rattle.jg_words.specs.declared.object.Primitive.{Primitive}
use Rattle.jg_words.specs.declared.object.Primitive.TheVariants.{Boolean, Byte, Char, Short, Int, Long}
use Rattle.jg_words.specs.declared.object.ItemType.TheVariants.{Of, Float, Double}
use Rattle.jg_words.specs.declared.reference.Kind.{Kind}
use Rattle.jg_words.specs.declared.reference.Kind.TheVariants.{Local, Global, Weak}
use Rattle.jg_policy.specs.Stated.{StatedSetup, class_count}
use Rattle.jg_table_buffers.specs.declared.family.Family.{Family}
use Rattle.jg_table_buffers.specs.declared.family.Family.TheVariants.{Elements, Chars, UtfChars, ArrayCritical, StringCritical}
use Rattle.jg_text.specs.Words.{env_text, ref_text, buf_text, FitsEnv, FitsRef, FitsBuf}
use Rattle.jg_rows.specs.declared.row.Takes.{Takes}
use Rattle.jg_rows.specs.ByName.{name_at}
use Rattle.jg_rows.specs.Columns.{Columns}
use Rattle.jg_rows.specs.Table.{functions}
use Rattle.jg_judge.specs.declared.argument.Argument.{Argument}
use Rattle.jg_judge.specs.declared.argument.Argument.TheVariants as argument
use Rattle.jg_judge.specs.Asked.{is_last}
use Rattle.jg_judge.specs.Suits.{are_none}
use Rattle.jg_judge.specs.Kinds.{is_class}
use Rattle.jg_core.specs.declared.fact.Fact.{Fact as FactOf}
use Rattle.jg_core.specs.declared.fact.Fact.TheVariants as fact
use Rattle.jg_core.specs.declared.fact.Checked.{Checked}
use Rattle.jg_core.specs.declared.fact.Checked.TheVariants as checked
use Rattle.jg_record.specs.declared.event.Event.{Event}
use Rattle.jg_record.specs.declared.event.Event.TheVariants.{Question, Fact, Gone, Bounds}
use Rattle.jg_record.specs.declared.operands.Sort.{Sort}
use Rattle.jg_record.specs.declared.operands.Sort.TheVariants as sort
use Rattle.jg_record.specs.Words.{object_text, kept_text, stated_text, id_text, list_text, FitsObject, FitsKept, FitsStated}
use Rattle.jg_record.specs.Operands.{sort_of}

-- what stands there once the words are written behind it, each behind a space
abbrev pub appended : List ℕ → List (List ℕ) → List ℕ
appended old [] = old
appended old (word ∷ words) = appended (old ++ 32 ∷ word) words

-- the word for a kind of references, for a family, for a class
abbrev pub kind_word : Kind → List ℕ
kind_word Local = codes "local"
kind_word Global = codes "global"
kind_word Weak = codes "weak"

abbrev pub array_word : Primitive → List ℕ
array_word Boolean = codes "booleans"
array_word Byte = codes "bytes"
array_word Char = codes "chars"
array_word Short = codes "shorts"
array_word Int = codes "ints"
array_word Long = codes "longs"

abbrev pub family_word : Family → List ℕ
family_word (Elements (Of primitive)) = array_word primitive
family_word (Elements Float) = codes "floats"
family_word (Elements Double) = codes "doubles"
family_word Chars = codes "string"
family_word UtfChars = codes "utf"
family_word ArrayCritical = codes "critical"
family_word StringCritical = codes "critical-string"

-- of a kind whose class stands so far behind those of the setup
abbrev pub own_word : ℕ → List ℕ
own_word place =
    if place == 0 then codes "object"
    else if place == 1 then codes "throwable"
    else if place == 2 then codes "class"
    else if place == 3 then codes "array-class"
    else if place == 4 then codes "floats"
    else codes "doubles"

abbrev pub class_word : StatedSetup → ℕ → List ℕ
class_word s class = if nat_lt class (class_count s) then decimal class else own_word (class - class_count s)

-- the words of a fact; of one object that is gone there are none
abbrev pub checked_words : Checked → List (List ℕ)
checked_words (checked.Local t n o) = codes "local" ∷ decimal n ∷ kept_text o ∷ []
checked_words (checked.Pending t o) = codes "pending" ∷ kept_text o ∷ []
checked_words (checked.Length o n) = codes "length" ∷ object_text o ∷ decimal n ∷ []

abbrev pub fact_words : StatedSetup → FactOf → List (List ℕ)
fact_words s (fact.Begin t) = codes "begins" ∷ []
fact_words s (fact.End t) = codes "ends" ∷ []
fact_words s (fact.Enter t) = codes "enters" ∷ []
fact_words s (fact.Leave t kept) = codes "leaves" ∷ kept_text kept ∷ []
fact_words s (fact.Push t room) = codes "pushed" ∷ decimal room ∷ []
fact_words s (fact.Pop t kept) = codes "popped" ∷ kept_text kept ∷ []
fact_words s (fact.Ensure t room) = codes "ensured" ∷ decimal room ∷ []
fact_words s (fact.Raise t o) = codes "raised" ∷ object_text o ∷ []
fact_words s (fact.Calm t) = codes "calmed" ∷ []
fact_words s (fact.Hand t kind o) = codes "got" ∷ kind_word kind ∷ object_text o ∷ []
fact_words s (fact.Lost r) = codes "lost" ∷ ref_text r ∷ []
fact_words s (fact.Lend t family o via n) =
    codes "lent" ∷ family_word family ∷ object_text o ∷ ref_text via ∷ decimal n ∷ []
fact_words s (fact.Back b) = codes "gave" ∷ buf_text b ∷ []
fact_words s (fact.Own t o) = codes "owns" ∷ object_text o ∷ []
fact_words s (fact.Free t o) = codes "freed" ∷ object_text o ∷ []
fact_words s (fact.Meet class n) = codes "met" ∷ class_word s class ∷ decimal n ∷ []
fact_words s (fact.Gone o) = []
fact_words s (fact.Link class native) = codes "linked" ∷ decimal class ∷ decimal native ∷ []
fact_words s (fact.Unlink class) = codes "unlinked" ∷ decimal class ∷ []
fact_words s (fact.Warn home) = codes "warned" ∷ decimal home ∷ []
fact_words s (fact.Checked c) = checked_words c

-- an operand's word; a name's is lost
abbrev pub argument_text : Argument → List ℕ
argument_text (argument.Reference r) = ref_text r
argument_text (argument.Buffer b) = buf_text b
argument_text (argument.Number n) = signed_decimal n
argument_text (argument.Value v) = signed_decimal v
argument_text (argument.Id fits) = id_text fits
argument_text (argument.Class class) = stated_text class
argument_text (argument.Native native) = stated_text native
argument_text argument.Name = codes "?"
argument_text (argument.List count fits) = list_text count fits

-- the words of an event
abbrev pub event_words : StatedSetup → Event → List Argument → List ObjId → List (List ℕ)
event_words s (Question t env place) xs gone = env_text env ∷ name_at place ∷ map argument_text xs
event_words s (Fact f) xs gone = fact_words s f
event_words s Gone xs gone = codes "gone" ∷ map object_text gone
event_words s (Bounds b) xs gone =
    codes "bounds" ∷ signed_decimal b.capacity ∷ signed_decimal b.length ∷ signed_decimal b.items ∷ []

-- which facts, which questions and which events have a text
abbrev pub is_told : StatedSetup → FactOf → Bool
is_told s (fact.Meet class n) = is_class s class
is_told s (fact.Gone o) = false
is_told s f = true

-- more than 32 bits are needed for it: a number that they hold is no value where any number may stand
abbrev pub is_long : ℤ → Bool
is_long (pos n) = nat_le (2 ^ 31) n
is_long (negsuc n) = nat_le (2 ^ 31) n

-- the operand is of the sort
abbrev pub is_sort : Sort → Argument → Bool
is_sort sort.Reference (argument.Reference r) = true
is_sort sort.Buffer (argument.Buffer b) = true
is_sort sort.Bounded (argument.Number n) = true
is_sort sort.Number (argument.Number n) = true
is_sort sort.Number (argument.Value v) = is_long v
is_sort sort.Value (argument.Value v) = true
is_sort sort.Id (argument.Id fits) = true
is_sort sort.Class (argument.Class class) = true
is_sort sort.Native (argument.Native native) = true
is_sort sort.Name argument.Name = true
is_sort sort.List (argument.List count fits) = true
is_sort s x = false

abbrev pub are_sorted : List Takes → List Argument → Bool
are_sorted takes [] = are_none takes
are_sorted [] (x ∷ xs) = false
are_sorted (t ∷ takes) (x ∷ xs) =
    is_sort (sort_of t) x && are_sorted (if is_last t then t ∷ takes else takes) xs

abbrev pub suits_row : Option Columns → List Argument → Bool
suits_row None xs = false
suits_row (Some row) xs = are_sorted row.takes xs

abbrev pub has_text : StatedSetup → Event → List Argument → List ObjId → Bool
has_text s (Question t env place) xs gone = suits_row (slice_get functions place) xs
has_text s (Fact f) xs gone = is_told s f
has_text s Gone xs gone = not (length gone == 0)
has_text s (Bounds b) xs gone = true

-- which of them the program's types can hold
abbrev pub FitsChecked : Checked → Type 0
FitsChecked (checked.Local t n o) = (n < 2 ^ 64) × FitsKept o
FitsChecked (checked.Pending t o) = FitsKept o
FitsChecked (checked.Length o n) = FitsObject o × (n < 2 ^ 32)

abbrev pub FitsFact : FactOf → Type 0
FitsFact (fact.Leave t kept) = FitsKept kept
FitsFact (fact.Push t room) = room < 2 ^ 32
FitsFact (fact.Pop t kept) = FitsKept kept
FitsFact (fact.Ensure t room) = room < 2 ^ 32
FitsFact (fact.Raise t o) = FitsObject o
FitsFact (fact.Hand t kind o) = FitsObject o
FitsFact (fact.Lost r) = FitsRef r
FitsFact (fact.Lend t family o via n) = FitsObject o × FitsRef via × (n < 2 ^ 32)
FitsFact (fact.Back b) = FitsBuf b
FitsFact (fact.Own t o) = FitsObject o
FitsFact (fact.Free t o) = FitsObject o
FitsFact (fact.Meet class n) = (class < 2 ^ 32) × (n < 2 ^ 32)
FitsFact (fact.Link class native) = (class < 2 ^ 32) × (native < 2 ^ 32)
FitsFact (fact.Unlink class) = class < 2 ^ 32
FitsFact (fact.Warn home) = home < 2 ^ 32
FitsFact (fact.Checked c) = FitsChecked c
FitsFact f = Unit {0}

abbrev pub FitsArgument : Argument → Type 0
FitsArgument (argument.Reference r) = FitsRef r
FitsArgument (argument.Buffer b) = FitsBuf b
FitsArgument (argument.Number n) = FitsSigned w32 n
FitsArgument (argument.Value v) = FitsSigned w64 v
FitsArgument (argument.Id fits) = Unit {0}
FitsArgument (argument.Class class) = FitsStated class
FitsArgument (argument.Native native) = FitsStated native
FitsArgument argument.Name = Unit {0}
FitsArgument (argument.List count fits) = count < 2 ^ 64

abbrev pub FitsEvent : Event → List Argument → List ObjId → Type 0
FitsEvent (Question t env place) xs gone = FitsEnv env × AllByRecursion FitsArgument xs
FitsEvent (Fact f) xs gone = FitsFact f
FitsEvent Gone xs gone = AllByRecursion FitsObject gone
FitsEvent (Bounds b) xs gone = FitsSigned w32 b.capacity × FitsSigned w32 b.length × FitsSigned w32 b.items
