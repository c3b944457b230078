-- What references name, and what is known of threads and objects.
use Rattle.std.specs.Prelude.{ℕ, ℤ, pos, Bool, ◌+◌, ◌-◌, ◌==◌, nat_lt, if◌then◌else◌, List, map, Option, Some, None, option_and_then}
use Rattle.std.specs.List.{range_with_len}
use Rattle.std.specs.Option.{option_map, unwrap_or}
use Rattle.jg_words.specs.declared.object.FieldId.{FieldId}
use Rattle.jg_words.specs.declared.reference.Ref.{Ref}
use Rattle.jg_words.specs.declared.reference.Ref.TheVariants.{Null, To}
use Rattle.jg_words.specs.declared.reference.Kind.TheVariants.{Local, Global, Weak}
use Rattle.jg_policy.specs.Stated.{StatedSetup, class_count}
use Rattle.jg_policy.specs.Classes.{field_named, native_named}
use Rattle.jg_table_threads.specs.History as threads
use Rattle.jg_table_locals.specs.History as locals
use Rattle.jg_table_globals.specs.History as globals
use Rattle.jg_table_globals.specs.declared.target.Target.{Target}
use Rattle.jg_table_globals.specs.declared.target.Target.TheVariants.{Object as ToObject, Cleared}
use Rattle.jg_table_heap.specs.History as heap
use Rattle.jg_table_heap.specs.Making.{units_in, length_in}
use Rattle.jg_table_heap.specs.declared.object.Slot.{Slot}
use Rattle.jg_table_heap.specs.declared.object.Slot.TheVariants.{Number, Object as Pointer}
use Rattle.jg_rules.specs.declared.named.Named.{Named}
use Rattle.jg_rules.specs.declared.named.Named.TheVariants.{Nothing, Null as NamesNull, Object}
use Rattle.jg_rules.specs.Parts.{Parts}

abbrev pub named_by : Option ℕ → Named
named_by None = Nothing
named_by (Some o) = Object (record { 0 = o })

-- a cleared weak reference counts as null (chapter 4, "Weak Global References")
abbrev pub named_by_target : Option Target → Named
named_by_target None = Nothing
named_by_target (Some (ToObject o)) = Object o
named_by_target (Some Cleared) = NamesNull

-- what a reference names for t: a local is valid in its own thread alone (JNI Specification, chapter 2, "Local
-- References")
abbrev pub names : Parts → ℕ → Ref → Named
names p t Null = NamesNull
names p t (To Local maker n) = if maker.0 == t then named_by (locals.live n (locals.acts_of t p.locals)) else Nothing
names p t (To Global maker n) = named_by_target (globals.target_of p.globals (To Global maker n))
names p t (To Weak maker n) = named_by_target (globals.target_of p.globals (To Weak maker n))

abbrev pub object_in : Named → Option ℕ
object_in Nothing = None
object_in NamesNull = None
object_in (Object o) = Some o.0

-- the object that a reference names, where it names one
abbrev pub object_named : Parts → ℕ → Ref → Option ℕ
object_named p t r = object_in (names p t r)

-- the same for an operand that the rules have found to name one
abbrev pub the_object : Parts → ℕ → Ref → ℕ
the_object p t r = unwrap_or (object_named p t r) 0

-- how many objects there are, class objects among them
abbrev pub object_count : StatedSetup → Parts → ℕ
object_count s p = heap.count_of (class_count s) p.heap

-- the object was made and isn't gone
abbrev pub is_here : StatedSetup → Parts → ℕ → Bool
is_here s p o = heap.is_there (class_count s) p.heap o

-- the class of an object; one that isn't there counts as a class object
abbrev pub class_of : StatedSetup → Parts → ℕ → ℕ
class_of s p o = heap.class_there (class_count s) p.heap o

-- the UTF-16 units of a string
abbrev pub units_of : StatedSetup → Parts → ℕ → List ℕ
units_of s p o = units_in (heap.making_at (class_count s) p.heap o)

-- how many units a string has, items an array, fields any other object
abbrev pub length_of : StatedSetup → Parts → ℕ → ℕ
length_of s p o = length_in (heap.making_at (class_count s) p.heap o)

-- what a slot of an object holds
abbrev pub slot_of : StatedSetup → Parts → ℕ → ℕ → Slot
slot_of s p o j = heap.value_at (class_count s) p.heap o j

abbrev pub number_in : Slot → ℤ
number_in (Number v) = v
number_in (Pointer target) = pos 0

abbrev pub target_in : Slot → Option ℕ
target_in (Number v) = None
target_in (Pointer target) = option_map (λ o. o.0) target

-- the items of an array of a primitive type
abbrev pub items_of : StatedSetup → Parts → ℕ → List ℤ
items_of s p o = map number_in (map (slot_of s p o) (range_with_len 0 (length_of s p o)))

-- the class whose class object it is: class objects have the numbers of their classes
abbrev pub class_by : StatedSetup → ℕ → Option ℕ
class_by s o = if nat_lt o (class_count s) then Some o else None

-- the class whose class object a reference names, where it names one
abbrev pub class_meant : StatedSetup → Parts → ℕ → Ref → Option ℕ
class_meant s p t r = option_and_then (class_by s) (object_named p t r)

-- the class's native method of that name and type, by its number
abbrev pub native_meant : StatedSetup → Option ℕ → List ℕ → List ℕ → Option ℕ
native_meant s None name signature = None
native_meant s (Some class) name signature = native_named s class name signature

-- the class's field of that name and type
abbrev pub field_meant : StatedSetup → Option ℕ → List ℕ → List ℕ → Option FieldId
field_meant s None name signature = None
field_meant s (Some class) name signature =
    option_map (λ n. record { class = class; field = n }) (field_named s class name signature)

-- the slot that a field has in each object of its class: fields count from 1, slots from 0
abbrev pub slot_place : FieldId → ℕ
slot_place f = f.field - 1

-- the number of t's present session
abbrev pub session : Parts → ℕ → Option ℕ
session p t = threads.session (threads.acts_of t p.threads)

-- how many native methods t is in
abbrev pub depth : Parts → ℕ → ℕ
depth p t = threads.depth (threads.acts_of t p.threads)

-- the frames that t pushed and didn't pop at its present depth
abbrev pub open_frames : Parts → ℕ → ℕ
open_frames p t = locals.frames (locals.depth (locals.acts_of t p.locals)) (locals.acts_of t p.locals)

-- the exception that is pending for t
abbrev pub pending : Parts → ℕ → Option ℕ
pending p t = threads.pending (threads.acts_of t p.threads)

-- the number of the next reference that t is handed out, and of the next buffer
abbrev pub next_ref : Parts → ℕ → ℕ
next_ref p t = threads.refs (threads.acts_of t p.threads) + 1

abbrev pub next_buffer : Parts → ℕ → ℕ
next_buffer p t = threads.buffers (threads.acts_of t p.threads) + 1
