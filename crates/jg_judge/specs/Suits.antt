-- The operands of a question are as many as the row of its function says, each of its sort.
use Rattle.std.specs.Prelude.{◌&&◌, Bool, true, false, if◌then◌else◌, List, [], ◌∷◌}
use Rattle.jg_rows.specs.declared.row.Takes.{Takes}
use Rattle.jg_rows.specs.declared.row.Takes.TheVariants.{Reference as TakesReference, Nullable, Unjudged, Buffer as TakesBuffer, Readable, Writable, Number as TakesNumber, Capacity, Length, Count, Mode, Place, Item, Value as TakesValue, Field, AnyField, Method, Constructor, AnyMethod, ClassName, NativeName, Name as TakesName, Items, Utf8, Arguments}
use Rattle.jg_judge.specs.declared.argument.Argument.{Argument}
use Rattle.jg_judge.specs.declared.argument.Argument.TheVariants.{Reference, Buffer, Number, Value, Id, Class, Native, Name, List as ListOf}
use Rattle.jg_judge.specs.Asked.{is_last}

abbrev pub takes_reference : Takes → Bool
takes_reference (TakesReference kind) = true
takes_reference Nullable = true
takes_reference Unjudged = true
takes_reference Arguments = true
takes_reference takes = false

abbrev pub takes_buffer : Takes → Bool
takes_buffer (TakesBuffer family) = true
takes_buffer Readable = true
takes_buffer Writable = true
takes_buffer takes = false

-- a jint
abbrev pub takes_number : Takes → Bool
takes_number TakesNumber = true
takes_number Capacity = true
takes_number Length = true
takes_number Count = true
takes_number Mode = true
takes_number Place = true
takes_number takes = false

-- a value of a field or an item; a number that no rule bounds may be a jlong
abbrev pub takes_value : Takes → Bool
takes_value TakesNumber = true
takes_value Item = true
takes_value (TakesValue item) = true
takes_value takes = false

abbrev pub takes_id : Takes → Bool
takes_id (Field member type) = true
takes_id AnyField = true
takes_id (Method member type) = true
takes_id Constructor = true
takes_id AnyMethod = true
takes_id takes = false

abbrev pub takes_class : Takes → Bool
takes_class ClassName = true
takes_class takes = false

abbrev pub takes_native : Takes → Bool
takes_native NativeName = true
takes_native takes = false

abbrev pub takes_name : Takes → Bool
takes_name TakesName = true
takes_name takes = false

abbrev pub takes_list : Takes → Bool
takes_list (Items item) = true
takes_list Utf8 = true
takes_list takes = false

-- an operand is of the sort that the row says
abbrev pub suits_one : Takes → Argument → Bool
suits_one takes (Reference r) = takes_reference takes
suits_one takes (Buffer b) = takes_buffer takes
suits_one takes (Number n) = takes_number takes
suits_one takes (Value v) = takes_value takes
suits_one takes (Id fits) = takes_id takes
suits_one takes (Class class) = takes_class takes
suits_one takes (Native native) = takes_native takes
suits_one takes Name = takes_name takes
suits_one takes (ListOf count fits) = takes_list takes

-- a method's arguments may be none
abbrev pub are_none : List Takes → Bool
are_none [] = true
are_none (t ∷ takes) = is_last t

abbrev pub suits : List Takes → List Argument → Bool
suits takes [] = are_none takes
suits [] (x ∷ xs) = false
suits (t ∷ takes) (x ∷ xs) = suits_one t x && suits (if is_last t then t ∷ takes else takes) xs
