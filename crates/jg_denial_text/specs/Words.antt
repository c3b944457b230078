-- Classes, types and functions as they are told.
use Rattle.std.specs.Prelude.{ℕ, ◌+◌, ◌/◌, ◌%◌, ◌&&◌, nat_le, nat_lt, if◌then◌else◌, List, [], ◌∷◌, ◌++◌, length, take, flat_map, codes, Option, Some, None}
use Rattle.jg_words.specs.declared.object.Primitive.{Primitive}
use Rattle.jg_words.specs.declared.object.Primitive.TheVariants.{Boolean, Byte, Char, Short, Int, Long}
use Rattle.jg_words.specs.Fun.{buffers_name}
use Rattle.jg_words.specs.declared.fun.buffers.BuffersFun.TheVariants.{GetArrayElements, GetStringChars, GetStringUTFChars, GetPrimitiveArrayCritical, GetStringCritical}
use Rattle.jg_words.specs.declared.object.ItemType.TheVariants.{Of, Float, Double}
use Rattle.jg_table_buffers.specs.declared.family.Family.{Family}
use Rattle.jg_table_buffers.specs.declared.family.Family.TheVariants.{Elements, Chars, UtfChars, ArrayCritical, StringCritical}
use Rattle.jg_policy.specs.Stated.{StatedSetup}
use Rattle.jg_policy.specs.Classes.{class_name_of, module_name_of}
use Rattle.jg_policy.specs.declared.access.Operation.{Operation}
use Rattle.jg_policy.specs.declared.access.Operation.TheVariants.{Load, Register, Link}
use Rattle.jg_rules.specs.declared.operand.ObjectType.{ObjectType}
use Rattle.jg_rules.specs.declared.operand.ObjectType.TheVariants.{AnyObject, ClassObject, PlainClass, ThrowableObject, StringObject, AnyArray, PrimitiveArray, ArrayOf, ObjectArray}

abbrev pub hex_digit : ℕ → ℕ
hex_digit n = if nat_lt n 10 then 48 + n else 55 + n

-- a byte that is no printable ASCII is written `\xNN`
abbrev pub escaped : ℕ → List ℕ
escaped byte =
    if nat_le 32 byte && nat_le byte 126 then byte ∷ []
    else 92 ∷ 120 ∷ hex_digit (byte / 16) ∷ hex_digit (byte % 16) ∷ []

-- what an input wrote: its first 60 bytes, and two full stops where there are more
abbrev pub quoted : List ℕ → List ℕ
quoted bytes = flat_map escaped (take 60 bytes) ++ (if nat_lt 60 (length bytes) then codes ".." else [])

abbrev pub quoted_if : Option (List ℕ) → List ℕ
quoted_if None = codes "none"
quoted_if (Some text) = quoted text

abbrev pub class_text : StatedSetup → ℕ → List ℕ
class_text s class = quoted_if (class_name_of s class)

abbrev pub module_text : StatedSetup → ℕ → List ℕ
module_text s class = quoted_if (module_name_of s class)

abbrev pub primitive_text : Primitive → List ℕ
primitive_text Boolean = codes "boolean"
primitive_text Byte = codes "byte"
primitive_text Char = codes "char"
primitive_text Short = codes "short"
primitive_text Int = codes "int"
primitive_text Long = codes "long"

abbrev pub array_of : Primitive → List ℕ
array_of element = codes "an array of " ++ primitive_text element

-- what is wanted of an operand (JNI Specification, chapter 3, "Reference Types")
abbrev pub type_text : ObjectType → List ℕ
type_text AnyObject = codes "an object"
type_text ClassObject = codes "a class"
type_text PlainClass = codes "a class whose instances AllocObject makes"
type_text ThrowableObject = codes "a throwable object"
type_text StringObject = codes "a string"
type_text AnyArray = codes "an array"
type_text PrimitiveArray = codes "an array of a primitive type"
type_text (ArrayOf element) = array_of element
type_text ObjectArray = codes "an array of references"

-- what is wanted of a field: a primitive type, or, where none is named, a class
abbrev pub wanted_text : Option Primitive → List ℕ
wanted_text None = codes "a class"
wanted_text (Some primitive) = codes "type " ++ primitive_text primitive

-- the name of the function that lends buffers of the family
abbrev pub lender_name : Family → List ℕ
lender_name (Elements (Of element)) = buffers_name (GetArrayElements element)
lender_name (Elements Float) = codes "GetFloatArrayElements"
lender_name (Elements Double) = codes "GetDoubleArrayElements"
lender_name Chars = buffers_name GetStringChars
lender_name UtfChars = buffers_name GetStringUTFChars
lender_name ArrayCritical = buffers_name GetPrimitiveArrayCritical
lender_name StringCritical = buffers_name GetStringCritical

abbrev pub use_text : Operation → List ℕ
use_text Load = codes "to load a library"
use_text Register = codes "to register a native method"
use_text Link = codes "to call a native method"
