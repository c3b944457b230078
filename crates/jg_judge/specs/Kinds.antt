-- What an object is, where it may be of a class that no setup states.
use Rattle.std.specs.Prelude.{ℕ, ◌+◌, ◌==◌, ◌&&◌, ◌||◌, Bool, true, not, nat_le}
use Rattle.jg_words.specs.declared.object.ItemType.{ItemType}
use Rattle.jg_words.specs.declared.object.ItemType.TheVariants.{Of, Float, Double}
use Rattle.jg_policy.specs.Stated.{StatedSetup, class_count}
use Rattle.jg_rules.specs.declared.operand.ObjectType.TheVariants.{ClassObject as ClassType, PlainClass as PlainType, ThrowableObject as ThrowableType, StringObject as StringType, AnyArray as ArrayType, PrimitiveArray as PrimitiveArrayType, ArrayOf as ArrayOfType, ObjectArray as ObjectArrayType}
use Rattle.jg_rules.specs.Parts.{Parts}
use Rattle.jg_rules.specs.Names.{class_of}
use Rattle.jg_rules.specs.Operands.{is_of}
use Rattle.jg_judge.specs.declared.kinds.OwnKind.{OwnKind}
use Rattle.jg_judge.specs.declared.kinds.OwnKind.TheVariants.{Object, Throwable, Class, ClassOfArrays, Floats, Doubles}
use Rattle.jg_rows.specs.declared.row.ObjectKind.{ObjectKind}
use Rattle.jg_rows.specs.declared.row.ObjectKind.TheVariants.{AnyObject, ClassObject, PlainClass, InstanceClass, ThrowableObject, StringObject, AnyArray, PrimitiveArray, ArrayOf, ObjectArray}

-- how far behind the classes of the setup the class of such a kind has its number
abbrev pub own_place : OwnKind → ℕ
own_place Object = 0
own_place Throwable = 1
own_place Class = 2
own_place ClassOfArrays = 3
own_place Floats = 4
own_place Doubles = 5

abbrev pub own_class : StatedSetup → OwnKind → ℕ
own_class s kind = class_count s + own_place kind

-- the number is that of a class of the setup, or of such a kind
abbrev pub is_class : StatedSetup → ℕ → Bool
is_class s class = nat_le class (class_count s + 5)

abbrev pub is_own : StatedSetup → Parts → OwnKind → ℕ → Bool
is_own s p kind o = class_of s p o == own_class s kind

-- the class object of a stated class that isn't one of arrays: 3 to 9 are those of arrays
abbrev pub is_stated_instance : StatedSetup → Parts → ℕ → Bool
is_stated_instance s p o = is_of s p ClassType o && not (nat_le 3 o && nat_le o 9)

abbrev pub is_array_of : StatedSetup → Parts → ItemType → ℕ → Bool
is_array_of s p (Of element) o = is_of s p (ArrayOfType element) o
is_array_of s p Float o = is_own s p Floats o
is_array_of s p Double o = is_own s p Doubles o

abbrev pub is_own_array : StatedSetup → Parts → ℕ → Bool
is_own_array s p o = is_own s p Floats o || is_own s p Doubles o

-- the object is of the kind (JNI Specification, chapter 3, "Reference Types")
abbrev pub is_kind : StatedSetup → Parts → ObjectKind → ℕ → Bool
is_kind s p AnyObject o = true
is_kind s p ClassObject o = is_of s p ClassType o || (is_own s p Class o || is_own s p ClassOfArrays o)
is_kind s p PlainClass o = is_of s p PlainType o || is_own s p Class o
is_kind s p InstanceClass o = is_stated_instance s p o || is_own s p Class o
is_kind s p ThrowableObject o = is_of s p ThrowableType o || is_own s p Throwable o
is_kind s p StringObject o = is_of s p StringType o
is_kind s p AnyArray o = is_of s p ArrayType o || is_own_array s p o
is_kind s p PrimitiveArray o = is_of s p PrimitiveArrayType o || is_own_array s p o
is_kind s p (ArrayOf item) o = is_array_of s p item o
is_kind s p ObjectArray o = is_of s p ObjectArrayType o
