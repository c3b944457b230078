-- Which numbers are in a range, and which an item of an array can hold.
use Rattle.std.specs.Prelude.{ℤ, pos, negsuc, ◌&&◌, Bool, true, int_le}
use Rattle.jg_words.specs.declared.object.Primitive.{Primitive}
use Rattle.jg_words.specs.declared.object.Primitive.TheVariants.{Boolean, Byte, Char, Short, Int, Long}

abbrev pub is_within : ℤ → ℤ → ℤ → Bool
is_within low high v = int_le low v && int_le v high

-- a value of the primitive type (JNI Specification, chapter 3, "Primitive Types"); a number of a list has 64 bits
abbrev pub is_value_of : Primitive → ℤ → Bool
is_value_of Boolean v = is_within (pos 0) (pos 1) v
is_value_of Byte v = is_within (negsuc 127) (pos 127) v
is_value_of Char v = is_within (pos 0) (pos 65535) v
is_value_of Short v = is_within (negsuc 32767) (pos 32767) v
is_value_of Int v = is_within (negsuc 2147483647) (pos 2147483647) v
is_value_of Long v = true
