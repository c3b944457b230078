-- The numbers of the classes that every setup has and that calls make objects of.
use Rattle.std.specs.Prelude.{ℕ, ◌==◌, [], ◌∷◌, Option}
use Rattle.std.specs.List.{find}
use Rattle.jg_words.specs.declared.object.Primitive.{Primitive}
use Rattle.jg_words.specs.declared.object.Primitive.TheVariants.{Boolean, Byte, Char, Short, Int, Long}
use Rattle.jg_words.specs.declared.value.Thrown.{Thrown}
use Rattle.jg_words.specs.declared.value.Thrown.TheVariants.{ArrayIndexOutOfBounds, StringIndexOutOfBounds, NoClassDefFound, NoSuchField, NoSuchMethod}

-- the number of the class of arrays of these: [Z, [B, [C, [S, [I and [J are 4 to 9
abbrev pub array_class : Primitive → ℕ
array_class Boolean = 4
array_class Byte = 5
array_class Char = 6
array_class Short = 7
array_class Int = 8
array_class Long = 9

-- the type of the items of the arrays of a class, where they are numbers
abbrev pub element_of : ℕ → Option Primitive
element_of class = find (λ element. array_class element == class) (Boolean ∷ Byte ∷ Char ∷ Short ∷ Int ∷ Long ∷ [])

-- the number of the exception's class
abbrev pub class_thrown : Thrown → ℕ
class_thrown ArrayIndexOutOfBounds = 10
class_thrown StringIndexOutOfBounds = 11
class_thrown NoClassDefFound = 12
class_thrown NoSuchField = 13
class_thrown NoSuchMethod = 14
