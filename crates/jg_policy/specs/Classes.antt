-- What a setup says of its classes, their fields and native methods, and their modules. Classes go by their numbers.
use Rattle.std.specs.Prelude.{ℕ, ◌+◌, ◌-◌, Bool, false, ◌==◌, ◌&&◌, ◌||◌, nat_lt, nat_le, if◌then◌else◌, List, [], ◌∷◌, ◌++◌, map, codes, Option, Some, None, slice_get, slice_index_or, position, option_and_then}
use Rattle.std.specs.Option.{option_map}
use Rattle.std.specs.Str.{bytes_eq}
use Rattle.jg_policy.specs.BaseClasses.{base_names}
use Rattle.jg_policy.specs.Stated.{StatedMember, StatedClass, StatedSetup, class_names}

-- the number of the class of a name: base classes first, and then those of the setup in the order of its text
abbrev pub class_named : StatedSetup → List ℕ → Option ℕ
class_named setup name = position (bytes_eq name) (base_names ++ class_names setup)

-- the name of the class of a number
abbrev pub class_name_of : StatedSetup → ℕ → Option (List ℕ)
class_name_of setup class = slice_get (base_names ++ class_names setup) class

-- the setup's class of that number
abbrev pub class_at : StatedSetup → ℕ → Option StatedClass
class_at setup class = if nat_lt class 15 then None else slice_get setup.classes (class - 15)

-- the classes of the exceptions that calls throw are throwable, and those classes of the setup that say so
abbrev says_throwable : Option StatedClass → Bool
says_throwable None = false
says_throwable (Some c) = c.throwable

abbrev pub is_throwable : StatedSetup → ℕ → Bool
is_throwable setup class = (nat_le 10 class && nat_lt class 15) || says_throwable (class_at setup class)

-- the name of a class's module: base classes are in java.base, and what is no class is in no module
abbrev pub module_name_of : StatedSetup → ℕ → Option (List ℕ)
module_name_of setup class =
    if nat_lt class 15 then Some (codes "java.base")
    else option_map (λ c. c.module_name) (slice_get setup.classes (class - 15))

-- the modules: java.base, and then that of each class of the setup
abbrev pub module_names : StatedSetup → List (List ℕ)
module_names setup = codes "java.base" ∷ map (λ c. c.module_name) setup.classes

-- the number of a class's module: the place where its name comes first
abbrev pub module_of : StatedSetup → ℕ → Option ℕ
module_of setup class =
    option_and_then (λ name. position (bytes_eq name) (module_names setup)) (module_name_of setup class)

-- a field's type is a class where it begins with `L` (JNI Specification, chapter 3, "Type Signatures")
abbrev pub is_class_type : List ℕ → Bool
is_class_type signature = slice_index_or signature 0 0 == 76

abbrev pub fields_in : Option StatedClass → List StatedMember
fields_in None = []
fields_in (Some c) = c.fields

abbrev pub natives_in : Option StatedClass → List StatedMember
natives_in None = []
natives_in (Some c) = c.natives

abbrev pub is_member : List ℕ → List ℕ → StatedMember → Bool
is_member name signature m = bytes_eq name m.name && bytes_eq signature m.signature

-- the place of the member of that name and type, counted from 1
abbrev pub member_named : List ℕ → List ℕ → List StatedMember → Option ℕ
member_named name signature members = option_map (λ i. i + 1) (position (is_member name signature) members)

abbrev pub field_named : StatedSetup → ℕ → List ℕ → List ℕ → Option ℕ
field_named setup class name signature = member_named name signature (fields_in (class_at setup class))

abbrev pub native_named : StatedSetup → ℕ → List ℕ → List ℕ → Option ℕ
native_named setup class name signature = member_named name signature (natives_in (class_at setup class))

-- the member at a place, counted from 1
abbrev pub member_at : List StatedMember → ℕ → Option StatedMember
member_at members number = if number == 0 then None else slice_get members (number - 1)

abbrev pub field_at : StatedSetup → ℕ → ℕ → Option StatedMember
field_at setup class field = member_at (fields_in (class_at setup class)) field

abbrev pub native_at : StatedSetup → ℕ → ℕ → Option StatedMember
native_at setup class native = member_at (natives_in (class_at setup class)) native

-- the type of a member, by its place counted from 1
abbrev pub member_type : List StatedMember → ℕ → Option (List ℕ)
member_type members number =
    if number == 0 then None else option_map (λ m. m.signature) (slice_get members (number - 1))

abbrev pub field_type : StatedSetup → ℕ → ℕ → Option (List ℕ)
field_type setup class field = member_type (fields_in (class_at setup class)) field
