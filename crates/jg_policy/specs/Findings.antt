-- The faults that a setup text has, one for each place where one is found.
use Rattle.std.specs.Prelude.{◌≡◌, ℕ, pos, Bool, false, ◌||◌, ◌&&◌, not, nat_lt, is_none, if◌then◌else◌, List, [], ◌∷◌, ◌++◌, length, map, Option, Some, None, codes}
use Rattle.std.specs.List.{list_any}
use Rattle.std.specs.Ordering.{int_eq}
use Rattle.std.specs.Str.{bytes_eq}
use Rattle.toml.specs.Data.{Data, Items, no_items, item, Members, no_members, member, get_member, as_str, as_integer, as_bool, as_array, as_table}
use Rattle.toml.specs.Parse.{parse_document}
use Rattle.jg_policy.specs.declared.fault.SetupFault.{SetupFault}
use Rattle.jg_policy.specs.declared.fault.SetupFault.TheVariants.{NotToml, BadVersion, UnknownKey, Missing, BadType, BadMode, BadName, Duplicate, TooMany}
use Rattle.jg_policy.specs.Names.{accepts}
use Rattle.jg_policy.specs.declared.names.Spelling.{Spelling}
use Rattle.jg_policy.specs.declared.names.Spelling.TheVariants.{ModuleName, ClassName, MemberName, FieldType, NativeType}
use Rattle.jg_policy.specs.BaseClasses.{base_names}
use Rattle.jg_policy.specs.Stated.{StatedMember, StatedClass, StatedSetup, setup_stated, mode_named, is_version_2}

-- a fault, where the test holds
abbrev pub fault_if : Bool → SetupFault → List SetupFault
fault_if b fault = if b then fault ∷ [] else []

-- the key is one of these
abbrev pub is_among : List (List ℕ) → List ℕ → Bool
is_among known k = list_any (bytes_eq k) known

-- the members have a key outside the list
abbrev pub has_unknown_key : List (List ℕ) → Members → Bool
has_unknown_key known no_members = false
has_unknown_key known (member k d ms) = not (is_among known k) || has_unknown_key known ms

-- what is found at a required and at an optional key
abbrev pub required : (Data → List SetupFault) → Option Data → List SetupFault
required rule None = Missing ∷ []
required rule (Some d) = rule d

abbrev pub optional : (Data → List SetupFault) → Option Data → List SetupFault
optional rule None = []
optional rule (Some d) = rule d

-- A value of another type has this one fault, and nothing is looked at inside it.
abbrev pub of_type : {A : Type 0} → (A → List SetupFault) → Option A → List SetupFault
of_type rule None = BadType ∷ []
of_type rule (Some a) = rule a

abbrev pub each_of : (Data → List SetupFault) → Items → List SetupFault
each_of rule no_items = []
each_of rule (item d ds) = rule d ++ each_of rule ds

abbrev pub version_faults : Data → List SetupFault
version_faults d = of_type (λ z. fault_if (not (int_eq z (pos 1) || int_eq z (pos 2))) BadVersion) (as_integer d)

abbrev pub mode_faults : Data → List SetupFault
mode_faults d = of_type (λ text. fault_if (is_none (mode_named text)) BadMode) (as_str d)

-- the words for the operations
abbrev pub operation_words : List (List ℕ)
operation_words = codes "load" ∷ codes "register" ∷ codes "link" ∷ []

abbrev pub operation_faults : Data → List SetupFault
operation_faults d = of_type (λ text. fault_if (not (is_among operation_words text)) BadMode) (as_str d)

abbrev pub truth_faults : Data → List SetupFault
truth_faults d = of_type (λ b. []) (as_bool d)

-- a text of this spelling
abbrev pub text_faults : Spelling → Data → List SetupFault
text_faults spelling d = of_type (λ text. fault_if (not (accepts spelling text)) BadName) (as_str d)

-- an array, with a rule for its items
abbrev pub array_faults : (Data → List SetupFault) → Data → List SetupFault
array_faults rule d = of_type (each_of rule) (as_array d)

abbrev pub member_keys : List (List ℕ)
member_keys = codes "name" ∷ codes "type" ∷ []

abbrev pub class_keys : List (List ℕ)
class_keys = codes "name" ∷ codes "module" ∷ codes "throwable" ∷ codes "fields" ∷ codes "natives" ∷ []

abbrev pub grant_keys : List (List ℕ)
grant_keys = codes "module" ∷ codes "operations" ∷ []

abbrev pub version_1_keys : List (List ℕ)
version_1_keys = codes "version" ∷ codes "illegal_native_access" ∷ codes "enable_native_access" ∷ codes "class" ∷ []

abbrev pub version_2_keys : List (List ℕ)
version_2_keys = codes "version" ∷ codes "illegal_native_access" ∷ codes "grant" ∷ codes "class" ∷ []

-- a key that a setup of its version doesn't have; where no version is told, the keys are those of version 1
abbrev pub has_unknown_setup_key : Members → Bool
has_unknown_setup_key ms =
    if is_version_2 ms then has_unknown_key version_2_keys ms else has_unknown_key version_1_keys ms

-- a field or a native method, by the spelling of its type
abbrev pub member_table_faults : Spelling → Members → List SetupFault
member_table_faults spelling ms =
    fault_if (has_unknown_key member_keys ms) UnknownKey
    ++ (required (text_faults MemberName) (get_member (codes "name") ms)
    ++ required (text_faults spelling) (get_member (codes "type") ms))

abbrev pub member_faults : Spelling → Data → List SetupFault
member_faults spelling d = of_type (member_table_faults spelling) (as_table d)

abbrev pub class_names_faults : Members → List SetupFault
class_names_faults ms =
    required (text_faults ClassName) (get_member (codes "name") ms)
    ++ required (text_faults ModuleName) (get_member (codes "module") ms)

abbrev pub class_heading_faults : Members → List SetupFault
class_heading_faults ms = fault_if (has_unknown_key class_keys ms) UnknownKey ++ class_names_faults ms

abbrev pub class_parts_faults : Members → List SetupFault
class_parts_faults ms =
    optional truth_faults (get_member (codes "throwable") ms)
    ++ (optional (array_faults (member_faults FieldType)) (get_member (codes "fields") ms)
    ++ optional (array_faults (member_faults NativeType)) (get_member (codes "natives") ms))

abbrev pub class_table_faults : Members → List SetupFault
class_table_faults ms = class_heading_faults ms ++ class_parts_faults ms

abbrev pub class_faults : Data → List SetupFault
class_faults d = of_type class_table_faults (as_table d)

abbrev pub setup_heading_faults : Members → List SetupFault
setup_heading_faults ms =
    fault_if (has_unknown_setup_key ms) UnknownKey
    ++ (required version_faults (get_member (codes "version") ms)
    ++ required mode_faults (get_member (codes "illegal_native_access") ms))

-- an item of `grant`
abbrev pub grant_table_faults : Members → List SetupFault
grant_table_faults ms =
    fault_if (has_unknown_key grant_keys ms) UnknownKey
    ++ (required (text_faults ModuleName) (get_member (codes "module") ms)
    ++ required (array_faults operation_faults) (get_member (codes "operations") ms))

abbrev pub grant_faults : Data → List SetupFault
grant_faults d = of_type grant_table_faults (as_table d)

-- the list of grants, or of the modules that are enabled
abbrev pub granting_faults : Members → List SetupFault
granting_faults ms =
    if is_version_2 ms then optional (array_faults grant_faults) (get_member (codes "grant") ms)
    else optional (array_faults (text_faults ModuleName)) (get_member (codes "enable_native_access") ms)

abbrev pub setup_lists_faults : Members → List SetupFault
setup_lists_faults ms =
    granting_faults ms
    ++ optional (array_faults class_faults) (get_member (codes "class") ms)

-- the faults of shape and spelling, anywhere in the tree
abbrev pub shape_faults : Members → List SetupFault
shape_faults ms = setup_heading_faults ms ++ setup_lists_faults ms

-- two of the items are equal, by a test of equality
abbrev pub has_repeat : {A : Type 0} → (A → A → Bool) → List A → Bool
has_repeat same [] = false
has_repeat same (x ∷ xs) = list_any (λ y. same y x) xs || has_repeat same xs

-- equal in name and type
abbrev pub same_member : StatedMember → StatedMember → Bool
same_member m n = bytes_eq m.name n.name && bytes_eq m.signature n.signature

-- a class states two equal fields, or two equal native methods
abbrev pub repeats_member : StatedClass → Bool
repeats_member c = has_repeat same_member c.fields || has_repeat same_member c.natives

-- two classes have one name, where the base classes count
abbrev pub repeats_name : List (List ℕ) → Bool
repeats_name names = has_repeat bytes_eq (base_names ++ names)

abbrev pub states_twice : List StatedClass → Bool
states_twice classes = repeats_name (map (λ c. c.name) classes) || list_any repeats_member classes

abbrev pub repeat_faults : StatedSetup → List SetupFault
repeat_faults setup = fault_if (states_twice setup.classes) Duplicate

-- more fields or native methods than a class may have
abbrev pub has_many_members : StatedClass → Bool
has_many_members c = nat_lt 100 (length c.fields) || nat_lt 100 (length c.natives)

-- more classes or grants than a setup may have, or a class with too many members
abbrev pub is_too_large : StatedSetup → Bool
is_too_large setup =
    (nat_lt 1000 (length setup.classes) || nat_lt 1000 (length setup.grants))
    || list_any has_many_members setup.classes

abbrev pub excess_faults : StatedSetup → List SetupFault
excess_faults setup = fault_if (is_too_large setup) TooMany

-- what is found in a tree: faults of shape and spelling, then what is stated twice, then lists that are too long
abbrev pub tree_faults : Members → List SetupFault
tree_faults ms = shape_faults ms ++ (repeat_faults (setup_stated ms) ++ excess_faults (setup_stated ms))

-- what is found in a text, which may be no document at all
abbrev pub text_faults_of : Option Members → List SetupFault
text_faults_of None = NotToml ∷ []
text_faults_of (Some ms) = tree_faults ms

-- the text is a document without a fault, and states this setup
abbrev pub States : List ℕ → StatedSetup → Type 0
States text setup =
    (tree : Members) × (parse_document text ≡ Some tree) × (tree_faults tree ≡ []) × (setup ≡ setup_stated tree)
