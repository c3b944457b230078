-- Native access by the module of a class.
use Rattle.std.specs.Prelude.{ℕ, Bool, false, ◌||◌, ◌&&◌, if◌then◌else◌, List, codes}
use Rattle.std.specs.List.{list_any}
use Rattle.std.specs.Option.{option_map_or}
use Rattle.std.specs.Str.{bytes_eq}
use Rattle.jg_policy.specs.declared.mode.Mode.{Mode}
use Rattle.jg_policy.specs.declared.mode.Mode.TheVariants.{Allow, Warn, Deny}
use Rattle.jg_policy.specs.declared.access.Access.{Access}
use Rattle.jg_policy.specs.declared.access.Access.TheVariants.{Allowed, AllowedWithWarning, Refused}
use Rattle.jg_policy.specs.declared.access.Operation.{Operation}
use Rattle.jg_policy.specs.declared.access.Operation.TheVariants.{Load, Register, Link}
use Rattle.jg_policy.specs.Stated.{StatedGrant, StatedSetup}
use Rattle.jg_policy.specs.Classes.{module_name_of}

-- the grant allows the operation
abbrev pub allows : StatedGrant → Operation → Bool
allows g Load = g.load
allows g Register = g.register
allows g Link = g.link

-- some grant of this module allows the operation: the grants of one module add up
abbrev pub is_granted : List StatedGrant → List ℕ → Operation → Bool
is_granted grants name operation = list_any (λ g. bytes_eq name g.module_name && allows g operation) grants

-- java.base is enabled for each operation, another module for those that it is granted (JEP 472,
-- `--enable-native-access`)
abbrev pub is_enabled : StatedSetup → List ℕ → Operation → Bool
is_enabled setup name operation = bytes_eq name (codes "java.base") || is_granted setup.grants name operation

-- what is done with a use by a module that isn't enabled for it (JEP 472, `--illegal-native-access`)
abbrev pub access_by : Mode → Access
access_by Allow = Allowed
access_by Warn = AllowedWithWarning
access_by Deny = Refused

-- what is done with a use by a module
abbrev pub module_access : StatedSetup → List ℕ → Operation → Access
module_access setup name operation = if is_enabled setup name operation then Allowed else access_by setup.mode

-- the class is in a module that is enabled for the operation
abbrev is_enabled_for : StatedSetup → ℕ → Operation → Bool
is_enabled_for setup class operation =
    option_map_or (λ name. is_enabled setup name operation) (module_name_of setup class) false

-- what is done with a use by a class
abbrev pub access_of : StatedSetup → ℕ → Operation → Access
access_of setup class operation = if is_enabled_for setup class operation then Allowed else access_by setup.mode
