-- What is settled of each class when a setup is read.
use Rattle.std.specs.Prelude.{◌≡◌, ℕ, List, map, String, Option, Some, position}
use Rattle.std.specs.declared.alloc.Global.{Global}
use Rattle.std.specs.Str.{bytes_eq}
use Rattle.jg_policy.specs.declared.mode.Mode.{Mode}
use Rattle.jg_policy.specs.declared.access.Access.{Access}
use Rattle.jg_policy.specs.declared.access.Operation.{Operation}
use Rattle.jg_policy.specs.declared.access.Operation.TheVariants.{Load, Register, Link}
use Rattle.jg_policy.specs.declared.class.Class.{Class}
use Rattle.jg_policy.specs.declared.grant.Grant.{Grant}
use Rattle.jg_policy.specs.declared.setup.settling.Settled.{Settled}
use Rattle.jg_policy.specs.Stated.{StatedSetup}
use Rattle.jg_policy.specs.Classes.{module_names}
use Rattle.jg_policy.specs.NativeAccess.{module_access}
use Rattle.jg_policy.specs.Kept.{grant_view, class_view}

-- the setup that its parts stand for
abbrev pub setup_view : Mode → List Grant → List (String Global × Class) → StatedSetup
setup_view mode grants classes =
    record { mode = mode; grants = map grant_view grants; classes = map class_view classes }

-- the number of a module, and what is done with each use of native code by its classes
pub record ModuleSettled : Type 0 where
  pub home : Option ℕ
  pub load : Access
  pub register : Access
  pub link : Access

abbrev pub settled_for : StatedSetup → List ℕ → ModuleSettled
settled_for setup name = record {
  home = position (bytes_eq name) (module_names setup);
  load = module_access setup name Load;
  register = module_access setup name Register;
  link = module_access setup name Link;
}

abbrev pub settled_view : Settled → ModuleSettled
settled_view k = record { home = Some k.home; load = k.load; register = k.register; link = k.link }

-- what was settled for an operation
abbrev pub settled_access : ModuleSettled → Operation → Access
settled_access k Load = k.load
settled_access k Register = k.register
settled_access k Link = k.link

-- this is settled of the classes, in their order
abbrev pub AreSettled : StatedSetup → List Settled → Type 0
AreSettled setup settled =
    map settled_view settled ≡ map (settled_for setup) (map (λ c. c.module_name) setup.classes)
