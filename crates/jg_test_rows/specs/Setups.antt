-- The setups of worked rows.
use Rattle.std.specs.Prelude.{[], ◌∷◌, true, false, codes}
use Rattle.jg_policy.specs.declared.mode.Mode.{Mode}
use Rattle.jg_policy.specs.declared.mode.Mode.TheVariants.{Deny}
use Rattle.jg_policy.specs.Stated.{StatedSetup, StatedGrant, StatedClass}

abbrev pub main_class : StatedClass
main_class = record {
  name = codes "app/Main";
  module_name = codes "app";
  throwable = false;
  fields = record { name = codes "count"; signature = codes "I" }
      ∷ record { name = codes "next"; signature = codes "Lapp/Main;" } ∷ [];
  natives = record { name = codes "run"; signature = codes "()V" } ∷ [];
}

abbrev pub tool_class : StatedClass
tool_class = record {
  name = codes "lib/Tool";
  module_name = codes "lib";
  throwable = false;
  fields = [];
  natives = record { name = codes "go"; signature = codes "()V" } ∷ [];
}

abbrev pub fault_class : StatedClass
fault_class = record {
  name = codes "app/Fault";
  module_name = codes "app";
  throwable = true;
  fields = [];
  natives = [];
}

-- the module `app` is enabled, so that it is granted all uses of native code
abbrev pub app_enabled : StatedGrant
app_enabled = record { module_name = codes "app"; load = true; register = true; link = true }

-- classes 15, 16 and 17 in two modules, of which one is enabled; the first object that is made is number 18
abbrev pub two_modules : Mode → StatedSetup
two_modules mode =
    record { mode = mode; grants = app_enabled ∷ []; classes = main_class ∷ tool_class ∷ fault_class ∷ [] }

-- the same classes, where `app` may register and link, and `lib` may load
abbrev pub granted : Mode → StatedSetup
granted mode = record {
  mode = mode;
  grants = record { module_name = codes "app"; load = false; register = true; link = true }
      ∷ record { module_name = codes "lib"; load = true; register = false; link = false } ∷ [];
  classes = main_class ∷ tool_class ∷ fault_class ∷ [];
}

-- class 15 with a field of each primitive type; the first object that is made is number 16
abbrev pub all_types : StatedSetup
all_types = record {
  mode = Deny;
  grants = [];
  classes = record {
    name = codes "t/All";
    module_name = codes "t";
    throwable = false;
    fields = record { name = codes "z"; signature = codes "Z" } ∷ record { name = codes "b"; signature = codes "B" }
        ∷ record { name = codes "c"; signature = codes "C" } ∷ record { name = codes "s"; signature = codes "S" }
        ∷ record { name = codes "i"; signature = codes "I" } ∷ record { name = codes "j"; signature = codes "J" }
        ∷ [];
    natives = [];
  } ∷ [];
}
