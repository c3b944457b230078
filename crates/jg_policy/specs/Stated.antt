-- A setup as a plain record, and the setup that a TOML document states.
use Rattle.std.specs.Prelude.{ℕ, pos, ◌+◌, Bool, true, false, if◌then◌else◌, List, [], ◌∷◌, Option, Some, None, option_and_then, option_map, unwrap_or, codes, map, length}
use Rattle.toml.specs.Data.{Data, Items, no_items, item, Members, no_members, get_member, as_str, as_integer, as_bool, as_array, as_table}
use Rattle.jg_policy.specs.declared.mode.Mode.{Mode}
use Rattle.jg_policy.specs.declared.mode.Mode.TheVariants.{Allow, Warn, Deny}
use Rattle.std.specs.List.{list_any}
use Rattle.std.specs.Ordering.{int_eq}
use Rattle.std.specs.Str.{bytes_eq}

-- a field or a native method
pub record StatedMember : Type 0 where
  pub name : List ℕ
  pub signature : List ℕ

pub record StatedClass : Type 0 where
  pub name : List ℕ
  pub module_name : List ℕ
  pub throwable : Bool
  pub fields : List StatedMember
  pub natives : List StatedMember

-- a module, and which uses of native code it is granted
pub record StatedGrant : Type 0 where
  pub module_name : List ℕ
  pub load : Bool
  pub register : Bool
  pub link : Bool

pub record StatedSetup : Type 0 where
  pub mode : Mode
  pub grants : List StatedGrant
  pub classes : List StatedClass

-- the text, the truth and the table at a key, with what stands for none
abbrev pub text_of : Option Data → List ℕ
text_of d = unwrap_or (option_and_then as_str d) []

abbrev pub text_item : Data → List ℕ
text_item d = text_of (Some d)

abbrev pub truth_of : Option Data → Bool
truth_of d = unwrap_or (option_and_then as_bool d) false

-- each item of an array, where there is one
abbrev pub each_item : {A : Type 0} → (Data → A) → Items → List A
each_item f no_items = []
each_item f (item d ds) = f d ∷ each_item f ds

abbrev pub items_at : Option Data → Items
items_at d = unwrap_or (option_and_then as_array d) no_items

abbrev pub members_of : Data → Members
members_of d = unwrap_or (as_table d) no_members

abbrev pub member_stated_in : Members → StatedMember
member_stated_in ms = record {
  name = text_of (get_member (codes "name") ms);
  signature = text_of (get_member (codes "type") ms);
}

abbrev pub member_stated : Data → StatedMember
member_stated d = member_stated_in (members_of d)

abbrev pub class_stated_in : Members → StatedClass
class_stated_in ms =
    record {
      name = text_of (get_member (codes "name") ms);
      module_name = text_of (get_member (codes "module") ms);
      throwable = truth_of (get_member (codes "throwable") ms);
      fields = each_item member_stated (items_at (get_member (codes "fields") ms));
      natives = each_item member_stated (items_at (get_member (codes "natives") ms));
    }

abbrev pub class_stated : Data → StatedClass
class_stated d = class_stated_in (members_of d)

-- a grant of the uses that are named
abbrev pub grant_of : List ℕ → List (List ℕ) → StatedGrant
grant_of module_name words =
    record {
      module_name = module_name;
      load = list_any (bytes_eq (codes "load")) words;
      register = list_any (bytes_eq (codes "register")) words;
      link = list_any (bytes_eq (codes "link")) words;
    }

abbrev pub grant_stated_in : Members → StatedGrant
grant_stated_in ms =
    grant_of (text_of (get_member (codes "module") ms))
    (each_item text_item (items_at (get_member (codes "operations") ms)))

abbrev pub grant_stated : Data → StatedGrant
grant_stated d = grant_stated_in (members_of d)

-- an item of `enable_native_access`: its module is granted all uses
abbrev pub enabled_stated : Data → StatedGrant
enabled_stated d = record { module_name = text_item d; load = true; register = true; link = true }

-- the document is of version 2
abbrev pub is_version_2 : Members → Bool
is_version_2 ms =
    unwrap_or (option_map (λ z. int_eq z (pos 2)) (option_and_then as_integer (get_member (codes "version") ms))) false

-- the grants of a document: where it is not of version 2, the modules that it enables are granted all uses
abbrev pub grants_stated : Members → List StatedGrant
grants_stated ms =
    if is_version_2 ms then each_item grant_stated (items_at (get_member (codes "grant") ms))
    else each_item enabled_stated (items_at (get_member (codes "enable_native_access") ms))

-- the mode that a word names
abbrev pub mode_named : List ℕ → Option Mode
mode_named text =
    if bytes_eq text (codes "allow") then Some Allow
    else if bytes_eq text (codes "warn") then Some Warn
    else if bytes_eq text (codes "deny") then Some Deny
    else None

-- the setup that a document states, where no fault is found in it
abbrev pub setup_stated : Members → StatedSetup
setup_stated ms =
    record {
      mode = unwrap_or (mode_named (text_of (get_member (codes "illegal_native_access") ms))) Deny;
      grants = grants_stated ms;
      classes = each_item class_stated (items_at (get_member (codes "class") ms));
    }

-- the names of the classes, in order
abbrev pub class_names : StatedSetup → List (List ℕ)
class_names setup = map (λ c. c.name) setup.classes

-- how many classes there are: the base classes 0 to 14, and then those of the setup in the order of its text
abbrev pub class_count : StatedSetup → ℕ
class_count setup = 15 + length setup.classes
