-- What the fields of a setup stand for.
use Rattle.std.specs.Prelude.{◌≡◌, ℕ, Bool, true, false, ◌||◌, nat_lt, List, length, map, string_bytes, String}
use Rattle.std.specs.List.{list_any}
use Rattle.std.specs.declared.alloc.Global.{Global}
use Rattle.jg_policy.specs.Stated.{StatedMember, StatedGrant, StatedClass}
use Rattle.jg_policy.specs.Findings.{states_twice}
use Rattle.jg_policy.specs.Spelt.{are_spelt}
use Rattle.jg_policy.specs.declared.class.Member.{Member}
use Rattle.jg_policy.specs.declared.class.Class.{Class}
use Rattle.jg_policy.specs.declared.grant.Grant.{Grant}

abbrev pub member_view : Member → StatedMember
member_view m = record { name = string_bytes m.name; signature = string_bytes m.signature }

abbrev pub grant_view : Grant → StatedGrant
grant_view g = record { module_name = string_bytes g.module_name; load = g.load; register = g.register; link = g.link }

-- a class under its name
abbrev pub named_class_view : List ℕ → Class → StatedClass
named_class_view name c =
    record {
      name = name;
      module_name = string_bytes c.module_name;
      throwable = c.throwable;
      fields = map member_view c.fields.keys;
      natives = map member_view c.natives.keys;
    }

-- an entry of the map of classes
abbrev pub class_view : String Global × Class → StatedClass
class_view e = named_class_view (string_bytes e.0) e.1

-- more fields or native methods than a class may have
abbrev pub has_many_kept : Class → Bool
has_many_kept c = nat_lt 100 (length c.fields.keys) || nat_lt 100 (length c.natives.keys)

-- more classes or grants than a setup may have, or such a class
abbrev pub is_large_kept : List Grant → List (String Global × Class) → Bool
is_large_kept grants classes =
    (nat_lt 1000 (length classes) || nat_lt 1000 (length grants)) || list_any has_many_kept (map (λ e. e.1) classes)

-- What is kept can be written and read back: no list is too long, nothing is stated twice, and each name and type is
-- spelt as such.
pub record AreFit (grants : List Grant) (classes : List (String Global × Class)) : Type 0 where
  pub sized : is_large_kept grants classes ≡ false
  pub distinct : states_twice (map class_view classes) ≡ false
  pub spelt : are_spelt (map grant_view grants) (map class_view classes) ≡ true
