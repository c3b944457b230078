-- Whether the names and types of a setup are spelt as such.
use Rattle.std.specs.Prelude.{Bool, ◌&&◌, List}
use Rattle.std.specs.List.{list_all}
use Rattle.jg_policy.specs.declared.names.Spelling.{Spelling}
use Rattle.jg_policy.specs.declared.names.Spelling.TheVariants.{ModuleName, ClassName, MemberName, FieldType, NativeType}
use Rattle.jg_policy.specs.Names.{accepts}
use Rattle.jg_policy.specs.Stated.{StatedMember, StatedGrant, StatedClass}

abbrev pub is_member_spelt : Spelling → StatedMember → Bool
is_member_spelt spelling m = accepts MemberName m.name && accepts spelling m.signature

abbrev pub is_class_spelt : StatedClass → Bool
is_class_spelt c =
    (accepts ClassName c.name && accepts ModuleName c.module_name)
    && (list_all (is_member_spelt FieldType) c.fields && list_all (is_member_spelt NativeType) c.natives)

abbrev pub is_grant_spelt : StatedGrant → Bool
is_grant_spelt g = accepts ModuleName g.module_name

abbrev pub are_spelt : List StatedGrant → List StatedClass → Bool
are_spelt grants classes = list_all is_grant_spelt grants && list_all is_class_spelt classes
