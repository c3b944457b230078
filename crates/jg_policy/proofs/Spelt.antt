-- Where no fault of shape or spelling is found, what is stated is spelt as it must be.
use Rattle.std.proofs.Common.{◌≡◌, ℕ, Bool, true, false, not, if◌then◌else◌, ◌&&◌, List, [], ◌∷◌, ◌++◌, Option, Some, None, codes, refl}
use Rattle.std.specs.Prelude.{unwrap_or}
use Rattle.std.specs.List.{list_all}
use Rattle.std.proofs.lemmas.Bool.{and_from}
use Rattle.toml.specs.Data.{Data, Items, no_items, item, Members, no_members, get_member, as_str, as_array, as_table}
use Rattle.jg_policy.specs.declared.fault.SetupFault.{SetupFault}
use Rattle.jg_policy.specs.declared.fault.SetupFault.TheVariants.{BadName, UnknownKey}
use Rattle.jg_policy.specs.declared.names.Spelling.{Spelling}
use Rattle.jg_policy.specs.declared.names.Spelling.TheVariants.{ModuleName, ClassName, MemberName, FieldType, NativeType}
use Rattle.jg_policy.specs.Names.{accepts}
use Rattle.jg_policy.specs.Stated.{text_of, text_item, each_item, items_at, members_of, member_stated_in, member_stated, class_stated_in, class_stated, grant_stated_in, grant_stated, enabled_stated, is_version_2, grants_stated, setup_stated}
use Rattle.jg_policy.specs.Findings.{fault_if, required, optional, of_type, each_of, text_faults, array_faults, operation_faults, truth_faults, has_unknown_key, member_keys, class_keys, grant_keys, member_table_faults, member_faults, class_names_faults, class_heading_faults, class_parts_faults, class_table_faults, class_faults, grant_table_faults, grant_faults, granting_faults, setup_heading_faults, setup_lists_faults, shape_faults}
use Rattle.jg_policy.specs.Spelt.{is_member_spelt, is_class_spelt, is_grant_spelt, are_spelt}

no_first : (xs ys : List SetupFault) → xs ++ ys ≡ [] → xs ≡ []
no_first [] ys h = refl
no_first (x ∷ xs) ys h = absurd (let no : ⊥ = cc in no)

no_second : (xs ys : List SetupFault) → xs ++ ys ≡ [] → ys ≡ []
no_second [] ys h = h
no_second (x ∷ xs) ys h = absurd (let no : ⊥ = cc in no)

not_found : (b : Bool) (f : SetupFault) → fault_if (not b) f ≡ [] → b ≡ true
not_found true f h = refl
not_found false f h = absurd (let no : ⊥ = cc in no)

text_spelt : (spelling : Spelling) (d : Data) → text_faults spelling d ≡ [] → accepts spelling (text_item d) ≡ true
text_spelt spelling d = by (as_str d)
  where
    by : (o : Option (List ℕ)) → of_type (λ text. fault_if (not (accepts spelling text)) BadName) o ≡ [] → accepts spelling (unwrap_or o []) ≡ true
    by None h = absurd (let no : ⊥ = cc in no)
    by (Some text) h = not_found (accepts spelling text) BadName h

required_spelt : (spelling : Spelling) (o : Option Data) → required (text_faults spelling) o ≡ [] → accepts spelling (text_of o) ≡ true
required_spelt spelling None h = absurd (let no : ⊥ = cc in no)
required_spelt spelling (Some d) h = text_spelt spelling d h

module _ {A : Type 0} (rule : Data → List SetupFault) (f : Data → A) (spelt : A → Bool) (good : (d : Data) → rule d ≡ [] → spelt (f d) ≡ true) where
  each_spelt : (ds : Items) → each_of rule ds ≡ [] → list_all spelt (each_item f ds) ≡ true
  each_spelt no_items h = refl
  each_spelt (item d ds) h =
      and_from (spelt (f d)) (list_all spelt (each_item f ds)) (good d (no_first (rule d) (each_of rule ds) h))
      (each_spelt ds (no_second (rule d) (each_of rule ds) h))

  array_spelt : (o : Option Data) → optional (array_faults rule) o ≡ [] → list_all spelt (each_item f (items_at o)) ≡ true
  array_spelt None h = refl
  array_spelt (Some d) h = by (as_array d) h
    where
      by : (a : Option Items) → of_type (each_of rule) a ≡ [] → list_all spelt (each_item f (unwrap_or a no_items)) ≡ true
      by None h = refl
      by (Some ds) h = each_spelt ds h

-- a rule for a table, whose finding nothing tells of what the table states
module _ {A : Type 0} (rule : Members → List SetupFault) (f : Members → A) (spelt : A → Bool) (good : (ms : Members) → rule ms ≡ [] → spelt (f ms) ≡ true) where
  table_spelt : (d : Data) → of_type rule (as_table d) ≡ [] → spelt (f (members_of d)) ≡ true
  table_spelt d = by (as_table d)
    where
      by : (o : Option Members) → of_type rule o ≡ [] → spelt (f (unwrap_or o no_members)) ≡ true
      by None h = absurd (let no : ⊥ = cc in no)
      by (Some ms) h = good ms h

member_table_spelt : (spelling : Spelling) (ms : Members) → member_table_faults spelling ms ≡ [] → is_member_spelt spelling (member_stated_in ms) ≡ true
member_table_spelt spelling ms h =
    let rest = no_second (fault_if (has_unknown_key member_keys ms) UnknownKey) _ h in
    and_from _ _ (required_spelt MemberName (get_member (codes "name") ms) (no_first _ _ rest))
    (required_spelt spelling (get_member (codes "type") ms) (no_second _ _ rest))

member_spelt : (spelling : Spelling) (d : Data) → member_faults spelling d ≡ [] → is_member_spelt spelling (member_stated d) ≡ true
member_spelt spelling = table_spelt (member_table_faults spelling) member_stated_in (is_member_spelt spelling) (member_table_spelt spelling)

class_table_spelt : (ms : Members) → class_table_faults ms ≡ [] → is_class_spelt (class_stated_in ms) ≡ true
class_table_spelt ms h =
    let heading = no_first (class_heading_faults ms) (class_parts_faults ms) h in
    let parts = no_second (class_heading_faults ms) (class_parts_faults ms) h in
    let names = no_second (fault_if (has_unknown_key class_keys ms) UnknownKey) (class_names_faults ms) heading in
    let name = no_first (required (text_faults ClassName) (get_member (codes "name") ms)) _ names in
    let module_name = no_second (required (text_faults ClassName) (get_member (codes "name") ms)) _ names in
    let lists = no_second (optional truth_faults (get_member (codes "throwable") ms)) _ parts in
    let fields = no_first (optional (array_faults (member_faults FieldType)) (get_member (codes "fields") ms)) _ lists in
    let natives = no_second (optional (array_faults (member_faults FieldType)) (get_member (codes "fields") ms)) _ lists in
    and_from _ _
    (and_from _ _ (required_spelt ClassName (get_member (codes "name") ms) name) (required_spelt ModuleName (get_member (codes "module") ms) module_name))
    (and_from _ _
    (array_spelt (member_faults FieldType) member_stated (is_member_spelt FieldType) (member_spelt FieldType) (get_member (codes "fields") ms) fields)
    (array_spelt (member_faults NativeType) member_stated (is_member_spelt NativeType) (member_spelt NativeType) (get_member (codes "natives") ms) natives))

class_spelt : (d : Data) → class_faults d ≡ [] → is_class_spelt (class_stated d) ≡ true
class_spelt = table_spelt class_table_faults class_stated_in is_class_spelt class_table_spelt

grant_table_spelt : (ms : Members) → grant_table_faults ms ≡ [] → is_grant_spelt (grant_stated_in ms) ≡ true
grant_table_spelt ms h =
    let rest = no_second (fault_if (has_unknown_key grant_keys ms) UnknownKey) _ h in
    required_spelt ModuleName (get_member (codes "module") ms) (no_first _ (required (array_faults operation_faults) (get_member (codes "operations") ms)) rest)

grant_spelt : (d : Data) → grant_faults d ≡ [] → is_grant_spelt (grant_stated d) ≡ true
grant_spelt = table_spelt grant_table_faults grant_stated_in is_grant_spelt grant_table_spelt

grants_spelt : (ms : Members) → granting_faults ms ≡ [] → list_all is_grant_spelt (grants_stated ms) ≡ true
grants_spelt ms = by (is_version_2 ms)
  where
    by : (b : Bool) → (if b then optional (array_faults grant_faults) (get_member (codes "grant") ms)
        else optional (array_faults (text_faults ModuleName)) (get_member (codes "enable_native_access") ms)) ≡ []
        → list_all is_grant_spelt (if b then each_item grant_stated (items_at (get_member (codes "grant") ms))
        else each_item enabled_stated (items_at (get_member (codes "enable_native_access") ms))) ≡ true
    by true h = array_spelt grant_faults grant_stated is_grant_spelt grant_spelt (get_member (codes "grant") ms) h
    by false h = array_spelt (text_faults ModuleName) enabled_stated is_grant_spelt (text_spelt ModuleName) (get_member (codes "enable_native_access") ms) h

pub setup_spelt : (ms : Members) → shape_faults ms ≡ [] → are_spelt (setup_stated ms).grants (setup_stated ms).classes ≡ true
setup_spelt ms h =
    let lists = no_second (setup_heading_faults ms) (setup_lists_faults ms) h in
    and_from _ _ (grants_spelt ms (no_first (granting_faults ms) _ lists))
    (array_spelt class_faults class_stated is_class_spelt class_spelt (get_member (codes "class") ms) (no_second (granting_faults ms) _ lists))
