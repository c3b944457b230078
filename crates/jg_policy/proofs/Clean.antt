-- The tree of a setup whose names and types are spelt as such has no fault.
use Rattle.std.proofs.Common.{◌≡◌, ℕ, Bool, true, false, ◌&&◌, List, [], ◌∷◌, ◌++◌, map, codes, refl, ◌∙◌, ap}
use Rattle.std.proofs.lemmas.Bool.{and_parts}
use Rattle.std.specs.List.{list_all}
use Rattle.toml.specs.Data.{Data, string, table}
use Rattle.toml.specs.View.{items_of}
use Rattle.jg_policy.specs.declared.fault.SetupFault.{SetupFault}
use Rattle.jg_policy.specs.declared.mode.Mode.{Mode}
use Rattle.jg_policy.specs.declared.mode.Mode.TheVariants.{Allow, Warn, Deny}
use Rattle.jg_policy.specs.declared.names.Spelling.{Spelling}
use Rattle.jg_policy.specs.declared.names.Spelling.TheVariants.{ModuleName, ClassName, MemberName, FieldType, NativeType}
use Rattle.jg_policy.specs.Names.{accepts}
use Rattle.jg_policy.specs.Stated.{StatedMember, StatedGrant, StatedClass, StatedSetup, setup_stated}
use Rattle.jg_policy.specs.Findings.{each_of, text_faults, mode_faults, operation_faults, member_faults, class_faults, grant_faults, shape_faults, tree_faults, repeat_faults, excess_faults, states_twice, is_too_large}
use Rattle.jg_policy.specs.Spelt.{is_member_spelt, is_class_spelt, is_grant_spelt, are_spelt}
use Rattle.jg_policy.specs.Written.{member_tree, members_data, class_tree, word_if, grant_tree, mode_word, setup_tree}
use Rattle.jg_policy.proofs.Backs.{setup_back}

text_clean : (spelling : Spelling) (text : List ℕ) → accepts spelling text ≡ true → text_faults spelling (string text) ≡ []
text_clean spelling text h = rw h refl

module _ {A : Type 0} (rule : Data → List SetupFault) (write : A → Data) (spelt : A → Bool) (clean : (a : A) → spelt a ≡ true → rule (write a) ≡ []) where
  each_clean : (xs : List A) → list_all spelt xs ≡ true → each_of rule (items_of (map write xs)) ≡ []
  each_clean [] h = refl
  each_clean (x ∷ xs) h =
      let both = and_parts (spelt x) (list_all spelt xs) h in
      rw (clean x both.0, each_clean xs both.1) refl

member_clean : (spelling : Spelling) (m : StatedMember) → is_member_spelt spelling m ≡ true → member_faults spelling (table (member_tree m)) ≡ []
member_clean spelling m h =
    let both = and_parts (accepts MemberName m.name) (accepts spelling m.signature) h in
    rw (text_clean MemberName m.name both.0, text_clean spelling m.signature both.1) refl

members_clean : (spelling : Spelling) (ms : List StatedMember) → list_all (is_member_spelt spelling) ms ≡ true
    → each_of (member_faults spelling) (items_of (members_data ms)) ≡ []
members_clean spelling ms = each_clean (member_faults spelling) (λ m. table (member_tree m)) (is_member_spelt spelling) (member_clean spelling) ms

class_clean : (c : StatedClass) → is_class_spelt c ≡ true → class_faults (table (class_tree c)) ≡ []
class_clean c h =
    let halves = and_parts (accepts ClassName c.name && accepts ModuleName c.module_name)
    (list_all (is_member_spelt FieldType) c.fields && list_all (is_member_spelt NativeType) c.natives) h in
    let names = and_parts (accepts ClassName c.name) (accepts ModuleName c.module_name) halves.0 in
    let members = and_parts (list_all (is_member_spelt FieldType) c.fields) (list_all (is_member_spelt NativeType) c.natives) halves.1 in
    rw (
      text_clean ClassName c.name names.0,
      text_clean ModuleName c.module_name names.1,
      members_clean FieldType c.fields members.0,
      members_clean NativeType
          c.natives members.1,
    ) refl

words_clean : (load register link : Bool)
    → each_of operation_faults (items_of ((word_if load (codes "load") ++ word_if register (codes "register")) ++ word_if link (codes "link"))) ≡ []
words_clean true true true = refl
words_clean true true false = refl
words_clean true false true = refl
words_clean true false false = refl
words_clean false true true = refl
words_clean false true false = refl
words_clean false false true = refl
words_clean false false false = refl

grant_clean : (g : StatedGrant) → is_grant_spelt g ≡ true → grant_faults (table (grant_tree g)) ≡ []
grant_clean g h = rw (text_clean ModuleName g.module_name h, words_clean g.load g.register g.link) refl

mode_clean : (m : Mode) → mode_faults (string (mode_word m)) ≡ []
mode_clean Allow = refl
mode_clean Warn = refl
mode_clean Deny = refl

shape_clean : (s : StatedSetup) → are_spelt s.grants s.classes ≡ true → shape_faults (setup_tree s) ≡ []
shape_clean s h =
    let both = and_parts (list_all is_grant_spelt s.grants) (list_all is_class_spelt s.classes) h in
    rw (
      mode_clean s.mode,
      each_clean grant_faults (λ g. table (grant_tree g)) is_grant_spelt grant_clean s.grants both.0,
      each_clean class_faults (λ c. table (class_tree c)) is_class_spelt class_clean s.classes both.1,
    ) refl

no_more : (s : StatedSetup) → states_twice s.classes ≡ false → is_too_large s ≡ false → repeat_faults s ++ excess_faults s ≡ []
no_more s once small = rw (once, small) refl

pub tree_clean : (s : StatedSetup) → are_spelt s.grants s.classes ≡ true → states_twice s.classes ≡ false → is_too_large s ≡ false
    → tree_faults (setup_tree s) ≡ []
tree_clean s spelt once small =
    ap (λ found. found ++ (repeat_faults (setup_stated (setup_tree s)) ++ excess_faults (setup_stated (setup_tree s)))) (shape_clean s spelt)
    ∙ ap (λ t. repeat_faults t ++ excess_faults t) (setup_back s) ∙ no_more s once small
