-- A setup is what the tree of its text states.
use Rattle.std.proofs.Common.{◌≡◌, ℕ, ◌≤◌, Bool, true, false, List, [], ◌∷◌, ◌++◌, map, codes, refl, arith}
use Rattle.std.specs.Prelude.{unwrap_or}
use Rattle.std.proofs.lemmas.Bool.Decides.{nat_tests}
use Rattle.toml.specs.Data.{Data, table, depth, items_depth, members_depth}
use Rattle.toml.specs.View.{items_of}
use Rattle.jg_policy.specs.declared.mode.Mode.{Mode}
use Rattle.jg_policy.specs.declared.mode.Mode.TheVariants.{Allow, Warn, Deny}
use Rattle.jg_policy.specs.Stated.{StatedMember, StatedGrant, StatedClass, StatedSetup, each_item, text_item, member_stated, class_stated, grant_of, grant_stated, setup_stated, mode_named}
use Rattle.jg_policy.specs.Written.{member_tree, members_data, class_tree, word_if, operation_data, grant_tree, mode_word, setup_tree}

module _ {A : Type 0} (f : Data → A) (write : A → Data) (back : (a : A) → f (write a) ≡ a) where
  each_back : (xs : List A) → each_item f (items_of (map write xs)) ≡ xs
  each_back [] = refl
  each_back (x ∷ xs) = rw (back x, each_back xs) refl

member_back : (m : StatedMember) → member_stated (table (member_tree m)) ≡ m
member_back m = refl

members_back : (ms : List StatedMember) → each_item member_stated (items_of (members_data ms)) ≡ ms
members_back ms = each_back member_stated (λ m. table (member_tree m)) member_back ms

class_back : (c : StatedClass) → class_stated (table (class_tree c)) ≡ c
class_back c = rw (members_back c.fields, members_back c.natives) refl

words_back : (name : List ℕ) (load register link : Bool)
    → grant_of name (each_item text_item (items_of ((word_if load (codes "load") ++ word_if register (codes "register")) ++ word_if link (codes "link"))))
    ≡ record { module_name = name; load = load; register = register; link = link }
words_back name true true true = refl
words_back name true true false = refl
words_back name true false true = refl
words_back name true false false = refl
words_back name false true true = refl
words_back name false true false = refl
words_back name false false true = refl
words_back name false false false = refl

grant_back : (g : StatedGrant) → grant_stated (table (grant_tree g)) ≡ g
grant_back g = words_back g.module_name g.load g.register g.link

mode_back : (m : Mode) → unwrap_or (mode_named (mode_word m)) Deny ≡ m
mode_back Allow = refl
mode_back Warn = refl
mode_back Deny = refl

pub setup_back : (s : StatedSetup) → setup_stated (setup_tree s) ≡ s
setup_back s =
    rw (
      mode_back s.mode,
      each_back grant_stated (λ g. table (grant_tree g)) grant_back s.grants,
      each_back class_stated (λ c. table (class_tree c)) class_back
          s.classes,
    ) refl

-- ---- the tree isn't deep

module _ {A : Type 0} (write : A → Data) (n : ℕ) (flat : (a : A) → depth (write a) ≤ n) where
  each_flat : (xs : List A) → items_depth (items_of (map write xs)) ≤ n
  each_flat [] = omega arith
  each_flat (x ∷ xs) =
      let first : depth (write x) ≤ n = flat x in
      let rest : items_depth (items_of (map write xs)) ≤ n = each_flat xs in
      grind (arith, nat_tests)

members_flat : (ms : List StatedMember) → items_depth (items_of (members_data ms)) ≤ 1
members_flat ms = each_flat (λ m. table (member_tree m)) 1 (λ m. omega arith) ms

class_flat : (c : StatedClass) → depth (table (class_tree c)) ≤ 3
class_flat c =
    let fields : items_depth (items_of (members_data c.fields)) ≤ 1 = members_flat c.fields in
    let natives : items_depth (items_of (members_data c.natives)) ≤ 1 = members_flat c.natives in
    grind (arith, nat_tests)

words_flat : (load register link : Bool)
    → items_depth (items_of ((word_if load (codes "load") ++ word_if register (codes "register")) ++ word_if link (codes "link"))) ≤ 0
words_flat true true true = omega arith
words_flat true true false = omega arith
words_flat true false true = omega arith
words_flat true false false = omega arith
words_flat false true true = omega arith
words_flat false true false = omega arith
words_flat false false true = omega arith
words_flat false false false = omega arith

grant_flat : (g : StatedGrant) → depth (table (grant_tree g)) ≤ 3
grant_flat g =
    let words : items_depth (items_of (operation_data g)) ≤ 0 = words_flat g.load g.register g.link in
    grind (arith, nat_tests)

pub setup_flat : (s : StatedSetup) → members_depth (setup_tree s) ≤ 80
setup_flat s =
    let classes : items_depth (items_of (map (λ c. table (class_tree c)) s.classes)) ≤ 3 = each_flat (λ c. table (class_tree c)) 3 class_flat s.classes in
    let grants : items_depth (items_of (map (λ g. table (grant_tree g)) s.grants)) ≤ 3 = each_flat (λ g. table (grant_tree g)) 3 grant_flat s.grants in
    grind (arith, nat_tests)
