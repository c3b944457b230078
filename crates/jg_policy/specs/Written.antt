-- The tree of the text of version 2 that a setup is written as. Its keys ascend.
use Rattle.std.specs.Prelude.{ℕ, pos, Bool, if◌then◌else◌, List, [], ◌∷◌, ◌++◌, map, codes}
use Rattle.toml.specs.Data.{Data, string, integer, boolean, array, table, Members, no_members, member}
use Rattle.toml.specs.View.{items_of}
use Rattle.jg_policy.specs.declared.mode.Mode.{Mode}
use Rattle.jg_policy.specs.declared.mode.Mode.TheVariants.{Allow, Warn, Deny}
use Rattle.jg_policy.specs.Stated.{StatedMember, StatedGrant, StatedClass, StatedSetup}

abbrev pub member_tree : StatedMember → Members
member_tree m = member (codes "name") (string m.name) (member (codes "type") (string m.signature) no_members)

abbrev pub members_data : List StatedMember → List Data
members_data ms = map (λ m. table (member_tree m)) ms

abbrev pub class_tree : StatedClass → Members
class_tree c =
    member (codes "fields") (array (items_of (members_data c.fields)))
    (member (codes "module") (string c.module_name)
    (member (codes "name") (string c.name)
    (member (codes "natives") (array (items_of (members_data c.natives)))
    (member (codes "throwable") (boolean c.throwable) no_members))))

-- the word, where the use that it names is granted
abbrev pub word_if : Bool → List ℕ → List Data
word_if granted word = if granted then string word ∷ [] else []

abbrev pub operation_data : StatedGrant → List Data
operation_data g =
    (word_if g.load (codes "load") ++ word_if g.register (codes "register")) ++ word_if g.link (codes "link")

abbrev pub grant_tree : StatedGrant → Members
grant_tree g =
    member (codes "module") (string g.module_name)
    (member (codes "operations") (array (items_of (operation_data g))) no_members)

abbrev pub mode_word : Mode → List ℕ
mode_word Allow = codes "allow"
mode_word Warn = codes "warn"
mode_word Deny = codes "deny"

abbrev pub setup_tree : StatedSetup → Members
setup_tree s =
    member (codes "class") (array (items_of (map (λ c. table (class_tree c)) s.classes)))
    (member (codes "grant") (array (items_of (map (λ g. table (grant_tree g)) s.grants)))
    (member (codes "illegal_native_access") (string (mode_word s.mode))
    (member (codes "version") (integer (pos 2)) no_members)))
