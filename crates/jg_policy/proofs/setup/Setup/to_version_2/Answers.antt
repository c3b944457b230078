use Rattle.std.proofs.Common.{◌≡◌, ◌∙◌, ap, Some, string_bytes}
use Rattle.toml.specs.Parse.{parse_document}
use Rattle.toml.specs.View.{table_view}
use Rattle.jg_policy.specs.Stated.{StatedSetup}
use Rattle.jg_policy.specs.Written.{setup_tree}
use Rattle.jg_policy.proofs.Backs.{setup_flat}
use Rattle.jg_policy.proofs.Texts.{stated_back}
use Rattle.jg_policy.proofs.setup.Setup.to_version_2.Goals as goal

pub returns-in-Ok-table_to_string-clause-stated : goal.returns-in-Ok-table_to_string-clause-stated
returns-in-Ok-table_to_string-clause-stated c =
    let s = c.args.self.now in
    let tree : table_view c.in-Ok.table ≡ setup_tree s = c.in-Ok.ensures ∙ rw c.as_slice.ensures.value (ap setup_tree c.self.view_is) in
    let back : parse_document (string_bytes c.in-Ok-table_to_string.text) ≡ Some (setup_tree s) =
    c.in-Ok-table_to_string.ensures.reads_back (rw tree (setup_flat s)) ∙ ap (λ t. Some t) tree in
    stated_back s c.self.inside.grants.items c.self.inside.classes.entries (ap (λ (t : StatedSetup). t.grants) c.self.view_is)
    (ap (λ (t : StatedSetup). t.classes) c.self.view_is) c.self.invariant.fit
    (string_bytes c.in-Ok-table_to_string.text) back
