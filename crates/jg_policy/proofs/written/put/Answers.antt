use Rattle.std.proofs.Common.{◌≡◌, ◌∙◌, ap, string_bytes}
use Rattle.toml.specs.View.{view, members_view}
use Rattle.jg_policy.specs.Put.{put}
use Rattle.jg_policy.proofs.Putting.{members_view-insert_entry}
use Rattle.jg_policy.proofs.written.put.Goals as goal

pub returns : goal.returns
returns c =
    let name : string_bytes c.in_ok-name.name ≡ c.args.key.now = c.in_ok-name.ensures.ok in
    ap members_view c.in-Ok.ensures.entries ∙ members_view-insert_entry c.args.table.now.entries c.in_ok-name.name c.args.value
    ∙ ap (λ k. put k (view c.args.value) (members_view c.args.table.now.entries)) name
