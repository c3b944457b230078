use Rattle.std.proofs.Common.{◌≡◌, ◌<◌, ◌∙◌, length, arith}
use Rattle.toml.specs.Data.{table}
use Rattle.toml.specs.View.{view}
use Rattle.jg_policy.specs.Kept.{member_view}
use Rattle.jg_policy.specs.Written.{member_tree}
use Rattle.jg_policy.proofs.Arrays.{written_more}
use Rattle.jg_policy.proofs.written.members_array.Goals as goal

pub loop-member-preserved : goal.loop-member-preserved
loop-member-preserved c =
    let below : c.loop-member.member-index < length c.args.members.now = omega arith in
    let written : view c.from.result ≡ table (member_tree (member_view c.member-item.result)) = c.from.ensures ∙ rw c.in_ok-member_table.ensures in
    rw c.in_ok-push.ensures.items
    (written_more view member_view (λ m. table (member_tree m)) c.loop-member.values.items c.from.result c.args.members.now
    c.loop-member.member-index c.member-item.result below c.member-item.is written c.loop-member.invariant)
