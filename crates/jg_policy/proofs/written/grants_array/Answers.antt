use Rattle.std.proofs.Common.{◌≡◌, ◌<◌, ◌∙◌, length, arith}
use Rattle.toml.specs.Data.{table}
use Rattle.toml.specs.View.{view}
use Rattle.jg_policy.specs.Kept.{grant_view}
use Rattle.jg_policy.specs.Written.{grant_tree}
use Rattle.jg_policy.proofs.Arrays.{written_more}
use Rattle.jg_policy.proofs.written.grants_array.Goals as goal

pub loop-grant-preserved : goal.loop-grant-preserved
loop-grant-preserved c =
    let below : c.loop-grant.grant-index < length c.args.grants.now = omega arith in
    let written : view c.from.result ≡ table (grant_tree (grant_view c.grant-item.result)) = c.from.ensures ∙ rw c.in_ok-grant_table.ensures in
    rw c.in_ok-push.ensures.items
    (written_more view grant_view (λ m. table (grant_tree m)) c.loop-grant.values.items c.from.result c.args.grants.now
    c.loop-grant.grant-index c.grant-item.result below c.grant-item.is written c.loop-grant.invariant)
