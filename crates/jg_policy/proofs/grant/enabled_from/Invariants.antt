use Rattle.std.proofs.Common.{◌≡◌, take, map}
use Rattle.toml.specs.View.{items_view}
use Rattle.jg_policy.specs.Stated.{each_item, enabled_stated}
use Rattle.jg_policy.specs.Kept.{grant_view}
use Rattle.jg_policy.proofs.grant.enabled_from.Given as goal

abbrev pub invariant-loop-value : goal.invariant-loop-value
invariant-loop-value l = map grant_view l.grants.items ≡ each_item enabled_stated (items_view (take l.value-index l.values))
