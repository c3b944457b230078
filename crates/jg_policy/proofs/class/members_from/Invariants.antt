use Rattle.std.proofs.Common.{◌≡◌, take, map}
use Rattle.toml.specs.View.{items_view}
use Rattle.jg_policy.specs.Stated.{each_item, member_stated}
use Rattle.jg_policy.specs.Kept.{member_view}
use Rattle.jg_policy.proofs.class.members_from.Given as goal

abbrev pub invariant-loop-value : goal.invariant-loop-value
invariant-loop-value l = map member_view l.members.keys ≡ each_item member_stated (items_view (take l.value-index l.values))
