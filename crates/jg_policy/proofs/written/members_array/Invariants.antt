use Rattle.std.proofs.Common.{◌≡◌, take, map}
use Rattle.toml.specs.Data.{table}
use Rattle.toml.specs.View.{view}
use Rattle.jg_policy.specs.Kept.{member_view}
use Rattle.jg_policy.specs.Written.{member_tree}
use Rattle.jg_policy.proofs.written.members_array.Given as goal

abbrev pub invariant-loop-member : goal.invariant-loop-member
invariant-loop-member l = map view l.values.items ≡ map (λ m. table (member_tree m)) (map member_view (take l.member-index l.members))
