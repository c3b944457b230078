use Rattle.std.proofs.Common.{◌≡◌, take, map}
use Rattle.toml.specs.Data.{table}
use Rattle.toml.specs.View.{view}
use Rattle.jg_policy.specs.Kept.{grant_view}
use Rattle.jg_policy.specs.Written.{grant_tree}
use Rattle.jg_policy.proofs.written.grants_array.Given as goal

abbrev pub invariant-loop-grant : goal.invariant-loop-grant
invariant-loop-grant l = map view l.values.items ≡ map (λ m. table (grant_tree m)) (map grant_view (take l.grant-index l.grants))
