use Rattle.std.proofs.Common.{◌≡◌, ◌++◌, map}
use Rattle.toml.specs.Data.{table}
use Rattle.toml.specs.View.{view}
use Rattle.jg_policy.specs.Kept.{class_view}
use Rattle.jg_policy.specs.Written.{class_tree}
use Rattle.jg_policy.proofs.written.classes_array.Given as goal

abbrev pub invariant-loop-name : goal.invariant-loop-name
invariant-loop-name l =
    map view l.values.items ++ map (λ c. table (class_tree c)) (map class_view l.name-iterator)
    ≡ map (λ c. table (class_tree c)) (map class_view l.classes.entries)
