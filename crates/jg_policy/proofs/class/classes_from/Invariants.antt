use Rattle.std.proofs.Common.{◌≡◌, take, map}
use Rattle.toml.specs.View.{items_view}
use Rattle.jg_policy.specs.Stated.{each_item, class_stated}
use Rattle.jg_policy.specs.Kept.{class_view}
use Rattle.jg_policy.proofs.class.classes_from.Given as goal

abbrev pub invariant-loop-value : goal.invariant-loop-value
invariant-loop-value l = map class_view l.classes.entries ≡ each_item class_stated (items_view (take l.value-index l.values))
