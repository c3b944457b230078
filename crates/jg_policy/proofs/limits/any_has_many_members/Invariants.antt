use Rattle.std.proofs.Common.{◌≡◌, take, false}
use Rattle.std.specs.List.{list_any}
use Rattle.toml.specs.View.{items_view}
use Rattle.jg_policy.specs.Stated.{class_stated, each_item}
use Rattle.jg_policy.specs.Findings.{has_many_members}
use Rattle.jg_policy.proofs.limits.any_has_many_members.Given as goal

abbrev pub invariant-loop-class : goal.invariant-loop-class
invariant-loop-class l = list_any has_many_members (each_item class_stated (items_view (take l.class-index l.classes))) ≡ false
