use Rattle.std.proofs.Common.{◌≡◌, map, take}
use Rattle.jg_policy.specs.Classes.{class_at, fields_in}
use Rattle.jg_rules.specs.Effects.{first_value}
use Rattle.jg_guard.proofs.groups.objects.first_slots.Given as goal

abbrev pub invariant-loop-i : goal.invariant-loop-i
invariant-loop-i g l = l.slots.items ≡ map first_value (take l.i (fields_in (class_at l.setup l.class)))
