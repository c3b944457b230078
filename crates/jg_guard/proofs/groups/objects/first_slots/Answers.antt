use Rattle.std.proofs.Common.{◌≤◌, ◌∙◌, ap, map, length, arith}
use Rattle.std.proofs.lemmas.List.{take_all}
use Rattle.jg_policy.specs.Classes.{class_at, fields_in}
use Rattle.jg_rules.specs.Effects.{first_value}
use Rattle.jg_guard.proofs.Fields.{next_slot}
use Rattle.jg_guard.proofs.groups.objects.first_slots.Goals as goal

pub loop-i-preserved : goal.loop-i-preserved
loop-i-preserved g c =
    next_slot (fields_in (class_at c.args.setup.now c.args.class)) c.loop-i.i c.field_count-i-end.result c.loop-i.slots.items c.push.new.self.items
    c.first_slot.result _
    c.field_count-i-end.ensures.count c.loop-i-test.true c.loop-i.invariant c.field_type-signature.ensures c.first_slot.ensures c.in_ok-push.ensures.items

pub returns : goal.returns
returns g c =
    let all : length (fields_in (class_at c.args.setup.now c.args.class)) ≤ c.loop-i.i = omega (arith, c.field_count-i-end.ensures.count) in
    c.loop-i.invariant ∙ ap (map first_value) (take_all c.loop-i.i (fields_in (class_at c.args.setup.now c.args.class)) all)
