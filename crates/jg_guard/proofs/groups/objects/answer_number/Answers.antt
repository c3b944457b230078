use Rattle.std.proofs.Common.{Some, false}
use Rattle.jg_rules.specs.Names.{names}
use Rattle.jg_guard.proofs.Slots.{has_slot}
use Rattle.jg_guard.proofs.groups.objects.answer_number.Goals as goal

pub field_of-requires-clause-named : goal.field_of-requires-clause-named
field_of-requires-clause-named g c =
    let due = c.requires in
    (has_slot _ _ due.events (Some c.args.primitive) (names due.events c.args.tid.0 c.args.object) c.args.field false false due.stand due.stated
    due.unbroken.alive due.unbroken.not_null
    due.unbroken.right_field).named

pub field_of-requires-clause-made : goal.field_of-requires-clause-made
field_of-requires-clause-made g c =
    let due = c.requires in
    rw (c.the_object.ensures due.events due.stand)
    (has_slot _ _ due.events (Some c.args.primitive) (names due.events c.args.tid.0 c.args.object) c.args.field false false due.stand due.stated
    due.unbroken.alive due.unbroken.not_null
    due.unbroken.right_field).made

pub field_of-requires-clause-fields : goal.field_of-requires-clause-fields
field_of-requires-clause-fields g c =
    let due = c.requires in
    rw (c.the_object.ensures due.events due.stand)
    (has_slot _ _ due.events (Some c.args.primitive) (names due.events c.args.tid.0 c.args.object) c.args.field false false due.stand due.stated
    due.unbroken.alive due.unbroken.not_null
    due.unbroken.right_field).fields

pub field_of-requires-clause-within : goal.field_of-requires-clause-within
field_of-requires-clause-within g c =
    let due = c.requires in
    rw (c.the_object.ensures due.events due.stand)
    (has_slot _ _ due.events (Some c.args.primitive) (names due.events c.args.tid.0 c.args.object) c.args.field false false due.stand due.stated
    due.unbroken.alive due.unbroken.not_null
    due.unbroken.right_field).within
