use Rattle.std.proofs.Common.{rules, ◌≡◌, Some, false, ◌∙◌}
use Rattle.jg_table_heap.specs.declared.object.Slot.TheVariants.{Number}
use Rattle.jg_rules.specs.Names.{names, slot_place}
use Rattle.jg_guard.proofs.Due.{stand_at}
use Rattle.jg_guard.proofs.Arrays.{wrote_at}
use Rattle.jg_guard.proofs.Slots.{has_slot}
use Rattle.jg_guard.proofs.groups.objects.set_number.Goals as goal

pub slot_place_of-requires : goal.slot_place_of-requires
slot_place_of-requires g c =
    let due = c.requires.due in
    (has_slot _ _ due.events (Some c.args.primitive) (names due.events c.args.tid.0 c.args.object) c.args.field false false due.stand due.stated
    due.unbroken.alive due.unbroken.not_null
    due.unbroken.right_field).named

pub set_field-requires-clause-made : goal.set_field-requires-clause-made
set_field-requires-clause-made g c =
    let due = c.requires.due in
    rw (c.the_object-object.ensures due.events (stand_at _ _ _ _ due.events c.view.ensures.setup c.view.ensures.rows due.stand))
    (has_slot _ _ due.events (Some c.args.primitive) (names due.events c.args.tid.0 c.args.object) c.args.field false false due.stand due.stated
    due.unbroken.alive due.unbroken.not_null
    due.unbroken.right_field).made

pub set_field-requires-clause-fields : goal.set_field-requires-clause-fields
set_field-requires-clause-fields g c =
    let due = c.requires.due in
    rw (c.the_object-object.ensures due.events (stand_at _ _ _ _ due.events c.view.ensures.setup c.view.ensures.rows due.stand))
    (has_slot _ _ due.events (Some c.args.primitive) (names due.events c.args.tid.0 c.args.object) c.args.field false false due.stand due.stated
    due.unbroken.alive due.unbroken.not_null
    due.unbroken.right_field).fields

pub set_field-requires-clause-within : goal.set_field-requires-clause-within
set_field-requires-clause-within g c =
    let due = c.requires.due in
    let place : c.slot_place_of.result ≡ slot_place c.args.field = search rules in
    rw (place, c.the_object-object.ensures due.events (stand_at _ _ _ _ due.events c.view.ensures.setup c.view.ensures.rows due.stand))
    (has_slot _ _ due.events (Some c.args.primitive) (names due.events c.args.tid.0 c.args.object) c.args.field false false due.stand due.stated
    due.unbroken.alive due.unbroken.not_null
    due.unbroken.right_field).within

pub returns-clause-stands : goal.returns-clause-stands
returns-clause-stands g c = λ p stands.
    let object = c.the_object-object.ensures p (stand_at _ _ _ _ p c.view.ensures.setup c.view.ensures.rows stands) in
    let place : c.slot_place_of.result ≡ slot_place c.args.field = search rules in
    let value : c.holding.result ≡ Number c.args.value = search rules in
    record {
      threads = stands.threads;
      locals = stands.locals;
      globals = stands.globals;
      buffers = stands.buffers;
      monitors = stands.monitors;
      heap = record {
        stands = wrote_at _ p.heap _ _ _ _ _ _ object place value (c.set_field.ensures.stands p.heap stands.heap.stands);
        classes = c.set_field.ensures.classes ∙ stands.heap.classes;
      };
      links = stands.links;
    }
