use Rattle.std.proofs.Common.{rules, ℕ, pos, ◌≡◌, ◌+◌, ◌<◌, ◌≤◌, arith, ◌∙◌}
use Rattle.jg_words.specs.declared.value.Thrown.TheVariants.{ArrayIndexOutOfBounds}
use Rattle.jg_words.specs.declared.value.Value.TheVariants.{Ok as Done}
use Rattle.jg_table_heap.specs.Reading.{natural}
use Rattle.jg_rules.specs.Parts.{Parts}
use Rattle.jg_rules.specs.Names.{the_object, length_of, object_named}
use Rattle.jg_rules.specs.Answers.{is_outside, plain}
use Rattle.jg_guard.proofs.Due.{stand_at}
use Rattle.jg_guard.proofs.Arrays.{set_element_due, within, not_outside, wrote_at, points}
use Rattle.jg_guard.proofs.groups.arrays.set_element.Goals as goal

pub set_element-requires-clause-made : goal.set_element-requires-clause-made
set_element-requires-clause-made g c =
    let there = set_element_due _ _ _ c.args.array c.args.index c.args.value c.requires.due in
    let object = c.the_object-object.ensures c.requires.due.events
    (stand_at _ _ _ _ c.requires.due.events c.view.ensures.setup c.view.ensures.rows c.requires.due.stand) in
    rw object there.made

pub set_element-requires-clause-takes : goal.set_element-requires-clause-takes
set_element-requires-clause-takes g c =
    let there = set_element_due _ _ _ c.args.array c.args.index c.args.value c.requires.due in
    let object = c.the_object-object.ensures c.requires.due.events
    (stand_at _ _ _ _ c.requires.due.events c.view.ensures.setup c.view.ensures.rows c.requires.due.stand) in
    rw object there.class

pub set_element-requires-clause-within : goal.set_element-requires-clause-within
set_element-requires-clause-within g c =
    let p : Parts = c.requires.due.events in
    let there = set_element_due _ _ _ c.args.array c.args.index c.args.value c.requires.due in
    let object = c.the_object-object.ensures p (stand_at _ _ _ _ c.requires.due.events c.view.ensures.setup c.view.ensures.rows c.requires.due.stand) in
    let whole : ℕ = length_of c.args.setup.now p (the_object p c.args.tid.0 c.args.array) in
    let inside : natural c.args.index + 1 ≤ whole =
    within c.args.index (pos 1) whole
    (not_outside c.args.setup.now p ArrayIndexOutOfBounds (is_outside c.args.index (pos 1) whole) (plain Done) c.requires.effective) in
    let below : natural c.args.index < whole = omega (arith, inside) in
    let place : c.natural.result ≡ natural c.args.index = search rules in
    rw (place, object, there.len) below

pub returns-clause-stands : goal.returns-clause-stands
returns-clause-stands g c = λ p stands.
    let seen = stand_at _ _ _ _ p c.view.ensures.setup c.view.ensures.rows stands in
    let object = c.the_object-object.ensures p seen in
    let target = points c.object_named-target.result (object_named p c.args.tid.0 c.args.value)
    (c.object_named-target.ensures p (stand_at _ _ _ _ p c.view-2.ensures.setup c.view-2.ensures.rows stands)) in
    let place : c.natural.result ≡ natural c.args.index = search rules in
    record {
      threads = stands.threads;
      locals = stands.locals;
      globals = stands.globals;
      buffers = stands.buffers;
      monitors = stands.monitors;
      heap = record {
        stands = wrote_at _ p.heap _ _ _ _ _ _ object place target (c.set_element.ensures.stands p.heap stands.heap.stands);
        classes = c.set_element.ensures.classes ∙ stands.heap.classes;
      };
      links = stands.links;
    }
