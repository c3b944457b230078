use Rattle.std.proofs.Common.{rules, false, ℕ, pos, ◌≡◌, ◌+◌, ◌<◌, ◌≤◌, arith, ◌∙◌, ap}
use Rattle.jg_table_heap.specs.Reading.{natural}
use Rattle.jg_rules.specs.Parts.{Parts}
use Rattle.jg_rules.specs.Names.{the_object, length_of}
use Rattle.jg_rules.specs.Answers.{is_outside}
use Rattle.jg_guard.proofs.Arrays.{get_element_due, within}
use Rattle.jg_guard.proofs.groups.arrays.answer_element.Goals as goal

pub slot_of-requires-clause-made : goal.slot_of-requires-clause-made
slot_of-requires-clause-made g c =
    rw (c.the_object-object.ensures c.requires.events c.requires.stand) (get_element_due _ _ _ c.args.array c.args.index c.requires).made

pub slot_of-requires-clause-array : goal.slot_of-requires-clause-array
slot_of-requires-clause-array g c =
    let class = (get_element_due _ _ _ c.args.array c.args.index c.requires).class in
    rw (c.the_object-object.ensures c.requires.events c.requires.stand, class) (omega arith, omega arith)

pub slot_of-requires-clause-within : goal.slot_of-requires-clause-within
slot_of-requires-clause-within g c =
    let p : Parts = c.requires.events in
    let object = c.the_object-object.ensures p c.requires.stand in
    let whole : ℕ = length_of c.args.view.now.setup.now p (the_object p c.args.tid.0 c.args.array) in
    let long : c.length_of.result ≡ whole = c.length_of.ensures.told p c.requires.stand ∙ ap (length_of c.args.view.now.setup.now p) object in
    let told : is_outside c.args.index (pos 1) c.length_of.result ≡ false = search rules in
    let inside : natural c.args.index + 1 ≤ c.length_of.result = within c.args.index (pos 1) c.length_of.result told in
    let below : natural c.args.index < whole = omega (arith, inside, long) in
    let place : c.natural.result ≡ natural c.args.index = search rules in
    rw (place, object, (get_element_due _ _ _ c.args.array c.args.index c.requires).len) below
