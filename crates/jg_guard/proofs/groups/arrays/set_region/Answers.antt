use Rattle.std.proofs.Common.{rules, ℕ, pos, ◌≡◌, ◌+◌, ◌≤◌, length, arith}
use Rattle.jg_words.specs.declared.value.Thrown.TheVariants.{ArrayIndexOutOfBounds}
use Rattle.jg_words.specs.declared.value.Value.TheVariants.{Ok as Done}
use Rattle.jg_table_heap.specs.Reading.{natural}
use Rattle.jg_rules.specs.Parts.{Parts}
use Rattle.jg_rules.specs.Names.{the_object, length_of}
use Rattle.jg_rules.specs.Answers.{is_outside, plain}
use Rattle.jg_guard.proofs.Due.{stand_at}
use Rattle.jg_guard.proofs.Arrays.{set_region_due, is_primitive, within, not_outside}
use Rattle.jg_guard.proofs.groups.arrays.set_region.Goals as goal

pub set_region-requires-clause-made : goal.set_region-requires-clause-made
set_region-requires-clause-made g c =
    let there = set_region_due _ _ _ c.args.element c.args.array c.args.start c.args.values.now c.requires.due in
    let object = c.the_object-object.ensures c.requires.due.events
    (stand_at _ _ _ _ c.requires.due.events c.view.ensures.setup c.view.ensures.rows c.requires.due.stand) in
    rw object there.made

pub set_region-requires-clause-array : goal.set_region-requires-clause-array
set_region-requires-clause-array g c =
    let there = set_region_due _ _ _ c.args.element c.args.array c.args.start c.args.values.now c.requires.due in
    let object = c.the_object-object.ensures c.requires.due.events
    (stand_at _ _ _ _ c.requires.due.events c.view.ensures.setup c.view.ensures.rows c.requires.due.stand) in
    rw (object, there.class) (is_primitive c.args.element)

pub set_region-requires-clause-within : goal.set_region-requires-clause-within
set_region-requires-clause-within g c =
    let p : Parts = c.requires.due.events in
    let there = set_region_due _ _ _ c.args.element c.args.array c.args.start c.args.values.now c.requires.due in
    let object = c.the_object-object.ensures p (stand_at _ _ _ _ c.requires.due.events c.view.ensures.setup c.view.ensures.rows c.requires.due.stand) in
    let whole : ℕ = length_of c.args.setup.now p (the_object p c.args.tid.0 c.args.array) in
    let inside : natural c.args.start + length c.args.values.now ≤ whole =
    within c.args.start (pos (length c.args.values.now)) whole
    (not_outside c.args.setup.now p ArrayIndexOutOfBounds (is_outside c.args.start (pos (length c.args.values.now)) whole) (plain Done) c.requires.effective) in
    let same : length c.as_slice.result.now ≡ length c.args.values.now = search rules in
    let fits : natural c.args.start + length c.as_slice.result.now ≤ whole = omega (arith, inside, same) in
    let place : c.natural.result ≡ natural c.args.start = search rules in
    rw (place, object, there.len) fits
