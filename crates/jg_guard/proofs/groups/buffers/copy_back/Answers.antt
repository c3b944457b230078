use Rattle.std.proofs.Common.{◌≡◌, ◌∙◌, Some, sym, arith}
use Rattle.jg_rules.specs.Buffers.{buffer_named}
use Rattle.jg_guard.proofs.Due.{stand_at}
use Rattle.jg_guard.proofs.Arrays.{is_primitive}
use Rattle.jg_guard.proofs.Buffers.{released_object, released_there, back_fits}
use Rattle.jg_guard.proofs.groups.buffers.copy_back.Goals as goal

pub set_region-requires-clause-made : goal.set_region-requires-clause-made
set_region-requires-clause-made g c =
    let due = c.requires in
    let seen = stand_at _ _ _ _ due.events c.view.ensures.setup c.view.ensures.rows due.stand in
    let named : buffer_named due.events c.args.buffer ≡ Some c.in-Some.info = sym (c.buffer_named-found.ensures.told due.events seen) ∙ c.in-Some.is in
    rw (released_object _ _ _ c.args.element c.args.array c.args.buffer c.args.mode due c.in-Some.info named)
    (released_there _ _ _ c.args.element c.args.array c.args.buffer c.args.mode due).made

pub set_region-requires-clause-array : goal.set_region-requires-clause-array
set_region-requires-clause-array g c =
    let due = c.requires in
    let seen = stand_at _ _ _ _ due.events c.view.ensures.setup c.view.ensures.rows due.stand in
    let named : buffer_named due.events c.args.buffer ≡ Some c.in-Some.info = sym (c.buffer_named-found.ensures.told due.events seen) ∙ c.in-Some.is in
    let there = released_there _ _ _ c.args.element c.args.array c.args.buffer c.args.mode due in
    rw (released_object _ _ _ c.args.element c.args.array c.args.buffer c.args.mode due c.in-Some.info named, there.class) (is_primitive c.args.element)

pub set_region-requires-clause-within : goal.set_region-requires-clause-within
set_region-requires-clause-within g c =
    let due = c.requires in
    let seen = stand_at _ _ _ _ due.events c.view.ensures.setup c.view.ensures.rows due.stand in
    let named : buffer_named due.events c.args.buffer ≡ Some c.in-Some.info = sym (c.buffer_named-found.ensures.told due.events seen) ∙ c.in-Some.is in
    let there = released_there _ _ _ c.args.element c.args.array c.args.buffer c.args.mode due in
    let items = c.commit-items.ensures.stands due.events.buffers due.stand.buffers in
    let fits = back_fits _ _ _ c.args.element c.args.array c.args.buffer c.args.mode due in
    rw (released_object _ _ _ c.args.element c.args.array c.args.buffer c.args.mode due c.in-Some.info named, items, there.len) (omega (arith, fits))
