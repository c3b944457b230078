use Rattle.std.proofs.Common.{rules, ◌≡◌, ◌∙◌, Some, sym, arith}
use Rattle.jg_table_heap.specs.Reading.{natural}
use Rattle.jg_rules.specs.Buffers.{buffer_named}
use Rattle.jg_guard.proofs.Buffers.{pinned_there, read_within}
use Rattle.jg_guard.proofs.groups.buffers.item_of.Goals as goal

pub slot_of-requires-clause-made : goal.slot_of-requires-clause-made
slot_of-requires-clause-made g c =
    let due = c.requires in
    let named : buffer_named due.events c.args.buffer ≡ Some c.in-Some.info = sym (c.buffer_named.ensures.told due.events due.stand) ∙ c.in-Some.is in
    (pinned_there _ _ due.events c.args.buffer c.in-Some.info due.stand due.lent named c.in-ArrayCritical.is).made

pub slot_of-requires-clause-array : goal.slot_of-requires-clause-array
slot_of-requires-clause-array g c =
    let due = c.requires in
    let named : buffer_named due.events c.args.buffer ≡ Some c.in-Some.info = sym (c.buffer_named.ensures.told due.events due.stand) ∙ c.in-Some.is in
    let class = (pinned_there _ _ due.events c.args.buffer c.in-Some.info due.stand due.lent named c.in-ArrayCritical.is).class in
    (omega (arith, class.0), class.1)

pub slot_of-requires-clause-within : goal.slot_of-requires-clause-within
slot_of-requires-clause-within g c =
    let due = c.requires in
    let named : buffer_named due.events c.args.buffer ≡ Some c.in-Some.info = sym (c.buffer_named.ensures.told due.events due.stand) ∙ c.in-Some.is in
    let len = (pinned_there _ _ due.events c.args.buffer c.in-Some.info due.stand due.lent named c.in-ArrayCritical.is).len in
    let below = read_within _ _ c.args.tid.0 c.args.buffer c.args.index c.in-Some.info due named in
    let place : c.natural-place.result ≡ natural c.args.index = search rules in
    omega (arith, place, below, len)
