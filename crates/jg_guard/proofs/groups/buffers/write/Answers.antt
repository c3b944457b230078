use Rattle.std.proofs.Common.{rules, ◌≡◌, ◌∙◌, Some, sym, arith, w64}
use mir.Val.{to_z, of_z}
use Rattle.jg_table_heap.specs.Reading.{natural}
use Rattle.jg_rules.specs.Buffers.{buffer_named}
use Rattle.jg_guard.proofs.Due.{stand_at}
use Rattle.jg_guard.proofs.Buffers.{pinned_there, written_within}
use Rattle.jg_guard.proofs.groups.buffers.write.Goals as goal

pub set_element-requires-clause-made : goal.set_element-requires-clause-made
set_element-requires-clause-made g c =
    let due = c.requires in
    let seen = stand_at _ _ _ _ due.events c.view.ensures.setup c.view.ensures.rows due.stand in
    let named : buffer_named due.events c.args.buffer ≡ Some c.in-Some.info = sym (c.buffer_named-found.ensures.told due.events seen) ∙ c.in-Some.is in
    (pinned_there _ _ due.events c.args.buffer c.in-Some.info due.stand due.lent named c.in-ArrayCritical.is).made

pub set_element-requires-clause-takes : goal.set_element-requires-clause-takes
set_element-requires-clause-takes g c =
    let due = c.requires in
    let seen = stand_at _ _ _ _ due.events c.view.ensures.setup c.view.ensures.rows due.stand in
    let named : buffer_named due.events c.args.buffer ≡ Some c.in-Some.info = sym (c.buffer_named-found.ensures.told due.events seen) ∙ c.in-Some.is in
    (pinned_there _ _ due.events c.args.buffer c.in-Some.info due.stand due.lent named c.in-ArrayCritical.is).class

pub set_element-requires-clause-within : goal.set_element-requires-clause-within
set_element-requires-clause-within g c =
    let due = c.requires in
    let seen = stand_at _ _ _ _ due.events c.view.ensures.setup c.view.ensures.rows due.stand in
    let named : buffer_named due.events c.args.buffer ≡ Some c.in-Some.info = sym (c.buffer_named-found.ensures.told due.events seen) ∙ c.in-Some.is in
    let len = (pinned_there _ _ due.events c.args.buffer c.in-Some.info due.stand due.lent named c.in-ArrayCritical.is).len in
    let below = written_within _ _ c.args.tid.0 c.args.buffer c.args.index c.args.value c.in-Some.info due named in
    let place : c.natural-place.result ≡ natural c.args.index = search rules in
    omega (arith, place, below, len)

pub returns-in-Elements-clause-stands : goal.returns-in-Elements-clause-stands
returns-in-Elements-clause-stands g c = λ p stands.
    let seen = stand_at _ _ _ _ p c.view.ensures.setup c.view.ensures.rows stands in
    let named : buffer_named p c.args.buffer ≡ Some c.in-Some.info = sym (c.buffer_named-found.ensures.told p seen) ∙ c.in-Some.is in
    let place : c.from.result ≡ natural c.args.index = search rules in
    let value : to_z w64 (of_z w64 c.args.value) ≡ c.args.value = search rules in
    rw (named, c.in-Elements.is) (record {
      threads = stands.threads;
      locals = stands.locals;
      globals = stands.globals;
      buffers = rw (place, value) at c.write.ensures.stands p.buffers stands.buffers;
      monitors = stands.monitors;
      heap = stands.heap;
      links = stands.links;
    })
