use Rattle.std.proofs.Common.{◌≡◌, ◌∙◌, rules, w32}
use mir.Val.{to_z, of_z}
use Rattle.jg_table_heap.specs.Reading.{natural}
use Rattle.jg_rules.specs.Names.{object_named}
use Rattle.jg_guard.proofs.Due.{stand_at}
use Rattle.jg_guard.proofs.Arrays.{filled_at, points}
use Rattle.jg_guard.proofs.groups.arrays.perform_arrays.Goals as goal

pub set_region-requires : goal.set_region-requires
set_region-requires g c =
    let plain : to_z w32 (of_z w32 c.in-SetArrayRegion.start) ≡ c.in-SetArrayRegion.start = search rules in
    rw plain (rw c.in-SetArrayRegion.is at c.requires)

pub set_element-requires : goal.set_element-requires
set_element-requires g c =
    let plain : to_z w32 (of_z w32 c.in-SetObjectArrayElement.index) ≡ c.in-SetObjectArrayElement.index = search rules in
    rw plain (rw c.in-SetObjectArrayElement.is at c.requires)

pub returns-in_ok-alloc-in-NewObjectArray-clause-stands : goal.returns-in_ok-alloc-in-NewObjectArray-clause-stands
returns-in_ok-alloc-in-NewObjectArray-clause-stands g c = λ p stands.
    let seen = stand_at _ _ _ _ p c.view.ensures.setup c.view.ensures.rows stands in
    let target = points c.object_named-first.result (object_named p c.args.tid.0 c.in-NewObjectArray.fill) (c.object_named-first.ensures p seen) in
    let size : c.natural-in-NewObjectArray.result ≡ natural c.in-NewObjectArray.length = search rules in
    rw c.in-NewObjectArray.is (record {
      threads = stands.threads;
      locals = stands.locals;
      globals = stands.globals;
      buffers = stands.buffers;
      monitors = stands.monitors;
      heap = record {
        stands = filled_at _ p.heap _ _ _ _ size target (c.in_ok-alloc-in-NewObjectArray.ensures.stands p.heap stands.heap.stands);
        classes = c.in_ok-alloc-in-NewObjectArray.ensures.classes ∙ stands.heap.classes;
      };
      links = stands.links;
    })
