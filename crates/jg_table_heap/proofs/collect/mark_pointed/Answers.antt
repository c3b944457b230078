use Rattle.std.proofs.Common.{ap, sym, ◌∙◌, arith, get_or, map, length, List, ◌≡◌, ◌<◌}
use Rattle.std.specs.List.{list_any}
use Rattle.std.proofs.lemmas.List.{get_or-map}
use Rattle.jg_lists.proofs.Marks.{marks_stay, marks_item, marks_all}
use Rattle.jg_lists.proofs.Visited.{marks_alike}
use Rattle.jg_table_heap.specs.History.{holds}
use Rattle.jg_table_heap.specs.Kept.{row_of_body, slot_of_row_holds}
use Rattle.jg_table_heap.specs.Rows.{Row, row_in, no_row}
use Rattle.jg_table_heap.proofs.collect.mark_pointed.Goals as goal

pub loop-object-init : goal.loop-object-init
loop-object-init g c = marks_stay _

pub loop-object-preserved : goal.loop-object-preserved
loop-object-preserved g c =
    let rows : List Row = map row_of_body c.args.objects.now in
    let i = c.loop-object.object-index in
    let p = get_or c.args.pointing.now i 0 in
    let inside : p < length c.args.objects.now = c.requires i 0 c.loop-object-test.true in
    let row : row_of_body c.index-objects-object.result ≡ row_in rows p =
    ap row_of_body c.index-objects-object.is
    ∙ sym (get_or-map row_of_body c.args.objects.now p c.index-objects-object.result no_row inside) in
    marks_item (λ q o. slot_of_row_holds rows o q) c.args.pointing.now i 0 _ _ _ c.loop-object-test.true c.loop-object.invariant
    (marks_alike _ (λ o. slot_of_row_holds rows o p) _ _ (λ o. ap (λ (r : Row). list_any (holds o) r.slots) row) c.mark_slots.ensures)

pub returns : goal.returns
returns g c =
    marks_all (λ q o. slot_of_row_holds (map row_of_body c.args.objects.now) o q) c.args.pointing.now c.loop-object.object-index _ _
    (omega (arith, c.loop-object-test.false)) c.loop-object.invariant
