use Rattle.std.proofs.lemmas.List.{length-map}
use Rattle.std.proofs.Common.{map, arith, length, ◌<◌, [], ◌∷◌, ◌++◌}
use Rattle.std.proofs.lemmas.Bool.{false≢true}
use Rattle.jg_table_heap.proofs.Whole.{AreUnits-push, front_more, rest_more, none_left}
use Rattle.jg_table_heap.proofs.mutf8.read.spells.Goals as goal

pub loop-at-preserved : goal.loop-at-preserved
loop-at-preserved g c =
    let items = map g.I.MaybeByte.number c.args.items.now in
    let inside : c.loop-at.at < length items = omega (arith, length-map c.args.items.now g.I.MaybeByte.number, c.loop-at-test.true) in
    let before = c.loop-at.invariant in
    let found = c.in-Some.ensures.found in
    record {
      within = c.in-Some.ensures.len.1;
      front = (
        before.front.0 ++ c.in-Some.field-0-0 ∷ [],
        AreUnits-push before.front.0 c.in-Some.field-0-0 before.front.1 found.0,
        front_more items before.front.0 c.loop-at.at c.in-Some.field-0-0 c.in-Some.len before.front.2 found.1,
      );
      rest = λ units s. let left = before.rest units s
          in rest_more items c.loop-at.at c.in-Some.field-0-0 c.in-Some.len inside found.1 c.in-Some.ensures.only left.0 left.1;
    }

pub returns-in-None : goal.returns-in-None
returns-in-None g c =
    let items = map g.I.MaybeByte.number c.args.items.now in
    let inside : c.loop-at.at < length items = omega (arith, length-map c.args.items.now g.I.MaybeByte.number, c.loop-at-test.true) in (
      λ h. absurd (false≢true h),
      λ w. let left = c.loop-at.invariant.rest w.0 w.1
          in absurd (none_left items c.loop-at.at inside c.in-None.ensures.none left.0 left.1),
    )
