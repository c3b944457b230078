use Rattle.std.proofs.lemmas.List.{length-map}
use Rattle.std.proofs.Common.{map, arith, length, ◌<◌, ap, List, ℕ, [], ◌∷◌, length-append}
use Rattle.jg_table_heap.proofs.Whole.{AreUnits-push, front_more, rest_more, none_left}
use Rattle.jg_table_heap.proofs.mutf8.read.units_of.Goals as goal

pub loop-at-preserved : goal.loop-at-preserved
loop-at-preserved g c =
    let items = map g.I.MaybeByte.number c.args.items.now in
    let inside : c.loop-at.at < length items = omega (arith, length-map c.args.items.now g.I.MaybeByte.number, c.loop-at-test.true) in
    let before = c.loop-at.invariant in
    let found = c.in-Some.ensures.found in
    record {
      within = c.in-Some.ensures.len.1;
      short = omega (
        arith,
        c.in-Some.ensures.len.0,
        before.short,
        ap (λ (us : List ℕ). length us) c.in_ok-push-in-Some.ensures.items,
        length-append
            c.loop-at.units.items (c.in-Some.unit ∷ []),
      );
      units = rw c.in_ok-push-in-Some.ensures.items (AreUnits-push c.loop-at.units.items c.in-Some.unit before.units found.0);
      front = rw c.in_ok-push-in-Some.ensures.items (front_more items c.loop-at.units.items c.loop-at.at c.in-Some.unit c.in-Some.len before.front found.1);
      rest = λ units s. let left = before.rest units s
          in rest_more items c.loop-at.at c.in-Some.unit c.in-Some.len inside found.1 c.in-Some.ensures.only left.0 left.1;
    }

pub returns-in-None-clause-none : goal.returns-in-None-clause-none
returns-in-None-clause-none g c units s =
    let items = map g.I.MaybeByte.number c.args.items.now in
    let inside : c.loop-at.at < length items = omega (arith, length-map c.args.items.now g.I.MaybeByte.number, c.loop-at-test.true) in
    let left = c.loop-at.invariant.rest units s in none_left items c.loop-at.at inside c.in-None.ensures.none left.0 left.1
