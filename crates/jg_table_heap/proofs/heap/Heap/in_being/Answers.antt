use Rattle.std.proofs.Common.{arith, rules, ◌<◌, ◌^◌, length}
use Rattle.jg_table_heap.proofs.Counting.{being_told}
use Rattle.jg_table_heap.proofs.Letting.{trues_within}
use Rattle.jg_table_heap.proofs.heap.Heap.in_being.Goals as goal

pub returns-clause-history : goal.returns-clause-history
returns-clause-history g c e s =
    let told = being_told c.self.inside.objects.items c.self.inside.there.items c.self.inside.class_count c.args.self.now e c.self.invariant.0.same
    c.self.view_is s in
    omega (arith, c.saturating_sub.ensures, c.self.invariant.2, told)

pub returns-clause-fits : goal.returns-clause-fits
returns-clause-fits g c =
    let fits : length c.self.inside.there.items < 2 ^ 63 = search rules in
    omega (arith, c.saturating_sub.ensures, c.self.invariant.2, trues_within c.self.inside.there.items, fits)
