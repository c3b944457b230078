use Rattle.std.proofs.Common.{◌≡◌, ◌≤◌, ◌-◌, ℕ, List, length, map, pos, ◌++◌, drop}
use Rattle.std.specs.List.{flat_map}
use Rattle.jg_table_heap.specs.Spelling.{spelling, AreUnits, IsSpeltInItems}
use Rattle.jg_table_heap.proofs.mutf8.read.units_of.Given as goal

abbrev pub invariant-loop-at : goal.invariant-loop-at
invariant-loop-at g l = record {
  within : l.at ≤ length l.items;
  short : length l.units.items ≤ l.at;
  units : AreUnits l.units.items;
  front : (map g.I.MaybeByte.number l.items) ≡ map pos (flat_map spelling l.units.items) ++ drop l.at (map g.I.MaybeByte.number l.items);
  rest : (units : List ℕ) → IsSpeltInItems units (map g.I.MaybeByte.number l.items)
      → (tail : List ℕ) × IsSpeltInItems tail (drop l.at (map g.I.MaybeByte.number l.items));
}

abbrev pub decreases-loop-at : goal.decreases-loop-at
decreases-loop-at g l = length l.items - l.at
