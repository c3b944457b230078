use Rattle.std.proofs.Common.{◌≡◌, drop, map}
use Rattle.jg_lists.specs.ByNumber.{seen}
use Rattle.jg_table_locals.proofs.Found.{name_in}
use Rattle.jg_table_locals.proofs.stacks.name_of.Given as goal

-- what is found in the stacks that are left is what is found in all
abbrev pub invariant-loop-seat : goal.invariant-loop-seat
invariant-loop-seat g l = name_in l.object (map seen (drop l.seat-index l.seat-items)) ≡ name_in l.object (map seen l.seat-items)
