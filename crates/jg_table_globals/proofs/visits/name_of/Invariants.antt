use Rattle.std.proofs.Common.{◌≡◌, drop, map}
use Rattle.std.specs.Prelude.{◌==◌}
use Rattle.jg_lists.specs.ByNumber.{seen}
use Rattle.jg_lists.proofs.Found.{name_where}
use Rattle.jg_table_globals.proofs.visits.name_of.Given as goal

-- what is found in the tables that are left is what is found in all
abbrev pub invariant-loop-table : goal.invariant-loop-table
invariant-loop-table g l = name_where (λ o. o.0 == l.object.0) (map seen (drop l.table-index l.table-items))
    ≡ name_where (λ o. o.0 == l.object.0) (map seen l.table-items)
