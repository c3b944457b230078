use Rattle.std.proofs.Common.{◌≡◌, ◌++◌, take, map}
use Rattle.jg_lists.specs.ByNumber.{seen}
use Rattle.jg_lists.specs.ByMaker.{named}
use Rattle.jg_table_globals.specs.Seen.{ref_named}
use Rattle.jg_table_globals.proofs.visits.list_names.Given as goal

-- the references of the tables so far are appended
abbrev pub invariant-loop-table : goal.invariant-loop-table
invariant-loop-table g l =
    l.refs.items ≡ l.initial.refs.items ++ map (λ e. ref_named l.kind e.0) (named (map seen (take l.table-index l.table-items)))
