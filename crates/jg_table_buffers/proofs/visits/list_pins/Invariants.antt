use Rattle.std.proofs.Common.{◌≡◌, ◌++◌, take, map}
use Rattle.jg_lists.specs.ByNumber.{seen}
use Rattle.jg_lists.specs.ByMaker.{named}
use Rattle.jg_table_buffers.specs.Seen.{key_name}
use Rattle.jg_table_buffers.proofs.visits.list_pins.Given as goal

-- the names of the tables so far are appended
abbrev pub invariant-loop-table : goal.invariant-loop-table
invariant-loop-table g l =
    l.buffers.items ≡ l.initial.buffers.items ++ map (λ e. key_name e.0) (named (map seen (take l.table-index l.table-items)))
