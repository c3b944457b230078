use Rattle.std.proofs.Common.{◌≡◌, ◌++◌, take, map, filter}
use Rattle.jg_lists.specs.ByNumber.{seen}
use Rattle.jg_lists.specs.ByMaker.{named}
use Rattle.jg_table_buffers.specs.History.{same_ref}
use Rattle.jg_table_buffers.specs.Seen.{key_name}
use Rattle.jg_table_buffers.proofs.visits.list_pins_through.Given as goal

-- the names of the tables so far are appended, of those that were opened through the reference
abbrev pub invariant-loop-table : goal.invariant-loop-table
invariant-loop-table g l =
    l.buffers.items ≡ l.initial.buffers.items
    ++ map (λ e. key_name e.0) (filter (λ e. same_ref e.1.via l.via) (named (map seen (take l.table-index l.table-items))))
