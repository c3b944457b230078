use Rattle.std.proofs.Common.{take}
use Rattle.std.specs.Prelude.{◌==◌}
use Rattle.std.specs.List.{list_any}
use Rattle.jg_lists.specs.Marks.{Marks}
use Rattle.jg_table_buffers.proofs.visits.mark_tables.Given as goal

-- the objects of the tables so far are marked
abbrev pub invariant-loop-table : goal.invariant-loop-table
invariant-loop-table g l =
    Marks (λ o. list_any (λ table. list_any (λ e. e.1.object == o) table.value) (take l.table-index l.tables)) (g.M.Marking.mark_of l.initial.marks)
    (g.M.Marking.mark_of l.marks)
