use Rattle.std.proofs.Common.{◌≡◌, drop, map}
use Rattle.jg_lists.specs.ByNumber.{seen}
use Rattle.jg_lists.proofs.Found.{number_where}
use Rattle.jg_table_threads.specs.History.{is_object}
use Rattle.jg_table_threads.proofs.rows.thread_in.Given as goal

-- what is found in the rows that are left is what is found in all
abbrev pub invariant-loop-seat : goal.invariant-loop-seat
invariant-loop-seat l = number_where (λ row. is_object l.object row.pending) (map seen (drop l.seat-index l.seats))
    ≡ number_where (λ row. is_object l.object row.pending) (map seen l.seats)
