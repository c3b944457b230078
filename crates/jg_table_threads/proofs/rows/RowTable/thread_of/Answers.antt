use Rattle.std.proofs.Common.{◌∙◌, ap}
use Rattle.jg_lists.proofs.Found.{number_where}
use Rattle.jg_table_threads.specs.Rows.{Row}
use Rattle.jg_table_threads.specs.History.{is_object}
use Rattle.jg_table_threads.proofs.Calming.{front_seen, found_in_front}
use Rattle.jg_table_threads.proofs.rows.RowTable.thread_of.Goals as goal

pub returns-clause-first : goal.returns-clause-first
returns-clause-first g c =
    let p = λ (row : Row). is_object c.args.object row.pending in
    c.thread_in.ensures
    ∙ ap (number_where p) (front_seen c.seats.result.now c.split_at.result.0.now c.self.inside.seats c.self.inside.raised c.seats.ensures.seats
    c.split_at.ensures.front)
    ∙ found_in_front p (λ row is. ap (is_object c.args.object) is) c.self.inside.seats c.self.inside.raised c.seats.ensures.once c.self.invariant.1
    ∙ ap (number_where p) c.self.view_is
