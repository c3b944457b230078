use Rattle.std.proofs.Common.{ℕ, List, refl, ◌∙◌, ap}
use Rattle.std.specs.List.{list_any}
use Rattle.std.specs.Map.{values_of}
use Rattle.jg_lists.specs.ByNumber.{seen}
use Rattle.jg_lists.proofs.Lists.{list_any-map}
use Rattle.jg_lists.proofs.Visited.{marks_alike}
use Rattle.jg_table_threads.specs.Rows.{Row}
use Rattle.jg_table_threads.specs.History.{is_object}
use Rattle.jg_table_threads.proofs.Calming.{front_seen, any_in_front}
use Rattle.jg_table_threads.proofs.rows.RowTable.mark_pending.Goals as goal

pub returns-clause-marks : goal.returns-clause-marks
returns-clause-marks g c =
    marks_alike _ _ (g.M.Marking.mark_of c.args.marks.now) (g.M.Marking.mark_of c.mark_seats.new.marks)
    (λ o.
    list_any-map seen (λ seat. is_object o seat.value.pending) (λ (e : ℕ × Row). is_object o e.1.pending) (λ seat. refl) c.split_at.result.0.now
    ∙ ap (list_any (λ (e : ℕ × Row). is_object o e.1.pending))
    (front_seen c.seats.result.now c.split_at.result.0.now c.self.inside.seats c.self.inside.raised
    c.seats.ensures.seats c.split_at.ensures.front)
    ∙ any_in_front (λ row. is_object o row.pending) (λ row is. ap (is_object o) is) c.self.inside.seats c.self.inside.raised c.seats.ensures.once
    c.self.invariant.1
    ∙ list_any-map (λ (e : ℕ × Row). e.1) (λ e. is_object o e.1.pending) (λ (row : Row). is_object o row.pending) (λ e. refl) c.self.inside.seats
    ∙ ap (λ (es : List (ℕ × Row)). list_any (λ (row : Row). is_object o row.pending) (values_of es)) c.self.view_is)
    c.mark_seats.ensures
