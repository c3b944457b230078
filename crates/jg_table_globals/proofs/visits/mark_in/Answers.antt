use Rattle.std.specs.Prelude.{◌==◌}
use Rattle.jg_words.specs.declared.object.ObjId.{ObjId}
use Rattle.jg_lists.proofs.Visited.{any_seat, marks_alike}
use Rattle.jg_table_globals.proofs.visits.mark_in.Goals as goal

pub returns : goal.returns
returns g c =
    marks_alike _ _ (g.M.Marking.mark_of c.args.marks.now) _
    (λ o. any_seat (λ (p : ObjId). p.0 == o) c.seats.result.now c.args.numbers.now c.seats.ensures.seats) c.mark_numbers.ensures
