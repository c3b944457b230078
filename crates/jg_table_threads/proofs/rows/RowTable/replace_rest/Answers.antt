use Rattle.std.proofs.Common.{◌≡◌, ap, ◌∙◌, sym}
use Rattle.jg_table_threads.specs.Rows.{row_of}
use Rattle.jg_table_threads.proofs.Calming.{rest_is_calm}
use Rattle.jg_table_threads.proofs.rows.RowTable.replace_rest.Goals as goal

pub invariant_of-self : goal.invariant_of-self
invariant_of-self g c =
    rest_is_calm c.self.inside.seats c.write_row.new.seats c.args.tid c.args.row c.write_row.ensures.keys c.write_row.ensures.put
    (c.requires ∙ ap (λ rows. (row_of rows c.args.tid).pending) (sym c.self.view_is)) c.self.inside.raised c.self.invariant.0 c.self.invariant.1
