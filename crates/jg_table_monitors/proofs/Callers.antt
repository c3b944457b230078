-- What other crates rest on: facts of owners, and laws of specs/Laws.
pub use Rattle.jg_table_monitors.proofs.Counting.{one_owner, owner_has, all_free}
use Rattle.jg_table_monitors.proofs.Counting.{held_by, holder}
use Rattle.jg_table_monitors.specs.Laws.{CountIsBounded, HeldMeans, RowsTell}
use Rattle.jg_table_monitors.proofs.Lookups.{rows_law}
use Rattle.jg_table_monitors.proofs.Splits.{bounded}

pub rows_tell_law : RowsTell
rows_tell_law rows e o stands = rows_law rows e o stands

pub bounded_law : CountIsBounded
bounded_law e o = bounded e o

pub held_law : HeldMeans
held_law e o = (λ is. holder e o is, λ some. held_by e some.0 o some.1)
