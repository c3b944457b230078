use Rattle.std.proofs.Common.{refl}
use Rattle.std.specs.Option.{option_copied}
use Rattle.jg_rows.specs.Table.{last}
use Rattle.jg_rows.proofs.Rows.{seen_at}
use Rattle.jg_rows.proofs.table.last_at.Goals as goal

pub returns : goal.returns
returns c = seen_at _ last c.args.place (option_copied c.row_in.result) c.row_in.ensures refl
