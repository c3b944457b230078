use Rattle.std.proofs.Common.{◌∙◌, ap}
use Rattle.std.specs.Map.{keys_of}
use Rattle.std.specs.BTreeMap.{is_at}
use Rattle.std.specs.Ordering.{nat_cmp}
use Rattle.std.proofs.lemmas.Map.{keys-set_value}
use Rattle.jg_table_threads.proofs.rows.write_row.Goals as goal

pub returns-in-Some-clause-keys : goal.returns-in-Some-clause-keys
returns-in-Some-clause-keys g c = ap keys_of (c.get_mut.follows.holds c.args.row).entries
    ∙ keys-set_value (is_at (nat_cmp c.args.tid)) c.args.seats.now c.args.row
