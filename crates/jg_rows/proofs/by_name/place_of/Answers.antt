use Rattle.std.proofs.Common.{refl}
use Rattle.jg_rows.proofs.ByName.{by_name}
use Rattle.jg_rows.proofs.by_name.place_of.Goals as goal

pub place_in-place-requires : goal.place_in-place-requires
place_in-place-requires c = record { table = by_name _ _ refl }
