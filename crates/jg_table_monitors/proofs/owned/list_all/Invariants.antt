use Rattle.std.proofs.Common.{◌≡◌, take}
use Rattle.std.specs.Prelude.{map}
use Rattle.jg_lists.specs.ByNumber.{seen as pair}
use Rattle.jg_table_monitors.proofs.Listed.{listed}
use Rattle.jg_table_monitors.proofs.owned.list_all.Given as goal

-- the monitors so far are appended
abbrev pub invariant-loop-seat : goal.invariant-loop-seat
invariant-loop-seat g l = l.found.items ≡ listed (map pair (take l.seat-index l.seat-items))
