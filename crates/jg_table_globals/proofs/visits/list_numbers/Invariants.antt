use Rattle.std.proofs.Common.{◌≡◌, ◌++◌, take, map}
use Rattle.jg_table_globals.specs.Seen.{ref_named}
use Rattle.jg_table_globals.proofs.visits.list_numbers.Given as goal

-- the references so far are appended
abbrev pub invariant-loop-seat : goal.invariant-loop-seat
invariant-loop-seat g l =
    l.refs.items ≡ l.initial.refs.items ++ map (λ seat. ref_named l.kind (l.maker, seat.number)) (take l.seat-index l.numbers)
