use Rattle.std.proofs.Common.{◌≡◌, ◌++◌, take, map}
use Rattle.jg_table_buffers.specs.Seen.{key_name}
use Rattle.jg_table_buffers.proofs.visits.list_numbers.Given as goal

-- the names so far are appended
abbrev pub invariant-loop-seat : goal.invariant-loop-seat
invariant-loop-seat g l =
    l.buffers.items ≡ l.initial.buffers.items ++ map (λ seat. key_name (l.maker, seat.number)) (take l.seat-index l.numbers)
