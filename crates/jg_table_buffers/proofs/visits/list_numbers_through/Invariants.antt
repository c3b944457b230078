use Rattle.std.proofs.Common.{◌≡◌, ◌++◌, take, map, filter}
use Rattle.jg_table_buffers.specs.History.{same_ref}
use Rattle.jg_table_buffers.specs.Seen.{key_name}
use Rattle.jg_table_buffers.proofs.visits.list_numbers_through.Given as goal

-- the names so far of those that were opened through the reference are appended
abbrev pub invariant-loop-seat : goal.invariant-loop-seat
invariant-loop-seat g l =
    l.buffers.items ≡ l.initial.buffers.items
    ++ map (λ seat. key_name (l.maker, seat.number)) (filter (λ seat. same_ref seat.value.via l.via) (take l.seat-index l.numbers))
