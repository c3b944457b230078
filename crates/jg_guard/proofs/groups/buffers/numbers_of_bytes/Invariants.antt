use Rattle.std.proofs.Common.{◌≡◌, map, pos, take}
use Rattle.jg_guard.proofs.groups.buffers.numbers_of_bytes.Given as goal

abbrev pub invariant-loop-byte : goal.invariant-loop-byte
invariant-loop-byte g l = l.numbers.items ≡ map pos (take l.byte-index l.bytes)
