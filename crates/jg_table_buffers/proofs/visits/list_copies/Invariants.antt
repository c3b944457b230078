use Rattle.std.proofs.Common.{◌≡◌, ◌++◌}
use Rattle.std.specs.Prelude.{map}
use Rattle.indexmap.specs.IndexMap.{keys}
use Rattle.jg_table_buffers.specs.Seen.{key_name}
use Rattle.jg_table_buffers.proofs.visits.list_copies.Given as goal

-- with the names of the keys that are left, those of all are appended
abbrev pub invariant-loop-key : goal.invariant-loop-key
invariant-loop-key g l = l.buffers.items ++ map key_name l.key-iterator ≡ l.initial.buffers.items ++ map key_name (keys l.copies)
