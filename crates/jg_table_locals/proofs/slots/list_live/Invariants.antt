use Rattle.std.proofs.Common.{◌≡◌, ◌++◌, take}
use Rattle.std.specs.Prelude.{filter, map}
use Rattle.jg_table_locals.specs.Seen.{is_live, slot_ref}
use Rattle.jg_table_locals.proofs.slots.list_live.Given as goal

-- the references of the live slots so far are appended
abbrev pub invariant-loop-slot : goal.invariant-loop-slot
invariant-loop-slot g l = l.refs.items ≡ l.initial.refs.items ++ map (slot_ref l.tid) (filter is_live (take l.slot-index l.slots))
