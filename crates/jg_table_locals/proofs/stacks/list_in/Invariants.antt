use Rattle.std.proofs.Common.{◌≡◌, ◌++◌, take}
use Rattle.std.specs.Prelude.{map}
use Rattle.jg_lists.specs.ByNumber.{seen}
use Rattle.jg_table_locals.specs.Rows.{local_ref}
use Rattle.jg_table_locals.specs.Seen.{rows_seen}
use Rattle.jg_table_locals.proofs.stacks.list_in.Given as goal

-- the references of the stacks so far are appended
abbrev pub invariant-loop-seat : goal.invariant-loop-seat
invariant-loop-seat g l = l.refs.items ≡ l.initial.refs.items ++ map local_ref (rows_seen (map seen (take l.seat-index l.seat-items))).locals
