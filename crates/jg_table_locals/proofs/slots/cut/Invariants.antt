use Rattle.std.proofs.Common.{◌≡◌, ◌≤◌, ◌+◌, List}
use Rattle.std.specs.Prelude.{filter, length}
use Rattle.jg_table_locals.specs.declared.row.Frame.{Frame}
use Rattle.jg_table_locals.specs.Seen.{Chain, dead_in, is_before, is_live, stays, Sound}
use Rattle.jg_table_locals.proofs.slots.cut.Given as goal

-- what is cut off does not stay
abbrev pub invariant-loop-from : goal.invariant-loop-from
invariant-loop-from g l =
    (filter (stays l.from) l.slots.items ≡ filter (stays l.from) l.initial.slots.items)
    × Chain is_before l.slots.items
    × ((frames : List Frame) → Sound l.initial.slots.items frames → Sound l.slots.items frames)
    × (l.initial.slots.room ≤ l.slots.room)
    × (dead_in l.slots.items ≤ dead_in l.initial.slots.items)
    × (length (filter is_live l.initial.slots.items) ≡ length (filter is_live l.slots.items) + l.ended)

abbrev pub decreases-loop-from : goal.decreases-loop-from
decreases-loop-from g l = length l.slots.items
