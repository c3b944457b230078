use Rattle.std.proofs.Common.{◌≡◌, length}
use Rattle.jg_lists.specs.ByMaker.{named}
use Rattle.jg_table_buffers.specs.Tallies.{Counted}
use Rattle.jg_lists.proofs.Taken.{Leaves}
use Rattle.jg_table_buffers.proofs.buffers.Buffers.release_pins.Given as goal

-- the counts are those of what is left, and nothing of another thread was taken, nor a copy
abbrev pub invariant-loop-pin : goal.invariant-loop-pin
invariant-loop-pin g l =
    Counted (named l.self-inside.pins) l.self-inside.makers.items l.self-inside.vias
    × (l.self-inside.pinned ≡ length (named l.self-inside.pins))
    × Leaves l.tid.0 (named l.initial.self-inside.pins) (named l.self-inside.pins)
    × (l.self-inside.copies.entries ≡ l.initial.self-inside.copies.entries)

abbrev pub decreases-loop-pin : goal.decreases-loop-pin
decreases-loop-pin g l = l.self-inside.pinned
