use Rattle.std.proofs.Common.{◌≡◌, ◌+◌, ◌-◌, ◌≤◌}
use Rattle.std.specs.List.{range_with_len}
use Rattle.jg_table_heap.specs.Kept.{LetsGo, marked_or_root, trues}
use Rattle.jg_table_heap.proofs.collect.let_go_among.Given as goal

-- of the objects so far those that aren't held are let go
abbrev pub invariant-loop-object : goal.invariant-loop-object
invariant-loop-object g l =
    LetsGo (marked_or_root l.marks (g.R.Roots.is_root l.roots)) (range_with_len l.first (l.object - l.first)) l.initial.there l.there
    × (l.count + trues l.there ≡ trues l.initial.there)
    × (l.count ≤ l.object - l.first)
