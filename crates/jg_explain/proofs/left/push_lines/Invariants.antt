use Rattle.std.proofs.Common.{◌≡◌, ◌++◌, flat_map, string_bytes, take}
use Rattle.jg_explain.specs.Left.{explained_left}
use Rattle.jg_explain.proofs.left.push_lines.Given as goal

-- the things so far have a line
abbrev pub invariant-loop-i : goal.invariant-loop-i
invariant-loop-i g l =
    string_bytes l.out ≡ string_bytes l.initial.out ++ flat_map (explained_left l.guard.setup l.guard.journal) (take l.i l.all)
