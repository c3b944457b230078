use Rattle.std.proofs.Common.{◌≡◌, ◌++◌, flat_map, string_bytes, take}
use Rattle.jg_program.specs.Summary.{watched_line}
use Rattle.jg_program.proofs.summary.push_watched.Given as goal

-- the rules so far have their lines
abbrev pub invariant-loop-rule : goal.invariant-loop-rule
invariant-loop-rule l = string_bytes l.out ≡ string_bytes l.initial.out ++ flat_map (watched_line l.watch) (take l.rule-index l.rules)
