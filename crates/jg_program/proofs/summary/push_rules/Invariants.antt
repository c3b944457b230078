use Rattle.std.proofs.Common.{◌≡◌, ◌++◌, flat_map, string_bytes, take}
use Rattle.jg_program.specs.Summary.{rule_line}
use Rattle.jg_program.proofs.summary.push_rules.Given as goal

-- the rules so far have their lines
abbrev pub invariant-loop-rule : goal.invariant-loop-rule
invariant-loop-rule l = string_bytes l.out ≡ string_bytes l.initial.out ++ flat_map (rule_line l.guard.journal) (take l.rule-index l.rules)
