use Rattle.std.proofs.Common.{◌≡◌, ◌++◌, take, string_bytes}
use Rattle.std.specs.List.{flat_map}
use Rattle.jg_script.specs.Leaks.{monitor_line}
use Rattle.jg_script.proofs.leaks.push_monitors.Given as goal

-- the lines so far
abbrev pub invariant-loop-monitor : goal.invariant-loop-monitor
invariant-loop-monitor l = string_bytes l.out ≡ string_bytes l.initial.out ++ flat_map monitor_line (take l.monitor-index l.monitors)
