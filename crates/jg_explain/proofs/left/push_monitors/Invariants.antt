use Rattle.std.proofs.Common.{◌≡◌, ◌++◌, map, take}
use Rattle.jg_explain.specs.declared.left.Left.TheVariants.{Monitor}
use Rattle.jg_explain.proofs.left.push_monitors.Given as goal

-- the monitors so far are in the list
abbrev pub invariant-loop-monitor : goal.invariant-loop-monitor
invariant-loop-monitor l = l.all.items ≡ l.initial.all.items ++ map Monitor (take l.monitor-index l.monitors)
