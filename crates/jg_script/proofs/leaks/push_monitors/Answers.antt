use Rattle.std.proofs.Common.{string_bytes}
use Rattle.jg_script.specs.Leaks.{monitor_line}
use Rattle.jg_script.proofs.Leaking.{line_more}
use Rattle.jg_script.proofs.leaks.push_monitors.Goals as goal

pub loop-monitor-preserved : goal.loop-monitor-preserved
loop-monitor-preserved c =
    line_more monitor_line c.args.monitors.now c.loop-monitor.monitor-index _ (string_bytes c.args.out.now) (string_bytes c.loop-monitor.out) _
    c.loop-monitor-test.true c.loop-monitor.invariant
    c.in_ok-push_monitor_line.ensures
