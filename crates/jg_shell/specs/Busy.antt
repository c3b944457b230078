-- Which calls are made again, and after which outcome (JNI Specification, chapter 4, "Monitor Operations").
use Rattle.std.specs.Prelude.{Bool, true, false}
use Rattle.jg_words.specs.declared.call.Call.{Call}
use Rattle.jg_words.specs.declared.call.Call.TheVariants.{Monitors}
use Rattle.jg_words.specs.declared.call.monitors.MonitorsCall.{MonitorsCall}
use Rattle.jg_words.specs.declared.call.monitors.MonitorsCall.TheVariants.{MonitorEnter, MonitorExit}
use Rattle.jg_words.specs.declared.value.Value.{Value}
use Rattle.jg_words.specs.declared.value.Value.TheVariants.{Busy}
use Rattle.jg_words.specs.declared.entry.Outcome.{Outcome}
use Rattle.jg_words.specs.declared.entry.Outcome.TheVariants.{Passed, Denied}

abbrev pub is_enter : MonitorsCall → Bool
is_enter (MonitorEnter r) = true
is_enter (MonitorExit r) = false

-- the call is a MonitorEnter
abbrev pub is_monitor_enter : Call → Bool
is_monitor_enter (Monitors call) = is_enter call
is_monitor_enter _ = false

abbrev pub is_busy_value : Value → Bool
is_busy_value Busy = true
is_busy_value _ = false

-- the monitor was another thread's, and nothing changed
abbrev pub is_busy : Outcome → Bool
is_busy (Passed reply) = is_busy_value reply.value
is_busy (Denied rule) = false
