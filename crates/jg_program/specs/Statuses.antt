-- The status that the program ends with, by why it ends, as README lists them.
use Rattle.std.specs.Prelude.{Result, Ok, Err}
use Rattle.jg_args.specs.declared.asked.ArgsFault.{ArgsFault}
use Rattle.jg_args.specs.declared.asked.ArgsFault.TheVariants.{Help, Refused, NoMemory as NoRoomForWords}
use Rattle.jg_policy.specs.declared.fault.SetupFault.{SetupFault}
use Rattle.jg_policy.specs.declared.fault.SetupFault.TheVariants.{NoMemory as NoRoomForSetup}
use Rattle.jg_script.specs.declared.run_fault.RunFault.{RunFault}
use Rattle.jg_script.specs.declared.run_fault.RunFault.TheVariants.{Script, Limit, NoMemory, Read, Write}
use Rattle.jg_watch.specs.declared.ending.Stop.{Stop}
use Rattle.jg_watch.specs.declared.ending.Stop.TheVariants as watch
use Rattle.jg_program.specs.declared.stop.Status.{Status}
use Rattle.jg_program.specs.declared.stop.Status.TheVariants.{Done, Differs, Faulty, Exhausted, Device}
use Rattle.jg_program.specs.declared.stop.ProgramStop.{ProgramStop}
use Rattle.jg_program.specs.declared.stop.ProgramStop.TheVariants.{Arguments, Setup, SetupRead, Run, Record, Leaks, Summary, Explain, Mismatch, Worker}

abbrev pub status_of_words : ArgsFault → Status
status_of_words Help = Done
status_of_words Refused = Faulty
status_of_words NoRoomForWords = Exhausted

-- any other fault is one of the setup's text
abbrev pub status_of_setup : SetupFault → Status
status_of_setup NoRoomForSetup = Exhausted
status_of_setup _ = Faulty

abbrev pub status_of_run : RunFault → Status
status_of_run (Script line fault) = Faulty
status_of_run (Limit line) = Exhausted
status_of_run (NoMemory line) = Exhausted
status_of_run (Read line) = Device
status_of_run (Write line) = Device

abbrev pub status_of_record : Stop → Status
status_of_record (watch.Faulty line fault) = Faulty
status_of_record (watch.Limit line) = Exhausted
status_of_record (watch.NoMemory line) = Exhausted
status_of_record (watch.Read line) = Device
status_of_record (watch.Write line) = Device

abbrev pub status_of : ProgramStop → Status
status_of (Arguments fault) = status_of_words fault
status_of (Setup fault) = status_of_setup fault
status_of SetupRead = Device
status_of (Run fault) = status_of_run fault
status_of (Record stop) = status_of_record stop
status_of Leaks = Exhausted
status_of Summary = Exhausted
status_of Explain = Exhausted
status_of (Mismatch thread place) = Differs
status_of (Worker stop) = Exhausted

abbrev pub ended_status : Result Status ProgramStop → Status
ended_status (Ok status) = status
ended_status (Err stop) = status_of stop
