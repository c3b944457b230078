use Rattle.std.proofs.Common.{string_bytes}
use Rattle.std.specs.Prelude.{Err}
use Rattle.jg_program.specs.declared.stop.ProgramStop.TheVariants.{Run}
use Rattle.jg_program.specs.About.{IsAboutScript}
use Rattle.jg_program.proofs.Refusals.{ends_saying}
use Rattle.jg_program.proofs.about.end_unread.Goals as goal

pub returns : goal.returns
returns c =
    ends_saying string_bytes c.args.explained (IsAboutScript c.args.line.now (Err (Run c.args.fault))) (Run c.args.fault) c.script_fault_text.result
    c.saying.result c.saying.ensures.ended
    c.saying.ensures.said c.saying.ensures.memory c.script_fault_text.ensures.told c.script_fault_text.ensures.refused
