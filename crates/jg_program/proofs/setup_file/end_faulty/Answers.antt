use Rattle.std.proofs.Common.{string_bytes}
use Rattle.jg_fault_text.specs.Setups.{TellsSetup}
use Rattle.jg_program.specs.declared.stop.ProgramStop.TheVariants.{Setup}
use Rattle.jg_program.proofs.Refusals.{ends_saying}
use Rattle.jg_program.proofs.setup_file.end_faulty.Goals as goal

pub returns : goal.returns
returns c =
    ends_saying string_bytes c.args.explained (TellsSetup c.args.fault c.args.bytes.now) (Setup c.args.fault) c.fault_text.result c.saying.result
    c.saying.ensures.ended c.saying.ensures.said
    c.saying.ensures.memory c.fault_text.ensures.told c.fault_text.ensures.refused
