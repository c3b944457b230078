use Rattle.std.proofs.Common.{◌≡◌, codes, string_bytes}
use Rattle.jg_policy.specs.declared.fault.SetupFault.TheVariants.{TooMany}
use Rattle.jg_program.specs.declared.stop.ProgramStop.TheVariants.{Setup}
use Rattle.jg_program.proofs.Refusals.{ends_saying}
use Rattle.jg_program.proofs.setup_file.end_too_long.Goals as goal

pub returns : goal.returns
returns c =
    ends_saying string_bytes c.args.explained (λ text. text ≡ codes "more than 16777216 bytes\n") (Setup TooMany) c.length_text.result c.saying.result
    c.saying.ensures.ended c.saying.ensures.said
    c.saying.ensures.memory c.length_text.ensures.told c.length_text.ensures.refused
