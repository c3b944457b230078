use Rattle.jg_laws.proofs.Natives.{fields_are_stated}
use Rattle.jg_laws.proofs.fields_are_stated.Goals as goal

pub returns : goal.returns
returns c = fields_are_stated
