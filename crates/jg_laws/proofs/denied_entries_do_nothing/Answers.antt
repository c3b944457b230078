use Rattle.jg_laws.proofs.WithoutDenied.{Legal-passed_only}
use Rattle.jg_laws.proofs.denied_entries_do_nothing.Goals as goal

pub returns : goal.returns
returns c = Legal-passed_only
