use Rattle.jg_entry_facts_laws.proofs.Judged.{alike_is_judged_alike as law}
use Rattle.jg_entry_facts_laws.proofs.alike_is_judged_alike.Goals as goal

pub returns : goal.returns
returns c = law
