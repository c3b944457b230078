use Rattle.jg_entry_facts_laws.proofs.Histories.{asked_alike as law}
use Rattle.jg_entry_facts_laws.proofs.asked_alike.Goals as goal

pub returns : goal.returns
returns c = law
