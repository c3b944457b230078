use Rattle.jg_entry_facts_laws.proofs.Histories.{facts_read_alike as law}
use Rattle.jg_entry_facts_laws.proofs.facts_read_alike.Goals as goal

pub returns : goal.returns
returns c = law
