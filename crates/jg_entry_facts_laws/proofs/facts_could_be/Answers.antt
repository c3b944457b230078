use Rattle.jg_entry_facts_laws.proofs.Histories.{facts_could_be as law}
use Rattle.jg_entry_facts_laws.proofs.facts_could_be.Goals as goal

pub returns : goal.returns
returns c = law
