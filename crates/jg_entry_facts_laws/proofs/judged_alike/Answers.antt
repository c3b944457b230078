use Rattle.jg_entry_facts_laws.proofs.Histories.{judged_alike as law}
use Rattle.jg_entry_facts_laws.proofs.judged_alike.Goals as goal

pub returns : goal.returns
returns c = law
