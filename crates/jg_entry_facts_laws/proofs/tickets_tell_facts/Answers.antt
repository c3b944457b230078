use Rattle.jg_entry_facts_laws.proofs.Tickets.{tickets_tell_facts as law}
use Rattle.jg_entry_facts_laws.proofs.tickets_tell_facts.Goals as goal

pub returns : goal.returns
returns c = law
