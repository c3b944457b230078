use Rattle.jg_policy.proofs.Texts.{one_setup, no_fault}
use Rattle.jg_policy.proofs.meanings.text_states_one_setup.Goals as goal

pub returns-clause-one : goal.returns-clause-one
returns-clause-one c = one_setup

pub returns-clause-faultless : goal.returns-clause-faultless
returns-clause-faultless c = no_fault
