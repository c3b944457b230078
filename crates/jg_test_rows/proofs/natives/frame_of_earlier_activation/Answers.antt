use Rattle.std.proofs.Common.{refl}
use Rattle.std.specs.Fmt.{digits}
use Rattle.jg_policy.specs.BaseClasses.{base_names}
use Rattle.jg_text.specs.Spelling.{spelling}
use Rattle.jg_text.specs.Journal.{entry_text}
use Rattle.jg_test_rows.proofs.natives.frame_of_earlier_activation.Goals as goal

pub returns-clause-outcomes : goal.returns-clause-outcomes
unfolding base_names
returns-clause-outcomes c = refl

pub returns-clause-journal : goal.returns-clause-journal
unfolding digits spelling entry_text base_names
returns-clause-journal c = refl
