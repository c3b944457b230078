use Rattle.std.proofs.Common.{refl}
use Rattle.std.specs.Fmt.{digits}
use Rattle.jg_text.specs.Spelling.{spelling}
use Rattle.jg_text.specs.Journal.{entry_text}
use Rattle.jg_test_rows.proofs.buffers.a_copy_outlives_its_session.Goals as goal

pub returns-clause-journal : goal.returns-clause-journal
unfolding digits spelling entry_text
returns-clause-journal c = refl
