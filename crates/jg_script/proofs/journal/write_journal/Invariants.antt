use Rattle.std.proofs.Common.{◌≡◌}
use Rattle.jg_script.specs.Checked.{WritesAll}
use Rattle.jg_lists.proofs.Oldest.{oldest}
use Rattle.jg_script.proofs.journal.write_journal.Given as goal

abbrev pub invariant-loop-place : goal.invariant-loop-place
invariant-loop-place g l = record {
  written : WritesAll (g.W.Write.contents l.initial.writer.device) (g.W.Write.contents l.writer.device) (oldest l.place l.guard.journal);
  sound : l.writer.failed ≡ l.initial.writer.failed;
}
