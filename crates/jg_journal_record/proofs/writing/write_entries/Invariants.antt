use Rattle.std.proofs.Common.{◌≡◌, ℕ, List, [], Option}
use Rattle.jg_explain.specs.Explained.{IsFront, as_it_was}
use Rattle.jg_journal_record.specs.Retold.{WritesRecord}
use Rattle.jg_journal_record.proofs.writing.write_entries.Given as goal

abbrev pub invariant-loop-place : goal.invariant-loop-place
invariant-loop-place g l = record {
  front : IsFront l.guard l.again l.place;
  sound : l.writer.failed ≡ l.fn.writer.failed;
  written : (bytes : Option (List ℕ)) → WritesRecord l.guard.setup [] bytes (g.W.Write.contents l.fn.writer.device)
      → WritesRecord l.guard.setup (as_it_was l.place l.guard.journal) bytes (g.W.Write.contents l.writer.device);
}
