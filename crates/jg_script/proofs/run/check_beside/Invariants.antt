use Rattle.std.proofs.Common.{◌≡◌, ◌≤◌, [], length}
use Rattle.std.specs.Io.KnownBytes.{Consumes}
use Rattle.jg_rules.specs.Legal.{Legal}
use Rattle.jg_script.specs.Checked.{IsScript, script_text}
use Rattle.jg_script.proofs.Runs.{HasChecked}
use Rattle.jg_script.proofs.run.check_beside.Given as goal

abbrev pub invariant-loop-line : goal.invariant-loop-line
invariant-loop-line g l = record {
  checked : HasChecked (g.R.Read.remaining l.initial.reader.device) (g.R.Read.remaining l.reader.device) (g.W.Write.contents l.initial.writer.device)
      (g.W.Write.contents l.writer.device)
      l.initial.guard.limit l.line l.guard;
  taken : Consumes (g.R.Read.remaining l.initial.reader.device) (g.R.Read.remaining l.reader.device) (script_text l.guard.journal);
  within : length l.guard.journal ≤ l.initial.guard.limit;
  legal : Legal l.guard.setup l.guard.journal;
  script : IsScript l.guard.journal;
  setup : l.guard.setup ≡ l.initial.guard.setup;
  reads : l.reader.failed ≡ l.initial.reader.failed;
  writes : l.writer.failed ≡ l.initial.writer.failed;
  follows : (first : g.row.B.Denot) → g.B.Beside.follows first l.initial.beside l.initial.guard.setup []
      → g.B.Beside.follows first l.beside l.guard.setup l.guard.journal;
}
