use Rattle.std.proofs.Common.{◌≡◌}
use Rattle.jg_watch.specs.Logged.{advising_of}
use Rattle.jg_watch.proofs.Lasting.{HasWatched}
use Rattle.jg_watch.proofs.run.watch_lines.Given as goal

abbrev pub invariant-loop-line : goal.invariant-loop-line
invariant-loop-line g l = record {
  watched : HasWatched l.initial.watch.core.setup l.shown (g.R.Read.remaining l.initial.reader.device) (g.R.Read.remaining l.reader.device)
      (g.W.Write.contents l.initial.writer.device) (g.W.Write.contents l.writer.device) l.line l.watch l.explanations l.log;
  setup : l.watch.core.setup ≡ l.initial.watch.core.setup;
  most : l.explanations.most ≡ l.initial.explanations.most;
  advising : advising_of l.log ≡ advising_of l.initial.log;
  reads : l.reader.failed ≡ l.initial.reader.failed;
  writes : l.writer.failed ≡ l.initial.writer.failed;
}
