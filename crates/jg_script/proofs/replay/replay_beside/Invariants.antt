use Rattle.std.proofs.Common.{◌≡◌, []}
use Rattle.jg_rules.specs.Legal.{Legal}
use Rattle.jg_script.proofs.Reread.{HasReplayed}
use Rattle.jg_script.proofs.replay.replay_beside.Given as goal

abbrev pub invariant-loop-line : goal.invariant-loop-line
invariant-loop-line g l = record {
  replayed : HasReplayed (g.R.Read.remaining l.initial.reader.device) (g.R.Read.remaining l.reader.device) l.initial.guard.setup l.initial.guard.limit l.line
      l.guard;
  legal : Legal l.guard.setup l.guard.journal;
  sound : l.reader.failed ≡ l.initial.reader.failed;
  follows : (first : g.row.B.Denot) → g.B.Beside.follows first l.initial.beside l.initial.guard.setup []
      → g.B.Beside.follows first l.beside l.guard.setup l.guard.journal;
}
