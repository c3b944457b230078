use Rattle.std.proofs.Common.{◌≡◌}
use Rattle.jg_script.proofs.Filing.{HasRead}
use Rattle.jg_script.proofs.scripts.read_script_lines.Given as goal

abbrev pub invariant-loop-line : goal.invariant-loop-line
invariant-loop-line g l = record {
  read : HasRead (g.R.Read.remaining l.initial.reader.device) (g.R.Read.remaining l.reader.device) l.line l.threads.items;
  sound : l.reader.failed ≡ l.initial.reader.failed;
}
