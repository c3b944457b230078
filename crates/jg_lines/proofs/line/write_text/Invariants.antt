use Rattle.std.proofs.Common.{◌≡◌, ◌≤◌, ◌-◌, length, take}
use Rattle.std.specs.Io.KnownBytes.{Appends}
use Rattle.jg_lines.proofs.line.write_text.Given as goal

abbrev pub invariant-loop-done : goal.invariant-loop-done
invariant-loop-done g l = record {
  written : Appends (g.W.Write.contents l.initial.writer.device) (g.W.Write.contents l.writer.device) (take l.done l.text);
  within : l.done ≤ length l.text;
  sound : l.writer.failed ≡ l.initial.writer.failed;
}

abbrev pub decreases-loop-done : goal.decreases-loop-done
decreases-loop-done g l = length l.text - l.done
