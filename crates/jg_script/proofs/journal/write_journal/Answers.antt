use Rattle.std.proofs.Common.{sym, ◌∙◌}
use Rattle.jg_script.proofs.Writing.{one_line, not_written}
use Rattle.jg_script.proofs.journal.write_journal.Goals as goal

pub returns-in-Err-clause-writes : goal.returns-in-Err-clause-writes
returns-in-Err-clause-writes g c =
    let holds = g.W.Write.contents in
    not_written (holds c.args.writer.now.device) (holds c.loop-place.writer.device) (holds c.write_line.new.writer.device) c.args.guard.now.journal
    c.loop-place.place c.in-Some.entry.now
    (sym c.in-Some.ensures.entry) c.in-Err.fault c.loop-place.invariant.written c.in-Err.ensures.writes

pub loop-place-preserved : goal.loop-place-preserved
loop-place-preserved g c =
    let holds = g.W.Write.contents in
    record {
      written = one_line (holds c.args.writer.now.device) (holds c.loop-place.writer.device) (holds c.write_line.new.writer.device) c.args.guard.now.journal
          c.loop-place.place c.in-Some.entry.now
          (sym c.in-Some.ensures.entry)
          c.loop-place.invariant.written c.in_default-write_line.ensures.writes;
      sound = c.in_default-write_line.ensures.device ∙ c.loop-place.invariant.sound;
    }
