use Rattle.std.proofs.Common.{◌∙◌, arith, inl, refl}
use Rattle.jg_lines.proofs.TextLines.{lines_more, begun, ended}
use Rattle.jg_script.proofs.Runs.{still_checked, line_reads, answered_reads, goes_on, answered_err, answered_faulty, long_answered}
use Rattle.jg_script.proofs.run.check_beside.Goals as goal

pub returns-in-Err-Read-clause-checks : goal.returns-in-Err-Read-clause-checks
returns-in-Err-Read-clause-checks g c =
    let reads = g.R.Read.remaining in
    let h = still_checked _ _ _ _ _ _ _ _ c.loop-line.invariant.checked c.hand_over.ensures.kept in
    (begun (reads c.args.reader.now.device) (reads c.loop-line.reader.device) _ h.read, h.written, h.counted)

pub returns-in-Err-NoMemory-clause-checks : goal.returns-in-Err-NoMemory-clause-checks
returns-in-Err-NoMemory-clause-checks g c =
    let reads = g.R.Read.remaining in
    let h = still_checked _ _ _ _ _ _ _ _ c.loop-line.invariant.checked c.hand_over.ensures.kept in
    (begun (reads c.args.reader.now.device) (reads c.loop-line.reader.device) _ h.read, (c.loop-line.guard.journal, inl refl, h.written, h.counted))

pub returns-in-TooLong-clause-checks : goal.returns-in-TooLong-clause-checks
returns-in-TooLong-clause-checks g c =
    let reads = g.R.Read.remaining in
    let holds = g.W.Write.contents in
    let h = still_checked _ _ _ _ _ _ _ _ c.loop-line.invariant.checked c.hand_over.ensures.kept in
    let long = rw c.in-TooLong.is at c.in-Ok.ensures.taken in
    long_answered (reads c.args.reader.now.device) (reads c.loop-line.reader.device) (reads c.next_line.new.reader.device) (holds c.args.writer.now.device)
    (holds c.hand_over.new.writer.device)
    c.args.guard.now.limit c.loop-line.line c.loop-line.guard h c.loop-line.invariant.within long

pub returns-in-Err-clause-checks : goal.returns-in-Err-clause-checks
returns-in-Err-clause-checks g c =
    let reads = g.R.Read.remaining in
    let holds = g.W.Write.contents in
    let h = still_checked _ _ _ _ _ _ _ _ c.loop-line.invariant.checked c.hand_over.ensures.kept in
    let line = rw c.in-Line.is at c.in-Ok.ensures.taken in
    answered_err (reads c.args.reader.now.device) (reads c.loop-line.reader.device) (reads c.next_line.new.reader.device) (holds c.args.writer.now.device)
    (holds c.hand_over.new.writer.device)
    (holds c.answer_line.new.writer.device)
    c.args.guard.now.limit c.loop-line.line c.loop-line.guard c.answer_line.new.guard c.next_line.new.line.items c.in-Err.fault
    h c.loop-line.invariant.within (lines_more _ _ _ _ _ h.read line) c.in-Err.ensures.answers

pub returns-in-Ok-answer_line-clause-checks : goal.returns-in-Ok-answer_line-clause-checks
returns-in-Ok-answer_line-clause-checks g c =
    let reads = g.R.Read.remaining in
    let holds = g.W.Write.contents in
    let h = still_checked _ _ _ _ _ _ _ _ c.loop-line.invariant.checked c.hand_over.ensures.kept in
    let line = rw c.in-LastLine.is at c.in-Ok.ensures.taken in
    let a = c.answer_line-in-LastLine in
    let more = goes_on (reads c.args.reader.now.device) (reads c.loop-line.reader.device) (reads c.next_line.new.reader.device) (holds c.args.writer.now.device)
    (holds c.hand_over.new.writer.device)
    (holds a.new.writer.device)
    c.args.guard.now.limit c.loop-line.line c.loop-line.guard a.new.guard c.next_line.new.line.items h (lines_more _ _ _ _ _ h.read line.0) a.ensures.limit
    c.in-Ok-answer_line.ensures.answers in
    let counted = more.0.counted in
    (ended _ _ _ more.0.read line.1, line.1, more.0.written, omega arith, more.1)

pub returns-in-Err-answer_line-clause-checks : goal.returns-in-Err-answer_line-clause-checks
returns-in-Err-answer_line-clause-checks g c =
    let reads = g.R.Read.remaining in
    let holds = g.W.Write.contents in
    let h = still_checked _ _ _ _ _ _ _ _ c.loop-line.invariant.checked c.hand_over.ensures.kept in
    let line = rw c.in-LastLine.is at c.in-Ok.ensures.taken in
    let a = c.answer_line-in-LastLine in
    answered_err (reads c.args.reader.now.device) (reads c.loop-line.reader.device) (reads c.next_line.new.reader.device) (holds c.args.writer.now.device)
    (holds c.hand_over.new.writer.device)
    (holds a.new.writer.device)
    c.args.guard.now.limit c.loop-line.line c.loop-line.guard a.new.guard c.next_line.new.line.items c.in-Err-answer_line.fault
    h c.loop-line.invariant.within (lines_more _ _ _ _ _ h.read line.0) c.in-Err-answer_line.ensures.answers

pub returns-in-Err-clause-reads : goal.returns-in-Err-clause-reads
returns-in-Err-clause-reads g c =
    let reads = g.R.Read.remaining in
    let holds = g.W.Write.contents in
    let inv = c.loop-line.invariant in
    let h = still_checked _ _ _ _ _ _ _ _ c.loop-line.invariant.checked c.hand_over.ensures.kept in
    answered_reads (reads c.args.reader.now.device) (reads c.loop-line.reader.device) (reads c.next_line.new.reader.device) (holds c.args.writer.now.device)
    (holds c.hand_over.new.writer.device)
    (holds c.answer_line.new.writer.device)
    c.args.guard.now.limit c.loop-line.line c.loop-line.guard c.answer_line.new.guard c.next_line.new.line.items c.in-Err.fault h inv.taken
    c.in-Ok.ensures.front c.in-Err.ensures.answers

pub returns-in-Ok-answer_line-clause-reads : goal.returns-in-Ok-answer_line-clause-reads
returns-in-Ok-answer_line-clause-reads g c =
    let last = rw c.in-LastLine.is at c.in-Ok.ensures.bytes in
    last.1

pub returns-in-Err-answer_line-clause-reads : goal.returns-in-Err-answer_line-clause-reads
returns-in-Err-answer_line-clause-reads g c =
    let reads = g.R.Read.remaining in
    let holds = g.W.Write.contents in
    let inv = c.loop-line.invariant in
    let h = still_checked _ _ _ _ _ _ _ _ c.loop-line.invariant.checked c.hand_over.ensures.kept in
    let a = c.answer_line-in-LastLine in
    answered_reads (reads c.args.reader.now.device) (reads c.loop-line.reader.device) (reads c.next_line.new.reader.device) (holds c.args.writer.now.device)
    (holds c.hand_over.new.writer.device)
    (holds a.new.writer.device)
    c.args.guard.now.limit c.loop-line.line c.loop-line.guard a.new.guard c.next_line.new.line.items c.in-Err-answer_line.fault h inv.taken
    c.in-Ok.ensures.front c.in-Err-answer_line.ensures.answers

pub loop-line-preserved : goal.loop-line-preserved
loop-line-preserved g c =
    let reads = g.R.Read.remaining in
    let holds = g.W.Write.contents in
    let inv = c.loop-line.invariant in
    let h = still_checked _ _ _ _ _ _ _ _ c.loop-line.invariant.checked c.hand_over.ensures.kept in
    let line = rw c.in-Line.is at c.in-Ok.ensures.taken in
    let more = goes_on (reads c.args.reader.now.device) (reads c.loop-line.reader.device) (reads c.next_line.new.reader.device) (holds c.args.writer.now.device)
    (holds c.hand_over.new.writer.device)
    (holds c.answer_line.new.writer.device)
    c.args.guard.now.limit c.loop-line.line c.loop-line.guard c.answer_line.new.guard c.next_line.new.line.items h (lines_more _ _ _ _ _ h.read line)
    c.answer_line.ensures.limit
    c.in_default.ensures.answers in
    let bytes = rw c.in-Line.is at c.in-Ok.ensures.bytes in
    let answered = c.in_default.ensures.answers in
    let journals = answered.1 in
    record {
      checked = more.0;
      taken = line_reads (reads c.args.reader.now.device) (reads c.loop-line.reader.device) (reads c.next_line.new.reader.device) c.loop-line.guard
          c.answer_line.new.guard c.next_line.new.line.items
          answered.0 inv.taken bytes journals;
      within = more.1;
      legal = c.answer_line.ensures.legal inv.legal;
      script = more.2 inv.script;
      setup = c.answer_line.ensures.setup ∙ inv.setup;
      reads = c.in-Ok.ensures.sound ∙ inv.reads;
      follows = λ first none. c.answer_line.ensures.follows first (inv.follows first none);
      writes = c.in_default.ensures.device ∙ (c.hand_over.ensures.failed ∙ inv.writes);
    }

pub returns-in-Err-clause-faulty : goal.returns-in-Err-clause-faulty
returns-in-Err-clause-faulty g c =
    let reads = g.R.Read.remaining in
    let holds = g.W.Write.contents in
    let line = rw c.in-Line.is at c.in-Ok.ensures.taken in
    let h = c.loop-line.invariant.checked in
    answered_faulty (reads c.args.reader.now.device) (reads c.loop-line.reader.device) (reads c.next_line.new.reader.device) (holds c.args.writer.now.device)
    (holds c.hand_over.new.writer.device)
    (holds c.answer_line.new.writer.device)
    c.args.guard.now.limit c.loop-line.line c.loop-line.guard c.answer_line.new.guard c.next_line.new.line.items c.answer_line.new.text.items c.in-Err.fault
    (lines_more _ _ _ _ _ h.read line)
    c.in-Err.ensures.answers c.in-Err.ensures.kept

pub returns-in-Err-answer_line-clause-faulty : goal.returns-in-Err-answer_line-clause-faulty
returns-in-Err-answer_line-clause-faulty g c =
    let reads = g.R.Read.remaining in
    let holds = g.W.Write.contents in
    let line = rw c.in-LastLine.is at c.in-Ok.ensures.taken in
    let h = c.loop-line.invariant.checked in
    let a = c.answer_line-in-LastLine in
    answered_faulty (reads c.args.reader.now.device) (reads c.loop-line.reader.device) (reads c.next_line.new.reader.device) (holds c.args.writer.now.device)
    (holds c.hand_over.new.writer.device)
    (holds a.new.writer.device)
    c.args.guard.now.limit c.loop-line.line c.loop-line.guard a.new.guard c.next_line.new.line.items a.new.text.items c.in-Err-answer_line.fault
    (lines_more _ _ _ _ _ h.read line.0)
    c.in-Err-answer_line.ensures.answers c.in-Err-answer_line.ensures.kept
