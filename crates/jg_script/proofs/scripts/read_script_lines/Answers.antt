use Rattle.std.proofs.Common.{◌∙◌, ℕ, List, Err, subst}
use Rattle.jg_script.specs.Threads.{TakesLine}
use Rattle.jg_script.proofs.Filing.{goes_on, last_read, refused, holds_refused, too_long, no_memory, not_read}
use Rattle.jg_script.proofs.scripts.read_script_lines.Goals as goal

pub returns-in-Err-Read-clause-reads : goal.returns-in-Err-Read-clause-reads
returns-in-Err-Read-clause-reads g c =
    let reads = g.R.Read.remaining in
    not_read (reads c.args.reader.now.device) (reads c.loop-line.reader.device) (reads c.next_line.new.reader.device) c.loop-line.line c.loop-line.threads.items
    c.loop-line.invariant.read
    c.next_line.ensures.front

pub returns-in-Err-NoMemory-clause-reads : goal.returns-in-Err-NoMemory-clause-reads
returns-in-Err-NoMemory-clause-reads g c =
    let reads = g.R.Read.remaining in
    no_memory (reads c.args.reader.now.device) (reads c.loop-line.reader.device) (reads c.next_line.new.reader.device) c.loop-line.line
    c.loop-line.threads.items c.loop-line.invariant.read
    c.next_line.ensures.front

pub returns-in-TooLong-clause-reads : goal.returns-in-TooLong-clause-reads
returns-in-TooLong-clause-reads g c =
    let reads = g.R.Read.remaining in
    too_long (reads c.args.reader.now.device) (reads c.loop-line.reader.device) (reads c.next_line.new.reader.device) c.loop-line.line c.loop-line.threads.items
    c.loop-line.invariant.read
    (rw c.in-TooLong.is at c.in-Ok.ensures.taken) c.next_line.ensures.front

pub returns-in-Err-clause-reads : goal.returns-in-Err-clause-reads
returns-in-Err-clause-reads g c =
    let reads = g.R.Read.remaining in
    let line = rw c.in-Line.is at c.in-Ok.ensures.taken in
    refused (reads c.args.reader.now.device) (reads c.loop-line.reader.device) (reads c.next_line.new.reader.device) c.loop-line.line c.loop-line.threads.items
    c.loop-line.invariant.read
    c.take_line.new.threads.items c.deref.result.now c.in-Err.fault c.in-Err.ensures (rw c.deref.ensures.value line) c.next_line.ensures.front

pub returns-in-Ok-take_line-clause-reads : goal.returns-in-Ok-take_line-clause-reads
returns-in-Ok-take_line-clause-reads g c =
    let reads = g.R.Read.remaining in
    let line = rw c.in-LastLine.is at c.in-Ok.ensures.taken in
    last_read (reads c.args.reader.now.device) (reads c.loop-line.reader.device) (reads c.next_line.new.reader.device) c.loop-line.line
    c.loop-line.threads.items c.loop-line.invariant.read
    c.take_line-in-LastLine.new.threads.items c.deref-in-LastLine.result.now c.in-Ok-take_line.ensures (rw c.deref-in-LastLine.ensures.value line.0) line.1

pub returns-in-Err-take_line-clause-reads : goal.returns-in-Err-take_line-clause-reads
returns-in-Err-take_line-clause-reads g c =
    let reads = g.R.Read.remaining in
    let line = rw c.in-LastLine.is at c.in-Ok.ensures.taken in
    refused (reads c.args.reader.now.device) (reads c.loop-line.reader.device) (reads c.next_line.new.reader.device) c.loop-line.line c.loop-line.threads.items
    c.loop-line.invariant.read
    c.take_line-in-LastLine.new.threads.items c.deref-in-LastLine.result.now c.in-Err-take_line.fault c.in-Err-take_line.ensures
    (rw c.deref-in-LastLine.ensures.value line.0) c.next_line.ensures.front

pub loop-line-preserved : goal.loop-line-preserved
loop-line-preserved g c =
    let reads = g.R.Read.remaining in
    let line = rw c.in-Line.is at c.in-Ok.ensures.taken in
    let bytes = rw c.in-Line.is at c.in-Ok.ensures.bytes in
    record {
      read = goes_on (reads c.args.reader.now.device) (reads c.loop-line.reader.device) (reads c.next_line.new.reader.device) c.loop-line.line
          c.loop-line.threads.items c.loop-line.invariant.read
          c.take_line.new.threads.items c.deref.result.now c.in_default.ensures (rw c.deref.ensures.value line) (rw c.deref.ensures.value bytes);
      sound = c.in-Ok.ensures.sound ∙ c.loop-line.invariant.sound;
    }

pub returns-in-Err-clause-refused : goal.returns-in-Err-clause-refused
returns-in-Err-clause-refused g c =
    let reads = g.R.Read.remaining in
    let line = rw c.in-Line.is at c.in-Ok.ensures.taken in
    holds_refused (reads c.args.reader.now.device) (reads c.loop-line.reader.device) (reads c.next_line.new.reader.device) c.loop-line.line
    c.loop-line.threads.items c.loop-line.invariant.read
    c.take_line.new.threads.items c.next_line.new.line.items c.in-Err.fault
    (subst (λ (t : List ℕ). TakesLine t c.loop-line.line c.loop-line.threads.items c.take_line.new.threads.items (Err c.in-Err.fault)) c.deref.ensures.value
    c.in-Err.ensures) line

pub returns-in-Err-take_line-clause-refused : goal.returns-in-Err-take_line-clause-refused
returns-in-Err-take_line-clause-refused g c =
    let reads = g.R.Read.remaining in
    let line = rw c.in-LastLine.is at c.in-Ok.ensures.taken in
    holds_refused (reads c.args.reader.now.device) (reads c.loop-line.reader.device) (reads c.next_line.new.reader.device) c.loop-line.line
    c.loop-line.threads.items c.loop-line.invariant.read
    c.take_line-in-LastLine.new.threads.items c.next_line.new.line.items c.in-Err-take_line.fault
    (subst (λ (t : List ℕ). TakesLine t c.loop-line.line c.loop-line.threads.items c.take_line-in-LastLine.new.threads.items (Err c.in-Err-take_line.fault))
    c.deref-in-LastLine.ensures.value
    c.in-Err-take_line.ensures) line.0
