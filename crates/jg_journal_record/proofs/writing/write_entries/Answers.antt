use Rattle.std.proofs.Common.{◌≡◌, ◌∙◌, ℕ, sym, subst, arith}
use Rattle.jg_explain.specs.Explained.{as_it_was}
use Rattle.jg_journal_record.specs.Retold.{WritesRecord}
use Rattle.jg_journal_record.proofs.Records.{one_written, still_fails}
use Rattle.jg_journal_record.proofs.writing.write_entries.Goals as goal

pub loop-place-preserved : goal.loop-place-preserved
loop-place-preserved g c =
    let holds = g.W.Write.contents in
    record {
      front = c.in_default-write_entry.ensures.front;
      sound = c.in_default-write_entry.ensures.device ∙ c.loop-place.invariant.sound;
      written = λ bytes before.
          one_written c.args.guard.now.setup c.args.guard.now.journal c.loop-place.place c.in-Some.entry.now bytes (holds c.loop-place.writer.device)
          (holds c.write_entry.new.writer.device) (sym c.in-Some.ensures.entry) (c.loop-place.invariant.written bytes before)
          c.in_default-write_entry.ensures.written;
    }

pub returns-in-Err-clause-device : goal.returns-in-Err-clause-device
returns-in-Err-clause-device g c =
    still_fails c.args.writer.now.failed c.loop-place.writer.failed c.write_entry.new.writer.failed c.in-Err.fault c.loop-place.invariant.sound
    c.in-Err.ensures.device

pub returns-in-Err-clause-stops : goal.returns-in-Err-clause-stops
returns-in-Err-clause-stops g c = λ bytes before. (
  c.loop-place.place,
  c.in-Some.entry.now,
  omega arith,
  sym c.in-Some.ensures.entry,
  g.W.Write.contents c.loop-place.writer.device,
  c.loop-place.invariant.written bytes before,
  c.in-Err.ensures.stops,
)

pub returns-clause-written : goal.returns-clause-written
returns-clause-written g c = λ bytes before.
    let all : c.loop-place.place ≡ c.args.count = omega arith in
    subst (λ (n : ℕ). WritesRecord c.args.guard.now.setup (as_it_was n c.args.guard.now.journal) bytes (g.W.Write.contents c.loop-place.writer.device)) all
    (c.loop-place.invariant.written bytes before)
