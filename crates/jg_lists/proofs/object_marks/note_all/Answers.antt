use Rattle.std.specs.Prelude.{◌==◌, ℕ, slice_get}
use Rattle.jg_lists.specs.Marks.{marks_in}
use Rattle.jg_lists.proofs.Marks.{marks_item}
use Rattle.jg_lists.proofs.object_marks.note_all.Goals as goal

pub loop-object-preserved : goal.loop-object-preserved
loop-object-preserved c = record {
  set = marks_item (λ (x : ℕ) o. x == o) c.args.objects.now c.loop-object.object-index 0 (slice_get (marks_in c.args.turn c.args.turns.now))
      (slice_get (marks_in c.args.turn c.loop-object.turns)) _ c.loop-object-test.true
      c.loop-object.invariant.set c.note.ensures.set;
  past = λ all. c.note.ensures.past (c.loop-object.invariant.past all);
}
