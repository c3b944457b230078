use Rattle.std.proofs.Common.{◌≤◌, take}
use Rattle.std.specs.Prelude.{◌==◌, All, slice_get}
use Rattle.std.specs.List.{list_any}
use Rattle.jg_lists.specs.Marks.{Marks, marks_in}
use Rattle.jg_lists.proofs.object_marks.note_all.Given as goal

-- the marks of the objects so far are set
abbrev pub invariant-loop-object : goal.invariant-loop-object
invariant-loop-object l = record {
  set : Marks (λ o. list_any (λ x. x == o) (take l.object-index l.objects)) (slice_get (marks_in l.turn l.initial.turns)) (slice_get (marks_in l.turn l.turns));
  past : All (λ t. t ≤ l.turn) l.initial.turns → All (λ t. t ≤ l.turn) l.turns;
}
