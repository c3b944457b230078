use Rattle.std.proofs.Common.{take}
use Rattle.std.specs.Prelude.{◌==◌}
use Rattle.std.specs.List.{list_any}
use Rattle.jg_lists.specs.ByThread.{IsOnce}
use Rattle.jg_table_objects.specs.Seen.{Changes, with_set}
use Rattle.jg_table_objects.proofs.kept.set_marks.Given as goal

-- the marks of the objects so far are set
abbrev pub invariant-loop-object : goal.invariant-loop-object
invariant-loop-object g l = record {
  set : Changes (λ q. list_any (λ x. x == q) (take l.object-index l.objects)) with_set l.initial.there l.there;
  once : IsOnce l.initial.there → IsOnce l.there;
}
