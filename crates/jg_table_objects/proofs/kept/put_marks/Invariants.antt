use Rattle.std.proofs.Common.{take}
use Rattle.jg_lists.specs.ByThread.{IsOnce}
use Rattle.jg_table_objects.specs.History.{is_listed}
use Rattle.jg_table_objects.specs.Seen.{Changes, with_mark}
use Rattle.jg_table_objects.proofs.kept.put_marks.Given as goal

-- the objects so far have that mark or none
abbrev pub invariant-loop-object : goal.invariant-loop-object
invariant-loop-object g l = record {
  put : Changes (is_listed (take l.object-index l.objects)) (with_mark l.mark) l.initial.there l.there;
  once : IsOnce l.initial.there → IsOnce l.there;
}
