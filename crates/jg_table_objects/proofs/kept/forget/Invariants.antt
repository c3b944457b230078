use Rattle.std.proofs.Common.{take}
use Rattle.jg_lists.specs.ByThread.{IsOnce}
use Rattle.jg_table_objects.specs.History.{is_listed}
use Rattle.jg_table_objects.specs.Seen.{Changes, forgotten}
use Rattle.jg_table_objects.proofs.kept.forget.Given as goal

-- nothing is kept any more of the objects so far
abbrev pub invariant-loop-object : goal.invariant-loop-object
invariant-loop-object g l = record {
  forgotten : Changes (is_listed (take l.object-index l.objects)) forgotten l.initial.there l.there;
  once : IsOnce l.initial.there → IsOnce l.there;
}
