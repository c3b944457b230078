use Rattle.std.proofs.Common.{◌≡◌, ℕ}
use Rattle.jg_lists.specs.ByThread.{at, IsOnce}
use Rattle.jg_table_monitors.specs.Keys.{freed}
use Rattle.jg_table_monitors.proofs.held.free_all.Given as goal

-- with those that are left freed, all are
abbrev pub invariant-loop-object : goal.invariant-loop-object
invariant-loop-object g l = record {
  freed : (q : ℕ) → freed l.object-iterator q (at q l.owned) ≡ freed l.objects.keys q (at q l.initial.owned);
  once : IsOnce l.initial.owned → IsOnce l.owned;
}
