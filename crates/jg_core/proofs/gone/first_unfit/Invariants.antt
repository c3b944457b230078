use Rattle.std.proofs.Common.{ℕ, ◌≡◌, ◌+◌, if◌then◌else◌, true, Some, take, drop}
use Rattle.std.specs.Option.{option_map}
use Rattle.jg_table_objects.specs.History.{is_listed}
use Rattle.jg_table_objects.specs.Rows.{IsButMarks, mark_in}
use Rattle.jg_core.specs.Gone.{first_unfit}
use Rattle.jg_core.proofs.gone.first_unfit.Given as goal

-- the objects so far are marked, and the first that can't be is among the others
abbrev pub invariant-loop-i : goal.invariant-loop-i
invariant-loop-i g l = record {
  first : first_unfit (mark_in l.initial.store) l.objects ≡ option_map (λ n. n + l.i) (first_unfit (mark_in l.store) (drop l.i l.objects));
  set : (o : ℕ) → mark_in l.store o ≡ (if is_listed (take l.i l.objects) o then Some true else mark_in l.initial.store o);
  same : IsButMarks l.initial.store l.store;
}
