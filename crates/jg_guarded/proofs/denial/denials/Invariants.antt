use Rattle.std.proofs.Common.{◌≡◌}
use Rattle.jg_guarded.specs.Denied.{denials_in}
use Rattle.jg_lists.proofs.Oldest.{oldest}
use Rattle.jg_guarded.proofs.denial.denials.Given as goal

abbrev pub invariant-loop-place : goal.invariant-loop-place
invariant-loop-place g l = l.list.items ≡ denials_in (oldest l.place l.guard.journal)
