use Rattle.std.proofs.Common.{◌≡◌}
use Rattle.jg_lists.proofs.Oldest.{oldest}
use Rattle.jg_explain.specs.Explained.{causes}
use Rattle.jg_explain.proofs.explaining.newest_denied.Given as goal

-- no entry from that place on was denied
abbrev pub invariant-loop-place : goal.invariant-loop-place
invariant-loop-place g l = causes l.guard.setup l.guard.journal ≡ causes l.guard.setup (oldest l.place l.guard.journal)
