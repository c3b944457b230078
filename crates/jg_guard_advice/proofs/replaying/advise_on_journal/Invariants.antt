use Rattle.std.proofs.Common.{◌≡◌}
use Rattle.jg_guard_advice.specs.Logged.{Logged}
use Rattle.jg_explain.specs.Explained.{IsFront}
use Rattle.jg_guard_advice.proofs.replaying.advise_on_journal.Given as goal

abbrev pub invariant-loop-place : goal.invariant-loop-place
invariant-loop-place g l = record {
  front : IsFront l.guard l.again l.place;
  logged : Logged l.advising.log l.again.setup l.again.journal;
  most : l.advising.log.adviser.most ≡ l.most;
  all : l.advising.log.noting.all ≡ l.all;
}
