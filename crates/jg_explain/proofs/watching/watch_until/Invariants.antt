use Rattle.std.proofs.Common.{◌≡◌, map}
use Rattle.jg_explain.specs.Explained.{IsFront}
use Rattle.jg_explain.specs.Watched.{watched}
use Rattle.jg_explain.proofs.watching.watch_until.Given as goal

abbrev pub invariant-loop-at : goal.invariant-loop-at
invariant-loop-at g l = record {
  front : IsFront l.guard l.again l.at;
  watches : l.watches ≡ map (watched l.guard.setup l.guard.journal l.at) l.fn.watches;
}
