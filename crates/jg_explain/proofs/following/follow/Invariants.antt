use Rattle.std.proofs.Common.{◌≡◌, length, map, take}
use Rattle.jg_explain.specs.Explained.{IsFront}
use Rattle.jg_explain.specs.Followed.{IsFollowed}
use Rattle.jg_explain.specs.Watched.{watched}
use Rattle.jg_explain.proofs.following.follow.Given as goal

-- so many entries were followed, and what is known is that of the first watches
abbrev pub invariant-loop-at : goal.invariant-loop-at
invariant-loop-at g l = record {
  front : IsFront l.guard l.again l.at;
  followed : IsFollowed l.guard l.at l.following.traces.items l.following.steady.items;
  found : l.found.items ≡ map (watched l.guard.setup l.guard.journal l.end) (take (length l.found.items) l.watches);
}
