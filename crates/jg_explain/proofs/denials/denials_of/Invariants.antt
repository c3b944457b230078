use Rattle.std.proofs.Common.{◌≡◌, ◌≤◌, flat_map, length, map}
use Rattle.jg_explain.specs.Explained.{IsFront, as_it_was, causes, denial_of, watches_of}
use Rattle.jg_explain.proofs.denials.denials_of.Given as goal

-- all denials so far were found, and no more than are wanted
abbrev pub invariant-loop-at : goal.invariant-loop-at
invariant-loop-at g l = record {
  front : IsFront l.guard l.again l.at;
  denials : l.found.denials.items ≡ map denial_of (causes l.guard.setup (as_it_was l.at l.guard.journal));
  watches : l.found.watches.items ≡ flat_map watches_of (causes l.guard.setup (as_it_was l.at l.guard.journal));
  few : length (causes l.guard.setup (as_it_was l.at l.guard.journal)) ≤ l.most;
}
