use Rattle.std.proofs.Common.{◌≡◌, ◌++◌, take, map}
use Rattle.jg_explain.specs.Explained.{unknown}
use Rattle.jg_explain.proofs.denials.push_watches.Given as goal

-- the conditions so far are watched
abbrev pub invariant-loop-condition : goal.invariant-loop-condition
invariant-loop-condition l = l.watches.items ≡ l.initial.watches.items ++ map (unknown l.place) (take l.condition-index l.conditions)
