use Rattle.std.proofs.Common.{◌≡◌, map, take}
use Rattle.jg_explain.specs.Left.{watch_of}
use Rattle.jg_explain.proofs.left.watches_of.Given as goal

-- the things so far are watched
abbrev pub invariant-loop-thing : goal.invariant-loop-thing
invariant-loop-thing l = l.watches.items ≡ map (watch_of l.place) (take l.thing-index l.all)
