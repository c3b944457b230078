use Rattle.std.proofs.Common.{◌≡◌, ◌++◌, take, map}
use Rattle.jg_lists.specs.ByNumber.{seen}
use Rattle.jg_lists.specs.ByMaker.{named}
use Rattle.jg_advice.specs.Advised.{left}
use Rattle.jg_advice.proofs.facts.push_left.Given as goal

-- the advice on the tables so far is added
abbrev pub invariant-loop-seat : goal.invariant-loop-seat
invariant-loop-seat l =
    l.out.items ≡ l.initial.out.items ++ map left (named (map seen (take l.seat-index l.seat-items)))
