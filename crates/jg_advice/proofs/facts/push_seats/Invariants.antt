use Rattle.std.proofs.Common.{◌≡◌, ◌++◌, take, map}
use Rattle.jg_lists.specs.ByNumber.{seen}
use Rattle.jg_advice.specs.Advised.{at_end}
use Rattle.jg_advice.proofs.facts.push_seats.Given as goal

-- the advice on the seats so far is added
abbrev pub invariant-loop-seat : goal.invariant-loop-seat
invariant-loop-seat l = l.out.items
    ≡ l.initial.out.items ++ map (λ seat. at_end l.kind l.line l.tid (seen seat)) (take l.seat-index l.seats)
