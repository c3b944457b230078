use Rattle.std.proofs.Common.{◌≡◌, ◌++◌, map, take, drop}
use Rattle.jg_explain.specs.Followed.{asked_steady}
use Rattle.jg_explain.proofs.steady.ask_steady.Given as goal

-- those so far are asked
abbrev pub invariant-loop-steady : goal.invariant-loop-steady
invariant-loop-steady g l =
    l.all ≡ map (asked_steady l.again.setup l.again.journal l.entry l.at) (take l.steady-index l.initial.all) ++ drop l.steady-index l.initial.all
