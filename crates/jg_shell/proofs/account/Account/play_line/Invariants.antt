use Rattle.std.proofs.Common.{◌-◌}
use Rattle.jg_shell.proofs.Turns.{IsTurn}
use Rattle.jg_shell.proofs.account.Account.play_line.Given as goal

abbrev pub invariant-loop-busy : goal.invariant-loop-busy
invariant-loop-busy g l = IsTurn l.turn l.turns l.line l.fn.self l.self

abbrev pub decreases-loop-busy : goal.decreases-loop-busy
decreases-loop-busy g l = l.turns - l.turn
