use Rattle.std.proofs.Common.{◌≡◌, length}
use Rattle.std.specs.List.{find}
use Rattle.jg_rules.specs.Parts.{Parts}
use Rattle.jg_rules.specs.View.{ViewTells}
use Rattle.jg_breaches.specs.Breaches.{breaks}
use Rattle.jg_breaches.specs.Referred.{referred}
use Rattle.jg_breaches.proofs.operands.first_of.Given as goal

abbrev pub invariant-loop-argument : goal.invariant-loop-argument
invariant-loop-argument g l = (p : Parts) → ViewTells g.S.Store.Tells l.view p
    → find (breaks l.view.setup.now p l.tid.0 l.rule) (referred l.wanted l.rest)
    ≡ find (breaks l.view.setup.now p l.tid.0 l.rule) (referred l.takes l.arguments)

abbrev pub decreases-loop-argument : goal.decreases-loop-argument
decreases-loop-argument g l = length l.rest
