use Rattle.std.proofs.Common.{◌≤◌, length, subst}
use Rattle.jg_rules.specs.Legal.{Legal}
use Rattle.jg_guard.specs.Guard.{State}
use Rattle.jg_guard.proofs.guard.Guard.journal_len.Goals as goal

pub returns-clause-within : goal.returns-clause-within
returns-clause-within g c = subst (λ (s : State). length s.journal ≤ s.limit) c.self.view_is c.self.invariant.0.bounded

pub returns-clause-legal : goal.returns-clause-legal
returns-clause-legal g c = subst (λ (s : State). Legal s.setup s.journal) c.self.view_is c.self.invariant.0.legal
