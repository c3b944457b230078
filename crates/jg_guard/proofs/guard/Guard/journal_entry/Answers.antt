use Rattle.std.proofs.Common.{subst}
use Rattle.jg_rules.specs.Legal.{Legal}
use Rattle.jg_guard.specs.Guard.{State}
use Rattle.jg_guard.proofs.Places.{touches_by_live_reference, touches_what_is_there, live_is_there, pins_live, owners_are_one, reference_is_new, dead_stays_dead, legal_without_denied}
use Rattle.jg_guard.proofs.guard.Guard.journal_entry.Goals as goal

pub returns-clause-touches_live : goal.returns-clause-touches_live
returns-clause-touches_live g c =
    touches_by_live_reference c.args.self.now (subst (λ (s : State). Legal s.setup s.journal) c.self.view_is c.self.invariant.0.legal) c.args.index

pub returns-clause-touches_nothing_gone : goal.returns-clause-touches_nothing_gone
returns-clause-touches_nothing_gone g c =
    touches_what_is_there c.args.self.now (subst (λ (s : State). Legal s.setup s.journal) c.self.view_is c.self.invariant.0.legal) c.args.index

pub returns-clause-live_not_gone : goal.returns-clause-live_not_gone
returns-clause-live_not_gone g c =
    live_is_there c.args.self.now (subst (λ (s : State). Legal s.setup s.journal) c.self.view_is c.self.invariant.0.legal) c.args.index

pub returns-clause-pins_live : goal.returns-clause-pins_live
returns-clause-pins_live g c =
    pins_live c.args.self.now (subst (λ (s : State). Legal s.setup s.journal) c.self.view_is c.self.invariant.0.legal) c.args.index

pub returns-clause-one_owner : goal.returns-clause-one_owner
returns-clause-one_owner g c =
    owners_are_one c.args.self.now (subst (λ (s : State). Legal s.setup s.journal) c.self.view_is c.self.invariant.0.legal) c.args.index

pub returns-clause-no_reference_twice : goal.returns-clause-no_reference_twice
returns-clause-no_reference_twice g c =
    reference_is_new c.args.self.now (subst (λ (s : State). Legal s.setup s.journal) c.self.view_is c.self.invariant.0.legal) c.args.index

pub returns-clause-no_reference_revived : goal.returns-clause-no_reference_revived
returns-clause-no_reference_revived g c =
    dead_stays_dead c.args.self.now (subst (λ (s : State). Legal s.setup s.journal) c.self.view_is c.self.invariant.0.legal) c.args.index

pub returns-clause-without_denied : goal.returns-clause-without_denied
returns-clause-without_denied g c =
    legal_without_denied c.args.self.now (subst (λ (s : State). Legal s.setup s.journal) c.self.view_is c.self.invariant.0.legal) c.args.index
