-- The laws of all legal histories, at each place of one.
use Rattle.std.proofs.Common.{ℕ, ◌++◌, List, subst}
use Rattle.jg_words.specs.Entry.{Entry}
use Rattle.jg_rules.specs.Legal.{Legal}
use Rattle.jg_laws.proofs.Touching.{touches_are_live, nothing_gone_is_touched}
use Rattle.jg_laws.proofs.HandedHere.{live_is_not_gone}
use Rattle.jg_laws.proofs.Pinning.{pins_are_live}
use Rattle.jg_laws.proofs.Owners.{one_owner}
use Rattle.jg_laws.proofs.Fresh.{Legal-before, no_reference_twice, no_reference_revived}
use Rattle.jg_laws.proofs.WithoutDenied.{Legal-passed_only}
use Rattle.jg_guard.specs.Guard.{State}
use Rattle.jg_guard.specs.Places.{Was, TouchesByLiveReference, TouchesWhatIsThere, LiveIsThere, PinsLive, OwnersAreOne, ReferenceIsNew, DeadStaysDead, LegalWithoutDenied}

module _ (g : State) (legal : Legal g.setup g.journal) (place : ℕ) where
  legal_whole : (n : ℕ) (before : List Entry) (w : Was g.journal n before) → Legal g.setup (w.later ++ before)
  legal_whole n before w = subst (λ (h : List Entry). Legal g.setup h) w.whole legal

  legal_then : (n : ℕ) (before : List Entry) → Was g.journal n before → Legal g.setup before
  legal_then n before w = Legal-before g.setup w.later before (legal_whole n before w)

  pub touches_by_live_reference : TouchesByLiveReference g place
  touches_by_live_reference x before o w touches = touches_are_live g.setup w.later x before o (legal_whole _ _ w) touches

  pub touches_what_is_there : TouchesWhatIsThere g place
  touches_what_is_there x before o w touches = nothing_gone_is_touched g.setup w.later x before o (legal_whole _ _ w) touches

  pub live_is_there : LiveIsThere g place
  live_is_there before t o r w named = live_is_not_gone g.setup before t o r (legal_then place before w) named

  pub pins_live : PinsLive g place
  pins_live before maker n b w is_open critical = pins_are_live g.setup before maker n b (legal_then place before w) is_open critical

  pub owners_are_one : OwnersAreOne g place
  owners_are_one before t u o w first second = one_owner g.setup before t u o (legal_then place before w) first second

  pub reference_is_new : ReferenceIsNew g place
  reference_is_new x before r w handed = no_reference_twice g.setup w.later x before r (legal_whole _ _ w) handed

  pub dead_stays_dead : DeadStaysDead g place
  dead_stays_dead newest later first n t o r then now lived ended =
      no_reference_revived g.setup newest later first t o r (legal_then n (newest ++ (later ++ first)) now) lived ended

  pub legal_without_denied : LegalWithoutDenied g place
  legal_without_denied before w = Legal-passed_only g.setup before (legal_then place before w)
