-- What is so of the entries at which answers turn. Each is the contract of an empty function of src/meanings.rt.
use Rattle.std.specs.Prelude.{ℕ, ◌≡◌, ◌++◌, Bool, true, false, not, List, [], ◌∷◌, length, Some, None}
use Rattle.jg_words.specs.declared.reference.Ref.{Ref}
use Rattle.jg_words.specs.declared.thread.Tid.{Tid}
use Rattle.jg_words.specs.Entry.{Entry}
use Rattle.jg_policy.specs.Stated.{StatedSetup}
use Rattle.jg_rules.specs.Effects.{parts}
use Rattle.jg_rules.specs.Legal.{Legal}
use Rattle.jg_laws.specs.Histories.{reference_of}
use Rattle.jg_breaches.specs.declared.condition.Condition.TheVariants.{Names}
use Rattle.jg_breaches.specs.Conditions.{holds}
use Rattle.jg_breaches.specs.Turns.{turns}

-- the entry at that place turned the test's answer, which has been the same since
pub record HasTurned (test : List Entry → Bool) (h : List Entry) (place : ℕ) : Type 0 where
  pub later : List Entry
  pub entry : Entry
  pub before : List Entry
  pub whole : h ≡ later ++ entry ∷ before
  pub placed : length before ≡ place
  pub turned : test (entry ∷ before) ≡ not (test before)
  pub since : (newer older : List Entry) → later ≡ newer ++ older
      → test (older ++ entry ∷ before) ≡ test (entry ∷ before)
  pub earlier : (turns test h).earlier ≡ (turns test before).latest

-- the latest turn is the entry that turned it last; the earlier one is the latest of the entries before that
-- (proofs/Turning.antt)
abbrev pub LatestTurned : Type 0
LatestTurned = (test : List Entry → Bool) (h : List Entry) (place : ℕ) → (turns test h).latest ≡ Some place
    → HasTurned test h place

-- without a turn the answer has ever been the same
-- (proofs/Turning.antt)
abbrev pub NeverTurned : Type 0
NeverTurned = (test : List Entry → Bool) (newer h : List Entry) → (turns test (newer ++ h)).latest ≡ None
    → test h ≡ test []

-- what turned once is not what it was at the beginning
-- (proofs/Turning.antt)
abbrev pub TurnedOnce : Type 0
TurnedOnce = (test : List Entry → Bool) (h : List Entry) (place : ℕ) → (turns test h).latest ≡ Some place
    → (turns test h).earlier ≡ None → test h ≡ not (test [])

-- a reference comes to name something for a thread at the entry alone that hands it out
-- (proofs/Making.antt)
abbrev pub MadeByItsAnswer : Type 0
MadeByItsAnswer = (s : StatedSetup) (later : List Entry) (x : Entry) (before : List Entry) (t : Tid) (r : Ref)
    → Legal s (later ++ x ∷ before) → holds (parts s before) (Names t r) ≡ false
    → holds (parts s (x ∷ before)) (Names t r) ≡ true → reference_of x.outcome ≡ Some r

-- from the oldest part on: it named something, then nothing; then it never names anything again
-- (proofs/Making.antt)
abbrev pub EndsOnce : Type 0
EndsOnce = (s : StatedSetup) (newest later first : List Entry) (t : Tid) (r : Ref)
    → Legal s (newest ++ (later ++ first)) → holds (parts s first) (Names t r) ≡ true
    → holds (parts s (later ++ first)) (Names t r) ≡ false
    → holds (parts s (newest ++ (later ++ first))) (Names t r) ≡ false
