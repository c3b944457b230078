-- Why the calls of a journal were denied. A journal has its newest entry first; an entry's place is the number of
-- entries before it.
use Rattle.std.specs.Prelude.{ℕ, ◌≡◌, ◌≤◌, Bool, true, false, List, [], ◌∷◌, ◌++◌, length, map, take, reverse, slice_get, Option, Some, None}
use Rattle.jg_words.specs.declared.rule.Rule.{Rule}
use Rattle.jg_words.specs.Entry.{Entry, rule_in}
use Rattle.jg_policy.specs.Stated.{StatedSetup}
use Rattle.jg_rules.specs.Effects.{parts}
use Rattle.jg_guard.specs.Guard.{State}
use Rattle.jg_breaches.specs.declared.breach.Breach.{Breach}
use Rattle.jg_breaches.specs.declared.condition.Condition.{Condition}
use Rattle.jg_breaches.specs.declared.turns.Turns.{Turns}
use Rattle.jg_breaches.specs.Breaches.{breach_of}
use Rattle.jg_breaches.specs.Causes.{conditions}
use Rattle.jg_breaches.specs.Conditions.{holds}
use Rattle.jg_breaches.specs.Turns.{still, turns}
use Rattle.jg_explain.specs.declared.denials.Denial.{Denial}
use Rattle.jg_explain.specs.declared.explaining.Explanation.{Explanation}
use Rattle.jg_explain.specs.declared.watching.Watch.{Watch}

-- the journal as it was when it had so many entries
abbrev pub as_it_was : ℕ → List Entry → List Entry
as_it_was n journal = reverse (take n (reverse journal))

-- the condition holds after these entries
abbrev pub after : StatedSetup → Condition → List Entry → Bool
after s c h = holds (parts s h) c

-- the condition holds just before the entry at that place
abbrev pub was : StatedSetup → Condition → List Entry → ℕ → Bool
was s c journal place = after s c (as_it_was place journal)

-- the latest entry before that place at which its answer turned, and the one before that
abbrev pub turns_before : StatedSetup → Condition → List Entry → ℕ → Turns
turns_before s c journal place = turns (after s c) (as_it_was place journal)

-- why a call was denied: the place of its entry, the rule, in which way the call broke it, and what of the rule comes
-- and goes
pub record Cause : Type 0 where
  pub place : ℕ
  pub rule : Rule
  pub breach : Breach
  pub asked : List Condition

abbrev pub cause_by : StatedSetup → List Entry → Entry → Rule → Breach → Cause
cause_by s h x rule breach =
    record { place = length h; rule = rule; breach = breach; asked = conditions (parts s h) x.tid breach }

-- of one entry more, if it was denied
abbrev pub causes_of : StatedSetup → List Entry → Entry → Option Rule → List Cause
causes_of s h x None = []
causes_of s h x (Some rule) = cause_by s h x rule (breach_of s (parts s h) x.tid x.env x.call rule) ∷ []

abbrev pub causes_at : StatedSetup → List Entry → Option Entry → List Cause
causes_at s h None = []
causes_at s h (Some x) = causes_of s h x (rule_in x.outcome)

-- why each denied call was denied, the oldest first
abbrev pub causes : StatedSetup → List Entry → List Cause
causes s [] = []
causes s (x ∷ h) = causes s h ++ causes_of s h x (rule_in x.outcome)

-- what is known of the condition just before the entry at that place
abbrev pub known : StatedSetup → List Entry → ℕ → Condition → Watch
known s journal place c =
    record { place = place; condition = c; holds = was s c journal place; turns = turns_before s c journal place }

-- what is known of all that the rule asked
abbrev pub all_known : StatedSetup → List Entry → Cause → List Watch
all_known s journal c = map (known s journal c.place) c.asked

-- why the entry at that place was denied, if it was
abbrev pub cause_at : StatedSetup → List Entry → ℕ → List Cause
cause_at s journal place = causes_at s (as_it_was place journal) (slice_get (reverse journal) place)

abbrev pub IsExplained : StatedSetup → List Entry → ℕ → Option Explanation → Type 0
IsExplained s journal place None = cause_at s journal place ≡ []
IsExplained s journal place (Some e) = (c : Cause) × (cause_at s journal place ≡ c ∷ []) × (e.rule ≡ c.rule)
    × (e.breach ≡ c.breach) × (e.watches.items ≡ all_known s journal c)

-- one cause if so, and none if not
abbrev pub IsOneIf : Bool → List Cause → Type 0
IsOneIf true cs = (c : Cause) × (cs ≡ c ∷ [])
IsOneIf false cs = cs ≡ []

-- the place of the newest denied entry: its cause stands last, behind those of the entries before it
abbrev pub IsNewestAt : StatedSetup → List Entry → Option ℕ → Type 0
IsNewestAt s journal None = causes s journal ≡ []
IsNewestAt s journal (Some place) = (c : Cause) × (cause_at s journal place ≡ c ∷ [])
    × (causes s journal ≡ causes s (as_it_was place journal) ++ c ∷ [])

-- the guard has gone over so many entries of the other one's journal again
pub record IsFront (whole again : State) (n : ℕ) : Type 0 where
  pub setup : again.setup ≡ whole.setup
  pub journal : again.journal ≡ as_it_was n whole.journal

-- a cause as it is kept, with how many watches it has
abbrev pub denial_of : Cause → Denial
denial_of c = record { place = c.place; rule = c.rule; breach = c.breach; asked = length c.asked }

-- a watch that knows nothing yet
abbrev pub unknown : ℕ → Condition → Watch
unknown place c = record { place = place; condition = c; holds = false; turns = still }

abbrev pub watches_of : Cause → List Watch
watches_of c = map (unknown c.place) c.asked

-- no cause is of an entry past the first n
abbrev pub AreWithin : ℕ → List Cause → Type 0
AreWithin n [] = Unit {0}
AreWithin n (c ∷ cs) = (c.place ≤ n) × AreWithin n cs
