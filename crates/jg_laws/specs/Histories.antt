-- What the laws on histories speak of. A history has its newest entry first.
use Rattle.std.specs.Prelude.{◌≡◌, ◌⊎◌, List, [], ◌∷◌, Option, Some, None}
use Rattle.jg_words.specs.declared.reference.Ref.{Ref}
use Rattle.jg_words.specs.declared.value.Value.{Value}
use Rattle.jg_words.specs.declared.value.Value.TheVariants.{Reference}
use Rattle.jg_words.specs.declared.entry.Outcome.{Outcome}
use Rattle.jg_words.specs.declared.entry.Outcome.TheVariants.{Passed, Denied}
use Rattle.jg_words.specs.Entry.{Entry}
use Rattle.jg_policy.specs.Stated.{StatedSetup}
use Rattle.jg_rules.specs.Legal.{Legal, Asked, calls_of}

-- the entry before these, unless it was denied
abbrev pub unless_denied : Outcome → Entry → List Entry → List Entry
unless_denied (Passed reply) x h = x ∷ h
unless_denied (Denied rule) x h = h

-- the history without its denied entries
abbrev pub passed_only : List Entry → List Entry
passed_only [] = []
passed_only (x ∷ h) = unless_denied x.outcome x (passed_only h)

-- the reference that was handed out, if there was one
abbrev pub reference_in : Value → Option Ref
reference_in (Reference r) = Some r
reference_in value = None

abbrev pub reference_of : Outcome → Option Ref
reference_of (Passed reply) = reference_in reply.value
reference_of (Denied rule) = None

-- some entry handed out the reference
abbrev pub WasHandedOut : Ref → List Entry → Type 0
WasHandedOut r [] = ⊥
WasHandedOut r (x ∷ h) = (reference_of x.outcome ≡ Some r) ⊎ WasHandedOut r h

-- it is the one legal history of these calls, the newest first
pub record IsHistoryOf (s : StatedSetup) (calls : List Asked) (h : List Entry) : Type 0 where
  pub legal : Legal s h
  pub asked : calls_of h ≡ calls
  pub only : (g : List Entry) → Legal s g → calls_of g ≡ calls → g ≡ h
