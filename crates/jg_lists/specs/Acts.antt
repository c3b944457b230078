-- What threads did. A list has the newest first.
use Rattle.std.specs.Prelude.{ℕ, ◌+◌, Bool, ◌==◌, if◌then◌else◌, List, [], ◌∷◌, ◌++◌}

-- an act, with the thread that did it
pub record Event (Act : Type 0) : Type 0 where
  pub tid : ℕ
  pub act : Act

abbrev pub by : {Act : Type 0} → ℕ → Act → Event Act
by t a = record { tid = t; act = a }

-- what the thread did
abbrev pub acts_of : {Act : Type 0} → ℕ → List (Event Act) → List Act
acts_of t [] = []
acts_of t (ev ∷ e) = if ev.tid == t then ev.act ∷ acts_of t e else acts_of t e

-- an act of a thread, with what it did before
pub record Moment (Act : Type 0) : Type 0 where
  pub act : Act
  pub before : List Act

-- each act of the list, with what the thread did before it: the rest of the list, and then the acts given
abbrev pub moments : {Act : Type 0} → List Act → List Act → List (Moment Act)
moments [] before = []
moments (a ∷ later) before = record { act = a; before = later ++ before } ∷ moments later before

-- how many are of the kind
abbrev pub how_many : {X : Type 0} → (X → Bool) → List X → ℕ
how_many kind [] = 0
how_many kind (x ∷ xs) = if kind x then how_many kind xs + 1 else how_many kind xs

-- how often a thing stands that does or doesn't hold
abbrev pub once_if : Bool → ℕ
once_if b = if b then 1 else 0
