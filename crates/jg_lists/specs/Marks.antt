-- Marks of objects, by their numbers.
use Rattle.std.specs.Prelude.{ℕ, ◌≡◌, ◌-◌, ◌==◌, ◌||◌, Bool, List, Option, length, map, take}
use Rattle.std.specs.Option.{option_map}

-- the marks of those that pass the test were set, and the others stay; an object that had none has none
abbrev pub Marks : (ℕ → Bool) → (ℕ → Option Bool) → (ℕ → Option Bool) → Type 0
Marks test old new = (o : ℕ) → new o ≡ option_map (λ mark. mark || test o) (old o)

abbrev pub but_last : {X : Type 0} → List X → List X
but_last xs = take (length xs - 1) xs

-- which of the places, but for the last, have the turn
abbrev pub marks_in : ℕ → List ℕ → List Bool
marks_in turn turns = map (λ t. t == turn) (but_last turns)
