-- Values found by their number's own place.
use Rattle.std.specs.Prelude.{ℕ, ◌≡◌, ◌≢◌, ◌+◌, ◌<◌, List, length, slice_index_or}
use Rattle.std.specs.Map.{keys_of}

-- each number that has a seat finds it at its place, counted from 1, and no other number finds one
pub record Placed (places numbers : List ℕ) : Type 0 where
  pub found : (i : ℕ) → i < length numbers → slice_index_or places (slice_index_or numbers i 0) 0 ≡ i + 1
  pub held : (n i : ℕ) → slice_index_or places n 0 ≡ i + 1 → (i < length numbers) × (slice_index_or numbers i 0 ≡ n)

-- the entry at the place is the number's
pub record IsSeatOf {V : Type 0} (n i : ℕ) (es : List (ℕ × V)) : Type 0 where
  pub inside : i < length es
  pub own : slice_index_or (keys_of es) i 0 ≡ n

-- the items at the two places have changed places
pub record Swaps {X : Type 0} (xs ys : List X) (i j : ℕ) : Type 0 where
  pub first : (d : X) → slice_index_or ys i d ≡ slice_index_or xs j d
  pub second : (d : X) → slice_index_or ys j d ≡ slice_index_or xs i d
  pub others : (k : ℕ) (d : X) → k ≢ i → k ≢ j → slice_index_or ys k d ≡ slice_index_or xs k d
