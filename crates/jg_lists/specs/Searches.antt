-- The slots in which the place of a number's seat is searched for.
use Rattle.std.specs.Prelude.{ℕ, ◌≡◌, ◌≢◌, ◌+◌, ◌-◌, ◌*◌, ◌/◌, ◌%◌, ◌^◌, ◌<◌, ◌≤◌, ◌==◌, ◌⊎◌, List, [], ◌∷◌, length, slice_index_or, slice_set, if◌then◌else◌, nat_lt}
use Rattle.std.specs.Int.{w64, leading_zeros}
use Rattle.std.specs.Int.Bits.{bit_and, bit_or}

-- where the search for a number begins, of so many slots: sixteen numbers that follow one another have
-- slots that do, and those of the next sixteen lie elsewhere
unfoldable pub home : ℕ → ℕ → ℕ
home count n =
    bit_and (bit_or
    ((n / 16 * 11400714819323198485) % 2 ^ 64 / 2 ^ ((leading_zeros w64 count % 64 + 5) % 64) * 16 % 2 ^ 64)
    (n % 16)) (count - 1)

-- the slot that a search looks at after so many others: the next one, and after the last the first
unfoldable pub spot : ℕ → ℕ → ℕ → ℕ
spot count first step = if nat_lt step (count - first) then first + step else step - (count - first)

-- the slot that is looked at after that one
unfoldable pub following : ℕ → ℕ → ℕ
following count slot = if nat_lt (slot + 1) count then slot + 1 else 0

-- a search that begins at that slot comes to one with the place, past none that is free
pub record Reaches (slots : List ℕ) (first place : ℕ) : Type 0 where
  pub steps : ℕ
  pub within : steps < length slots
  pub here : slice_index_or slots (spot (length slots) first steps) 0 ≡ place
  pub before : (j : ℕ) → j < steps → 1 ≤ slice_index_or slots (spot (length slots) first j) 0

-- how many slots are not free
abbrev pub filled : List ℕ → ℕ
filled [] = 0
filled (place ∷ slots) = if place == 0 then filled slots else filled slots + 1

-- each number that has a seat is found at its place, counted from 1, and no two seats have one number
pub record Placed (slots numbers : List ℕ) : Type 0 where
  pub found : (i : ℕ) → i < length numbers → Reaches slots (home (length slots) (slice_index_or numbers i 0)) (i + 1)
  pub apart : (i j : ℕ) → i < length numbers → j < length numbers
      → slice_index_or numbers i 0 ≡ slice_index_or numbers j 0 → i ≡ j

-- the same, with a bound on how many slots aren't free
pub record Standing (slots numbers : List ℕ) (used : ℕ) : Type 0 where
  pub placed : Placed slots numbers
  pub counted : filled slots ≤ used
  pub live : length numbers ≤ used
  pub room : used ≤ length slots

-- the search for the number comes to that slot, past none that is free
pub record Comes (slots : List ℕ) (n slot : ℕ) : Type 0 where
  pub steps : ℕ
  pub within : steps < length slots
  pub here : spot (length slots) (home (length slots) n) steps ≡ slot
  pub before : (j : ℕ) → j < steps → 1 ≤ slice_index_or slots (spot (length slots) (home (length slots) n) j) 0
  pub inside : slot < length slots

-- the search for the number comes to that slot, which has the place of that seat, and the seat is the number's
pub record Finds (slots numbers : List ℕ) (n slot seat : ℕ) : Type 0 where
  pub comes : Comes slots n slot
  pub place : slice_index_or slots slot 0 ≡ seat + 1
  pub seated : seat < length numbers
  pub own : slice_index_or numbers seat 0 ≡ n

-- what may stand in a slot whose number has no seat any more: it is not free, or no search goes past it
abbrev pub MayStand : List ℕ → ℕ → ℕ → Type 0
MayStand slots slot mark = (1 ≤ mark) ⊎ ((mark ≡ 0) × (slice_index_or slots (following (length slots) slot) 0 ≡ 0))

-- no seat whose place the search for the number comes to is the number's
abbrev pub Misses : List ℕ → List ℕ → ℕ → Type 0
Misses slots numbers n =
    (i : ℕ) → i < length numbers → Reaches slots (home (length slots) n) (i + 1) → slice_index_or numbers i 0 ≢ n

-- the search for the number comes to that slot, which is free
pub record IsFree (slots : List ℕ) (n slot : ℕ) : Type 0 where
  pub comes : Comes slots n slot
  pub free : slice_index_or slots slot 0 ≡ 0

-- the number finds that place now, if it was found
abbrev pub Moves : List ℕ → List ℕ → List ℕ → ℕ → ℕ → Type 0
Moves old new numbers n place =
    (Misses old numbers n × (new ≡ old))
    ⊎ ((slot : ℕ) × (seat : ℕ) × Finds old numbers n slot seat × (new ≡ slice_set old slot place))

-- the number of the last seat finds that seat's place now, if it wasn't the last itself
abbrev pub MovesLast : List ℕ → List ℕ → List ℕ → ℕ → ℕ → Type 0
MovesLast old new numbers seat place =
    ((length numbers ≤ seat + 1) × (new ≡ old))
    ⊎ Moves old new numbers (slice_index_or numbers (length numbers - 1) 0) place

-- the place of each seat but that one is found as before, and the number of the last finds that one
pub record Leaves (new numbers : List ℕ) (seat : ℕ) : Type 0 where
  pub others : (j : ℕ) → j + 1 < length numbers → j ≢ seat
      → Reaches new (home (length new) (slice_index_or numbers j 0)) (j + 1)
  pub moved : seat + 1 < length numbers
      → Reaches new (home (length new) (slice_index_or numbers (length numbers - 1) 0)) (seat + 1)
