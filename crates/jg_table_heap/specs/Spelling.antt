-- Modified UTF-8 (JNI Specification, chapter 3, "Modified UTF-8 Strings"): each UTF-16 unit has one spelling, and a
-- text is the spellings of its units, one after another.
use Rattle.std.specs.Prelude.{ℕ, ◌≡◌, ◌+◌, ◌/◌, ◌%◌, ◌<◌, ◌^◌, ◌&&◌, nat_lt, if◌then◌else◌, List, [], ◌∷◌, Option, Some, ℤ, pos, map, ◌≢◌, slice_get, MatchOption}
use Rattle.std.specs.List.{flat_map, AllByRecursion}

-- 1 to 127 in one byte, 0 and 128 to 2,047 in two, 2,048 to 65,535 in three
abbrev pub spelling : ℕ → List ℕ
spelling u = if nat_lt 0 u && nat_lt u 128 then u ∷ []
    else (if nat_lt u 2048 then (192 + u / 64) ∷ (128 + u % 64) ∷ []
    else ((224 + u / 4096) ∷ (128 + u / 64 % 64) ∷ (128 + u % 64) ∷ []))

-- the bytes that spell the units
abbrev pub spelt : List ℕ → List ℕ
spelt units = flat_map spelling units

-- they have 16 bits
abbrev pub AreUnits : List ℕ → Type 0
AreUnits units = AllByRecursion (λ u. u < 2 ^ 16) units

-- the bytes are those that spell the units
abbrev pub IsSpelt : List ℕ → List ℕ → Type 0
IsSpelt units bytes = AreUnits units × (bytes ≡ spelt units)

-- the same for a list of signed numbers
abbrev pub IsSpeltInItems : List ℕ → List ℤ → Type 0
IsSpeltInItems units items = AreUnits units × (items ≡ map pos (spelt units))

-- these bytes are the first, the second and the third
abbrev AreFirst : List ℕ → Option ℕ → Option ℕ → Option ℕ → Type 0
AreFirst [] x y z = Unit {0}
AreFirst (a ∷ []) x y z = x ≡ Some a
AreFirst (a ∷ b ∷ []) x y z = (x ≡ Some a) × (y ≡ Some b)
AreFirst (a ∷ b ∷ c ∷ rest) x y z = (x ≡ Some a) × (y ≡ Some b) × (z ≡ Some c)

-- the unit's spelling begins with these bytes
unfoldable pub Starts : ℕ → Option ℕ → Option ℕ → Option ℕ → Type 0
Starts u x y z = AreFirst (spelling u) x y z

-- the byte that a number is, where it is one
abbrev pub IsByte : ℤ → Option ℕ → Type 0
IsByte item byte = MatchOption byte ((n : ℕ) → n < 256 → item ≢ pos n) (λ b. item ≡ pos b)

-- the item at an index, where it is a byte
abbrev pub IsByteAt : List ℤ → ℕ → Option ℕ → Type 0
IsByteAt items i byte = MatchOption byte ((n : ℕ) → n < 256
    → slice_get items i ≢ Some (pos n)) (λ b. slice_get items i ≡ Some (pos b))
