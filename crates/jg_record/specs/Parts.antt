-- How a line of a record is cut.
use Rattle.std.specs.Prelude.{◌≡◌, ◌<◌, ◌+◌, ◌-◌, ◌++◌, ℕ, List, ◌∷◌, length, slice_index, Option, Some, None}

-- a space stands on either side of this place
abbrev pub IsApart : List ℕ → ℕ → Type 0
IsApart text place = (0 < place) × (slice_index text (place - 1) ≡ 32) × (place + 1 < length text)
    × (slice_index text (place + 1) ≡ 32)

-- the byte stands there between two spaces
abbrev pub IsMarkAt : ℕ → List ℕ → ℕ → Type 0
IsMarkAt mark text place = (slice_index text place ≡ mark) × IsApart text place

-- it stands so at no place before this one
abbrev pub NoMark : ℕ → List ℕ → ℕ → Type 0
NoMark mark text place = (k : ℕ) → k < place → ¬ IsMarkAt mark text k

-- it stands so here first
pub record IsFirstMark (mark : ℕ) (text : List ℕ) (place : ℕ) : Type 0 where
  pub is : IsMarkAt mark text place
  pub first : NoMark mark text place

-- what stands before the first such mark and its spaces, and behind these; all, where there is none
abbrev pub CutsAt : ℕ → List ℕ → List ℕ → Option (List ℕ) → Type 0
CutsAt mark text front None = (front ≡ text) × NoMark mark text (length text)
CutsAt mark text front (Some back) = IsFirstMark mark text (length front + 1) × (text ≡ front ++ 32 ∷ mark ∷ 32 ∷ back)

-- a note stands behind the first ` @ ` of the line, and an answer behind the first ` = ` before that
abbrev pub AreParts : List ℕ → List ℕ → Option (List ℕ) → Option (List ℕ) → Type 0
AreParts line event answer note = (front : List ℕ) × CutsAt 64 line front note × CutsAt 61 front event answer
