-- The lines of a text.
use Rattle.std.specs.Prelude.{◌≡◌, ◌==◌, ◌<◌, ◌≤◌, ◌++◌, ◌⊎◌, false, All, Option, Some, None, IfSome, ℕ, List, [], ◌∷◌, length, if◌then◌else◌}
use Rattle.std.specs.List.{slice_split}
use Rattle.std.specs.Io.KnownBytes.{Consumes}

abbrev pub without_empty_last : List (List ℕ) → List (List ℕ)
without_empty_last [] = []
without_empty_last (x ∷ []) = if length x == 0 then [] else x ∷ []
without_empty_last (x ∷ y ∷ more) = x ∷ without_empty_last (y ∷ more)

-- its pieces up to each line feed, and the rest if that isn't empty
abbrev pub lines_of : List ℕ → List (List ℕ)
lines_of text = without_empty_last (slice_split (λ b. b == 10) text)

-- what the reader held are these lines, and then the lines of what it has left
abbrev pub LinesTaken : Option (List ℕ) → Option (List ℕ) → List (List ℕ) → Type 0
LinesTaken None new lines = Unit {0}
LinesTaken (Some text) None lines = ⊥
LinesTaken (Some text) (Some rest) lines = lines_of text ≡ lines ++ lines_of rest

-- what the reader held begins with a line that is too long
abbrev pub BeginsTooLong : Option (List ℕ) → Type 0
BeginsTooLong old = IfSome old (λ text. (bad : List ℕ) × (more : List (List ℕ)) × (lines_of text ≡ bad ∷ more)
    × (65536 < length bad))

-- a front of one line: no line feed in it but as its last byte, and at most 65,537 bytes
abbrev pub IsFrontOfLine : List ℕ → Type 0
IsFrontOfLine bytes = (line : List ℕ) × All (λ b. (b == 10) ≡ false) line × ((bytes ≡ line) ⊎ (bytes ≡ line ++ 10 ∷ []))
    × (length bytes ≤ 65537)

-- a line's end: nothing comes after it, or a line feed; or it has more bytes than a line may have, and what comes after
-- those isn't read
abbrev pub IsCut : List ℕ → List ℕ → Type 0
IsCut line tail = (tail ≡ []) ⊎ (((more : List ℕ) × (tail ≡ 10 ∷ more)) ⊎ (length line ≡ 65537))

-- the text begins with this line, as much of it as is read
abbrev pub IsNextLine : List ℕ → List ℕ → Type 0
IsNextLine line text = All (λ b. (b == 10) ≡ false) line × ((tail : List ℕ) × (text ≡ line ++ tail) × IsCut line tail)

-- what was read is this text and a front of one more line
abbrev pub ReadsOneMore : Option (List ℕ) → Option (List ℕ) → List ℕ → Type 0
ReadsOneMore old new text = (bytes : List ℕ) × IsFrontOfLine bytes × Consumes old new (text ++ bytes)

-- the reader held just these lines
abbrev pub HoldsLines : Option (List ℕ) → List (List ℕ) → Type 0
HoldsLines input lines = IfSome input (λ text. lines_of text ≡ lines)

-- it held these first
abbrev pub BeginsWith : Option (List ℕ) → List (List ℕ) → Type 0
BeginsWith input lines = IfSome input (λ text. (more : List (List ℕ)) × (lines_of text ≡ lines ++ more))

-- it held these first, and the next line is such
abbrev pub AreFollowedBy : Option (List ℕ) → List (List ℕ) → (List ℕ → Type 0) → Type 0
AreFollowedBy input lines P = IfSome input (λ text. (next : List ℕ) × (more : List (List ℕ))
    × (lines_of text ≡ lines ++ next ∷ more) × P next)

-- no more lines were taken than these and one
abbrev pub TakesOneMore : Option (List ℕ) → Option (List ℕ) → List (List ℕ) → Type 0
TakesOneMore input input' lines = (next : List ℕ) × LinesTaken input input' (lines ++ next ∷ [])
