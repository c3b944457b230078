-- What is taken from a reader, line by line. No public contract stands on this.
use Rattle.std.specs.Prelude.{◌≡◌, ◌==◌, ℕ, ◌<◌, ◌≤◌, Bool, true, false, List, [], ◌∷◌, ◌++◌, length, All, Option}
use Rattle.std.specs.Io.KnownBytes.{Consumes, Keeps, IsAtEnd}
use Rattle.jg_lines.specs.declared.piece.LineFault.{LineFault}
use Rattle.jg_lines.specs.declared.piece.LineFault.TheVariants.{Read, NoMemory}
use Rattle.jg_lines.specs.declared.piece.Piece.{Piece}
use Rattle.jg_lines.specs.declared.piece.Piece.TheVariants as piece
use Rattle.jg_lines.specs.declared.line.Taken.{Taken}
use Rattle.jg_lines.specs.declared.line.Taken.TheVariants.{Line, LastLine, Nothing, TooLong}
use Rattle.jg_lines.specs.declared.line.LineEnd.{LineEnd}
use Rattle.jg_lines.specs.declared.line.LineEnd.TheVariants.{Feed, End, Long}
use Rattle.jg_lines.specs.TextLines.{LinesTaken, BeginsTooLong, IsFrontOfLine}

-- no line feed is among the bytes
abbrev pub IsOneLine : List ℕ → Type 0
IsOneLine line = All (λ b. (b == 10) ≡ false) line

-- a piece was added to a line and taken from the reader: all up to a line feed, which was taken
-- too; some bytes of a line; or nothing
abbrev pub TakesPiece : Option (List ℕ) → Option (List ℕ) → List ℕ → List ℕ → ℕ → Piece → Type 0
TakesPiece old new before after room (piece.Feed ahead) =
    (bytes : List ℕ) × (after ≡ before ++ bytes) × IsOneLine bytes × Consumes old new (bytes ++ 10 ∷ [])
    × (length bytes < room)
TakesPiece old new before after room piece.More =
    (bytes : List ℕ) × (after ≡ before ++ bytes) × IsOneLine bytes × Consumes old new bytes × (0 < length bytes)
    × (length bytes ≤ room)
TakesPiece old new before after room piece.Nothing = (after ≡ before) × Keeps old new

-- what was taken from the reader: a line and its line feed; a last line, after which nothing
-- comes; or more than a line may have
abbrev pub TakesLine : Option (List ℕ) → Option (List ℕ) → List ℕ → LineEnd → Type 0
TakesLine old new line Feed = Consumes old new (line ++ 10 ∷ []) × (length line ≤ 65536)
TakesLine old new line End = Consumes old new line × IsAtEnd new × (length line ≤ 65536)
TakesLine old new line Long = Consumes old new line × (length line ≡ 65537)

-- nothing but a front of one line was taken
abbrev pub TakesFront : Option (List ℕ) → Option (List ℕ) → Type 0
TakesFront old new = (bytes : List ℕ) × IsFrontOfLine bytes × Consumes old new bytes

-- a line can't be had: the reader failed, or memory ran out
abbrev pub FailsLine : Bool → Bool → LineFault → Type 0
FailsLine old new Read = new ≡ true
FailsLine old new NoMemory = new ≡ old

-- the next line was taken, the last one, or none since nothing was left; or what comes next is
-- too long
abbrev pub Takes : Option (List ℕ) → Option (List ℕ) → List ℕ → Taken → Type 0
Takes old new line Line = LinesTaken old new (line ∷ [])
Takes old new line LastLine = LinesTaken old new (line ∷ []) × IsAtEnd new
Takes old new line Nothing = LinesTaken old new [] × IsAtEnd new
Takes old new line TooLong = BeginsTooLong old

-- the same in bytes
abbrev pub TakesBytes : Option (List ℕ) → Option (List ℕ) → List ℕ → Taken → Type 0
TakesBytes old new line Line = Consumes old new (line ++ 10 ∷ [])
TakesBytes old new line LastLine = Consumes old new line × IsAtEnd new × (0 < length line)
TakesBytes old new line Nothing = Consumes old new [] × IsAtEnd new
TakesBytes old new line TooLong = Consumes old new line × (length line ≡ 65537)
