-- How a fault of a setup is told.
use Rattle.std.specs.Prelude.{◌≡◌, ◌==◌, ◌+◌, ◌&&◌, Bool, ℕ, nat_le, if◌then◌else◌, List, [], ◌∷◌, ◌++◌, codes, count_by}
use Rattle.std.specs.Fmt.{decimal}
use Rattle.jg_policy.specs.declared.fault.SetupFault.{SetupFault}
use Rattle.jg_policy.specs.declared.fault.SetupFault.TheVariants.{NotToml, NoMemory}

-- the line behind a front of a text
abbrev pub line_behind : List ℕ → ℕ
line_behind front = count_by (λ b. b == 10) front + 1

-- the byte goes on with a character that an earlier byte began
abbrev pub goes_on : ℕ → Bool
goes_on byte = nat_le 128 byte && nat_le byte 191

-- the column behind a byte that stands at this column
abbrev pub next_column : ℕ → ℕ → ℕ
next_column column byte = if byte == 10 then 1 else (if goes_on byte then column else column + 1)

abbrev pub column_from : ℕ → List ℕ → ℕ
column_from column [] = column
column_from column (byte ∷ bytes) = column_from (next_column column byte) bytes

-- the column behind a front of a text: it counts the characters of the last line
abbrev pub column_behind : List ℕ → ℕ
column_behind front = column_from 1 front

abbrev pub position_text : List ℕ → List ℕ
position_text front =
    codes "line " ++ decimal (line_behind front) ++ codes ", column " ++ decimal (column_behind front) ++ codes ": "

-- the text tells the fault of a setup that these bytes don't state
abbrev pub TellsSetup : SetupFault → List ℕ → List ℕ → Type 0
-- want of memory says nothing of them
TellsSetup NoMemory bytes text = text ≡ []
-- a line and a column of them, and then some words
TellsSetup NotToml bytes text = (front : List ℕ) × (rest : List ℕ) × (bytes ≡ front ++ rest)
    × (words : List ℕ) × (text ≡ position_text front ++ words ++ codes "\n")
TellsSetup fault bytes text = (words : List ℕ) × (text ≡ words ++ codes "\n")

-- a text that tells the fault stands behind what stood there
abbrev pub AddsSetupFault : SetupFault → List ℕ → List ℕ → List ℕ → Type 0
AddsSetupFault fault bytes old new = (text : List ℕ) × TellsSetup fault bytes text × (new ≡ old ++ text)

-- a line of the place behind this front of a text, and of these words, stands behind what stood there
abbrev pub AddsAt : List ℕ → List ℕ → List ℕ → List ℕ → Type 0
AddsAt front words old new = new ≡ old ++ (position_text front ++ words ++ codes "\n")

-- a line of some words stands behind what stood there
abbrev pub AddsLine : List ℕ → List ℕ → Type 0
AddsLine old new = (words : List ℕ) × (new ≡ old ++ (words ++ codes "\n"))
