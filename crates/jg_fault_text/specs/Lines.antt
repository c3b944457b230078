-- How a fault of a line is told.
use Rattle.std.specs.Prelude.{◌≡◌, ℕ, List, [], ◌++◌, codes}
use Rattle.std.specs.Fmt.{decimal}
use Rattle.jg_text.specs.declared.fault.ScriptFault.{ScriptFault}
use Rattle.jg_text.specs.declared.fault.ScriptFault.TheVariants.{LineTooLong, NoMemory}
use Rattle.jg_text.specs.declared.place.Place.{Place}
use Rattle.jg_text.specs.Places.{StandsAt}
use Rattle.jg_denial_text.specs.Words.{quoted}
use Rattle.jg_fault_text.specs.declared.pieces.Piece.{Piece}
use Rattle.jg_fault_text.specs.declared.pieces.Piece.TheVariants.{Text, Quote, Number}

-- how a piece is written
abbrev pub piece_text : Piece → List ℕ
piece_text (Text text) = text.now
piece_text (Quote bytes) = quoted bytes.now
piece_text (Number n) = decimal n

-- some words stand behind what stood there
abbrev pub Adds : List ℕ → List ℕ → Type 0
Adds old new = (words : List ℕ) × (new ≡ old ++ words)

-- where the fault stands
abbrev pub place_text : Place → List ℕ
place_text place = codes "field " ++ decimal place.field ++ codes ", column " ++ decimal place.column ++ codes ": "

-- the text tells the fault: where it stands, and then some words
abbrev pub Tells : ScriptFault → List ℕ → List ℕ → Type 0
Tells LineTooLong line text = text ≡ codes "more than 65536 bytes\n"
-- want of memory says nothing of the line
Tells NoMemory line text = text ≡ []
Tells fault line text = (place : Place) × StandsAt fault line place
    × (words : List ℕ) × (text ≡ place_text place ++ words ++ codes "\n")

-- a text that tells the fault stands behind what stood there
abbrev pub AddsFault : ScriptFault → List ℕ → List ℕ → List ℕ → Type 0
AddsFault fault line old new = (text : List ℕ) × Tells fault line text × (new ≡ old ++ text)
