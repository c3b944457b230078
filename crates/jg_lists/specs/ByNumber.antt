-- Values by number.
use Rattle.std.specs.Prelude.{ℕ}
use Rattle.jg_lists.specs.declared.by_number.Numbered.{Numbered}

-- the seat's number, with its value
abbrev pub seen : {V : Type 0} → Numbered V → ℕ × V
seen seat = (seat.number, seat.value)

abbrev pub number_of : {V : Type 0} → Numbered V → ℕ
number_of seat = seat.number
