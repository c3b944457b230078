use Rattle.std.proofs.Common.{◌≡◌, ◌≤◌, ◌+◌, ◌-◌, length, get_or, refl, subst, arith, inl, inr}
use Rattle.std.specs.Prelude.{map}
use Rattle.std.proofs.lemmas.List.{length-map}
use Rattle.jg_lists.specs.ByNumber.{number_of}
use Rattle.jg_lists.specs.Searches.{Moves}
use Rattle.jg_lists.proofs.Seats.{last_number}
use Rattle.jg_lists.proofs.slots.move_last.Goals as goal

pub returns-then-seat-last-clause-moves : goal.returns-then-seat-last-clause-moves
returns-then-seat-last-clause-moves g c =
    let end : length (map number_of c.args.seats.now.items) ≤ c.args.seat + 1 =
    omega (arith, c.if-seat-last.true, c.len-last.ensures, c.args.seats.now.ok, length-map c.args.seats.now.items number_of) in
    inl (end, refl)

pub returns-clause-moves : goal.returns-clause-moves
returns-clause-moves g c =
    let seats = c.args.seats.now.items in
    let count : c.len-last.result ≡ length seats = omega (arith, c.len-last.ensures, c.args.seats.now.ok) in
    let number : c.index.result.now.number ≡ get_or (map number_of seats) (length (map number_of seats) - 1) 0 =
    last_number seats c.len-last.result c.index.result.now count (omega (arith, count, c.requires)) c.index.ensures in
    inr (subst (λ n. Moves c.args.slots.now.items c.move_place.new.slots.items (map number_of seats) n c.args.place) number c.move_place.ensures.moves)
