use Rattle.std.proofs.Common.{◌≡◌, ◌+◌, ◌∙◌, ℕ, List, get_or, ap, subst, arith}
use Rattle.std.specs.Prelude.{map, slice_set}
use Rattle.std.proofs.lemmas.List.{get_or_read}
use Rattle.jg_lists.specs.declared.by_number.Numbered.{Numbered}
use Rattle.jg_lists.specs.ByNumber.{number_of}
use Rattle.jg_lists.specs.Searches.{filled, Standing, Finds, MayStand, MovesLast, Leaves}
use Rattle.jg_lists.proofs.Searched.{filled_over, filled_less, leaves}
use Rattle.jg_lists.proofs.slots.leave_slot.Goals as goal

left : {V : Type 0} (slots new : List ℕ) (seats : List (Numbered V)) (used slot seat mark place : ℕ) → Standing slots (map number_of seats) used
    → Finds slots (map number_of seats) (get_or (map number_of seats) seat 0) slot seat
    → MayStand slots slot mark → place ≡ get_or slots slot place → MovesLast (slice_set slots slot mark) new (map number_of seats) seat place
    → Leaves new (map number_of seats) seat
left slots new seats used slot seat mark place standing found may read moves =
    let numbers = map number_of seats in
    let is : place ≡ seat + 1 = get_or_read slots slot place found.comes.inside read 0 ∙ found.place in
    leaves slots numbers slot seat mark standing.placed found may new (subst (MovesLast (slice_set slots slot mark) new numbers seat) is moves)

pub returns-then-mark-eq0-clause-leaves : goal.returns-then-mark-eq0-clause-leaves
returns-then-mark-eq0-clause-leaves g c =
    left c.args.slots.now.items c.move_last.new.slots.items c.args.seats.now.items c.args.used c.args.found.slot c.args.found.seat c.mark_at-mark.result
    c.index-place.result.now
    c.requires.standing c.requires.found c.mark_at-mark.ensures c.index-place.ensures c.move_last.ensures.moves

pub returns-then-mark-eq0-clause-counted : goal.returns-then-mark-eq0-clause-counted
returns-then-mark-eq0-clause-counted g c =
    let slots = c.args.slots.now.items in
    let less : filled (slice_set slots c.args.found.slot c.mark_at-mark.result) + 1 ≡ filled slots =
    ap (λ m. filled (slice_set slots c.args.found.slot m) + 1) c.if-mark-eq0.true ∙ filled_less slots c.args.found.slot (omega (arith, c.requires.found.place))
    in
    omega (arith, c.move_last.ensures.counted, less, c.requires.standing.counted)

pub returns-else-mark-eq0-clause-leaves : goal.returns-else-mark-eq0-clause-leaves
returns-else-mark-eq0-clause-leaves g c =
    left c.args.slots.now.items c.move_last.new.slots.items c.args.seats.now.items c.args.used c.args.found.slot c.args.found.seat c.mark_at-mark.result
    c.index-place.result.now
    c.requires.standing c.requires.found c.mark_at-mark.ensures c.index-place.ensures c.move_last.ensures.moves

pub returns-else-mark-eq0-clause-counted : goal.returns-else-mark-eq0-clause-counted
returns-else-mark-eq0-clause-counted g c =
    omega (
      arith,
      c.move_last.ensures.counted,
      filled_over c.args.slots.now.items c.args.found.slot c.mark_at-mark.result
          (omega (arith, c.requires.found.place)),
      c.requires.standing.counted,
    )
