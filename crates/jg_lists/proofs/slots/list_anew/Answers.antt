use Rattle.std.proofs.Common.{◌≡◌, ◌<◌, ◌+◌, ◌∙◌, length, get_or, sym, ap, subst, arith}
use Rattle.std.specs.Prelude.{map}
use Rattle.std.proofs.lemmas.List.{get_or-map}
use Rattle.jg_lists.specs.ByNumber.{number_of}
use Rattle.jg_lists.specs.Searches.{home, Reaches}
use Rattle.jg_lists.proofs.Searched.{listed_more}
use Rattle.jg_lists.proofs.slots.list_anew.Goals as goal

pub loop-seat-preserved : goal.loop-seat-preserved
loop-seat-preserved g c =
    let seats = c.args.seats.now.items in
    let inside : c.loop-seat.seat < length seats = omega (arith, c.loop-seat-test.true, c.len-seat-end.ensures, c.args.seats.now.ok) in
    let number : c.index.result.now.number ≡ get_or (map number_of seats) c.loop-seat.seat 0 =
    ap number_of c.index.ensures ∙ sym (get_or-map number_of seats c.loop-seat.seat c.index.result.now 0 inside) in
    record {
      found = listed_more c.loop-seat.slots.items c.take_slot.new.slots.items (map number_of seats) c.loop-seat.seat c.take_slot.ensures.many
          c.take_slot.ensures.others
          (subst (λ n. Reaches c.take_slot.new.slots.items (home (length c.take_slot.new.slots.items) n) (c.loop-seat.seat + 1)) number
          c.take_slot.ensures.reaches) c.loop-seat.invariant.found;
      counted = omega (arith, c.take_slot.ensures.counted, c.loop-seat.invariant.counted);
      many = c.take_slot.ensures.many ∙ c.loop-seat.invariant.many;
    }
