use Rattle.std.proofs.Common.{◌≡◌, ◌+◌, ◌++◌, ◌∷◌, ◌∙◌, List, [], ap, length, sym, subst, refl, arith}
use Rattle.std.proofs.lemmas.List.{length-append, length-map}
use Rattle.jg_lists.specs.declared.by_number.Numbered.{Numbered}
use Rattle.jg_lists.specs.Searches.{home, Reaches, Placed}
use Rattle.std.specs.Prelude.{map}
use Rattle.jg_lists.specs.ByNumber.{seen, number_of}
use Rattle.jg_lists.proofs.Values.{added_at}
use Rattle.jg_lists.proofs.Seats.{once, placed_more, seen_more}
use Rattle.jg_lists.proofs.by_number.ByNumber.add.Goals as goal

pub returns-in_default-clause-once : goal.returns-in_default-clause-once
returns-in_default-clause-once g c = once c.self.inside.slots.items c.self.inside.seats.items c.args.self.now c.self.invariant.placed c.self.view_is

pub returns-in_err-self-inside-clause-once : goal.returns-in_err-self-inside-clause-once
returns-in_err-self-inside-clause-once g c =
    once c.make_room.new.slots.items c.self.inside.seats.items _ (c.make_room.ensures.placed c.self.invariant.placed) refl

pub returns-in_err-push-clause-once : goal.returns-in_err-push-clause-once
returns-in_err-push-clause-once g c =
    once c.make_room.new.slots.items c.push.new.self.items _
    (subst (λ (seats : List (Numbered g.row.V.Denot)). Placed c.make_room.new.slots.items (map number_of seats))
    (sym c.in_err-push.ensures.items) (c.make_room.ensures.placed c.self.invariant.placed)) refl

pub invariant_of-self-2 : goal.invariant_of-self-2
invariant_of-self-2 g c =
    let seats = c.self.inside.seats.items in
    let more = c.push.new.self.items in
    let place : c.in-Ok.place ≡ length seats + 1 = omega (arith, c.in-Ok.ensures, c.len.ensures, c.self.inside.seats.ok) in
    let count : length more ≡ length seats + 1 = ap length c.in_ok-push.ensures.items ∙ length-append seats _ in
    record {
      placed = placed_more c.make_room.new.slots.items c.take_slot.new.slots.items seats more c.args.self.now c.args.number
          (record { number = c.args.number; value = c.args.value })
          (c.make_room.ensures.placed c.self.invariant.placed) c.self.view_is c.requires refl c.in_ok-push.ensures.items c.take_slot.ensures.many
          c.take_slot.ensures.others
          (subst (Reaches c.take_slot.new.slots.items (home (length c.take_slot.new.slots.items) c.args.number)) place c.take_slot.ensures.reaches);
      counted = omega (arith, c.take_slot.ensures.counted, c.in_ok-self-inside.ensures.counted);
      live = omega (arith, count, length-map more number_of, c.in_ok-self-inside.ensures.live);
      room = omega (arith, c.take_slot.ensures.many, c.in_ok-self-inside.ensures.room);
    }

pub returns-clause-found : goal.returns-clause-found
returns-clause-found g c = λ t.
    let added : map seen c.push.new.self.items ≡ c.args.self.now ++ (c.args.number, c.args.value) ∷ [] =
    seen_more c.self.inside.seats.items c.push.new.self.items c.args.self.now (record { number = c.args.number; value = c.args.value }) c.self.view_is
    c.in_ok-push.ensures.items in
    rw added (added_at c.args.self.now c.args.number t c.args.value c.requires)

pub returns-clause-once : goal.returns-clause-once
returns-clause-once g c = once c.take_slot.new.slots.items c.push.new.self.items _ (invariant_of-self-2 g c).placed refl
