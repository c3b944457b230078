use Rattle.std.proofs.Common.{◌≡◌, ◌++◌, ◌∷◌, ◌∙◌, [], ap, length, sym, subst, refl, arith}
use Rattle.std.proofs.lemmas.List.{length-append}
use Rattle.std.specs.Prelude.{map, slice_set}
use Rattle.jg_lists.specs.ByNumber.{seen, number_of}
use Rattle.jg_lists.specs.ByPlace.{Placed}
use Rattle.jg_lists.proofs.Values.{added_at}
use Rattle.jg_lists.proofs.Places.{placed_same}
use Rattle.jg_lists.proofs.Places.{once, placed_more}
use Rattle.jg_lists.proofs.Seats.{seen_more}
use Rattle.jg_lists.proofs.by_place.ByPlace.add.Goals as goal

pub invariant_of-self : goal.invariant_of-self
invariant_of-self g c = placed_same c.self.inside.places.items c.widen.new.items.items _ c.self.invariant c.widen.ensures.same

pub returns-in_err-widen-clause-once : goal.returns-in_err-widen-clause-once
returns-in_err-widen-clause-once g c = once c.self.inside.places.items c.self.inside.seats.items _ c.self.invariant refl

pub invariant_of-self-in_default : goal.invariant_of-self-in_default
invariant_of-self-in_default g c = placed_same c.self.inside.places.items c.widen.new.items.items _ c.self.invariant c.widen.ensures.same

pub returns-in_default-clause-once : goal.returns-in_default-clause-once
returns-in_default-clause-once g c = once c.widen.new.items.items c.self.inside.seats.items _ (invariant_of-self-in_default g c) refl

pub invariant_of-self-in_err-push : goal.invariant_of-self-in_err-push
invariant_of-self-in_err-push g c =
    subst (λ seats. Placed c.widen.new.items.items (map number_of seats)) (sym c.in_err-push.ensures.items)
    (placed_same c.self.inside.places.items c.widen.new.items.items (map number_of c.self.inside.seats.items) c.self.invariant c.widen.ensures.same)

pub returns-in_err-push-clause-once : goal.returns-in_err-push-clause-once
returns-in_err-push-clause-once g c = once c.widen.new.items.items c.push.new.self.items _ (invariant_of-self-in_err-push g c) refl

pub invariant_of-self-2 : goal.invariant_of-self-2
invariant_of-self-2 g c =
    let was = placed_same c.self.inside.places.items c.widen.new.items.items (map number_of c.self.inside.seats.items) c.self.invariant c.widen.ensures.same in
    placed_more c.widen.new.items.items c.self.inside.seats.items c.push.new.self.items c.args.self.now c.args.number c.in-Ok.place
    (record { number = c.args.number; value = c.args.value }) was c.self.view_is c.requires
    c.in_ok-widen.ensures.ok refl c.in_ok-push.ensures.items
    (let more = ap length c.in_ok-push.ensures.items ∙ length-append c.self.inside.seats.items _
    in omega (arith, more, c.in-Ok.ensures, c.len.ensures, c.self.inside.seats.ok))

pub returns-clause-once : goal.returns-clause-once
returns-clause-once g c = once (slice_set c.widen.new.items.items c.args.number c.in-Ok.place) c.push.new.self.items _ (invariant_of-self-2 g c) refl

pub returns-clause-found : goal.returns-clause-found
returns-clause-found g c = λ t.
    let added : map seen c.push.new.self.items ≡ c.args.self.now ++ (c.args.number, c.args.value) ∷ [] =
    seen_more c.self.inside.seats.items c.push.new.self.items c.args.self.now (record { number = c.args.number; value = c.args.value }) c.self.view_is
    c.in_ok-push.ensures.items in
    rw added (added_at c.args.self.now c.args.number t c.args.value c.requires)
