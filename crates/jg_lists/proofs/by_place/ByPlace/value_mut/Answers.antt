use Rattle.std.proofs.Common.{◌-◌, Some, refl, sym, ap, ◌∙◌, arith}
use Rattle.jg_lists.specs.declared.by_number.Numbered.{Numbered}
use Rattle.jg_lists.proofs.Places.{once, has_place, within, own_seat, found, written, placed_written}
use Rattle.jg_lists.proofs.by_place.ByPlace.value_mut.Goals as goal

pub overflow_sub-place : goal.overflow_sub-place
overflow_sub-place g c =
    has_place c.self.inside.places.items c.self.inside.seats.items c.args.self.now c.args.number c.number_at-place.result c.self.invariant c.self.view_is
    c.number_at-place.ensures c.requires

pub index_mut-requires : goal.index_mut-requires
index_mut-requires g c =
    omega (
      arith,
      within c.self.inside.places.items c.self.inside.seats.items c.args.number c.number_at-place.result c.self.invariant c.number_at-place.ensures
          (overflow_sub-place g c),
      c.self.inside.seats.ok,
    )

pub invariant_of-self-lent : goal.invariant_of-self-lent
invariant_of-self-lent g c w =
    placed_written c.self.inside.places.items c.self.inside.seats.items (c.number_at-place.result - 1) c.index_mut.result.now
    (record { number = c.index_mut.result.now.number; value = w }) c.self.invariant
    (within c.self.inside.places.items c.self.inside.seats.items c.args.number c.number_at-place.result c.self.invariant c.number_at-place.ensures
    (has_place c.self.inside.places.items c.self.inside.seats.items c.args.self.now c.args.number c.number_at-place.result c.self.invariant c.self.view_is
    c.number_at-place.ensures c.requires))
    (ap (λ (s : Numbered g.row.V.Denot). s.number) (sym c.index_mut.ensures.value))

pub returns : goal.returns
returns g c =
    let some = has_place c.self.inside.places.items c.self.inside.seats.items c.args.self.now c.args.number
    c.number_at-place.result c.self.invariant c.self.view_is c.number_at-place.ensures c.requires in
    let mine = ap (λ (s : Numbered g.row.V.Denot). s.number) c.index_mut.ensures.value
    ∙ own_seat c.self.inside.places.items c.self.inside.seats.items c.args.number c.number_at-place.result c.index_mut.result.now c.self.invariant
    c.number_at-place.ensures some in
    let value = found c.self.inside.places.items c.self.inside.seats.items c.args.self.now c.args.number c.number_at-place.result
    c.index_mut.result.now c.self.invariant c.self.view_is c.number_at-place.ensures some in (
      (
        refl,
        λ w. written c.self.inside.places.items c.self.inside.seats.items c.args.self.now c.args.number c.number_at-place.result c.index_mut.result.now
            (record { number = c.index_mut.result.now.number; value = w }) w c.self.invariant
            c.self.view_is c.number_at-place.ensures some (ap (λ k. (k, w)) mine),
      ),
      record {
        writes_back = tt;
        value = ap (λ (s : Numbered g.row.V.Denot). Some s.value) c.index_mut.ensures.value ∙ sym value;
        once = once c.self.inside.places.items c.self.inside.seats.items c.args.self.now c.self.invariant c.self.view_is;
      },
    )
