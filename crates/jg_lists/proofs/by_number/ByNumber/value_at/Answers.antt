use Rattle.std.proofs.Common.{Some, refl, sym, ap, subst, ◌∙◌}
use Rattle.jg_lists.specs.declared.by_number.Numbered.{Numbered}
use Rattle.jg_lists.specs.Searches.{Standing}
use Rattle.jg_lists.proofs.Seats.{once, within_view, own_in_view, found, written, same_numbers}
use Rattle.jg_lists.proofs.by_number.ByNumber.value_at.Goals as goal

pub invariant_of-self-lent : goal.invariant_of-self-lent
invariant_of-self-lent g c w =
    let seats = c.self.inside.seats.items in
    subst (λ numbers. Standing c.self.inside.slots.items numbers c.self.inside.used)
    (sym (same_numbers seats c.args.seat c.index_mut.result.now (record { number = c.index_mut.result.now.number; value = w })
    (within_view seats c.args.self.now c.args.seat c.self.view_is c.requires.seated)
    (ap (λ (s : Numbered g.row.V.Denot). s.number) (sym c.index_mut.ensures.value))))
    c.self.invariant

pub returns : goal.returns
returns g c =
    let slots = c.self.inside.slots.items in
    let seats = c.self.inside.seats.items in
    let inside = within_view seats c.args.self.now c.args.seat c.self.view_is c.requires.seated in
    let own = own_in_view seats c.args.self.now c.args.number c.args.seat c.index_mut.result.now c.self.view_is c.requires.seated c.requires.own in
    let mine = ap (λ (s : Numbered g.row.V.Denot). s.number) c.index_mut.ensures.value ∙ own in
    let value = found slots seats c.args.self.now c.args.number c.args.seat c.index_mut.result.now c.self.invariant.placed c.self.view_is inside own in (
      (
        refl,
        λ w. written slots seats c.args.self.now c.args.number c.args.seat c.index_mut.result.now
            (record { number = c.index_mut.result.now.number; value = w }) w c.self.invariant.placed c.self.view_is inside own
            (ap (λ k. (k, w)) mine),
      ),
      record {
        writes_back = tt;
        value = ap (λ (s : Numbered g.row.V.Denot). Some s.value) c.index_mut.ensures.value ∙ sym value;
        once = once slots seats c.args.self.now c.self.invariant.placed c.self.view_is;
      },
    )
