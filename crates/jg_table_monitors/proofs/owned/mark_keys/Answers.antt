use Rattle.std.proofs.Common.{◌≡◌, List, refl, sym, ap, ◌∙◌}
use Rattle.std.specs.Prelude.{◌==◌, map}
use Rattle.std.specs.List.{list_any}
use Rattle.std.specs.Map.{keys_of}
use mathlib.Core.List.{map-map}
use Rattle.jg_lists.specs.declared.by_number.Numbered.{Numbered}
use Rattle.jg_lists.specs.ByNumber.{seen}
use Rattle.jg_lists.proofs.Lists.{list_any-map}
use Rattle.jg_lists.proofs.Marks.{marks_all}
use Rattle.jg_lists.proofs.Visited.{marks_alike}
use Rattle.jg_table_monitors.specs.declared.owned.Owned.{Owned}
use Rattle.jg_table_monitors.proofs.owned.mark_keys.Goals as goal

pub returns : goal.returns
returns g c =
    let seats : List (Numbered Owned) = c.seats-seat-items.result.now in
    let keys : map (λ (seat : Numbered Owned). seat.number) seats ≡ keys_of c.args.map.now =
    sym (map-map (λ e. e.0) seen seats) ∙ ap keys_of c.seats-seat-items.ensures.seats in
    marks_alike _ _ _ _
    (λ o. list_any-map (λ (seat : Numbered Owned). seat.number) (λ seat. seat.number == o) (λ k. k == o) (λ seat. refl) seats
    ∙ ap (list_any (λ k. k == o)) keys)
    (marks_all (λ (seat : Numbered Owned) p. seat.number == p) seats c.loop-seat.seat-index _ _ c.loop-seat-test.false c.loop-seat.invariant)
