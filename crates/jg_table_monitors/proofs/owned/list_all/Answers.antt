use Rattle.std.proofs.Common.{rules, ◌≡◌}
use Rattle.std.proofs.lemmas.Fn.{always_returns_same}
use Rattle.jg_table_monitors.proofs.Listed.{object_of, listed_all, listed_law, sorted_law}
use Rattle.jg_table_monitors.proofs.owned.list_all.Goals as goal

pub returns-clause-rows : goal.returns-clause-rows
returns-clause-rows g c =
    let all = listed_all c.seats-seat-items.result.now c.args.owned.now c.loop-seat.seat-index c.loop-seat.found.items c.loop-seat-test.false
    c.loop-seat.invariant c.seats-seat-items.ensures.seats in
    listed_law c.args.owned.now c.loop-seat.found.items c.sort_unstable_by_key.new.self.items c.seats-seat-items.ensures.once all
    c.sort_unstable_by_key.ensures.permutation

pub returns-clause-ascending : goal.returns-clause-ascending
returns-clause-ascending g c =
    let all = listed_all c.seats-seat-items.result.now c.args.owned.now c.loop-seat.seat-index c.loop-seat.found.items c.loop-seat-test.false
    c.loop-seat.invariant c.seats-seat-items.ensures.seats in
    sorted_law c.args.owned.now c.loop-seat.found.items c.sort_unstable_by_key.new.self.items c.seats-seat-items.ensures.once all
    c.sort_unstable_by_key.ensures.permutation
    (c.sort_unstable_by_key.ensures.sorted object_of (always_returns_same _ (λ a r. r ≡ object_of a.0.now) _ (λ a r f' k. search rules)))
