use Rattle.std.proofs.Common.{◌≡◌, ℕ, Option, Some, None, ◌∙◌, ap, sym, subst}
use Rattle.jg_lists.specs.declared.by_number.Numbered.{Numbered}
use Rattle.jg_table_locals.specs.Seen.{StackRows}
use Rattle.jg_table_locals.proofs.Found.{number_in, name_in, name_past, name_here}
use Rattle.jg_table_locals.proofs.stacks.name_of.Goals as goal

pub loop-seat-preserved : goal.loop-seat-preserved
loop-seat-preserved g c =
    name_past c.args.object c.seats-seat-items.result.now c.loop-seat.seat-index c.seat-item.result c.loop-seat-test.true c.loop-seat.invariant
    (subst (λ (seat : Numbered StackRows). None ≡ number_in c.args.object seat.value) c.seat-item.is c.in_default.ensures)

pub returns-in-Some : goal.returns-in-Some
returns-in-Some g c =
    subst (λ (seat : Numbered StackRows). ◌≡◌ {A = Option (ℕ × ℕ)} (Some (seat.number, c.in-Some.n)) (name_in c.args.object c.args.stacks.now))
    (sym c.seat-item.is)
    (name_here c.args.object c.seats-seat-items.result.now c.loop-seat.seat-index c.seat-item.result c.loop-seat-test.true c.loop-seat.invariant c.in-Some.n
    (subst (λ (seat : Numbered StackRows). Some c.in-Some.n ≡ number_in c.args.object seat.value) c.seat-item.is c.in-Some.ensures)
    ∙ ap (name_in c.args.object) c.seats-seat-items.ensures.seats)
