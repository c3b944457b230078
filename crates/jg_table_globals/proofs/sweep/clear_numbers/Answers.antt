use Rattle.std.proofs.Common.{◌∙◌, arith}
use Rattle.jg_lists.specs.ByNumber as number
use Rattle.jg_table_globals.specs.declared.target.Target.TheVariants.{Object, Cleared}
use Rattle.jg_table_globals.proofs.Changed.{seat_at, some_at, changed_more, changed_none, when_met, unless_met}
use Rattle.jg_table_globals.proofs.sweep.clear_numbers.Goals as goal
use Rattle.jg_table_globals.proofs.sweep.clear_numbers.Goals.{then-meets, else-meets}

pub set-requires : goal.set-requires
set-requires g c =
    some_at c.loop-i.numbers c.loop-i.i _ _ c.seats.ensures.once
    (seat_at number.seen c.seats-i-end.result.now c.seats.result.now c.args.numbers.now c.loop-i.numbers c.loop-i.i _
    c.seats-i-end.ensures.seats c.seats.ensures.seats c.loop-i.invariant.long (omega (arith, c.loop-i-test.true)))

-- one reference more is cleared, or stays
pub loop-i-preserved : goal.loop-i-preserved
loop-i-preserved g c =
    let entry =
    seat_at number.seen c.seats-i-end.result.now c.seats.result.now c.args.numbers.now c.loop-i.numbers c.loop-i.i
    (record { number = 0; value = Object (record { 0 = 0 }) }) c.seats-i-end.ensures.seats c.seats.ensures.seats
    c.loop-i.invariant.long (omega (arith, c.loop-i-test.true)) in
    elim c.if-meets.branch [
      | then-meets w ↦ changed_more _ c.args.numbers.now c.loop-i.numbers c.if-meets.numbers c.loop-i.i _ _ Cleared
          c.loop-i.invariant c.seats.ensures.once entry (when_met _ _ c.meets.result c.meets.ensures w.if-meets.true)
          (w.numbers-is ∙ w.set.ensures.entries)
      | else-meets w ↦ changed_none _ c.args.numbers.now c.loop-i.numbers c.if-meets.numbers c.loop-i.i _ _
          c.loop-i.invariant c.seats.ensures.once entry (unless_met _ _ c.meets.result c.meets.ensures w.if-meets.false)
          w.numbers-is
    ]
