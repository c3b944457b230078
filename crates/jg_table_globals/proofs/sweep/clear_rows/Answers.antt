use Rattle.std.proofs.Common.{◌≡◌, length, ◌∙◌, ap, sym, arith}
use Rattle.std.specs.Option.{option_copied_mut}
use Rattle.std.proofs.lemmas.List.{length-map}
use Rattle.jg_lists.specs.ByNumber.{seen}
use Rattle.jg_table_globals.proofs.Changed.{seat_at, changed_found, found_none, all_changed, each_named}
use Rattle.jg_table_globals.proofs.sweep.clear_rows.Goals as goal
use Rattle.jg_table_globals.proofs.sweep.clear_rows.Goals.{in-Some, in_default}

-- one table more is cleared
pub loop-i-preserved : goal.loop-i-preserved
loop-i-preserved g c =
    let entry = seat_at seen c.seats-i-end.result.now c.seats.result.now c.args.rows.now c.loop-i.rows c.loop-i.i _ c.seats-i-end.ensures.seats
    c.seats.ensures.seats c.loop-i.invariant.long
    (omega (arith, c.loop-i-test.true)) in
    elim c.match-get_mut.branch [
      | in-Some w ↦ changed_found _ c.args.rows.now c.loop-i.rows c.match-get_mut.rows c.loop-i.i _ _ w.in-Some.numbers.now w.clear_numbers.new.numbers
          c.loop-i.invariant c.seats.ensures.once entry
          (sym c.get_mut.ensures.value ∙ ap option_copied_mut w.in-Some.is) w.clear_numbers.ensures
          (w.rows-is ∙ (c.get_mut.follows.holds w.clear_numbers.new.numbers).entries)
      | in_default w ↦ absurd (found_none c.loop-i.rows c.loop-i.i _ _ c.seats.ensures.once entry
          (sym c.get_mut.ensures.value ∙ ap option_copied_mut w.in_default.is))
    ]

-- all tables are cleared
pub returns : goal.returns
returns g c =
    let many : length c.args.rows.now ≡ length c.seats-i-end.result.now = sym (ap length c.seats-i-end.ensures.seats) ∙ length-map c.seats-i-end.result.now seen
    in
    each_named _ c.args.rows.now c.loop-i.rows
    (all_changed _ c.args.rows.now c.loop-i.rows c.loop-i.i c.loop-i.invariant (omega (arith, many, c.loop-i-test.false)))
