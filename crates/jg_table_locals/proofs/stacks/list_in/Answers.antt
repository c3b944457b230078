use Rattle.std.proofs.Common.{◌≡◌, ℕ, ◌∙◌, ◌++◌, List, ap, arith, subst}
use Rattle.std.specs.Prelude.{map}
use Rattle.std.proofs.lemmas.List.{take_all}
use Rattle.jg_lists.specs.ByNumber.{seen}
use Rattle.jg_lists.specs.declared.by_number.Numbered.{Numbered}
use Rattle.jg_table_locals.specs.Rows.{local_ref}
use Rattle.jg_table_locals.specs.Seen.{StackRows, rows_seen, slot_ref}
use Rattle.jg_table_locals.proofs.Listed.{listed_more}
use Rattle.jg_table_locals.proofs.stacks.list_in.Goals as goal

pub loop-seat-preserved : goal.loop-seat-preserved
loop-seat-preserved g c =
    listed_more c.seats-seat-items.result.now c.loop-seat.seat-index c.seat-item.result c.args.refs.now.items c.loop-seat.refs.items c.list.new.refs.items
    c.loop-seat-test.true c.loop-seat.invariant
    (subst (λ (seat : Numbered StackRows). c.list.new.refs.items ≡ c.loop-seat.refs.items ++ map (slot_ref seat.number) seat.value.locals) c.seat-item.is
    c.in_ok-list.ensures.ok)

pub returns-clause-ok : goal.returns-clause-ok
returns-clause-ok g c =
    c.loop-seat.invariant
    ∙ ap (λ (es : List (ℕ × StackRows)). c.args.refs.now.items ++ map local_ref (rows_seen es).locals)
    (ap (map seen) (take_all c.loop-seat.seat-index c.seats-seat-items.result.now (omega (arith, c.loop-seat-test.false))) ∙ c.seats-seat-items.ensures.seats)
