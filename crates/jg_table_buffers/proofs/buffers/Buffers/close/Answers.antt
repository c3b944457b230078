use Rattle.std.proofs.Common.{refl, arith}
use Rattle.jg_table_buffers.specs.Standing.{Stands}
use Rattle.jg_table_buffers.proofs.Counts.{counts_lowered, all_lowered}
use Rattle.jg_table_buffers.proofs.Lookups.{reopened, above_in}
use Rattle.jg_table_buffers.proofs.Calls.{seen, close_law, closed_numbers}
use Rattle.jg_lists.specs.ByMaker.{named}
use Rattle.jg_table_buffers.proofs.buffers.Buffers.close.Goals as goal

-- the counts are lowered
pub invariant_of-self : goal.invariant_of-self
invariant_of-self g c =
    let vias = rw c.via_key.ensures at c.lower.ensures.count in
    let count = all_lowered (named c.self.inside.pins) (named c.remove.new.tables) _ c.self.inside.pinned c.self.invariant.1 c.in-Some.ensures.taken in (
      counts_lowered (named c.self.inside.pins) (named c.remove.new.tables) c.self.inside.makers.items c.lower_count.new.makers.items c.self.inside.vias
          c.lower.new.map c.args.buf.maker.0 c.args.buf.n
          c.in-Some.pin c.self.invariant.0 c.in-Some.ensures.taken c.lower_count.ensures vias,
      omega (arith, count),
    )

-- no pinned buffer has the number, and the counts are the same
pub invariant_of-self-in_default : goal.invariant_of-self-in_default
invariant_of-self-in_default g c = rw (c.in_default.ensures.none refl) c.self.invariant

-- the buffer goes
pub returns-in-Some-clause-stands : goal.returns-in-Some-clause-stands
returns-in-Some-clause-stands g c = λ e stands.
    let was : Stands (seen g.I.Items.items_of c.self.inside.copies.entries (named c.self.inside.pins)) e = reopened _ _ e c.self.view_is stands in
    close_law g.I.Items.items_of c.self.inside.copies.entries c.swap_remove.new.self.entries (named c.self.inside.pins) (named c.remove.new.tables) e
    c.args.buf.maker.0 c.args.buf.n was
    c.swap_remove.ensures.unique
    c.remove.ensures.once c.swap_remove.ensures.updates.0 c.remove.ensures.drops

pub returns-in_default-clause-stands : goal.returns-in_default-clause-stands
returns-in_default-clause-stands g c = λ e stands.
    let was : Stands (seen g.I.Items.items_of c.self.inside.copies.entries (named c.self.inside.pins)) e = reopened _ _ e c.self.view_is stands in
    close_law g.I.Items.items_of c.self.inside.copies.entries c.swap_remove.new.self.entries (named c.self.inside.pins) (named c.remove.new.tables) e
    c.args.buf.maker.0 c.args.buf.n was
    c.swap_remove.ensures.unique
    c.remove.ensures.once c.swap_remove.ensures.updates.0 c.remove.ensures.drops

-- no number is added
pub returns-in-Some-clause-numbers : goal.returns-in-Some-clause-numbers
returns-in-Some-clause-numbers g c = λ k i above.
    closed_numbers g.I.Items.items_of c.self.inside.copies.entries c.swap_remove.new.self.entries (named c.self.inside.pins) (named c.remove.new.tables)
    c.args.buf.maker.0 c.args.buf.n
    c.swap_remove.ensures.updates.0 c.remove.ensures.drops k i (above_in _ _ k i c.self.view_is above)

pub returns-in_default-clause-numbers : goal.returns-in_default-clause-numbers
returns-in_default-clause-numbers g c = λ k i above.
    closed_numbers g.I.Items.items_of c.self.inside.copies.entries c.swap_remove.new.self.entries (named c.self.inside.pins) (named c.remove.new.tables)
    c.args.buf.maker.0 c.args.buf.n
    c.swap_remove.ensures.updates.0 c.remove.ensures.drops k i (above_in _ _ k i c.self.view_is above)
