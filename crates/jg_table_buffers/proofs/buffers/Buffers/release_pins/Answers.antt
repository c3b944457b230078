use Rattle.std.proofs.Common.{◌≡◌, ◌+◌, ◌∷◌, length, refl, ◌∙◌, ap, arith}
use Rattle.jg_table_buffers.specs.History.{ReleaseAll}
use Rattle.jg_lists.specs.ByMaker.{named}
use Rattle.jg_table_buffers.specs.Rows.{row_of}
use Rattle.jg_table_buffers.specs.Standing.{Stands}
use Rattle.jg_table_buffers.proofs.Calls.{seen}
use Rattle.jg_table_buffers.proofs.Counts.{counts_lowered, all_lowered}
use Rattle.jg_table_buffers.proofs.Lookups.{reopened, above_in}
use Rattle.jg_table_buffers.proofs.Released.{release_law, released_row, released_numbers}
use Rattle.jg_lists.proofs.Taken.{Leaves, leaves_more, Clears, cleared}
use Rattle.jg_table_buffers.proofs.buffers.Buffers.release_pins.Goals as goal
use Rattle.jg_table_buffers.proofs.buffers.Buffers.release_pins.Goals.{In-Some, In_default}

-- there was one more
counted : (g : _) (c : In-Some g) → c.loop-pin.self-inside.pinned ≡ length (named c.take_any.new.tables) + 1
counted g c =
    let taken = c.in-Some.ensures.taken in
    all_lowered (named c.loop-pin.self-inside.pins) (named c.take_any.new.tables) ((c.args.tid.0, taken.0), c.in-Some.pin) c.loop-pin.self-inside.pinned
    c.loop-pin.invariant.1 taken.1

pub overflow_sub-self : goal.overflow_sub-self
overflow_sub-self g c = omega (arith, counted g (goal.at.overflow_sub-self g c).In-Some)

pub loop-pin-smaller : goal.loop-pin-smaller
loop-pin-smaller g c = omega (arith, counted g (goal.at.loop-pin-smaller g c).In-Some)

-- the counts are lowered
pub loop-pin-preserved : goal.loop-pin-preserved
loop-pin-preserved g c =
    let taken = c.in-Some.ensures.taken in
    let vias = rw c.via_key.ensures at c.lower.ensures.count in (
      counts_lowered (named c.loop-pin.self-inside.pins) (named c.take_any.new.tables) c.loop-pin.self-inside.makers.items c.lower_count.new.makers.items
          c.loop-pin.self-inside.vias c.lower.new.map
          c.args.tid.0 taken.0 c.in-Some.pin c.loop-pin.invariant.0 taken.1 c.lower_count.ensures vias,
      omega (arith, counted g (goal.at.loop-pin-preserved g c).In-Some),
      leaves_more c.args.tid.0 (named c.self.inside.pins) (named c.loop-pin.self-inside.pins) (named c.take_any.new.tables) c.loop-pin.invariant.2
          (record { others = c.take_any.ensures.others; once = c.take_any.ensures.once }),
      c.loop-pin.invariant.3,
    )

-- none is left
pub invariant_of-self : goal.invariant_of-self
invariant_of-self g c = rw (c.in_default.ensures.same refl) (c.loop-pin.invariant.0, c.loop-pin.invariant.1)

left : (g : _) (c : In_default g) → Leaves c.args.tid.0 (named c.self.inside.pins) (named c.take_any.new.tables)
left g c = leaves_more c.args.tid.0 (named c.self.inside.pins) (named c.loop-pin.self-inside.pins) (named c.take_any.new.tables) c.loop-pin.invariant.2
    (record { others = c.take_any.ensures.others; once = c.take_any.ensures.once })

gone : (g : _) (c : In_default g) → Clears c.args.tid.0 (named c.self.inside.pins) (named c.take_any.new.tables)
gone g c = cleared c.args.tid.0 (named c.self.inside.pins) (named c.take_any.new.tables) (left g c) (c.in_default.ensures.none refl)

pub returns-clause-stands : goal.returns-clause-stands
returns-clause-stands g c = λ e stands.
    let was : Stands (seen g.I.Items.items_of c.self.inside.copies.entries (named c.self.inside.pins)) e = reopened _ _ e c.self.view_is stands in
    reopened (seen g.I.Items.items_of c.loop-pin.self-inside.copies.entries (named c.take_any.new.tables))
    (seen g.I.Items.items_of c.self.inside.copies.entries (named c.take_any.new.tables))
    (ReleaseAll c.args.tid.0 ∷ e)
    (ap (λ es. seen g.I.Items.items_of es (named c.take_any.new.tables)) c.loop-pin.invariant.3)
    (release_law g.I.Items.items_of c.self.inside.copies.entries (named c.self.inside.pins) (named c.take_any.new.tables) e c.args.tid.0 was (left g c).once
    (gone g c))

-- each row is left as the event leaves the buffer
pub returns-clause-rows : goal.returns-clause-rows
returns-clause-rows g c = λ m i.
    ap (λ es. row_of m i (seen g.I.Items.items_of es (named c.take_any.new.tables))) c.loop-pin.invariant.3
    ∙ released_row g.I.Items.items_of c.self.inside.copies.entries (named c.self.inside.pins) (named c.take_any.new.tables) _ c.args.tid.0 c.self.view_is
    (gone g c) m i

-- no number is added
pub returns-clause-numbers : goal.returns-clause-numbers
returns-clause-numbers g c = λ k i above.
    above_in _ _ k i (ap (λ es. seen g.I.Items.items_of es (named c.take_any.new.tables)) c.loop-pin.invariant.3)
    (released_numbers g.I.Items.items_of c.self.inside.copies.entries (named c.self.inside.pins) (named c.take_any.new.tables) _ c.args.tid.0 c.self.view_is
    (gone g c) k i above)
