use Rattle.std.proofs.Common.{refl, ◌∙◌}
use Rattle.jg_table_buffers.specs.Standing.{Stands}
use Rattle.jg_table_buffers.specs.Tallies.{Counted}
use Rattle.jg_table_buffers.proofs.Counts.{counts_same, counts_raised, all_raised}
use Rattle.jg_table_buffers.proofs.Lookups.{reopened, above_in}
use Rattle.jg_table_buffers.proofs.Calls.{seen, no_pin, open_pin_law, pin_numbers}
use Rattle.jg_lists.specs.ByMaker.{named}
use Rattle.jg_table_buffers.proofs.buffers.Buffers.open_pin.Goals as goal

-- a number above all of the maker's is new
pub add-requires : goal.add-requires
add-requires g c = no_pin g.I.Items.items_of c.self.inside.copies.entries (named c.self.inside.pins) c.args.tid.0 c.args.n
    (above_in _ _ c.args.tid.0 c.args.n c.self.view_is c.requires.above)

-- room was made, and the counts are the same
pub invariant_of-self-in_err-make_room : goal.invariant_of-self-in_err-make_room
invariant_of-self-in_err-make_room g c = (counts_same _ _ _ _ _ c.self.invariant.0 c.widen_counts.ensures.same c.make_room.ensures.same, c.self.invariant.1)

pub invariant_of-self-in_err-add : goal.invariant_of-self-in_err-add
invariant_of-self-in_err-add g c =
    rw c.in_err-add.ensures.err (counts_same _ _ _ _ _ c.self.invariant.0 c.widen_counts.ensures.same c.make_room.ensures.same, c.self.invariant.1)

-- the counts are raised
pub invariant_of-self-2 : goal.invariant_of-self-2
invariant_of-self-2 g c =
    let was : Counted (named c.self.inside.pins) c.widen_counts.new.makers.items c.make_room.new.map =
    counts_same _ _ _ _ _ c.self.invariant.0 c.widen_counts.ensures.same c.make_room.ensures.same in
    let vias = rw c.via_key-key.ensures at c.raise.ensures in (
      counts_raised (named c.self.inside.pins) (named c.add.new.tables) c.widen_counts.new.makers.items c.raise_count.new.makers.items c.make_room.new.map
          c.raise.new.map c.args.tid.0 c.args.n _
          was c.in_ok-add.ensures.ok c.raise_count.ensures vias,
      c.in-Some.ensures.1 ∙ all_raised (named c.self.inside.pins) (named c.add.new.tables) _ _ c.self.inside.pinned c.self.invariant.1 c.in_ok-add.ensures.ok,
    )

-- the pinned buffer is added
pub returns-clause-ok : goal.returns-clause-ok
returns-clause-ok g c = λ e stands.
    let was : Stands (seen g.I.Items.items_of c.self.inside.copies.entries (named c.self.inside.pins)) e = reopened _ _ e c.self.view_is stands in
    open_pin_law g.I.Items.items_of c.self.inside.copies.entries (named c.self.inside.pins) (named c.add.new.tables) e c.args.tid.0 c.args.n c.args.object.0
    c.args.family c.args.via
    c.args.length _ c.requires.pins was
    (above_in _ _ c.args.tid.0 c.args.n c.self.view_is c.requires.above) c.in_ok-add.ensures.once c.in_ok-add.ensures.found (rw c.pin_kind.ensures refl)

-- no other number is there
pub returns-clause-numbers : goal.returns-clause-numbers
returns-clause-numbers g c = λ k i above below.
    pin_numbers g.I.Items.items_of c.self.inside.copies.entries (named c.self.inside.pins) (named c.add.new.tables) c.args.tid.0 c.args.n _
    c.in_ok-add.ensures.found k i
    (above_in _ _ k i c.self.view_is above)
    below
