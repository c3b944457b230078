use Rattle.std.proofs.Common.{◌≡◌, ◌<◌, rules, sym, subst}
use Rattle.jg_table_buffers.specs.Rows.{Rows, row_of, copy_length}
use Rattle.jg_table_buffers.specs.Standing.{Stands}
use Rattle.jg_table_buffers.proofs.Lookups.{reopened, above_in}
use Rattle.jg_table_buffers.proofs.Calls.{seen, write_law, written_numbers, written_buffers}
use mir.Syntax.{w64}
use mir.Val.{to_z, of_z}
use Rattle.jg_lists.specs.ByMaker.{named}
use Rattle.jg_table_buffers.specs.Seen.{listed}
use Rattle.jg_table_buffers.proofs.buffers.Buffers+A.write.Goals as goal

-- the item is written
pub returns-clause-stands : goal.returns-clause-stands
returns-clause-stands g c = λ e stands.
    let was : Stands (seen listed c.self.inside.copies.entries (named c.self.inside.pins)) e = reopened _ _ e c.self.view_is stands in
    let P : Rows → Type 0 = λ r. c.args.index < copy_length (row_of c.args.buf.maker.0 c.args.buf.n r) in
    let within : c.args.index < copy_length (row_of c.args.buf.maker.0 c.args.buf.n (seen listed c.self.inside.copies.entries (named c.self.inside.pins))) =
    subst P (sym c.self.view_is) c.requires in
    let plain : to_z w64 (of_z w64 c.args.value) ≡ c.args.value = search rules in
    write_law listed c.self.inside.copies.entries c.set_item.new.map.entries (named c.self.inside.pins) e c.args.buf.maker.0 c.args.buf.n c.args.index
    c.args.value was within c.set_item.ensures.unique
    (λ q. rw plain at (c.set_item.ensures.set q))

-- the numbers stay
pub returns-clause-numbers : goal.returns-clause-numbers
returns-clause-numbers g c = λ k i above.
    written_numbers listed c.self.inside.copies.entries c.set_item.new.map.entries (named c.self.inside.pins) c.args.buf.maker.0 c.args.buf.n c.args.index _
    c.set_item.ensures.set k i
    (above_in _ _ k i c.self.view_is above)

-- and what is known of each buffer
pub returns-clause-buffers : goal.returns-clause-buffers
returns-clause-buffers g c =
    written_buffers listed c.self.inside.copies.entries c.set_item.new.map.entries (named c.self.inside.pins) _ c.args.buf.maker.0 c.args.buf.n c.args.index _
    c.self.view_is c.set_item.ensures.set
