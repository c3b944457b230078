use Rattle.std.proofs.Common.{refl}
use Rattle.std.specs.Prelude.{◌++◌, map}
use Rattle.jg_table_buffers.specs.Standing.{Stands}
use Rattle.jg_table_buffers.specs.Seen.{copy_seen, pin_seen}
use Rattle.jg_table_buffers.proofs.Lookups.{reopened}
use Rattle.jg_table_buffers.proofs.Pins.{object_law}
use Rattle.jg_lists.specs.ByMaker.{named}
use Rattle.jg_table_buffers.proofs.buffers.Buffers.mark_held.Goals as goal

pub returns : goal.returns
returns g c = λ e stands o.
    let was : Stands (record { lent = map (copy_seen g.I.Items.items_of) c.self.inside.copies.entries ++ map pin_seen (named c.self.inside.pins) }) e =
    reopened _ _ e c.self.view_is stands in
    rw (c.mark_objects.ensures o, object_law g.I.Items.items_of o c.self.inside.copies.entries (named c.self.inside.pins) e was) refl
