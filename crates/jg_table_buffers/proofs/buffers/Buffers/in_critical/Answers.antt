use Rattle.std.proofs.Common.{refl, ◌∙◌}
use Rattle.std.specs.Prelude.{◌==◌}
use Rattle.std.specs.Prelude.{◌++◌, map}
use Rattle.jg_table_buffers.specs.Standing.{Stands}
use Rattle.jg_table_buffers.specs.Seen.{copy_seen, pin_seen}
use Rattle.jg_table_buffers.proofs.Lookups.{reopened}
use Rattle.jg_table_buffers.proofs.Maps.{some_counted}
use Rattle.jg_table_buffers.proofs.Pins.{pin_law}
use Rattle.jg_lists.specs.ByMaker.{named}
use Rattle.jg_table_buffers.proofs.buffers.Buffers.in_critical.Goals as goal

pub returns : goal.returns
returns g c = λ e stands.
    let was : Stands (record { lent = map (copy_seen g.I.Items.items_of) c.self.inside.copies.entries ++ map pin_seen (named c.self.inside.pins) }) e =
    reopened _ _ e c.self.view_is stands in
    rw (c.number_at.ensures, c.self.invariant.0.by_maker c.args.tid.0)
    (some_counted (λ f. f.0.0 == c.args.tid.0) (named c.self.inside.pins)
    ∙ pin_law g.I.Items.items_of (λ b. b.maker == c.args.tid.0) (λ b items. refl) c.self.inside.copies.entries
    (named c.self.inside.pins) e was)
