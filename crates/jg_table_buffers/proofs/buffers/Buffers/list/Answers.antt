use Rattle.jg_table_buffers.proofs.Listed.{listed_law}
use Rattle.std.proofs.lemmas.Result.{on_ok_weaker}
use Rattle.jg_lists.specs.ByMaker.{named}
use Rattle.jg_table_buffers.proofs.buffers.Buffers.list.Goals as goal

-- the names of both kinds are appended
pub returns-clause-ok : goal.returns-clause-ok
returns-clause-ok g c =
    on_ok_weaker c.list_pins.result
    (listed_law g.I.Items.items_of c.args.self.now c.self.inside.copies.entries (named c.self.inside.pins) c.args.buffers.now.items
    c.list_copies.new.buffers.items c.list_pins.new.buffers.items
    c.self.view_is c.in_ok-list_copies.ensures.ok)
    c.list_pins.ensures.ok
