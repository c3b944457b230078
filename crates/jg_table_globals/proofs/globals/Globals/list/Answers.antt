use Rattle.std.proofs.lemmas.Result.{on_ok_weaker}
use Rattle.jg_lists.specs.ByMaker.{named}
use Rattle.jg_table_globals.proofs.Listed.{listed_law}
use Rattle.jg_table_globals.proofs.globals.Globals.list.Goals as goal

-- the references of both kinds are appended
pub returns-clause-ok : goal.returns-clause-ok
returns-clause-ok g c =
    let strong = named c.self.inside.strong in
    let weak = named c.self.inside.weak in
    let refs = c.list_names-2.new.refs.items in
    on_ok_weaker c.list_names-2.result
    (listed_law c.args.self.now strong weak c.args.refs.now.items c.list_names.new.refs.items refs c.self.view_is c.in_ok-list_names.ensures.ok)
    c.list_names-2.ensures.ok
