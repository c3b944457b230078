use Rattle.jg_table_locals.specs.Seen.{with_room}
use Rattle.jg_table_locals.proofs.Opened.{changed_there, unchanged_there}
use Rattle.jg_table_locals.proofs.frames.set_room.Goals as goal

pub returns-in-Some-clause-set : goal.returns-in-Some-clause-set
returns-in-Some-clause-set g c =
    changed_there (with_room c.args.room) c.args.depth c.args.number c.deref.result.now c.args.frames.now.items c.in-Some.i c.index_mut.result.now
    c.deref.ensures.value
    c.index_mut.ensures.value c.requires c.in-Some.ensures

pub returns-in_default-clause-set : goal.returns-in_default-clause-set
returns-in_default-clause-set g c =
    unchanged_there (with_room c.args.room) c.args.depth c.args.number c.deref.result.now c.args.frames.now.items c.deref.ensures.value c.in_default.ensures
