use Rattle.jg_table_locals.specs.Seen.{one_more}
use Rattle.jg_table_locals.proofs.Opened.{changed_there, unchanged_there}
use Rattle.jg_table_locals.proofs.frames.count_more.Goals as goal

pub returns-in-Some-clause-counted : goal.returns-in-Some-clause-counted
returns-in-Some-clause-counted g c =
    changed_there one_more c.args.depth c.args.number c.deref.result.now c.args.frames.now.items c.in-Some.i c.index_mut.result.now c.deref.ensures.value
    c.index_mut.ensures.value c.requires.opened c.in-Some.ensures

pub returns-in_default-clause-counted : goal.returns-in_default-clause-counted
returns-in_default-clause-counted g c =
    unchanged_there one_more c.args.depth c.args.number c.deref.result.now c.args.frames.now.items c.deref.ensures.value c.in_default.ensures
