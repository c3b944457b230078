use Rattle.jg_core.specs.Facts.{parts_of}
use Rattle.jg_witness.specs.Events.{facts_of}
use Rattle.jg_witness.proofs.Standing.{swept_stands}
use Rattle.jg_witness.proofs.named.make_room_for.Goals as goal

pub returns-in-Ok-clause-ok : goal.returns-in-Ok-clause-ok
returns-in-Ok-clause-ok g c = λ e stands.
    swept_stands c.args.core.now c.args.names.now.entries c.make_room.new.names.entries e
    (c.make_room.ensures.swept (parts_of (facts_of e)) (c.view.ensures.tells (facts_of e) stands.core)) stands

pub returns-in-Err-clause-err : goal.returns-in-Err-clause-err
returns-in-Err-clause-err g c = λ e stands.
    c.lapse.ensures.stands e
    (swept_stands c.args.core.now c.args.names.now.entries c.make_room.new.names.entries e
    (c.make_room.ensures.swept (parts_of (facts_of e)) (c.view.ensures.tells (facts_of e) stands.core)) stands)
