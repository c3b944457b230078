use Rattle.std.proofs.Common.{nat_lt}
use Rattle.std.specs.Prelude.{not}
use Rattle.std.proofs.lemmas.Bool.{not-true}
use Rattle.jg_words.proofs.Common.{and_second}
use Rattle.jg_core.specs.Facts.{is_attached}
use Rattle.jg_core.proofs.Due.{counts, can_start}
use Rattle.jg_core.proofs.take.begin.Goals as goal

pub attach-requires : goal.attach-requires
attach-requires g c = (counts c.args.setup.now c.requires.events c.args.tables.now.threads c.args.tid.0 c.requires.ordinary c.requires.stand.threads).sessions

pub start_thread-requires : goal.start_thread-requires
start_thread-requires g c =
    let t = c.args.tid.0 in
    let none = not-true (is_attached c.requires.events t) (and_second (nat_lt 0 t) (not (is_attached c.requires.events t)) c.requires.can) in
    rw c.in_ok-reserve_start.ensures.rows
    (can_start c.args.setup.now c.requires.events c.args.tables.now.locals.rows t c.requires.ordinary c.requires.stand.locals none)
