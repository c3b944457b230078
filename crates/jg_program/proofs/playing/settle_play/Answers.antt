use Rattle.std.proofs.Common.{List, sym, subst}
use Rattle.std.specs.Prelude.{All}
use Rattle.jg_shell.specs.Settled.{IsOwnEntries, IsOfSome}
use Rattle.jg_shell.specs.Work.{Work}
use Rattle.jg_program.proofs.Telling.{settled_by}
use Rattle.jg_program.proofs.playing.settle_play.Goals as goal

pub end_told-requires : goal.end_told-requires
end_told-requires g c =
    let h = c.in-Ok.finished.guard.journal in
    let same = sym c.in-Ok.ensures.workers in
    record {
      legal = c.in-Ok.ensures.legal;
      own = subst (λ (ws : List Work). All (IsOwnEntries h) ws) same c.in-Ok.ensures.told;
      known = subst (λ (ws : List Work). All (IsOfSome ws) h) same c.in-Ok.ensures.known;
    }

pub returns-in-Err-clause-settles : goal.returns-in-Err-clause-settles
returns-in-Err-clause-settles g c =
    let tells = c.end_different.ensures.tells in
    settled_by c.args.workers.items c.in-Err.fault _ _ _ c.args.reporting _ _ tells.0 c.end_different.result c.parts_of-place.ensures c.in-Err.ensures.legal
    c.in-Err.ensures.differs tells.1 tells.2
