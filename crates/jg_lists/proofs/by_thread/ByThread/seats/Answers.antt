use Rattle.std.proofs.Common.{◌<◌, sym, subst}
use Rattle.std.specs.Prelude.{All, ◌^◌}
use Rattle.jg_lists.specs.ByNumber.{seen}
use Rattle.jg_lists.proofs.Lists.{all_mapped}
use Rattle.jg_lists.proofs.by_thread.ByThread.seats.Goals as goal

pub returns-clause-threads : goal.returns-clause-threads
returns-clause-threads g c =
    all_mapped (seen {V = g.row.V.Denot}) (λ e. e.0 < 2 ^ 16) c.seats.result.now (subst (All (λ e. e.0 < 2 ^ 16)) (sym c.seats.ensures.seats) c.self.invariant)
