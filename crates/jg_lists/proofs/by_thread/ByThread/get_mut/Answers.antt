use Rattle.std.proofs.Common.{◌<◌, ℕ, List, sym, subst}
use Rattle.std.specs.Prelude.{All, ◌^◌}
use Rattle.jg_lists.proofs.Values.{set_below}
use Rattle.jg_lists.proofs.by_thread.ByThread.get_mut.Goals as goal

pub invariant_of-self-lent : goal.invariant_of-self-lent
invariant_of-self-lent g c some = (
  λ w. set_below (2 ^ 16) c.self.inside.numbers (c.get_mut.follows.lender w) _ w (c.get_mut.follows.holds w).entries c.self.invariant,
  subst (λ (es : List (ℕ × g.row.V.Denot)). All (λ e. e.0 < 2 ^ 16) es) (sym c.get_mut.follows.holds-at-none) c.self.invariant,
)
