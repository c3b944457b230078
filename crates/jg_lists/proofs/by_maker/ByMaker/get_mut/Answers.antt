use Rattle.std.proofs.Common.{ℕ, List, refl, ◌∙◌, ap, subst}
use Rattle.jg_lists.specs.ByThread.{at, IsOnce}
use Rattle.jg_lists.specs.Lending.{WritesThrough}
use Rattle.jg_lists.proofs.by_maker.ByMaker.get_mut.Goals as goal

pub returns : goal.returns
returns g c = (
  (
    refl,
    λ w. subst (λ (es : List (ℕ × List (ℕ × g.row.V.Denot))). WritesThrough c.args.maker es w (c.get_mut.follows.lender w)) c.self.view_is
        (c.get_mut.follows.holds w),
    c.get_mut.follows.holds-at-none ∙ c.self.view_is,
  ),
  record {
    writes_back = tt;
    value = c.get_mut.ensures.value ∙ ap (at c.args.maker) c.self.view_is;
    once = subst (λ (es : List (ℕ × List (ℕ × g.row.V.Denot))). IsOnce es) c.self.view_is c.get_mut.ensures.once;
  },
)
