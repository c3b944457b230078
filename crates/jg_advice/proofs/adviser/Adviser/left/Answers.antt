use Rattle.std.proofs.Common.{refl, sym, subst}
use Rattle.std.specs.Prelude.{map}
use Rattle.std.proofs.lemmas.Result.{on_ok_weaker}
use Rattle.jg_lists.specs.ByMaker.{named}
use Rattle.jg_advice.specs.Advised.{left}
use Rattle.jg_advice.specs.Standing.{AdviserState, Stands}
use Rattle.jg_advice.proofs.adviser.Adviser.left.Goals as goal

pub returns : goal.returns
returns c = on_ok_weaker c.push_left.result (λ pushed h stands.
    let was : Stands (record {
      most = c.self.inside.most;
      doings = c.self.inside.doings;
      written = c.self.inside.written;
      committed = c.self.inside.committed;
      entered = c.self.inside.entered;
      regions = c.self.inside.regions;
      calls = c.self.inside.counts.calls;
      collections = c.self.inside.counts.collections;
    }) h = subst (λ (v : AdviserState). Stands v h) (sym c.self.view_is) stands in
    (map left (named c.self.inside.committed), (named c.self.inside.committed, was.once, was.committed, refl), pushed)) c.push_left.ensures
