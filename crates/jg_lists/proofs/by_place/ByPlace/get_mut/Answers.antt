use Rattle.std.proofs.Common.{refl, sym, ◌∙◌}
use Rattle.std.proofs.option.Match.{None-if_not_some}
use Rattle.jg_lists.proofs.Values.{through, through_none}
use Rattle.jg_lists.proofs.by_place.ByPlace.get_mut.Goals as goal

pub returns-then-contains : goal.returns-then-contains
returns-then-contains g c = (
  (refl, λ w. through c.args.self.now c.args.number c.value_mut.result.now w c.value_mut.ensures.once (sym c.value_mut.ensures.value), refl),
  record { writes_back = tt; value = c.value_mut.ensures.value; once = c.value_mut.ensures.once },
)

pub returns-else-contains : goal.returns-else-contains
returns-else-contains g c =
    let none = None-if_not_some _ (sym c.contains.ensures.value ∙ c.if-contains.false) in (
      (refl, λ w. through_none c.args.self.now c.args.number w c.contains.ensures.once none, refl),
      record { writes_back = tt; value = sym none; once = c.contains.ensures.once },
    )
