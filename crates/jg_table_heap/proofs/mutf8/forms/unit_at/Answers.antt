use Rattle.std.proofs.Common.{inl, inr}
use Rattle.jg_table_heap.proofs.Shapes.{starts_one, starts_two, starts_three, forms}
use Rattle.jg_table_heap.proofs.mutf8.forms.unit_at.Goals as goal

pub returns-in-Some-clause-found : goal.returns-in-Some-clause-found
returns-in-Some-clause-found c = starts_one _ c.args.first c.args.second c.args.third c.in-Some.ensures

pub returns-in-Some-two-clause-found : goal.returns-in-Some-two-clause-found
returns-in-Some-two-clause-found c = starts_two _ c.args.first c.args.second c.args.third c.in-Some-two.ensures

pub returns-in-Some-three-clause-found : goal.returns-in-Some-three-clause-found
returns-in-Some-three-clause-found c = starts_three _ c.args.first c.args.second c.args.third c.in-Some-three.ensures

pub returns-in-None-clause-none : goal.returns-in-None-clause-none
returns-in-None-clause-none c u below s =
    elim (forms u c.args.first c.args.second c.args.third below s) [
      | inl w ↦ (c.in_default.ensures u w)
      | inr more ↦ elim more [ inl w ↦ (c.in_default-two.ensures u w) | inr w ↦ c.in-None.ensures u w ]
    ]
