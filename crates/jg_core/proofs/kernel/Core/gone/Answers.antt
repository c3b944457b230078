use Rattle.std.proofs.Common.{rules, refl, subst, sym}
use Rattle.jg_core.specs.Facts.{all_gone, parts_of}
use Rattle.jg_core.specs.Kernel.{CoreState, CoreStands}
use Rattle.jg_core.specs.Tables.{rows_of}
use Rattle.jg_core.proofs.Going.{told_all}
use Rattle.jg_core.proofs.kernel.Core.gone.Goals as goal

pub invariant_of-self-2 : goal.invariant_of-self-2
invariant_of-self-2 g c =
    let state : CoreState = record { setup = c.self.inside.setup; rows = rows_of c.self.inside.tables; made = c.self.inside.made } in
    let w = c.self.invariant.told in
    let stands = c.self.invariant.stands in
    record {
      told = all_gone c.args.objects.now w;
      stands = told_all state (record { setup = c.self.inside.setup; rows = rows_of c.let_all_go.new.tables; made = c.self.inside.made }) c.args.objects.now w
          stands refl refl
          (c.in_ok-let_all_go.ensures.all (parts_of w) stands.tables) (c.in_ok-let_all_go.ensures.ok (parts_of w) stands.tables);
      few = c.self.invariant.few;
      unmarked = c.in_ok-let_all_go.ensures.unmarked;
    }

pub returns-clause-ok : goal.returns-clause-ok
returns-clause-ok g c =
    let state : CoreState = record { setup = c.self.inside.setup; rows = rows_of c.self.inside.tables; made = c.self.inside.made } in
    record {
      setup = search rules;
      stands = λ w was.
          let stands : CoreStands state w = subst (λ s. CoreStands s w) (sym c.self.view_is) was in
          told_all state (record { setup = c.self.inside.setup; rows = rows_of c.let_all_go.new.tables; made = c.self.inside.made }) c.args.objects.now w stands
          refl refl
          (c.in_ok-let_all_go.ensures.all (parts_of w) stands.tables) (c.in_ok-let_all_go.ensures.ok (parts_of w) stands.tables);
    }
