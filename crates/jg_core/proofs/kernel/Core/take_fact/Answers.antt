use Rattle.std.proofs.Common.{rules, ◌≡◌, ◌+◌, true, false, List, ◌∷◌, refl, ◌∙◌}
use Rattle.jg_core.specs.declared.fact.Fact.{Fact}
use Rattle.jg_core.specs.Facts.{parts_of, can_be, makes}
use Rattle.jg_core.specs.Tables.{rows_of}
use Rattle.jg_core.specs.Kernel.{CoreState}
use Rattle.jg_core.proofs.Due.{due, told_by, told_one}
use Rattle.jg_core.proofs.kernel.Core.take_fact.Goals as goal

pub take-requires : goal.take-requires
take-requires g c =
    let state : CoreState = record { setup = c.self.inside.setup; rows = rows_of c.self.inside.tables; made = c.self.inside.made } in
    let w : List Fact = c.self.invariant.told in
    let found : c.can_be.result ≡ true = search rules in
    let can : can_be state.setup (parts_of w) c.args.fact ≡ true =
    told_by state.setup _ state.rows _ c.args.fact (parts_of w) c.can_be.result c.view.ensures.setup c.view.ensures.rows c.can_be.ensures
    c.self.invariant.stands.tables ∙ found in
    due state w c.args.fact c.self.invariant.stands c.self.invariant.few can

pub invariant_of-self-then-made-2 : goal.invariant_of-self-then-made-2
invariant_of-self-then-made-2 g c =
    let state : CoreState = record { setup = c.self.inside.setup; rows = rows_of c.self.inside.tables; made = c.self.inside.made } in
    let w : List Fact = c.self.invariant.told in
    let found : c.can_be.result ≡ true = search rules in
    let can : can_be state.setup (parts_of w) c.args.fact ≡ true =
    told_by state.setup _ state.rows _ c.args.fact (parts_of w) c.can_be.result c.view.ensures.setup c.view.ensures.rows c.can_be.ensures
    c.self.invariant.stands.tables ∙ found in
    let made : makes c.args.fact ≡ true = search rules in
    record {
      told = c.args.fact ∷ w;
      stands = told_one state (record { setup = c.self.inside.setup; rows = rows_of c.take.new.tables; made = c.self.inside.made + 1 }) w c.args.fact
          c.self.invariant.stands refl (rw made refl) can
          (c.in-Ok.ensures.ok (parts_of w) c.self.invariant.stands.tables);
      few = search rules;
      unmarked = c.take.ensures.marks c.self.invariant.unmarked;
    }

pub invariant_of-self-else-made-2 : goal.invariant_of-self-else-made-2
invariant_of-self-else-made-2 g c =
    let state : CoreState = record { setup = c.self.inside.setup; rows = rows_of c.self.inside.tables; made = c.self.inside.made } in
    let w : List Fact = c.self.invariant.told in
    let found : c.can_be.result ≡ true = search rules in
    let can : can_be state.setup (parts_of w) c.args.fact ≡ true =
    told_by state.setup _ state.rows _ c.args.fact (parts_of w) c.can_be.result c.view.ensures.setup c.view.ensures.rows c.can_be.ensures
    c.self.invariant.stands.tables ∙ found in
    let made : makes c.args.fact ≡ false = search rules in
    record {
      told = c.args.fact ∷ w;
      stands = told_one state (record { setup = c.self.inside.setup; rows = rows_of c.take.new.tables; made = c.self.inside.made }) w c.args.fact
          c.self.invariant.stands refl (rw made refl) can
          (c.in-Ok.ensures.ok (parts_of w) c.self.invariant.stands.tables);
      few = c.self.invariant.few;
      unmarked = c.take.ensures.marks c.self.invariant.unmarked;
    }
