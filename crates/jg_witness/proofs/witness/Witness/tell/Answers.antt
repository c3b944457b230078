use Rattle.std.proofs.Common.{subst}
use Rattle.std.specs.Prelude.{OnOk}
use Rattle.jg_witness.specs.Events.{Told}
use Rattle.jg_witness.specs.Standing.{Takes, WitnessState, both}
use Rattle.jg_witness.proofs.Returning.{told_keeps}
use Rattle.jg_witness.proofs.Standing.{told_if}
use Rattle.jg_witness.proofs.witness.Witness.tell.Goals as goal

pub returns-clause-ok : goal.returns-clause-ok
returns-clause-ok g c =
    subst (λ (old : WitnessState). OnOk c.tell.result (Takes old (both c.tell.new.self c.self.inside.names.entries) (Told c.args.fact))) c.self.view_is
    (told_if c.self.inside.core c.tell.new.self c.self.inside.names.entries c.args.fact c.tell.result c.tell.ensures.ok)

pub invariant_of-self : goal.invariant_of-self
invariant_of-self g c =
    told_keeps c.self.inside.core c.tell.new.self c.self.inside.names.entries c.args.fact c.tell.result c.tell.ensures.ok c.tell.ensures.err c.self.invariant
