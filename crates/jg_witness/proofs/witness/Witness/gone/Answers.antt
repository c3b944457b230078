use Rattle.std.proofs.Common.{subst, List}
use Rattle.std.specs.Prelude.{OnOk}
use Rattle.jg_witness.specs.Events.{Event, told_gone}
use Rattle.jg_witness.specs.Standing.{WitnessStands, WitnessState, both}
use Rattle.jg_witness.proofs.Returning.{gone_keeps, stays_if}
use Rattle.jg_witness.proofs.Standing.{gone_if}
use Rattle.jg_witness.proofs.witness.Witness.gone.Goals as goal

pub returns-clause-ok : goal.returns-clause-ok
returns-clause-ok g c =
    let names = c.self.inside.names.entries in
    subst (λ (old : WitnessState). OnOk c.gone.result ((e : List Event) → WitnessStands old e
    → WitnessStands (both c.gone.new.self names) (told_gone c.args.objects.now e))) c.self.view_is
    (gone_if c.self.inside.core c.gone.new.self names c.args.objects.now c.gone.result c.gone.ensures.ok)

pub invariant_of-self : goal.invariant_of-self
invariant_of-self g c =
    let names = c.self.inside.names.entries in
    gone_keeps (both c.self.inside.core names) (both c.gone.new.self names) c.args.objects.now c.gone.result
    (gone_if c.self.inside.core c.gone.new.self names c.args.objects.now c.gone.result c.gone.ensures.ok)
    (stays_if c.self.inside.core c.gone.new.self names c.gone.result c.gone.ensures.err) c.self.invariant
