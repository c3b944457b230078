use Rattle.std.proofs.Common.{subst}
use Rattle.jg_witness.specs.Events.{Lapsed}
use Rattle.jg_witness.specs.Standing.{Takes, WitnessState, both}
use Rattle.jg_witness.proofs.witness.Witness.lapsed.Goals as goal

pub returns-clause-takes : goal.returns-clause-takes
returns-clause-takes g c =
    subst (λ (old : WitnessState). Takes old (both c.lapse.new.core c.lapse.new.names.entries) (Lapsed c.args.word)) c.self.view_is c.lapse.ensures.stands
