use Rattle.jg_record.proofs.Told.{not_met}
use Rattle.jg_record.proofs.facts.met.Goals as goal

pub returns-in_err-class-2-clause-none : goal.returns-in_err-class-2-clause-none
returns-in_err-class-2-clause-none c = rw c.from_residual-in_err-class-2.ensures (λ word class n means below is.
    not_met c.args.setup.now c.in_ok-class.class.now c.in_ok-class.length.now _ c.in_ok-class.ensures.some c.in_err-class-2.ensures.none word class n means is)
