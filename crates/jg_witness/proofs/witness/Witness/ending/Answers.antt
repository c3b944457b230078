use Rattle.std.proofs.Common.{◌∙◌, ap, subst}
use Rattle.std.specs.Prelude.{IfOk, IfErr, ◌≢◌}
use Rattle.jg_core.specs.declared.kernel.Untold.TheVariants.{NoMemory}
use Rattle.jg_witness.specs.Standing.{WitnessState, both}
use Rattle.jg_witness.specs.Words.{EndedAs, RefusesEnding}
use Rattle.jg_witness.proofs.Returning.{ended_as, ended_keeps, refuses_ending, setup_kept}
use Rattle.jg_witness.proofs.witness.Witness.ending.Goals as goal

pub returns-clause-ok : goal.returns-clause-ok
returns-clause-ok g c =
    subst (λ (old : WitnessState). IfOk c.ending.result (EndedAs old (both c.ending.new.self c.self.inside.names.entries) c.args.bounds c.args.tid c.args.env
    c.args.function c.args.operands.now)) c.self.view_is
    (ended_as c.self.inside.core c.ending.new.self c.self.inside.names.entries c.args.bounds c.args.tid c.args.env c.args.function c.args.operands.now
    c.as_slice.result.now c.ending.result (λ e stands. c.as_slice.ensures.value ∙ c.in-Ok.ensures e stands) c.ending.ensures.ok)

pub returns-clause-why : goal.returns-clause-why
returns-clause-why g c =
    subst (λ (old : WitnessState). IfErr c.ending.result (λ why. why ≢ NoMemory → RefusesEnding old c.args.bounds c.args.tid c.args.env c.args.function
    c.args.operands.now why)) c.self.view_is
    (refuses_ending c.self.inside.core c.self.inside.names.entries c.args.bounds c.args.tid c.args.env c.args.function c.args.operands.now
    c.as_slice.result.now c.ending.result (λ e stands. c.as_slice.ensures.value ∙ c.in-Ok.ensures e stands) c.ending.ensures.why)

pub returns-clause-setup : goal.returns-clause-setup
returns-clause-setup g c =
    setup_kept c.self.inside.core c.ending.new.self c.self.inside.names.entries c.args.bounds c.args.tid c.args.env c.args.function c.as_slice.result.now
    c.ending.result c.ending.ensures.ok c.ending.ensures.err c.self.invariant
    ∙ ap (λ (w : WitnessState). w.core.setup) c.self.view_is

pub invariant_of-self-2 : goal.invariant_of-self-2
invariant_of-self-2 g c =
    ended_keeps c.self.inside.core c.ending.new.self c.self.inside.names.entries c.args.bounds c.args.tid c.args.env c.args.function c.args.operands.now
    c.ending.result
    (ended_as c.self.inside.core c.ending.new.self c.self.inside.names.entries c.args.bounds c.args.tid c.args.env c.args.function c.args.operands.now
    c.as_slice.result.now c.ending.result (λ e stands. c.as_slice.ensures.value ∙ c.in-Ok.ensures e stands) c.ending.ensures.ok)
    c.ending.ensures.err c.self.invariant
