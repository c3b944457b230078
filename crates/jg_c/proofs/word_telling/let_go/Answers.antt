use Rattle.std.proofs.Common.{◌∙◌, subst}
use Rattle.jg_c.specs.Errors as errors
use Rattle.jg_c.specs.Witnesses.{WitnessHeld}
use Rattle.jg_c.specs.WordTelling.{LetsGoOf}
use Rattle.jg_c.proofs.Refusing.{held_still}
use Rattle.jg_c.proofs.word_telling.let_go.Goals as goal

pub returns-clause-goes : goal.returns-clause-goes
returns-clause-goes c = λ n.
    let new : WitnessHeld = record { witness = c.gone.new.self; bounds = c.asked.inside.bounds } in
    subst (λ (old : WitnessHeld). LetsGoOf old new c.args.objects.now c.of_held.result errors.impossible) c.asked.view_is
    (held_still (record { witness = c.asked.inside.witness; bounds = c.asked.inside.bounds }) new c.args.objects.now c.as_slice.result.now c.in-Err.still
    c.of_held.result (c.as_slice.ensures.value ∙ c.in-Ok.ensures) c.in-Err.ensures.err c.in-Err.ensures.first c.in-Err.ensures.by c.of_held.ensures.place
    c.of_held.ensures.by)
