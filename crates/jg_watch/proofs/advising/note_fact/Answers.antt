use Rattle.std.proofs.Common.{◌∷◌}
use Rattle.jg_core.specs.Facts.{parts_of}
use Rattle.jg_advice.specs.Moments.{facts_of}
use Rattle.jg_watch.proofs.advising.note_fact.Goals as goal

pub returns-clause-logs : goal.returns-clause-logs
returns-clause-logs g c = λ h logs stands.
    let tells = c.view.ensures.tells (c.args.fact ∷ facts_of h) stands in
    c.told.ensures.logs h (parts_of (c.args.fact ∷ facts_of h)) logs (record { locals = tells.locals; buffers = tells.buffers; monitors = tells.monitors })
