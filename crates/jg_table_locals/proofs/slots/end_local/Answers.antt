use Rattle.jg_table_locals.proofs.slots.end_local.Goals as goal

pub returns-clause-sound : goal.returns-clause-sound
returns-clause-sound g c = λ frames sound. c.cut.ensures.sound frames (c.mark_dead-was.ensures.sound frames sound)
