use Rattle.jg_program.proofs.Refusals.{migrates_refusal}
use Rattle.jg_program.proofs.Saying.{migrates_said}
use Rattle.jg_program.proofs.migrating.migrate.Goals as goal

pub returns-in-Err-clause-ends : goal.returns-in-Err-clause-ends
returns-in-Err-clause-ends g c = migrates_refusal _ _ _ _ c.in-Err.ending c.in-Err.ensures.refused

pub returns-in-Ok-flush-clause-ends : goal.returns-in-Ok-flush-clause-ends
returns-in-Ok-flush-clause-ends g c =
    let states = rw (← c.as_str.ensures.value) at c.in-Ok-text_of.ensures.stated in
    migrates_said (g.F.Read.remaining c.args.file.now) c.args.told (g.W.Write.contents c.args.out.now.device) (g.W.Write.contents c.say-said.new.out.device)
    (g.W.Write.contents c.flush.new.self.device) c.in-Ok.setup c.as_str.result.now c.say-said.new.out.failed c.say-said.result c.in-Ok.ensures.stated states
    c.say-said.ensures.said
    c.say-said.ensures.failed c.flush.ensures.kept
