use Rattle.std.proofs.lemmas.Result.{on_ok_weaker}
use Rattle.jg_advice.proofs.adviser.Adviser.went.Goals as goal

pub returns-clause-stands : goal.returns-clause-stands
returns-clause-stands c =
    on_ok_weaker c.count_collection.result (λ stood h p stands. stood h p c.args.line c.args.objects.now stands) c.count_collection.ensures.went
