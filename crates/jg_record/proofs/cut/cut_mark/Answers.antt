use Rattle.jg_record.proofs.Cutting.{cut_round}
use Rattle.jg_record.proofs.cut.cut_mark.Goals as goal

pub returns-in-Some : goal.returns-in-Some
returns-in-Some c = cut_round c.args.mark c.args.text.now _ _ c.in-Some.place c.in-Some.ensures c.split_at.ensures.front c.split_at-in-Some.ensures.back
