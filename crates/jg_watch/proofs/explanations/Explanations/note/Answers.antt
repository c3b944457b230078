use Rattle.jg_watch.proofs.Explaining.{adds_nothing, not_explained}
use Rattle.jg_watch.proofs.explanations.Explanations.note.Goals as goal

pub returns-in_default : goal.returns-in_default
returns-in_default c = adds_nothing c.args.self.now _ (not_explained c.args.line _ c.args.replied.reply c.args.replied.operand c.in_default.not-Denied)
