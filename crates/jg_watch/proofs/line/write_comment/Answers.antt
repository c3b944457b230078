use Rattle.std.proofs.Common.{◌∙◌, List, ℕ, ap, subst, sym}
use Rattle.jg_watch.specs.declared.watch.Shown.{Shown}
use Rattle.jg_watch.specs.Lines.{comment_text}
use Rattle.jg_watch.specs.Steps.{WritesLine}
use Rattle.jg_watch.proofs.line.write_comment.Goals as goal

pub returns-in-Ok-clause-written : goal.returns-in-Ok-clause-written
returns-in-Ok-clause-written g c =
    let holds = g.W.Write.contents in
    subst (λ (t : List ℕ). WritesLine t (holds c.args.writer.now.device) (holds c.write_line.new.writer.device) c.args.line c.write_line.result)
    (c.deref.ensures.value ∙ c.in-Ok.ensures ∙ sym (ap (λ (s : Shown). comment_text s c.args.text.now) c.in-All.is)) c.write_line.ensures.written
