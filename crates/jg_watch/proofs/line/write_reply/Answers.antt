use Rattle.std.proofs.Common.{rules, ◌≡◌, ◌∙◌, List, ℕ, Err, subst, true}
use Rattle.std.specs.Option.{option_copied}
use Rattle.jg_watch.specs.Lines.{Agrees, is_shown}
use Rattle.jg_watch.specs.Steps.{WritesLine}
use Rattle.jg_watch.proofs.Answering.{reply_stops, shown_is}
use Rattle.jg_watch.proofs.line.write_reply.Goals as goal

pub returns-in-Err-clause-written : goal.returns-in-Err-clause-written
returns-in-Err-clause-written g c =
    let holds = g.W.Write.contents in
    let agreed : Agrees (option_copied c.args.parts.answer) c.args.reply = search rules in
    let seen : is_shown c.args.shown c.args.reply ≡ true = search rules in
    let text = c.deref.ensures.value ∙ c.in-Ok-make_line.ensures ∙ shown_is c.args.shown _ _ _ c.args.reply seen c.answer_of-answer.ensures in
    reply_stops _ _ _ _ _ c.args.line c.in-Err.stop agreed
    (subst (λ (t : List ℕ). WritesLine t (holds c.args.writer.now.device) (holds c.write_line.new.writer.device) c.args.line (Err c.in-Err.stop)) text
    c.in-Err.ensures.written)
