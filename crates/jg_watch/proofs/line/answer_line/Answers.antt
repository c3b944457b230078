use Rattle.std.proofs.Common.{[], ◌∙◌, Ok, Err, ap, refl, sym, true, false}
use Rattle.std.proofs.KnownBytes.{Keeps-refl}
use Rattle.jg_watch.specs.Told.{Watching}
use Rattle.jg_watch.proofs.Answering.{comment_answered, comment_line, line_unread, replied_line, reply_unread, says_line}
use Rattle.jg_watch.proofs.line.answer_line.Goals as goal

pub returns-in-Ok-clause-answers : goal.returns-in-Ok-clause-answers
returns-in-Ok-clause-answers g c told stands =
    comment_answered _ c.args.shown told _ _ _ _ _ _ c.args.line c.unasked.result (sym c.is_comment.ensures ∙ c.if-is_comment.true) stands
    c.in-Ok.ensures.written c.unasked.ensures

pub returns-in-Err-clause-answers : goal.returns-in-Err-clause-answers
returns-in-Err-clause-answers g c told stands =
    comment_line _ c.args.shown told _ [] [] _ _ _ c.args.line (Err c.in-Err.stop) (sym c.is_comment.ensures ∙ c.if-is_comment.true) stands
    c.in-Err.ensures.written

pub returns-in-Err-Impossible-clause-answers : goal.returns-in-Err-Impossible-clause-answers
returns-in-Err-Impossible-clause-answers g c told stands =
    let same = c.setup.ensures ∙ ap (λ (w : Watching). w.core.setup) c.watch.view_is in
    let says = says_line _ _ _ _ _ _ _ _ _ (sym c.is_comment.ensures ∙ c.if-is_comment.false) c.cut_line-parts.ensures same c.in-Ok-read_event.ensures.spelt in
    ((_, says, c.in-Err-Impossible.ensures.refused.impossible c.in-Err-Impossible.field-0-is told stands), Keeps-refl _, refl)

pub returns-in-Ok-true-clause-answers : goal.returns-in-Ok-true-clause-answers
returns-in-Ok-true-clause-answers g c told stands =
    let same = c.setup.ensures ∙ ap (λ (w : Watching). w.core.setup) c.watch.view_is in
    let says = says_line _ _ _ _ _ _ _ _ _ (sym c.is_comment.ensures ∙ c.if-is_comment.false) c.cut_line-parts.ensures same c.in-Ok-read_event.ensures.spelt in
    let wrote = rw c.in-Ok-true.field-0-test at c.in-Ok-true.ensures.written in
    replied_line _ c.args.shown told _ _ _ _ _ c.args.line _ _ (Ok true) refl says stands c.in-Ok-answer_event.ensures.replies wrote

pub returns-in-Ok-false-clause-answers : goal.returns-in-Ok-false-clause-answers
returns-in-Ok-false-clause-answers g c told stands =
    let same = c.setup.ensures ∙ ap (λ (w : Watching). w.core.setup) c.watch.view_is in
    let says = says_line _ _ _ _ _ _ _ _ _ (sym c.is_comment.ensures ∙ c.if-is_comment.false) c.cut_line-parts.ensures same c.in-Ok-read_event.ensures.spelt in
    let wrote = rw c.in-Ok-false.field-0-test at c.in-Ok-false.ensures.written in
    replied_line _ c.args.shown told _ _ _ _ _ c.args.line _ c.in-Ok-answer_event.answered (Ok false) refl says stands c.in-Ok-answer_event.ensures.replies
    wrote

pub returns-in-Err-write_reply-clause-answers : goal.returns-in-Err-write_reply-clause-answers
returns-in-Err-write_reply-clause-answers g c told stands =
    let same = c.setup.ensures ∙ ap (λ (w : Watching). w.core.setup) c.watch.view_is in
    let says = says_line _ _ _ _ _ _ _ _ _ (sym c.is_comment.ensures ∙ c.if-is_comment.false) c.cut_line-parts.ensures same c.in-Ok-read_event.ensures.spelt in
    replied_line _ c.args.shown told _ _ _ _ _ c.args.line _ c.in-Ok-answer_event.answered (Err c.in-Err-write_reply.stop) refl says stands
    c.in-Ok-answer_event.ensures.replies
    c.in-Err-write_reply.ensures.written

pub returns-in-Err-clause-unread : goal.returns-in-Err-clause-unread
returns-in-Err-clause-unread g c = line_unread _ _ _ _ c.in-Err.stop c.in-Err.ensures.written

pub returns-in-Err-write_reply-clause-unread : goal.returns-in-Err-write_reply-clause-unread
returns-in-Err-write_reply-clause-unread g c = reply_unread _ _ _ _ _ _ c.in-Err-write_reply.stop c.in-Err-write_reply.ensures.written
