use Rattle.std.proofs.Common.{◌∙◌, ◌++◌, ap, ℕ, Vec, Global, slice_get}
use Rattle.std.proofs.lemmas.Result.{on_ok_weaker}
use Rattle.jg_text.specs.Journal.{answer_text}
use Rattle.jg_script.proofs.Taking.{completes}
use Rattle.jg_script.proofs.answer.complete.Goals as goal

pub returns : goal.returns
returns g c = on_ok_weaker c.push_answer-pushed.result (λ written e first is.
    completes (slice_get c.args.guard.now.journal 0) c.newest.result.now e c.args.text.now.items _ c.newest.ensures first is
    (ap (λ (v : Vec ℕ Global). v.items) c.into_bytes.ensures.value
    ∙ (written ∙ ap (λ (v : Vec ℕ Global). v.items ++ answer_text c.newest.result.now.outcome)
    (c.from_utf8_unchecked-line.ensures.value ∙ c.replace-bytes.ensures.value))))
    c.push_answer-pushed.ensures.written
