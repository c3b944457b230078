use Rattle.std.proofs.Common.{◌<◌, ◌∙◌, ℕ, List, Option, string_bytes, subst, sym}
use Rattle.std.specs.Option.{option_map}
use Rattle.jg_program.specs.Recorded.{IsSaid}
use Rattle.jg_program.proofs.Records.{ends_record, is_said, lost_asked, said_on}
use Rattle.jg_program.proofs.watching.answer_record.Goals as goal

pub report_record-requires : goal.report_record-requires
report_record-requires g c =
    lost_asked c.args.reporting _ c.answer_lines-ended.new.log c.begin_log-log.result.0 c.begin_log-log.result.1 c.said_of-said.result
    c.begin_log-log.ensures.asked c.begin_log-log.ensures.refused c.answer_lines-ended.ensures.advising
    (λ none. subst (λ n. 0 < n) c.new-explanations.ensures.most (c.answer_lines-ended.ensures.lost (sym c.into_text.ensures ∙ none)))
    c.said_of-said.ensures.lost

pub returns-clause-ends : goal.returns-clause-ends
returns-clause-ends g c =
    ends_record c.args.reporting _ _ c.args.shown _ _ _ _ _ _ c.answer_lines-ended.new.explanations c.answer_lines-ended.new.log
    (option_map string_bytes c.said_of-said.result) c.answer_lines-ended.result c.report_record.result
    c.new-watch.ensures.setup c.answer_lines-ended.ensures.answers (c.answer_lines-ended.ensures.most ∙ c.new-explanations.ensures.most)
    (subst (λ (e : Option (List ℕ)). IsSaid c.args.reporting e c.answer_lines-ended.new.log (option_map string_bytes c.said_of-said.result)) c.into_text.ensures
    (is_said c.args.reporting _ c.answer_lines-ended.new.log c.begin_log-log.result.0 c.begin_log-log.result.1 c.said_of-said.result
    c.begin_log-log.ensures.asked
    c.answer_lines-ended.ensures.advising c.said_of-said.ensures.said))
    c.report_record.ensures

pub returns-clause-handed_on : goal.returns-clause-handed_on
returns-clause-handed_on g c =
    said_on _ _ c.args.reporting _ _ c.answer_lines-ended.result c.report_record.result c.report_record.ensures c.answer_lines-ended.ensures.handed_on
