use Rattle.std.proofs.Common.{◌≡◌, true, ℕ, List, ◌∙◌, subst}
use Rattle.std.proofs.lemmas.Option.{IfSome_then}
use Rattle.jg_program.specs.About.{IsAboutScript}
use Rattle.jg_program.specs.Advising.{StandsBeside}
use Rattle.jg_program.specs.Reported.{Reports}
use Rattle.jg_program.proofs.Beside.{lost_advised}
use Rattle.jg_program.proofs.Reports.{ends_script, reported_on}
use Rattle.jg_program.proofs.program.answer_script.Goals as goal

pub returns-clause-ends : goal.returns-clause-ends
returns-clause-ends g c =
    let ended = c.answer_lines-ended.result in
    let guard = c.answer_lines-ended.new.guard in
    let reports = subst (λ (l : List ℕ). Reports (IsAboutScript l ended) c.args.terms.reporting guard.setup guard.journal ended c.report-ending.result)
    c.deref.ensures.value c.report-ending.ensures in
    ends_script c.args.terms.reporting c.args.setup guard.setup c.args.terms.limit c.in-Ok.guard.limit _ _ _ _ guard.journal _ ended c.report-ending.result
    (c.answer_lines-ended.ensures.setup ∙ c.in-Ok.ensures.setup) c.in-Ok.ensures.limit c.answer_lines-ended.ensures.legal c.answer_lines-ended.ensures.answers
    reports

pub returns-clause-handed_on : goal.returns-clause-handed_on
returns-clause-handed_on g c =
    let guard = c.answer_lines-ended.new.guard in
    reported_on _ c.answer_lines-ended.new.streams.out.failed (IsAboutScript c.deref.result.now c.answer_lines-ended.result) c.args.terms.reporting guard.setup
    guard.journal c.answer_lines-ended.result
    c.report-ending.result c.report-ending.ensures c.answer_lines-ended.ensures.handed_on

pub report-ending-requires : goal.report-ending-requires
report-ending-requires g c =
    let r = c.args.terms.reporting in
    let guard = c.answer_lines-ended.new.guard in
    let stands : c.begin_advising-beside.result.1 ≡ true → StandsBeside r c.answer_lines-ended.new.beside guard.setup guard.journal =
    λ begun. c.answer_lines-ended.ensures.beside r (c.begin_advising-beside.ensures.stands begun c.in-Ok.guard.setup) in
    record {
      said = IfSome_then c.advice_of-advised.result c.advice_of-advised.ensures.said (λ text both. both.1 r guard.setup guard.journal (stands both.0));
      lost = lost_advised r c.answer_lines-ended.new.beside c.begin_advising-beside.result.1 guard.setup guard.journal c.advice_of-advised.result
          c.begin_advising-beside.ensures.refused stands
          c.advice_of-advised.ensures.lost;
    }
