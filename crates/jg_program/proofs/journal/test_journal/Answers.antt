use Rattle.std.proofs.Common.{◌≡◌, true, ℕ, List, [], Ok, Err, inr, ap, ◌∙◌, subst}
use Rattle.std.proofs.KnownBytes.{Keeps-refl}
use Rattle.std.proofs.lemmas.Option.{IfSome_then}
use Rattle.jg_script.specs.declared.replay.Replayed.{Replayed}
use Rattle.jg_program.specs.declared.stop.Status.{Status}
use Rattle.jg_program.specs.About.{IsAboutJournal}
use Rattle.jg_program.specs.Advising.{StandsBeside}
use Rattle.jg_program.specs.Verdicts.{verdict_status}
use Rattle.jg_program.specs.Reported.{Reports}
use Rattle.jg_program.proofs.Beside.{lost_advised}
use Rattle.jg_program.proofs.Reports.{ends_journal, on_err, reported_on}
use Rattle.jg_program.proofs.journal.test_journal.Goals as goal

pub returns-in_default-clause-ends : goal.returns-in_default-clause-ends
returns-in_default-clause-ends g c =
    let ended = c.end_without_guard.ensures in
    inr (ended.ends.0, ended.ends.1, ended.ends.2, Keeps-refl _, ended.kept)

pub returns-in-Ok-tested-clause-ends : goal.returns-in-Ok-tested-clause-ends
returns-in-Ok-tested-clause-ends g c =
    let told = c.in-Ok-tested.replayed in
    let guard = c.test_lines-tested.new.guard in
    let status = c.status_of-status.ensures ∙ ap verdict_status c.verdict.ensures in
    let reports = subst (λ (s : Status). Reports (IsAboutJournal (Ok told)) c.args.terms.reporting guard.setup guard.journal (Ok s) c.report.result) status
    c.report.ensures in
    ends_journal c.args.terms.reporting c.args.setup c.in-Ok.guard.setup guard.setup c.args.terms.limit c.in-Ok.guard.limit _ _ _ _ guard.journal
    c.test_lines-tested.new.line.items (Ok told) c.report.result
    c.in-Ok.ensures.setup (c.test_lines-tested.ensures.setup ∙ c.in-Ok.ensures.setup) c.in-Ok.ensures.limit c.test_lines-tested.ensures.legal
    c.in-Ok-tested.ensures.tests reports

pub returns-clause-ends : goal.returns-clause-ends
returns-clause-ends g c =
    let guard = c.test_lines-tested.new.guard in
    ends_journal c.args.terms.reporting c.args.setup c.in-Ok.guard.setup guard.setup c.args.terms.limit c.in-Ok.guard.limit _ _ _ _ guard.journal
    c.test_lines-tested.new.line.items (Err c.in-Err.stop)
    c.report-in-Err.result c.in-Ok.ensures.setup
    (c.test_lines-tested.ensures.setup ∙ c.in-Ok.ensures.setup) c.in-Ok.ensures.limit c.test_lines-tested.ensures.legal c.in-Err.ensures.tests
    c.report-in-Err.ensures

pub returns-in-Ok-tested-clause-handed_on : goal.returns-in-Ok-tested-clause-handed_on
returns-in-Ok-tested-clause-handed_on g c =
    let guard = c.test_lines-tested.new.guard in
    reported_on (g.W.HandsOn.holds_nothing c.test_lines-tested.new.streams.out.device) c.test_lines-tested.new.streams.out.failed
    (IsAboutJournal (Ok c.in-Ok-tested.replayed)) c.args.terms.reporting guard.setup guard.journal (Ok c.status_of-status.result) c.report.result
    c.report.ensures c.in-Ok-tested.ensures.handed_on

pub returns-clause-handed_on : goal.returns-clause-handed_on
returns-clause-handed_on g c =
    let guard = c.test_lines-tested.new.guard in
    reported_on _ c.test_lines-tested.new.streams.out.failed (λ (about : List ℕ). about ≡ []) c.args.terms.reporting guard.setup guard.journal
    (Err c.in-Err.stop) c.report-in-Err.result c.report-in-Err.ensures
    (on_err Replayed Status _ _ c.in-Err.stop c.in-Err.ensures.handed_on)

pub report-requires : goal.report-requires
report-requires g c =
    let r = c.args.terms.reporting in
    let guard = c.test_lines-tested.new.guard in
    let stands : c.begin_advising-beside.result.1 ≡ true → StandsBeside r c.test_lines-tested.new.beside guard.setup guard.journal =
    λ begun. c.test_lines-tested.ensures.beside r (c.begin_advising-beside.ensures.stands begun c.in-Ok.guard.setup) in
    record {
      said = IfSome_then c.advice_of-advised.result c.advice_of-advised.ensures.said (λ text both. both.1 r guard.setup guard.journal (stands both.0));
      lost = lost_advised r c.test_lines-tested.new.beside c.begin_advising-beside.result.1 guard.setup guard.journal c.advice_of-advised.result
          c.begin_advising-beside.ensures.refused stands
          c.advice_of-advised.ensures.lost;
    }

pub report-requires-in-Err-clause-said : goal.report-requires-in-Err-clause-said
report-requires-in-Err-clause-said g c =
    let r = c.args.terms.reporting in
    let guard = c.test_lines-tested.new.guard in
    IfSome_then c.advice_of-advised.result c.advice_of-advised.ensures.said (λ text both. both.1 r guard.setup guard.journal
    (c.test_lines-tested.ensures.beside r (c.begin_advising-beside.ensures.stands both.0 c.in-Ok.guard.setup)))

pub report-requires-in-Err-clause-lost : goal.report-requires-in-Err-clause-lost
report-requires-in-Err-clause-lost g c =
    let r = c.args.terms.reporting in
    let guard = c.test_lines-tested.new.guard in
    lost_advised r c.test_lines-tested.new.beside c.begin_advising-beside.result.1 guard.setup guard.journal c.advice_of-advised.result
    c.begin_advising-beside.ensures.refused
    (λ begun. c.test_lines-tested.ensures.beside r (c.begin_advising-beside.ensures.stands begun c.in-Ok.guard.setup)) c.advice_of-advised.ensures.lost
