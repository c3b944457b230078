use Rattle.std.proofs.Common.{inr}
use Rattle.std.proofs.KnownBytes.{Keeps-refl}
use Rattle.jg_program.specs.declared.program.Job.TheVariants.{Check, Verify, Watch, Facts}
use Rattle.jg_program.proofs.Given.{done_closed, done_stated, refused_under, unset_on}
use Rattle.jg_program.proofs.program.work.Goals as goal

pub returns-in-Check-clause-closed : goal.returns-in-Check-clause-closed
returns-in-Check-clause-closed g c =
    λ none. done_closed c.args.job Check c.args.terms.reporting c.in-Ok.setup _ _ _ _ c.args.terms.limit c.answer_script.result (c.in-Ok.ensures.closed none)
    c.in-Check.is c.answer_script.ensures.ends

pub returns-in-Check-clause-under : goal.returns-in-Check-clause-under
returns-in-Check-clause-under g c =
    done_stated g.F.Read.remaining c.args.given c.args.job Check c.args.terms.reporting c.in-Ok.setup _ _ _ _ c.args.terms.limit c.answer_script.result
    c.in-Ok.ensures.stated c.in-Check.is
    c.answer_script.ensures.ends

pub returns-in-Verify-clause-closed : goal.returns-in-Verify-clause-closed
returns-in-Verify-clause-closed g c =
    λ none. done_closed c.args.job Verify c.args.terms.reporting c.in-Ok.setup _ _ _ _ c.args.terms.limit c.test_journal.result (c.in-Ok.ensures.closed none)
    c.in-Verify.is c.test_journal.ensures.ends

pub returns-in-Verify-clause-under : goal.returns-in-Verify-clause-under
returns-in-Verify-clause-under g c =
    done_stated g.F.Read.remaining c.args.given c.args.job Verify c.args.terms.reporting c.in-Ok.setup _ _ _ _ c.args.terms.limit c.test_journal.result
    c.in-Ok.ensures.stated c.in-Verify.is
    c.test_journal.ensures.ends

pub returns-in-Watch-clause-closed : goal.returns-in-Watch-clause-closed
returns-in-Watch-clause-closed g c =
    λ none. done_closed c.args.job (Watch c.in-Watch.shown) c.args.terms.reporting c.in-Ok.setup _ _ _ _ c.args.terms.limit c.answer_record.result
    (c.in-Ok.ensures.closed none) c.in-Watch.is
    c.answer_record.ensures.ends

pub returns-in-Watch-clause-under : goal.returns-in-Watch-clause-under
returns-in-Watch-clause-under g c =
    done_stated g.F.Read.remaining c.args.given c.args.job (Watch c.in-Watch.shown) c.args.terms.reporting c.in-Ok.setup _ _ _ _ c.args.terms.limit
    c.answer_record.result c.in-Ok.ensures.stated
    c.in-Watch.is c.answer_record.ensures.ends

pub returns-in-Facts-clause-closed : goal.returns-in-Facts-clause-closed
returns-in-Facts-clause-closed g c =
    λ none. done_closed c.args.job Facts c.args.terms.reporting c.in-Ok.setup _ _ _ _ c.args.terms.limit c.retell_record.result (c.in-Ok.ensures.closed none)
    c.in-Facts.is c.retell_record.ensures.ends

pub returns-in-Facts-clause-under : goal.returns-in-Facts-clause-under
returns-in-Facts-clause-under g c =
    done_stated g.F.Read.remaining c.args.given c.args.job Facts c.args.terms.reporting c.in-Ok.setup _ _ _ _ c.args.terms.limit c.retell_record.result
    c.in-Ok.ensures.stated c.in-Facts.is
    c.retell_record.ensures.ends

pub returns-in-Err-clause-closed : goal.returns-in-Err-clause-closed
returns-in-Err-clause-closed g c = λ none. inr (c.in-Err.ensures.memory none, Keeps-refl _, Keeps-refl _)

pub returns-in-Err-clause-under : goal.returns-in-Err-clause-under
returns-in-Err-clause-under g c =
    refused_under g.F.Read.remaining c.args.given c.args.job c.args.terms.reporting _ _ c.args.terms.limit c.in-Err.refused c.in-Err.ensures.refused

pub returns-in-Err-clause-handed_on : goal.returns-in-Err-clause-handed_on
returns-in-Err-clause-handed_on g c =
    unset_on g.F.Read.remaining c.args.given _ c.args.streams.now.out.failed _ c.in-Err.refused c.in-Err.ensures.memory c.in-Err.ensures.refused
