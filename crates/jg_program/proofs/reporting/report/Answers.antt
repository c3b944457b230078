use Rattle.std.proofs.Common.{◌≡◌, ◌⊎◌, ℕ, List, true, Result, string_bytes, subst, sym}
use Rattle.std.specs.Prelude.{◌||◌}
use Rattle.jg_program.specs.declared.stop.Status.{Status}
use Rattle.jg_program.specs.declared.stop.ProgramStop.{ProgramStop}
use Rattle.jg_program.specs.About.{IsAbout}
use Rattle.jg_program.specs.Advising.{is_advised}
use Rattle.jg_program.specs.Reported.{Explains, Tells, TellsNothing, is_explained}
use Rattle.jg_program.proofs.Reports.{reported}
use Rattle.jg_program.proofs.reporting.report.Goals as goal

pub returns-in-Ok-ended : goal.returns-in-Ok-ended
returns-in-Ok-ended c =
    let r = c.args.reporting in
    let s = c.args.guard.now.setup in
    let h = c.args.guard.now.journal in
    let about = string_bytes c.in-Ok.text in
    let ending = c.report_done.result in
    reported (IsAbout c.args.about c.args.ended) r s h about c.args.ended ending c.in-Ok.ensures.told
    (subst (λ (e : Result Status ProgramStop). ((explained : List ℕ) × Explains r s h explained × Tells about explained r s h e ending)
    ⊎ ((is_explained r || is_advised r ≡ true) × TellsNothing e ending)) (sym c.in-Ok-ended.is) c.report_done.ensures)

pub returns-in-Ok : goal.returns-in-Ok
returns-in-Ok c =
    let r = c.args.reporting in
    let s = c.args.guard.now.setup in
    let h = c.args.guard.now.journal in
    let about = string_bytes c.in-Ok.text in
    let ending = c.report_stopped.result in
    reported (IsAbout c.args.about c.args.ended) r s h about c.args.ended ending c.in-Ok.ensures.told
    (subst (λ (e : Result Status ProgramStop). ((explained : List ℕ) × Explains r s h explained × Tells about explained r s h e ending)
    ⊎ ((is_explained r || is_advised r ≡ true) × TellsNothing e ending)) (sym c.in-Err-ended.is) c.report_stopped.ensures)
