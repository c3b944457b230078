-- What is told beside the journal, and what that leaves as it was.
use Rattle.std.proofs.Common.{◌≡◌, ◌⊎◌, inl, inr, ℕ, Bool, true, List, Option, Result, Ok, Err, sym, subst}
use Rattle.std.specs.Prelude.{◌||◌}
use Rattle.jg_words.specs.Entry.{Entry}
use Rattle.jg_policy.specs.Stated.{StatedSetup}
use Rattle.jg_rules.specs.Legal.{Legal}
use Rattle.jg_script.specs.declared.replay.Replayed.{Replayed}
use Rattle.jg_script.specs.declared.run_fault.RunFault.TheVariants.{Script, Limit, NoMemory, Read, Write}
use Rattle.jg_program.specs.declared.reporting.Reporting.{Reporting}
use Rattle.jg_program.specs.declared.stop.ProgramEnd.{ProgramEnd}
use Rattle.jg_program.specs.declared.stop.Status.{Status}
use Rattle.jg_program.specs.declared.stop.ProgramStop.{ProgramStop}
use Rattle.jg_watch.specs.declared.ending.Stop.TheVariants as watch
use Rattle.jg_program.specs.declared.stop.ProgramStop.TheVariants.{Arguments, Setup, SetupRead, Run, Record, Leaks, Summary, Explain, Mismatch, Worker}
use Rattle.jg_program.specs.About.{IsAboutJournal, IsAboutScript}
use Rattle.jg_program.specs.Advising.{is_advised}
use Rattle.jg_program.specs.Ended.{AnswersLines, EndsJournal, EndsScript, IsHandedOn, TestsLines}
use Rattle.jg_program.specs.Verdicts.{status_told}
use Rattle.jg_program.specs.Reported.{Explains, IsToldIf, Reports, Tells, TellsNothing, is_explained}

-- what is told comes first, where all else is told
pub reported : (IsSuch : List ℕ → Type 0) (r : Reporting) (s : StatedSetup) (h : List Entry) (about : List ℕ) (result : Result Status ProgramStop)
    (ending : ProgramEnd)
    → IsToldIf (is_explained r) IsSuch about
    → ((explained : List ℕ) × Explains r s h explained × Tells about explained r s h result ending)
    ⊎ ((is_explained r || is_advised r ≡ true) × TellsNothing result ending)
    → Reports IsSuch r s h result ending
reported IsSuch r s h about result ending told (inl (explained, explains, tells)) = inl (about, explained, told, explains, tells)
reported IsSuch r s h about result ending told (inr lost) = inr lost

-- telling writes nothing to the writer
pub reported_on : (holds_nothing : Type 0) (failed : Bool) (IsSuch : List ℕ → Type 0) (r : Reporting) (s : StatedSetup) (h : List Entry)
    (result : Result Status ProgramStop) (ending : ProgramEnd)
    → Reports IsSuch r s h result ending → IsHandedOn {S = Status} holds_nothing failed result → IsHandedOn {S = Status} holds_nothing failed ending.ended
reported_on holds_nothing failed IsSuch r s h (Ok status) ending (inl (about, explained, told, explains, inl done)) on =
    subst (λ (e : Result Status ProgramStop). IsHandedOn holds_nothing failed e) (sym done.0) on
reported_on holds_nothing failed IsSuch r s h (Ok status) ending (inl (about, explained, told, explains, inr (inl left))) on =
    subst (λ (e : Result Status ProgramStop). IsHandedOn holds_nothing failed e) (sym left.0) on
reported_on holds_nothing failed IsSuch r s h (Ok status) ending (inl (about, explained, told, explains, inr (inr short))) on =
    subst (λ (e : Result Status ProgramStop). IsHandedOn holds_nothing failed e) (sym short.0) on
reported_on holds_nothing failed IsSuch r s h (Ok status) ending (inr lost) on =
    subst (λ (e : Result Status ProgramStop). IsHandedOn holds_nothing failed e) (sym lost.1.0) on
reported_on holds_nothing failed IsSuch r s h (Err stop) ending (inl (about, explained, told, explains, tells)) on =
    subst (λ (e : Result Status ProgramStop). IsHandedOn holds_nothing failed e) (sym tells.0) on
reported_on holds_nothing failed IsSuch r s h (Err stop) ending (inr lost) on =
    subst (λ (e : Result Status ProgramStop). IsHandedOn holds_nothing failed e) (sym lost.1.0) on

-- a script was answered by a guard of this setup and limit
pub ends_script : (r : Reporting) (setup own : StatedSetup) (limit most : ℕ) (input input' bytes bytes' : Option (List ℕ)) (h : List Entry) (line : List ℕ)
    (result : Result Status ProgramStop)
    (ending : ProgramEnd)
    → own ≡ setup → most ≡ limit → Legal own h → AnswersLines input input' bytes bytes' most h line result
    → Reports (IsAboutScript line result) r own h result ending
    → EndsScript r setup input input' bytes bytes' limit ending
ends_script r setup own limit most input input' bytes bytes' h line result ending same full legal answers reports =
    inl (
      h,
      subst (λ (s : StatedSetup). Legal s h) same legal,
      (
        line,
        result,
        subst (λ (l : ℕ). AnswersLines input input' bytes bytes' l h line result) full answers,
        subst (λ (s : StatedSetup). Reports (IsAboutScript line result) r s h result ending) same reports,
      ),
    )

-- a journal was tested by such a guard
pub ends_journal : (r : Reporting) (setup own new : StatedSetup) (limit most : ℕ) (input input' bytes bytes' : Option (List ℕ)) (h : List Entry) (line : List ℕ)
    (result : Result Replayed ProgramStop)
    (ending : ProgramEnd)
    → own ≡ setup → new ≡ setup → most ≡ limit → Legal new h → TestsLines input input' bytes bytes' own most h line result
    → Reports (IsAboutJournal result) r new h (status_told result) ending
    → EndsJournal r setup input input' bytes bytes' limit ending
ends_journal r setup own new limit most input input' bytes bytes' h line result ending old same full legal tests reports =
    inl (
      h,
      subst (λ (s : StatedSetup). Legal s h) same legal,
      (
        line,
        result,
        subst (λ (l : ℕ). TestsLines input input' bytes bytes' setup l h line result) full
            (subst (λ (s : StatedSetup). TestsLines input input' bytes bytes' s most h line result) old tests),
        subst (λ (s : StatedSetup). Reports (IsAboutJournal result) r s h (status_told result) ending) same reports,
      ),
    )

-- what an error leaves unwritten doesn't depend on what there would have been
pub on_err : (A B : Type 0) (holds_nothing : Type 0) (failed : Bool) (stop : ProgramStop) → IsHandedOn {S = A} holds_nothing failed (Err stop)
    → IsHandedOn {S = B} holds_nothing failed (Err stop)
on_err A B holds_nothing failed (Run (Write line)) on = on
on_err A B holds_nothing failed (Run (Script line fault)) on = on
on_err A B holds_nothing failed (Run (Limit line)) on = on
on_err A B holds_nothing failed (Run (NoMemory line)) on = on
on_err A B holds_nothing failed (Run (Read line)) on = on
on_err A B holds_nothing failed (Setup fault) on = on
on_err A B holds_nothing failed SetupRead on = on
on_err A B holds_nothing failed (Arguments fault) on = on
on_err A B holds_nothing failed Leaks on = on
on_err A B holds_nothing failed Summary on = on
on_err A B holds_nothing failed Explain on = on
on_err A B holds_nothing failed (Mismatch thread place) on = on
on_err A B holds_nothing failed (Worker stop) on = on
on_err A B holds_nothing failed (Record (watch.Write line)) on = on
on_err A B holds_nothing failed (Record (watch.Faulty line fault)) on = on
on_err A B holds_nothing failed (Record (watch.Limit line)) on = on
on_err A B holds_nothing failed (Record (watch.NoMemory line)) on = on
on_err A B holds_nothing failed (Record (watch.Read line)) on = on
