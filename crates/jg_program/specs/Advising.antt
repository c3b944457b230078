-- How advice is asked for, and what is told of a guard's journal.
use Rattle.std.specs.Prelude.{ℕ, ◌≡◌, Bool, true, false, List, [], Option, Some, None}
use Rattle.std.specs.Option.{is_some}
use Rattle.jg_words.specs.Entry.{Entry}
use Rattle.jg_policy.specs.Stated.{StatedSetup}
use Rattle.jg_advice.specs.Moments.{Moment}
use Rattle.jg_advice.specs.Told.{Tells as Advises}
use Rattle.jg_guard_advice.specs.declared.advising.GuardAdviser.{GuardAdviser}
use Rattle.jg_guard_advice.specs.Logged.{AreMoments, Logged}
use Rattle.jg_args.specs.declared.asked.Advising.{Advising}
use Rattle.jg_args.specs.declared.asked.Advising.TheVariants.{Never, Once, Each}
use Rattle.jg_program.specs.declared.reporting.Reporting.{Reporting}

-- how advice is asked for: of regions of more calls than that, and each, or the first of each kind and function
abbrev pub asked_by : ℕ → Advising → Option (ℕ × Bool)
asked_by region Never = None
asked_by region Once = Some (region, false)
asked_by region Each = Some (region, true)

abbrev pub advice_asked : Reporting → Option (ℕ × Bool)
advice_asked r = asked_by r.region r.advice

abbrev pub is_advised : Reporting → Bool
is_advised r = is_some (advice_asked r)

abbrev pub SaysAsked : Option (ℕ × Bool) → StatedSetup → List Entry → List ℕ → Type 0
SaysAsked None s h said = said ≡ []
SaysAsked (Some (most, all)) s h said = (moments : List Moment) × AreMoments s h moments × Advises most all moments said

-- the text of what is advised on a history, where advice is asked for
abbrev pub SaysAdvice : Reporting → StatedSetup → List Entry → List ℕ → Type 0
SaysAdvice r s h said = SaysAsked (advice_asked r) s h said

-- what stands beside a guard of this journal: a log that stands for it, where advice is asked for
abbrev pub StandsBeside : {A : Type 0} → Reporting → Option (GuardAdviser A) → StatedSetup → List Entry → Type 0
StandsBeside r None s h = advice_asked r ≡ None
StandsBeside r (Some x) s h =
    Logged x.log s h × (advice_asked r ≡ Some (x.log.adviser.most, x.log.noting.all))
