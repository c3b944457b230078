-- What happened by the lines of a record, and the advice on it.
use Rattle.std.specs.Prelude.{ℕ, ◌≡◌, ◌+◌, Bool, List, [], ◌∷◌, length, Option, Some, None}
use Rattle.std.specs.Option.{option_map}
use Rattle.jg_core.specs.Facts.{parts_of}
use Rattle.jg_advice.specs.Moments.{Moment, What, facts_of, with_facts_of}
use Rattle.jg_advice.specs.Told.{AdviceLogState, LogStands}
use Rattle.jg_watch.specs.Lines.{Answered}

-- one moment more, on line number n, where something happened: the tables are as the facts that were told make them
abbrev pub with_moment : ℕ → Option What → List Moment → List Moment
with_moment n None h = h
with_moment n (Some what) h =
    record { line = n; what = what; parts = parts_of (with_facts_of what (facts_of h)) } ∷ h

-- what happened by these lines, the newest first
abbrev pub moments_of : List Answered → List Moment
moments_of [] = []
moments_of (l ∷ lines) = with_moment (length lines + 1) l.what (moments_of lines)

-- it stands for the history, where there is one
abbrev pub LogStandsIf : Option AdviceLogState → List Moment → Type 0
LogStandsIf None h = Unit {0}
LogStandsIf (Some x) h = LogStands x h

-- how it advises: of regions that are longer than so many calls, and of each or of the first of each kind and function
abbrev pub advising_of : Option AdviceLogState → Option (ℕ × Bool)
advising_of log = option_map (λ x. (x.adviser.most, x.noting.all)) log
