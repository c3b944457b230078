-- Since when a thread owns a monitor.
use Rattle.std.specs.Prelude.{◌==◌, ◌&&◌, not, if◌then◌else◌, List, [], ◌∷◌, Option, Some, None}
use Rattle.jg_words.specs.declared.thread.Tid.{Tid}
use Rattle.jg_lists.specs.ByMaker.{Name, same_name}
use Rattle.jg_table_monitors.specs.History.{owner}
use Rattle.jg_rules.specs.Parts.{Parts}
use Rattle.jg_core.specs.declared.fact.Fact.{Fact}
use Rattle.jg_core.specs.declared.fact.Fact.TheVariants.{Own, Free, End}
use Rattle.jg_core.specs.Facts.{is_owner}
use Rattle.jg_advice.specs.declared.advice.Source.{Source}
use Rattle.jg_advice.specs.Moments.{What, Told, Moment}
use Rattle.jg_advice.specs.Doing.{cause}

abbrev pub or_source : Option Source → Source → Option Source
or_source None call = Some call
or_source (Some call) later = Some call

-- what a fact leaves of it, where the events with it are p, and it came of that call
abbrev pub entered_by : Name → Parts → (Tid → Source) → Fact → Option Source → Option Source
entered_by q p cause_of (Own t o) before = if same_name (t.0, o.0) q then or_source before (cause_of t) else before
entered_by q p cause_of (Free t o) before =
    if same_name (t.0, o.0) q && not (is_owner t.0 (owner p.monitors o.0)) then None else before
entered_by q p cause_of (End t) before = if t.0 == q.0 then None else before
entered_by q p cause_of fact before = before

abbrev pub entered_with : Name → Moment → List Moment → What → Option Source → Option Source
entered_with q m h (Told fact) before = entered_by q m.parts (λ t. cause t m h) fact before
entered_with q m h what before = before

-- 5: the call by which the thread entered the monitor of the object (by their numbers) that it owns since
abbrev pub entered : Name → List Moment → Option Source
entered q [] = None
entered q (m ∷ h) = entered_with q m h m.what (entered q h)
