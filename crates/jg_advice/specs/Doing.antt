-- What a thread did in each of its activations: of which call it is, and which call may have thrown.
use Rattle.std.specs.Prelude.{ℕ, ◌+◌, ◌==◌, Bool, false, if◌then◌else◌, List, [], ◌∷◌, Option, Some, None, slice_get}
use Rattle.jg_words.specs.declared.thread.Tid.{Tid}
use Rattle.jg_lists.specs.ByMaker.{Name, same_name}
use Rattle.jg_rows.specs.Columns.{Columns}
use Rattle.jg_rows.specs.Table.{functions}
use Rattle.jg_rules.specs.Parts.{Parts}
use Rattle.jg_core.specs.declared.fact.Fact.{Fact}
use Rattle.jg_core.specs.declared.fact.Fact.TheVariants.{Begin, End, Enter, Leave}
use Rattle.jg_advice.specs.declared.advice.Source.{Source}
use Rattle.jg_advice.specs.declared.doing.Doing.{Doing}
use Rattle.jg_advice.specs.Moments.{What, Called, Told, Went, Moment, depth}
use Rattle.jg_advice.specs.Functions.{asks, is_jni, wants_none}
use Rattle.jg_advice.specs.Throwing.{may_throw}

-- nothing yet
abbrev pub idle : Doing
idle = record { latest = None; owed = None }

-- t called the function on the line
abbrev pub source : ℕ → Tid → ℕ → Source
source line t f = record { line = line; tid = t; function = Some f }

-- 1: the call that may have thrown, and that nobody asked about since. A call that may not be made with an exception
-- pending is told so (`unchecked`, Advised), and what was told is owed no more
abbrev pub owed_after : Columns → Bool → Source → Option Source → Option Source
owed_after row throws call owed =
    if asks row then None else (if throws then Some call else (if wants_none row then None else owed))

-- the function of this row was called, and may have thrown or can't have; the guard's own are no calls of an activation
abbrev pub doing_after : Option Columns → Bool → Source → Doing → Doing
doing_after None throws call before = before
doing_after (Some row) throws call before =
    if is_jni row then record { latest = Some call; owed = owed_after row throws call before.owed } else before

-- the fact begins or ends the activation of that thread and depth, or the thread's session, where the events with it
-- are p
abbrev pub restarts : Name → Parts → Fact → Bool
restarts q p (Begin t) = t.0 == q.0
restarts q p (End t) = t.0 == q.0
restarts q p (Enter t) = same_name (t.0, depth p t.0) q
restarts q p (Leave t kept) = same_name (t.0, depth p t.0 + 1) q
restarts q p fact = false

abbrev pub doing_with : Name → Moment → List Moment → What → Doing → Doing
doing_with q m h (Called s t f xs name) before =
    if same_name (t.0, depth m.parts t.0) q
    then doing_after (slice_get functions f) (may_throw s m.parts t.0 (slice_get functions f) xs) (source m.line t f)
    before
    else before
doing_with q m h (Told fact) before = if restarts q m.parts fact then idle else before
doing_with q m h (Went objects) before = before

-- what the thread did in its activation of that depth since this began: its latest call there, and the one that is owed
-- a question
abbrev pub doing : Name → List Moment → Doing
doing q [] = idle
doing q (m ∷ h) = doing_with q m h m.what (doing q h)

-- what it did in the activation in which it is, where the events are p
abbrev pub doing_now : ℕ → Parts → List Moment → Doing
doing_now t p h = doing (t, depth p t) h

abbrev pub or_line : ℕ → Tid → Option Source → Source
or_line line t None = record { line = line; tid = t; function = None }
or_line line t (Some call) = call

-- t's latest call in the activation in which it is, where the events are p and threads did that; else the line alone
abbrev pub cause_by : (Name → Doing) → Parts → ℕ → Tid → Source
cause_by doings p line t = or_line line t (doings (t.0, depth p t.0)).latest

-- the call that a moment of t came of
abbrev pub cause : Tid → Moment → List Moment → Source
cause t m h = cause_by (λ q. doing q h) m.parts m.line t
