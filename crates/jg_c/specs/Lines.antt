-- What is written for C: the first bytes of a text, as many as there is room for.
use Rattle.std.specs.Prelude.{ℕ, ℤ, pos, ◌≡◌, ◌≢◌, ◌⊎◌, ◌++◌, List, [], ◌∷◌, length, take, drop, Option, Some, None, Result, Ok, Err}
use Rattle.jg_words.specs.declared.object.ObjId.{ObjId}
use Rattle.jg_words.specs.declared.reference.Ref.{Ref}
use Rattle.jg_words.specs.declared.buffer.BufId.{BufId}
use Rattle.jg_words.specs.declared.thread.Tid.{Tid}
use Rattle.jg_table_monitors.specs.declared.owned_monitor.OwnedMonitor.{OwnedMonitor}
use Rattle.jg_policy.specs.Stated.{StatedSetup}
use Rattle.jg_judge.specs.declared.argument.Argument.{Argument}
use Rattle.jg_core.specs.declared.fact.Fact.{Fact}
use Rattle.jg_core.specs.declared.fact.Fact.TheVariants as fact
use Rattle.jg_core.specs.Facts.{parts_of}
use Rattle.jg_core.specs.Kernel.{CoreState, CoreStands}
use Rattle.jg_leaks.specs.Left.{AreLeft}
use Rattle.jg_record.specs.declared.event.Event.{Event}
use Rattle.jg_record.specs.declared.event.Event.TheVariants as event
use Rattle.jg_record.specs.declared.unwritten.Unwritten.{Unwritten}
use Rattle.jg_record.specs.declared.unwritten.Unwritten.TheVariants.{NoMemory}
use Rattle.jg_record.specs.Writing.{IsUnwritten, IsWritten}
use Rattle.jg_script.specs.Leaks.{leaks_text}
use Rattle.jg_c.specs.declared.question.Head.{Head}
use Rattle.jg_c.specs.Errors as errors

-- the first bytes of the text, as many as there is room for, and then what stood there
abbrev pub over : List ℕ → List ℕ → List ℕ
over text old = take (length old) text ++ drop (length text) old

-- so many bytes the text has, and so much of it is written
pub record Writes (text old new : List ℕ) (n : ℤ) : Type 0 where
  pub written : new ≡ over text old
  pub long : n ≡ pos (length text)

-- the event's line is written, or why it has none is told
abbrev pub IsLine : StatedSetup → Tid → Event → List Argument → List ObjId → List ℕ → List ℕ → ℤ → Type 0
IsLine s by e xs gone old new n =
    ((text : List ℕ) × IsWritten s by e xs gone [] text × Writes text old new n)
    ⊎ ((n ≡ errors.no_text) × (new ≡ old) × ((why : Unwritten) × (why ≢ NoMemory) × IsUnwritten s by e xs gone why))

-- ---- a question

abbrev pub QuestionLine : StatedSetup → Result (Head × List Argument) ℤ → List ℕ → List ℕ → ℤ → Type 0
QuestionLine s (Err why) old new n = (n ≡ why) × (new ≡ old)
QuestionLine s (Ok q) old new n =
    IsLine s q.0.tid (event.Question q.0.tid q.0.env q.0.function) q.1 [] old new n

-- ---- a fact

-- a single object that is gone is told as all that are
abbrev pub event_of : Fact → Event
event_of (fact.Gone o) = event.Gone
event_of f = event.Fact f

abbrev pub gone_in : Fact → List ObjId
gone_in (fact.Gone o) = o ∷ []
gone_in f = []

-- told by this thread, where the fact is no thread's own
abbrev pub FactLine : StatedSetup → Option Tid → Option Fact → List ℕ → List ℕ → ℤ → Type 0
FactLine s (Some by) (Some f) old new n = IsLine s by (event_of f) [] (gone_in f) old new n
FactLine s by f old new n = (n ≡ errors.bad_fact) × (new ≡ old)

-- ---- what is gone

-- told by this thread, all in one line
abbrev pub GoneLine : StatedSetup → Option Tid → List ObjId → List ℕ → List ℕ → ℤ → Type 0
GoneLine s None gone old new n = (n ≡ errors.bad_thread) × (new ≡ old)
GoneLine s (Some by) gone old new n = IsLine s by event.Gone [] gone old new n

-- ---- what is left behind

abbrev pub LeaksLines : CoreState → List ℕ → List ℕ → ℤ → Type 0
LeaksLines core old new n = (refs : List Ref) × (lent : List BufId) × (owned : List OwnedMonitor)
    × ((w : List Fact) → CoreStands core w → AreLeft (parts_of w) refs lent owned)
    × Writes (leaks_text refs lent owned) old new n
