-- What an adviser is told by numbers, and what it answers.
use Rattle.std.specs.Prelude.{ℕ, ℤ, pos, ◌≡◌, ◌++◌, Bool, true, false, List, [], ◌∷◌, Option, Some, None, Result, Ok, Err, slice_get}
use Rattle.jg_words.specs.declared.object.ObjId.{ObjId}
use Rattle.jg_policy.specs.Stated.{StatedSetup}
use Rattle.jg_rows.specs.Columns.{Columns}
use Rattle.jg_rows.specs.Table.{functions}
use Rattle.jg_judge.specs.declared.argument.Argument.{Argument}
use Rattle.jg_rules.specs.Parts.{Parts}
use Rattle.jg_core.specs.declared.fact.Fact.{Fact}
use Rattle.jg_core.specs.Facts.{parts_of}
use Rattle.jg_core.specs.Kernel.{CoreState, CoreStands}
use Rattle.jg_advice.specs.declared.advice.Advice.{Advice}
use Rattle.jg_advice.specs.Moments.{What, Called, Told, Went, Moment}
use Rattle.jg_advice.specs.Advised.{AreLeft, IsAdvised}
use Rattle.jg_advice.specs.Standing.{Stands}
use Rattle.jg_c.specs.declared.advice.JgAdvice.{JgAdvice}
use Rattle.jg_c.specs.declared.question.Head.{Head}
use Rattle.jg_c.specs.Advices.{of_advice}
use Rattle.jg_c.specs.Advisers.{AdviserHeld, NotedHeld}
use Rattle.jg_c.specs.Errors as errors

-- nothing happened to it yet, and a region of more calls than that is long
pub record IsNewAdviser (calls : ℕ) (x : AdviserHeld) : Type 0 where
  pub most : x.noted.adviser.most ≡ calls
  pub stands : Stands x.noted.adviser []
  pub waiting : x.noted.waiting ≡ []
  pub of_use : x.lost ≡ false

-- ---- what happens

-- the core's tables stand for these events
abbrev pub Shows : CoreState → Parts → Type 0
Shows core p = (facts : List Fact) × CoreStands core facts × (p ≡ parts_of facts)

abbrev pub moment : ℕ → What → Parts → Moment
moment place what p = record { line = place; what = what; parts = p }

-- whatever history the adviser stood for, it stands for it with that at this place, of the events that are shown; and
-- just what is advised then waits behind what did
pub record Advises (old new : NotedHeld) (place : ℕ) (what : What) (AreShown : Parts → Type 0) : Type 0 where
  pub most : new.adviser.most ≡ old.adviser.most
  pub stands : (h : List Moment) (p : Parts) → Stands old.adviser h → AreShown p
      → Stands new.adviser (moment place what p ∷ h)
  pub waiting : (h : List Moment) (p : Parts) → Stands old.adviser h → AreShown p
      → (advices : List Advice) × IsAdvised old.adviser.most (moment place what p) h advices
      × (new.waiting ≡ old.waiting ++ advices)

-- under the setup the thread calls the function, with these operands and this name
abbrev pub call_of : StatedSetup → Head → List Argument → List ℕ → What
call_of s head xs name = Called s head.tid head.function xs name

abbrev pub NotesRow : NotedHeld → NotedHeld → CoreState → ℕ → What → Option Columns → ℤ → Type 0
NotesRow old new core place call None n = (n ≡ errors.no_function) × (new ≡ old)
NotesRow old new core place call (Some row) n = (n ≡ errors.done) × Advises old new place call (Shows core)

-- the call is noted, or why the numbers state none of a function is answered
abbrev pub NotesCall : NotedHeld → NotedHeld → CoreState → ℕ → Result (Head × List Argument) ℤ → List ℕ → ℤ → Type 0
NotesCall old new core place (Err why) name n = (n ≡ why) × (new ≡ old)
NotesCall old new core place (Ok q) name n =
    NotesRow old new core place (call_of core.setup q.0 q.1 name) (slice_get functions q.0.function) n

-- the fact is noted; numbers that state none are refused
abbrev pub NotesFact : NotedHeld → NotedHeld → CoreState → ℕ → Option Fact → ℤ → Type 0
NotesFact old new core place None n = (n ≡ errors.bad_fact) × (new ≡ old)
NotesFact old new core place (Some fact) n =
    (n ≡ errors.done) × Advises old new place (Told fact) (Shows core)

-- a collection is noted, whichever objects it let go
pub record NotesGone (old new : NotedHeld) (place : ℕ) : Type 0 where
  pub notes : (objects : List ObjId) → Advises old new place (Went objects) (λ p. Unit {0})

-- just what is advised at the end waits behind what did
pub record AdvisesAtEnd (old new : NotedHeld) : Type 0 where
  pub adviser : new.adviser ≡ old.adviser
  pub waiting : (h : List Moment) → Stands old.adviser h
      → (advices : List Advice) × AreLeft h advices × (new.waiting ≡ old.waiting ++ advices)

-- it was of use, and is
abbrev pub IsOfUse : AdviserHeld → AdviserHeld → Type 0
IsOfUse old new = (old.lost ≡ false) × (new.lost ≡ false)

-- ---- what waits

-- the oldest is written and waits no more, or there is none
abbrev pub TakesOldest : NotedHeld → NotedHeld → List Advice → JgAdvice → JgAdvice → ℤ → Type 0
TakesOldest old new [] was now n = (n ≡ pos 0) × (new ≡ old) × (now ≡ was)
TakesOldest old new (a ∷ rest) was now n =
    (n ≡ pos 1) × (new ≡ record { adviser = old.adviser; waiting = rest }) × (now ≡ of_advice a)

-- where memory ran out before, none is taken
abbrev pub TakesOf : Bool → NotedHeld → NotedHeld → JgAdvice → JgAdvice → ℤ → Type 0
TakesOf true old new was now n = (n ≡ errors.no_memory) × (new ≡ old) × (now ≡ was)
TakesOf false old new was now n = TakesOldest old new old.waiting was now n

abbrev pub TakesAdvice : AdviserHeld → AdviserHeld → JgAdvice → JgAdvice → ℤ → Type 0
TakesAdvice old new was now n = (new.lost ≡ old.lost) × TakesOf old.lost old.noted new.noted was now n
