-- What is so of all texts of records, and of the record of each legal history.
use Rattle.std.specs.Prelude.{◌≡◌, ◌<◌, ◌^◌, ◌++◌, ℕ, Bool, true, false, if◌then◌else◌, List, [], ◌∷◌, map, Option, Some, Result, Ok, Err}
use Rattle.jg_words.specs.declared.thread.Tid.{Tid}
use Rattle.jg_words.specs.declared.thread.EnvId.{EnvId}
use Rattle.jg_words.specs.declared.object.ObjId.{ObjId}
use Rattle.jg_words.specs.declared.entry.Outcome.{Outcome}
use Rattle.jg_words.specs.declared.entry.Outcome.TheVariants as outcome
use Rattle.jg_words.specs.Entry.{Entry}
use Rattle.jg_lines.specs.Devices.{IsOneLine}
use Rattle.jg_advice.specs.Told.{AdviceLogState}
use Rattle.jg_policy.specs.Stated.{StatedSetup, class_count}
use Rattle.jg_rules.specs.Legal.{Legal}
use Rattle.jg_judge.specs.declared.argument.Argument.{Argument}
use Rattle.jg_judge.specs.Written.{written_bounds}
use Rattle.jg_record.specs.declared.event.Event.{Event}
use Rattle.jg_record.specs.declared.event.Event.TheVariants.{Question, Gone}
use Rattle.jg_record.specs.declared.fault.RecordFault.{RecordFault}
use Rattle.jg_record.specs.declared.fault.RecordFault.TheVariants.{LineTooLong}
use Rattle.jg_record.specs.declared.reply.Reply.{Reply}
use Rattle.jg_record.specs.declared.reply.Reply.TheVariants.{Denied, Passed}
use Rattle.jg_record.specs.Events.{SpellsEvent}
use Rattle.jg_record.specs.Faults.{HasFault}
use Rattle.jg_record.specs.Parts.{AreParts}
use Rattle.jg_watch.specs.declared.watch.Shown.{Shown}
use Rattle.jg_watch.specs.declared.ending.Ended.{Ended}
use Rattle.jg_watch.specs.declared.ending.Ended.TheVariants.{All}
use Rattle.jg_watch.specs.declared.ending.Stop.{Stop}
use Rattle.jg_watch.specs.declared.ending.Stop.TheVariants.{Faulty}
use Rattle.jg_watch.specs.Told.{Told, Watching}
use Rattle.jg_watch.specs.Lines.{Answered, AreAnswered, text_of}
use Rattle.jg_watch.specs.Ends.{CannotBe, IsDifferent, Watches}
use Rattle.jg_watch.specs.Explained.{Explaining}
use Rattle.jg_entry_facts_laws.specs.Entries.{facts_of}
use Rattle.jg_journal_record.specs.Retold.{WritesRecord}

-- its classes have numbers of 32 bits, as those of each `Setup` have
abbrev pub FitsSetup : StatedSetup → Type 0
FitsSetup s = class_count s < 2 ^ 32

-- a text spells one event at most: a question with its operands, and objects that are gone
-- (proofs/Once.antt)
abbrev pub IsSpeltOnce : Type 0
IsSpeltOnce = (s : StatedSetup) (text : List ℕ) (e f : Event) (xs ys : List Argument) (gone left : List ObjId)
    → FitsSetup s → SpellsEvent s text e xs gone → SpellsEvent s text f ys left
    → (e ≡ f) × ((t : Tid) (env : Option EnvId) (place : ℕ) → e ≡ Question t env place → xs ≡ ys)
    × (e ≡ Gone → gone ≡ left)

-- a text that spells an event has no fault, but that it may be too long
-- (proofs/Faultless.antt)
abbrev pub IsFaultless : Type 0
IsFaultless = (s : StatedSetup) (text : List ℕ) (e : Event) (xs : List Argument) (gone : List ObjId)
    (fault : RecordFault) → FitsSetup s → SpellsEvent s text e xs gone → HasFault fault s text → fault ≡ LineTooLong

-- a line is cut in one way: into its event, the answer that it tells and its note
-- (proofs/Cut.antt)
abbrev pub IsCutOnce : Type 0
IsCutOnce = (line event other : List ℕ) (answer reply note remark : Option (List ℕ))
    → AreParts line event answer note → AreParts line other reply remark
    → (event ≡ other) × (answer ≡ reply) × (note ≡ remark)

-- ---- the record of a history

-- what a core answers a question that the guard answered so
abbrev pub replied_as : Outcome → Reply
replied_as (outcome.Passed reply) = Passed
replied_as (outcome.Denied rule) = Denied rule

-- it answers a question: each that a line spells passes or is denied (`SpeltIsJudged` of jg_watch)
abbrev pub is_verdict : Reply → Bool
is_verdict Passed = true
is_verdict (Denied rule) = true
is_verdict reply = false

-- the answers to the questions among these lines
abbrev pub verdicts_in : List Answered → List Reply
verdicts_in [] = []
verdicts_in (l ∷ lines) = if is_verdict l.reply then l.reply ∷ verdicts_in lines else verdicts_in lines

-- the answers to the calls of a history
abbrev pub verdicts_of : List Entry → List Reply
verdicts_of h = map (λ x. replied_as x.outcome) h

-- the record of a legal history, the bounds in front, is answered by its verdicts: there are as many questions as
-- entries, and each passes where its entry passed, or is denied by the rule that denied the entry. What was told is the
-- facts of the history, and the bounds that the guard judges by
-- (proofs/Verdicts.antt)
abbrev pub AnsweredAsJudged : Type 0
AnsweredAsJudged = (s : StatedSetup) (h : List Entry) (text : List ℕ) (shown : Shown) (lines : List Answered)
    (told : Told) → FitsSetup s → Legal s h → WritesRecord s h (Some []) (Some text)
    → AreAnswered s shown lines told → text_of lines ≡ text
    → (verdicts_in lines ≡ verdicts_of h) × (told ≡ record { facts = facts_of s h; bounds = written_bounds })

-- such a record is answered whole: after a front of it that was, its next line can be, and tells no other answer
-- (proofs/Whole.antt)
abbrev pub AnsweredWhole : Type 0
AnsweredWhole = (s : StatedSetup) (h : List Entry) (text line rest : List ℕ) (shown : Shown) (lines : List Answered)
    (told : Told) → FitsSetup s → Legal s h → WritesRecord s h (Some []) (Some text)
    → AreAnswered s shown lines told → IsOneLine line → text_of lines ++ (line ++ 10 ∷ rest) ≡ text
    → (¬ CannotBe s told line) × (¬ IsDifferent s told line)

-- all of it was answered, by these verdicts; or memory ran out, a device failed, or no more lines or facts can be
-- counted
abbrev pub EndsWhole : List Entry → List Answered → Result Ended Stop → Type 0
EndsWhole h lines (Ok (All count)) = verdicts_in lines ≡ verdicts_of h
EndsWhole h lines (Ok ended) = ⊥
EndsWhole h lines (Err (Faulty line fault)) = ⊥
EndsWhole h lines (Err stop) = Unit {0}

-- who watches such a record comes to its end so: none of its lines is faulty, can't be, or tells another answer
-- (proofs/Whole.antt)
abbrev pub WatchedWhole : Type 0
WatchedWhole = (s : StatedSetup) (h : List Entry) (text line : List ℕ) (shown : Shown)
    (input bytes bytes' : Option (List ℕ)) (new : Watching) (explaining : Explaining) (log : Option AdviceLogState)
    (result : Result Ended Stop) → FitsSetup s → Legal s h → WritesRecord s h (Some []) (Some text)
    → (w : Watches s shown (Some text) input line bytes bytes' new explaining log result)
    → EndsWhole h w.lines result
